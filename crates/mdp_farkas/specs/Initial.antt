-- Rule 1, of the line `init` of a certificate, in what all claims share.
use Rattle.std.specs.Prelude.{ℕ, Bool, List, length, Option, Some, None, ◌&&◌, ◌==◌, nat_lt, if◌then◌else◌}
use Rattle.mdp_math.specs.Rational.{ℚ}
use Rattle.mdp_num.specs.Equal.{eq_ℚ}
use Rattle.mdp_spec.specs.Mdp.{value_at}
use Rattle.mdp_claims.specs.{declared.rule.Rule.TheVariants.{InitialState}, declared.verdict.Verdict.{Verdict}, declared.verdict.Verdict.TheVariants.{Yes, No}}

-- rule 1 is false, with the state of the line `init`, where it has one
abbrev pub init_fault : Option ℕ → Verdict
init_fault state = No (record { rule = InitialState; state = state; choice = None })

-- there is a value of state s, and it is this one
abbrev pub is_value : List ℚ → ℕ → ℚ → Bool
is_value v s x = nat_lt s (length v) && eq_ℚ (value_at v s) x

-- the line names the model's one initial state, and its value
abbrev pub state_check : ℕ → Option ℕ → Bool → Verdict
state_check s None valued = init_fault (Some s)
state_check s (Some t) valued = if (s == t) && valued then Yes else init_fault (Some s)
