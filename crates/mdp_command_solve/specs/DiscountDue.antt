-- What is due to the command `discount`, to the direction, the name, the factor and the model.
use Rattle.std.specs.Prelude.{◌≡◌, ℕ, List, Option, Some, None, Result, Ok, Err}
use Rattle.mdp_math.specs.Rational.{ℚ}
use Rattle.mdp_spec.specs.{Labels.{place_of}, Mdp.{Mdp}}
use Rattle.mdp_rows.specs.declared.dir.Dir.{Dir}
use Rattle.mdp_policy_iteration.specs.Ends.{capped}
use Rattle.mdp_wide.specs.Term.{WideTerm}
use Rattle.mdp_discount_rules.specs.Cert.{Certificate}
use Rattle.mdp_discount.specs.Query.{EndsSo}
use Rattle.mdp_discount_text.specs.Spelling.{text_of}
use Rattle.mdp_job.specs.Refusal.{query_reward, too_wide}
use Rattle.mdp_command.specs.Said.{Said}

-- the certificate's text; or the first term past width, where a round above 2^64 - 1 is given as 2^64 - 1
abbrev pub said_of_end : Result Certificate WideTerm → Said
said_of_end (Ok a) = Ok (text_of a)
said_of_end (Err w) = Err (too_wide (record { part = w.part; number = capped w.number; policy = w.policy; kind = w.kind; state = w.state; choice = w.choice }))

-- the query of the reward of this place, whose name this is, ends, and this is said of its end
abbrev pub IsNamedDue : Dir → List ℕ → ℚ → Mdp → Option ℕ → Said → Type 0
IsNamedDue dir name f m None said = said ≡ Err query_reward
IsNamedDue dir name f m (Some r) said = (end : Result Certificate WideTerm) × EndsSo dir m r name f end × (said ≡ said_of_end end)

-- the name is looked up first
abbrev pub IsDiscountDue : Dir → List ℕ → ℚ → Mdp → Said → Type 0
IsDiscountDue dir name f m said = IsNamedDue dir name f m (place_of name m.names) said
