-- Rewards below 0.
use Rattle.std.specs.{Prelude.{ℕ, Bool, List, pos}, List.{list_any}}
use Rattle.mdp_math.specs.Rational.{ℚ, of_int, lt_ℚ}
use Rattle.mdp_spec.specs.{Mdp.{Choice, Mdp}, Unit.{reward_of}}

abbrev pub is_negative : ℚ → Bool
is_negative x = lt_ℚ x (of_int (pos 0))

-- whether one of these choices has a reward below 0 under the reward name of place r
abbrev pub any_negative : ℕ → List Choice → Bool
any_negative r choices = list_any (λ c. is_negative (reward_of c r)) choices

-- whether some choice of the model has
abbrev pub has_negative : Mdp → ℕ → Bool
has_negative m r = list_any (λ x. any_negative r x.choices) m.states
