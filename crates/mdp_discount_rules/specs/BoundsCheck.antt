-- What holding a certificate of bounds of the discounted reward against a model answers, and what a yes means.
use Rattle.std.specs.Prelude.{◌≡◌, ℕ, Bool, true, false, List, length, Option, Some, None, ◌&&◌, ◌==◌, nat_lt, if◌then◌else◌}
use Rattle.mdp_math.specs.Rational.{ℚ}
use Rattle.mdp_num.specs.Equal.{eq_ℚ}
use Rattle.mdp_spec.specs.{Mdp.{Mdp, states_of}, Bounds.{reward_at}, Labels.{place_of, initial_of}}
use Rattle.mdp_farkas.specs.{Initial.{init_fault, state_check}, Verdict.{verdict_of}}
use Rattle.mdp_claims.specs.declared.verdict.Verdict.{Verdict}
use Rattle.mdp_claims.specs.declared.verdict.Verdict.TheVariants as verdict
use Rattle.mdp_discount_rules.specs.{Check.{answer_of, then_verdict}, declared.answer.DiscountAnswer.{DiscountAnswer}}
use Rattle.mdp_discount_rules.specs.declared.answer.DiscountAnswer.TheVariants.{NoReward, Size}
use Rattle.mdp_discount_rules.specs.{Between.{DiscountBetween}, BoundsCert.{Certificate}, declared.bounds_init.InitialBounds.{InitialBounds}}
use Rattle.mdp_discount_rules.specs.BoundsChecks.{discount_bounds_checks, IsDiscountBounds}

-- ---- rule 1: the line `init`

abbrev pub same_value : Option ℚ → Option ℚ → Bool
same_value None None = true
same_value (Some x) (Some y) = eq_ℚ x y
same_value x y = false

-- there is a value of state s, which may be missing, and it is this one
abbrev pub is_value : List (Option ℚ) → ℕ → Option ℚ → Bool
is_value v s x = nat_lt s (length v) && same_value (reward_at v s) x

abbrev pub has_bounds : InitialBounds → List (Option ℚ) → List (Option ℚ) → Bool
has_bounds init lower upper = is_value lower init.state init.lower && is_value upper init.state init.upper

-- the line names the model's one initial state and has its two values; it names none where there isn't exactly one
abbrev pub init_check : Option InitialBounds → Option ℕ → List (Option ℚ) → List (Option ℚ) → Verdict
init_check None None lower upper = verdict.Yes
init_check None (Some t) lower upper = init_fault None
init_check (Some init) initial lower upper = state_check init.state initial (has_bounds init lower upper)

-- ---- the answer

abbrev pub checks_of : Mdp → ℕ → Certificate → Verdict
checks_of m r c = verdict_of (discount_bounds_checks c.dir m r c.factor c.lower c.upper c.remainder c.choices)

abbrev pub at_reward : Mdp → Certificate → Option ℕ → DiscountAnswer
at_reward m c None = NoReward
at_reward m c (Some r) = answer_of (then_verdict (init_check c.init (initial_of m) c.lower c.upper) (checks_of m r c))

-- the numbers of states, then the reward model, then the rules in their order
abbrev pub answer_to : Mdp → Certificate → DiscountAnswer
answer_to m c = if length c.lower == states_of m then at_reward m c (place_of c.name m.names) else Size

-- ---- what yes means

-- the certificate belongs to the model and is valid: as many states, its reward name is there, and all rules hold
pub record IsAccepted (m : Mdp) (c : Certificate) : Type 0 where
  pub states : length c.lower ≡ states_of m
  pub reward : ℕ
  pub named : place_of c.name m.names ≡ Some reward
  pub init : init_check c.init (initial_of m) c.lower c.upper ≡ verdict.Yes
  pub rules : IsDiscountBounds c.dir m reward c.factor c.lower c.upper c.remainder c.choices

-- the claim of the certificate is true of the model
pub record IsBound (m : Mdp) (c : Certificate) : Type 0 where
  pub reward : ℕ
  pub named : place_of c.name m.names ≡ Some reward
  pub holds : DiscountBetween c.dir m reward c.factor c.lower c.upper c.remainder c.choices
