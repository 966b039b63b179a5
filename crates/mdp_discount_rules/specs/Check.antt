-- What holding a certificate of the discounted reward against a model answers, and what a yes means.
use Rattle.std.specs.Prelude.{◌≡◌, ℕ, List, length, Option, Some, None, ◌==◌, if◌then◌else◌}
use Rattle.mdp_math.specs.Rational.{ℚ}
use Rattle.mdp_spec.specs.{Mdp.{Mdp, states_of}, Labels.{place_of, initial_of}}
use Rattle.mdp_text.specs.{declared.init.Init.{Init}, declared.init.Init.TheVariants.{Missing, Finite, Infinite, Start}}
use Rattle.mdp_farkas.specs.{Initial.{init_fault, is_value, state_check}, Verdict.{verdict_of}}
use Rattle.mdp_claims.specs.declared.verdict.Verdict.{Verdict}
use Rattle.mdp_claims.specs.declared.verdict.Verdict.TheVariants as verdict
use Rattle.mdp_discount_rules.specs.{Bounds.{DiscountBound}, Checks.{discount_checks, IsDiscount}, Cert.{Certificate}}
use Rattle.mdp_discount_rules.specs.declared.answer.DiscountAnswer.{DiscountAnswer}
use Rattle.mdp_discount_rules.specs.declared.answer.DiscountAnswer.TheVariants.{Yes, No, Wide, NoReward, Size}

-- ---- rule 1: the line `init`

-- the line names the model's one initial state and has its value; it names none where there isn't exactly one
abbrev pub init_check : Init → Option ℕ → List ℚ → Verdict
init_check Missing None v = verdict.Yes
init_check Missing (Some t) v = init_fault None
init_check (Finite s x) initial v = state_check s initial (is_value v s x)
init_check (Infinite s) initial v = init_fault (Some s)
init_check (Start s) initial v = init_fault (Some s)

-- ---- the answer

abbrev pub answer_of : Verdict → DiscountAnswer
answer_of verdict.Yes = Yes
answer_of (verdict.No f) = No f
answer_of (verdict.Wide state choice) = Wide state choice

-- a second verdict after a first yes
abbrev pub then_verdict : Verdict → Verdict → Verdict
then_verdict verdict.Yes next = next
then_verdict (verdict.No f) next = verdict.No f
then_verdict (verdict.Wide state choice) next = verdict.Wide state choice

abbrev pub checks_of : Mdp → ℕ → Certificate → Verdict
checks_of m r c = verdict_of (discount_checks c.dir m r c.factor c.values c.remainder c.choices)

abbrev pub at_reward : Mdp → Certificate → Option ℕ → DiscountAnswer
at_reward m c None = NoReward
at_reward m c (Some r) = answer_of (then_verdict (init_check c.init (initial_of m) c.values) (checks_of m r c))

-- the numbers of states, then the reward model, then the rules in their order
abbrev pub answer_to : Mdp → Certificate → DiscountAnswer
answer_to m c = if length c.values == states_of m then at_reward m c (place_of c.name m.names) else Size

-- ---- what yes means

-- the certificate belongs to the model and is valid: as many states, its reward name is there, and all rules hold
pub record IsAccepted (m : Mdp) (c : Certificate) : Type 0 where
  pub states : length c.values ≡ states_of m
  pub reward : ℕ
  pub named : place_of c.name m.names ≡ Some reward
  pub init : init_check c.init (initial_of m) c.values ≡ verdict.Yes
  pub rules : IsDiscount c.dir m reward c.factor c.values c.remainder c.choices

-- the claim of the certificate is true of the model
pub record IsBound (m : Mdp) (c : Certificate) : Type 0 where
  pub reward : ℕ
  pub named : place_of c.name m.names ≡ Some reward
  pub holds : DiscountBound c.dir m reward c.factor c.values c.remainder c.choices
