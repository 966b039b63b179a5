-- Rule 1 of certificates of discounted rewards, exact or bounds, in exact numbers: what the line `init` says of the model's initial state, where the model has
-- exactly one; and that a no names rule 1 exactly where that is false.
use Rattle.std.specs.Prelude.{◌≡◌, ◌↔◌, ℕ, List, Option, Some, None}
use Rattle.mdp_math.specs.Rational.{ℚ}
use Rattle.mdp_spec.specs.{Labels.{initial_of}, Mdp.{Mdp}, Row.{IsMdp}}
use Rattle.mdp_text.specs.{declared.init.Init.{Init}, declared.init.Init.TheVariants.{Missing, Finite, Infinite, Start}}
use Rattle.mdp_claims.specs.{declared.rule.Rule.TheVariants.{InitialState}, declared.verdict.Fault.{Fault}}
use Rattle.mdp_check.specs.Says.{IsValueAt, IsRewardAt}
use Rattle.mdp_discount_rules.specs.Cert as exact
use Rattle.mdp_discount_rules.specs.Check as exact_check
use Rattle.mdp_discount_rules.specs.declared.answer.DiscountAnswer.TheVariants.{No}
use Rattle.mdp_discount_rules.specs.BoundsCert as bounds
use Rattle.mdp_discount_rules.specs.BoundsCheck as bounds_check
use Rattle.mdp_discount_rules.specs.declared.bounds_init.InitialBounds.{InitialBounds}

-- it is that state with its value, which is finite
abbrev pub ExactInitSays : Init → Option ℕ → List ℚ → Type 0
ExactInitSays Missing initial v = initial ≡ None
ExactInitSays (Finite s x) initial v = (initial ≡ Some s) × IsValueAt v s x
ExactInitSays (Infinite s) initial v = ⊥
ExactInitSays (Start s) initial v = ⊥

-- it is that state with its two values, each of which may be missing
abbrev pub BoundsInitSays : Option InitialBounds → Option ℕ → List (Option ℚ) → List (Option ℚ) → Type 0
BoundsInitSays None initial lower upper = initial ≡ None
BoundsInitSays (Some init) initial lower upper = (initial ≡ Some init.state) × (IsRewardAt lower init.state init.lower × IsRewardAt upper init.state init.upper)

-- where the answer is no, it names rule 1 exactly where what the line says is false
abbrev pub ExactNoOfInit : Type 0
ExactNoOfInit =
    (m : Mdp) (c : exact.Certificate) (fault : Fault) → exact_check.answer_to m c ≡ No fault
    → (fault.rule ≡ InitialState) ↔ (ExactInitSays c.init (initial_of m) c.values → ⊥)

abbrev pub BoundsNoOfInit : Type 0
BoundsNoOfInit =
    (m : Mdp) (c : bounds.Certificate) (fault : Fault) → IsMdp m → bounds_check.answer_to m c ≡ No fault
    → (fault.rule ≡ InitialState) ↔ (BoundsInitSays c.init (initial_of m) c.lower c.upper → ⊥)
