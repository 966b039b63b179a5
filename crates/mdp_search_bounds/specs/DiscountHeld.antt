-- Bounds of the discounted reward of name r to which the rules say yes.
use Rattle.std.specs.Prelude.{◌≡◌, ℕ, List, length, map, Some}
use Rattle.mdp_math.specs.Rational.{ℚ}
use Rattle.mdp_spec.specs.Mdp.{Mdp, states_of}
use Rattle.mdp_rows.specs.declared.dir.Dir.{Dir}
use Rattle.mdp_discount_rules.specs.{BoundsChecks.{IsDiscountBounds}, BoundsRules.{greatest_magnitude}, declared.bounds.DiscountBounds.{DiscountBounds}}

-- one item of each list for each state
pub record HasDiscountSizes (m : Mdp) (bounds : DiscountBounds) : Type 0 where
  pub lower : length bounds.lower.items ≡ states_of m
  pub upper : length bounds.upper.items ≡ states_of m
  pub choices : length bounds.choices.items ≡ states_of m

-- such bounds that meet the rules
pub record IsHeldDiscount (dir : Dir) (m : Mdp) (r : ℕ) (f : ℚ) (bounds : DiscountBounds) : Type 0 where
  pub rules : IsDiscountBounds dir m r f bounds.lower.items bounds.upper.items bounds.remainder bounds.choices.items
  pub sizes : HasDiscountSizes m bounds

-- exact values and a policy, as bounds: the values are lower and upper ones
pub record AreExactBounds (values : List ℚ) (policy : List ℕ) (bounds : DiscountBounds) : Type 0 where
  pub lower : bounds.lower.items ≡ map Some values
  pub upper : bounds.upper.items ≡ map Some values
  pub choices : bounds.choices.items ≡ policy
  pub remainder : bounds.remainder ≡ greatest_magnitude bounds.lower.items bounds.upper.items
