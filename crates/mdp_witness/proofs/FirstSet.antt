-- The first set of either direction: its states are no goals and have a value above 0, and a state that is neither open nor a goal has the value 0.
use Rattle.std.proofs.Common.{◌≡◌, ℕ, ◌<◌, Bool, true, false, not, ◌&&◌, List, refl, sym, ◌∙◌, ap, arith}
use Rattle.mdp_math.specs.Rational.{ℚ, lt_ℚ, ◌<ℚ◌}
use Rattle.mdp_math.proofs.{Booleans.{and-left, and-right}, Extremes.{lt_of_test, le_of_no_test}, Order.{0ℚ, ≤ℚ_antisymm}}
use Rattle.mdp_spec.specs.{Mdp.{Mdp, states_of, value_at}, Rules.{AreProbabilities}, Tree.{is_marked}}
use Rattle.mdp_rows.specs.declared.dir.Dir.{Dir}
use Rattle.mdp_witness.specs.First.{is_open, IsFirst}
use Rattle.mdp_witness.proofs.Fronts.{marked-below}

not_is : (b : Bool) → not b ≡ true → b ≡ false
not_is true h = cc
not_is false h = refl

-- what isn't in a set isn't open, where each open state is in it
pub not_open : (a b : Bool) → (a ≡ true → b ≡ true) → b ≡ false → a ≡ false
not_open true b h e = let k = h refl in cc
not_open false b h e = refl

-- a state that is neither open nor a goal
pub closed-zero : (m : Mdp) (goals : List Bool) (z : List ℚ) (s : ℕ) → AreProbabilities m goals z → s < states_of m → is_marked goals s ≡ false → is_open goals z s ≡ false → value_at z s ≡ 0ℚ
closed-zero m goals z s p l g o =
    ≤ℚ_antisymm (value_at z s) 0ℚ (le_of_no_test 0ℚ (value_at z s) (ap (λ (b : Bool). not b && lt_ℚ 0ℚ (value_at z s)) (sym g) ∙ o)) (p.at_least_zero s l)

module _ (dir : Dir) (m : Mdp) (goals : List Bool) (z : List ℚ) (policy : List ℕ) (start : ℕ) (first : List Bool) (is : IsFirst dir m goals z policy start first) where
  pub first-inside : (s : ℕ) → is_marked first s ≡ true → s < states_of m
  first-inside s h = let l = marked-below first s h in let e = is.one_each in omega arith

  first-open : (s : ℕ) → is_marked first s ≡ true → is_open goals z s ≡ true
  first-open s h = is.is_open s (first-inside s h) h

  pub first-no_goal : (s : ℕ) → is_marked first s ≡ true → is_marked goals s ≡ false
  first-no_goal s h = not_is (is_marked goals s) (and-left (not (is_marked goals s)) (lt_ℚ 0ℚ (value_at z s)) (first-open s h))

  pub first-above : (s : ℕ) → is_marked first s ≡ true → 0ℚ <ℚ value_at z s
  first-above s h = lt_of_test 0ℚ (value_at z s) (and-right (not (is_marked goals s)) (lt_ℚ 0ℚ (value_at z s)) (first-open s h))
