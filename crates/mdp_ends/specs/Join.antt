-- Values of the parts and of the quotient, joined to values of the states that meet the rules of mean payoff.
use Rattle.std.specs.Prelude.{◌≡◌, ℕ, ◌<◌, true, false, List, length, Option, Some, pos, slice_index}
use Rattle.mdp_math.specs.{Rational.{ℚ, of_int, ◌+ℚ◌, ◌-ℚ◌, ◌*ℚ◌, ◌≤ℚ◌}, Kernel.{weigh}}
use Rattle.mdp_spec.specs.Mdp.{Entry, Mdp, states_of, choices_at, row_at}
use Rattle.mdp_rows.specs.{declared.dir.Dir.{Dir}, declared.dir.Dir.TheVariants.{Max, Min}}
use Rattle.mdp_ends.specs.{Ends.{part_of, is_inside}, Quotient.{node_row}}

-- at least for Max, at most for Min
abbrev pub IsAsGood : Dir → ℚ → ℚ → Type 0
IsAsGood Max x y = y ≤ℚ x
IsAsGood Min x y = x ≤ℚ y

-- the sum over a row of probability times value
abbrev pub over : (ℕ → ℚ) → List Entry → ℚ
over f row = weigh (λ (y : Entry). y.target) (λ (y : Entry). y.prob) f row

-- moved to the side of the greater values for Max, of the smaller ones for Min
abbrev pub moved_by : Dir → ℚ → ℚ → ℚ
moved_by Max x y = x +ℚ y
moved_by Min x y = x -ℚ y

module _ (m : Mdp) (ends : List (Option ℕ)) (nodes : List ℕ) (dir : Dir) (reward : ℕ → ℕ → ℚ) where
  -- s is a state, and c a choice of s that is no exit of its node; that is one
  abbrev pub IsInner : ℕ → ℕ → Type 0
  IsInner s c = (s < states_of m) × (c < length (choices_at m s)) × (is_inside m ends s c ≡ true)

  abbrev pub IsExit : ℕ → ℕ → Type 0
  IsExit s c = (s < states_of m) × (c < length (choices_at m s)) × (is_inside m ends s c ≡ false)

  -- the gain of each node, the inner gain of each part, the bias of each state, the steps left from each node, and the greatest excess of an exit
  pub record CanJoin (gain inner bias steps : ℕ → ℚ) (excess : ℚ) : Type 0 where
    pub at_part : (s i : ℕ) → s < states_of m → part_of ends s ≡ Some i → IsAsGood dir (gain (slice_index nodes s)) (inner i)
    pub at_exit : (s c : ℕ) → IsExit s c → IsAsGood dir (gain (slice_index nodes s)) (over gain (node_row m nodes s c))
    pub bias_inside : (s c i : ℕ) → IsInner s c → part_of ends s ≡ Some i → IsAsGood dir (inner i +ℚ bias s) (reward s c +ℚ over bias (row_at m s c))
    pub falls : (s c : ℕ) → IsExit s c → of_int (pos 1) +ℚ over steps (node_row m nodes s c) ≤ℚ steps (slice_index nodes s)
    pub nonneg : of_int (pos 0) ≤ℚ excess
    pub bias_leaving : (s c : ℕ) → IsExit s c → IsAsGood dir (moved_by dir (gain (slice_index nodes s) +ℚ bias s) excess) (reward s c +ℚ over bias (row_at m s c))

  -- the bias, moved by the excess for each step left
  abbrev pub bound_of : (ℕ → ℚ) → (ℕ → ℚ) → ℚ → ℕ → ℚ
  bound_of bias steps excess s = moved_by dir (bias s) (excess *ℚ steps (slice_index nodes s))

  -- each choice is covered by the gain, and by the gain and the bound
  pub record IsCoveredBy (gain bound : ℕ → ℚ) : Type 0 where
    pub gains : (s c : ℕ) → s < states_of m → c < length (choices_at m s) → IsAsGood dir (gain s) (over gain (row_at m s c))
    pub bounds : (s c : ℕ) → s < states_of m → c < length (choices_at m s) → IsAsGood dir (gain s +ℚ bound s) (reward s c +ℚ over bound (row_at m s c))

  -- the policy's choices reach the gain, and the gain and the bias
  pub record IsReachedBy (gain bias : ℕ → ℚ) (policy : List ℕ) : Type 0 where
    pub in_range : (s : ℕ) → s < states_of m → slice_index policy s < length (choices_at m s)
    pub gains : (s : ℕ) → s < states_of m → gain s ≡ over gain (row_at m s (slice_index policy s))
    pub biases : (s : ℕ) → s < states_of m → gain s +ℚ bias s ≡ reward s (slice_index policy s) +ℚ over bias (row_at m s (slice_index policy s))
