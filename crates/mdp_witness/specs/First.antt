-- The first set of the search for a witness: the states that a policy, or that some choices, come to from the start before a goal or a state of
-- value 0.
use Rattle.std.specs.{Prelude.{◌≡◌, ℕ, ◌<◌, Bool, true, ◌&&◌, not, List, [], ◌∷◌, length, slice_index, pos}, List.{All, range_with_len}}
use Rattle.mdp_math.specs.Rational.{ℚ, of_int, lt_ℚ}
use Rattle.mdp_spec.specs.{Mdp.{Mdp, states_of, choices_at, row_at, value_at}, Tree.{is_marked}}
use Rattle.mdp_rows.specs.{declared.dir.Dir.{Dir}, declared.dir.Dir.TheVariants.{Max, Min}}

-- whether state s is no goal and has a value above 0
abbrev pub is_open : List Bool → List ℚ → ℕ → Bool
is_open goals z s = not (is_marked goals s) && lt_ℚ (of_int (pos 0)) (value_at z s)

-- the choices of state s that are followed: for the greatest probability the policy's, for the least one each
abbrev pub followed : Dir → Mdp → List ℕ → ℕ → List ℕ
followed Max m policy s = slice_index policy s ∷ []
followed Min m policy s = range_with_len 0 (length (choices_at m s))

-- a set that has the start, where that is open, and with a state each open successor
pub record IsClosed (dir : Dir) (m : Mdp) (goals : List Bool) (z : List ℚ) (policy : List ℕ) (start : ℕ) (set : ℕ → Bool) : Type 0 where
  pub has_start : is_open goals z start ≡ true → set start ≡ true
  pub has_next :
      (s : ℕ)
      → s < states_of m
      → set s ≡ true
      → All (λ c. All (λ x. is_open goals z x.target ≡ true → set x.target ≡ true) (row_at m s c)) (followed dir m policy s)

-- the open states that are reached from the start through open states: the least such set
pub record IsFirst (dir : Dir) (m : Mdp) (goals : List Bool) (z : List ℚ) (policy : List ℕ) (start : ℕ) (first : List Bool) : Type 0 where
  pub one_each : length first ≡ states_of m
  pub is_open : (s : ℕ) → s < states_of m → is_marked first s ≡ true → is_open goals z s ≡ true
  pub closed : IsClosed dir m goals z policy start (is_marked first)
  pub least : (set : ℕ → Bool) → IsClosed dir m goals z policy start set → (s : ℕ) → s < states_of m → is_marked first s ≡ true → set s ≡ true
