-- A model in whole numbers: each probability as a weight, in parts of one common unit.
use Rattle.std.specs.Prelude.{ℕ, suc, ◌+◌, ◌*◌, ◌/◌, List, [], ◌∷◌, ℤ, pos, ◌+ℤ◌, ◌*ℤ◌, unsigned_abs, slice_index_or}
pub use Rattle.mdp_math.specs.Gcd.{lcm}
use Rattle.mdp_math.specs.Rational.{ℚ, of_int}
use Rattle.mdp_spec.specs.Mdp.{Entry, Choice, State, Mdp}

-- the least common denominator of a row
abbrev pub row_den : List Entry → ℕ
row_den [] = 1
row_den (x ∷ row) = lcm (row_den row) x.prob.den

abbrev pub unit_of_choices : List Choice → ℕ
unit_of_choices [] = 1
unit_of_choices (x ∷ choices) = row_den x.row * unit_of_choices choices

abbrev pub unit_of_states : List State → ℕ
unit_of_states [] = 1
unit_of_states (x ∷ states) = unit_of_choices x.choices * unit_of_states states

-- the common unit: the product, over all choices of the model, of the least common denominator of the choice's row
unfoldable pub unit_of : Mdp → ℕ
unit_of m = unit_of_states m.states

-- an entry's weight: its probability times the unit. The weights of a row add to the unit
abbrev pub weight_of : Mdp → Entry → ℕ
weight_of m x = unsigned_abs x.prob.num * (unit_of m / x.prob.den)

-- ---- rewards, of the reward name of place r

abbrev pub reward_of : Choice → ℕ → ℚ
reward_of x r = slice_index_or x.rewards r (of_int (pos 0))

abbrev pub scale_of_choices : List Choice → ℕ → ℕ
scale_of_choices [] r = 1
scale_of_choices (x ∷ choices) r = (reward_of x r).den * scale_of_choices choices r

abbrev pub scale_of_states : List State → ℕ → ℕ
scale_of_states [] r = 1
scale_of_states (x ∷ states) r = scale_of_choices x.choices r * scale_of_states states r

-- the rewards' common scale: the product of the denominators of all rewards
unfoldable pub scale_of : Mdp → ℕ → ℕ
scale_of m r = scale_of_states m.states r

-- a choice's reward times the scale
abbrev pub whole_reward : Mdp → ℕ → Choice → ℤ
whole_reward m r x = (reward_of x r).num *ℤ pos (scale_of m r / (reward_of x r).den)

-- ---- sums over a list by place

abbrev pub count_at : {A : Type 0} → List A → (ℕ → A → ℕ) → ℕ
count_at [] f = 0
count_at (x ∷ xs) f = f 0 x + count_at xs (λ i a. f (suc i) a)

abbrev pub total_at : {A : Type 0} → List A → (ℕ → A → ℤ) → ℤ
total_at [] f = pos 0
total_at (x ∷ xs) f = f 0 x +ℤ total_at xs (λ i a. f (suc i) a)
