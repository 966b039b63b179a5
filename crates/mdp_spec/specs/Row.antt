-- Rows: probability distributions over target states.
use Rattle.std.specs.Prelude.{◌≡◌, ℕ, ◌+◌, ◌<◌, ◌≤◌, ◌^◌, length, Bool, true, ◌&&◌, nat_le, IsTrue, List, [], ◌∷◌, pos, All}
use Rattle.mdp_math.specs.{Rational.{ℚ, of_int, ◌*ℚ◌, ◌<ℚ◌}, Sum.{sum_of}}
use Rattle.mdp_spec.specs.Mdp.{Entry, Mdp, states_of, choices_at, row_at, value_at}

-- the row that two lists of one length spell, place by place
abbrev pub entries : List ℕ → List ℚ → List Entry
entries [] ps = []
entries (t ∷ ts) [] = []
entries (t ∷ ts) (p ∷ ps) = record { target = t; prob = p } ∷ entries ts ps

-- whether the targets ascend strictly, all from this one on
abbrev pub ascends_from : ℕ → List Entry → Bool
ascends_from low [] = true
ascends_from low (x ∷ xs) = nat_le low x.target && ascends_from (x.target + 1) xs

-- a distribution: the targets ascend strictly, the probabilities are above 0 and add to 1
pub record IsDistribution (row : List Entry) : Type 0 where
  pub ascending : IsTrue (ascends_from 0 row)
  pub positive : All (λ x. of_int (pos 0) <ℚ x.prob) row
  pub total : sum_of (λ x. x.prob) row ≡ of_int (pos 1)

-- a distribution over states below n
pub record IsRow (n : ℕ) (row : List Entry) : Type 0 where
  pub distribution : IsDistribution row
  pub in_range : All (λ x. x.target < n) row

-- one row per state: each is a distribution over the states
abbrev pub AreRows : List (List Entry) → Type 0
AreRows rows = All (IsRow (length rows)) rows

-- what each model keeps: it has a state, each state has a choice, and each row is a distribution over its states
pub record IsMdp (m : Mdp) : Type 0 where
  pub some : 0 < states_of m
  pub few : states_of m ≤ 2 ^ 20
  pub choice : (s : ℕ) → s < states_of m → 0 < length (choices_at m s)
  pub row : (s c : ℕ) → s < states_of m → c < length (choices_at m s) → IsRow (states_of m) (row_at m s c)

-- the sum of a row over the values z
abbrev pub row_sum : List Entry → List ℚ → ℚ
row_sum row z = sum_of (λ x. x.prob *ℚ value_at z x.target) row
