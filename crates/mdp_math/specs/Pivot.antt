-- One step of elimination in a linear system x(t) = c(t) + the sum of q(t, v) x(v), and the entries of a row by index.
use Rattle.std.proofs.Common.{ℕ, zero, suc, List, [], ◌∷◌, Bool, eqb, if◌then◌else◌, pos}
use Rattle.mdp_math.specs.{Rational.{ℚ, of_int, ◌+ℚ◌, ◌*ℚ◌, ◌-ℚ◌, inv_ℚ, ◌<ℚ◌}, Sum.{sum_of}}

-- row s without its entry at s: what is left is divided by 1 - q(s, s)
abbrev pub divided : (ℕ → ℕ → ℚ) → ℕ → ℕ → ℚ
divided q s v = q s v *ℚ inv_ℚ (of_int (pos 1) -ℚ q s s)

abbrev pub divided_constant : (ℕ → ℕ → ℚ) → (ℕ → ℚ) → ℕ → ℚ
divided_constant q c s = c s *ℚ inv_ℚ (of_int (pos 1) -ℚ q s s)

-- row t with q(t, s) times the divided row s in place of its entry at s
abbrev pub pivoted : (ℕ → ℕ → ℚ) → ℕ → ℕ → ℕ → ℚ
pivoted q s t v = q t v +ℚ q t s *ℚ divided q s v

abbrev pub pivoted_constant : (ℕ → ℕ → ℚ) → (ℕ → ℚ) → ℕ → ℕ → ℚ
pivoted_constant q c s t = c t +ℚ q t s *ℚ divided_constant q c s

-- the active numbers below n, from the greatest
abbrev pub active_below : (ℕ → Bool) → ℕ → List ℕ
active_below active zero = []
active_below active (suc n) = if active n then n ∷ active_below active n else active_below active n

-- the entries of a row at the index v, summed
abbrev pub entry_at : {A : Type 0} → (A → ℕ) → (A → ℚ) → List A → ℕ → ℚ
entry_at index entry row v = sum_of (λ x. if eqb (index x) v then entry x else of_int (pos 0)) row

-- each pivot 1 - q(s, s) of the elimination of all the numbers is above 0
abbrev pub HasPivots : List ℕ → (ℕ → ℕ → ℚ) → Type 0
HasPivots [] q = Unit {0}
HasPivots (s ∷ rest) q = (q s s <ℚ of_int (pos 1)) × HasPivots rest (pivoted q s)

-- the solution that elimination gives: 0 at all other numbers
abbrev pub solution : List ℕ → (ℕ → ℕ → ℚ) → (ℕ → ℚ) → ℕ → ℚ
solution [] q c v = of_int (pos 0)
solution (s ∷ rest) q c v =
    if eqb v s then divided_constant q c s +ℚ sum_of (λ u. divided q s u *ℚ solution rest (pivoted q s) (pivoted_constant q c s) u) rest
    else solution rest (pivoted q s) (pivoted_constant q c s) v
