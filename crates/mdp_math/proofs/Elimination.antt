-- Elimination of all the numbers: where each pivot is above 0 there is one solution, and elimination gives it.
use Rattle.std.proofs.Common.{◌≡◌, ◌≢◌, ℕ, zero, suc, ◌<◌, Bool, true, false, eqb, if◌then◌else◌, List, [], ◌∷◌, get_or, refl, sym, ◌∙◌, ap, arith}
use Rattle.std.proofs.lemmas.List.Elements.{All-nil, All-cons}
use Rattle.std.specs.List.{All}
use Rattle.mdp_math.specs.{Rational.{ℚ, ◌+ℚ◌, ◌*ℚ◌, ◌-ℚ◌, ◌<ℚ◌}, Sum.{sum_of}}
use Rattle.mdp_math.specs.Pivot.{divided, divided_constant, pivoted, pivoted_constant, active_below, entry_at, HasPivots, solution}
use Rattle.mdp_math.proofs.{Numbers.{eqb-same, eqb-smaller}, Order.{0ℚ, 1ℚ, sub-pos, ne-zero_of_pos}, Sums.{sum_of-same_all}, Kernel.{All-head, All-tail}}
use Rattle.mdp_math.proofs.{Weight.{Shrinks}, Solutions.{Solves}}
use Rattle.mdp_math.proofs.Pivots.{RowsShrink, ColumnsShrink, SolvesOn, diagonal-below, pivot-rows, pivot-columns, pivot-solves, solves-pivot}
use Rattle.mdp_math.proofs.Dense.{rows_shrink, solves_from_dense, active_below-all}

-- ---- pivots above 0

pub pivots_of_rows : (weight : ℕ → ℚ) (left : List ℕ) (q : ℕ → ℕ → ℚ) → RowsShrink weight q left → HasPivots left q
pivots_of_rows weight [] q R = tt
pivots_of_rows weight (s ∷ rest) q R = (diagonal-below weight q s rest R, pivots_of_rows weight rest (pivoted q s) (pivot-rows weight q s rest R))

pub pivots_of_columns : (weight : ℕ → ℚ) (left : List ℕ) (q : ℕ → ℕ → ℚ) → ColumnsShrink weight q left → HasPivots left q
pivots_of_columns weight [] q R = tt
pivots_of_columns weight (s ∷ rest) q R = (diagonal-below weight (λ t v. q v t) s rest R, pivots_of_columns weight rest (pivoted q s) (pivot-columns weight q s rest R))

pub pivot-nonzero : (q : ℕ → ℕ → ℚ) (s : ℕ) → q s s <ℚ 1ℚ → 1ℚ -ℚ q s s ≢ 0ℚ
pivot-nonzero q s h = ne-zero_of_pos (1ℚ -ℚ q s s) (sub-pos (q s s) 1ℚ h)

-- ---- one solution at most

pub solutions_same : (left : List ℕ) (q : ℕ → ℕ → ℚ) (c x y : ℕ → ℚ) → HasPivots left q → SolvesOn left q c x → SolvesOn left q c y → All (λ t. x t ≡ y t) left
solutions_same [] q c x y p h k = All-nil (λ t. x t ≡ y t)
solutions_same (s ∷ rest) q c x y p h k =
    let u = pivot-solves q c x s rest (pivot-nonzero q s p.0) h in
    let v = pivot-solves q c y s rest (pivot-nonzero q s p.0) k in
    let same : All (λ t. x t ≡ y t) rest = solutions_same rest (pivoted q s) (pivoted_constant q c s) x y p.1 u.1 v.1 in
    All-cons (λ t. x t ≡ y t) s rest
    (u.0 ∙ ap (λ (w : ℚ). divided_constant q c s +ℚ w)
    (sum_of-same_all (λ t. divided q s t *ℚ x t) (λ t. divided q s t *ℚ y t) rest (λ j d l. ap (λ (w : ℚ). divided q s (get_or rest j d) *ℚ w) (same j d l))) ∙ sym v.0)
    same

-- ---- the solution that elimination gives

-- no number stands twice
abbrev pub Apart : List ℕ → Type 0
Apart [] = Unit {0}
Apart (s ∷ rest) = All (λ v. eqb v s ≡ false) rest × Apart rest

-- a system looks at x only at the numbers that are left
solves_same : (left : List ℕ) (q : ℕ → ℕ → ℚ) (c x y : ℕ → ℚ) → All (λ t. x t ≡ y t) left → SolvesOn left q c y → SolvesOn left q c x
solves_same left q c x y same h = λ j d l.
    same j d l ∙ h j d l
    ∙ ap (λ (w : ℚ). c (get_or left j d) +ℚ w)
    (sym (sum_of-same_all (λ t. q (get_or left j d) t *ℚ x t) (λ t. q (get_or left j d) t *ℚ y t) left (λ i e m. ap (λ (w : ℚ). q (get_or left j d) (get_or left i e) *ℚ w) (same i e m))))

pub solution-solves : (left : List ℕ) (q : ℕ → ℕ → ℚ) (c : ℕ → ℚ) → Apart left → HasPivots left q → SolvesOn left q c (solution left q c)
solution-solves [] q c a p = All-nil (λ t. solution [] q c t ≡ c t +ℚ sum_of (λ v. q t v *ℚ solution [] q c v) [])
solution-solves (s ∷ rest) q c a p =
    let same : All (λ t. solution (s ∷ rest) q c t ≡ solution rest (pivoted q s) (pivoted_constant q c s) t) rest = λ j d l.
    ap (λ (b : Bool). if b then divided_constant q c s +ℚ sum_of (λ u. divided q s u *ℚ solution rest (pivoted q s) (pivoted_constant q c s) u) rest
    else solution rest (pivoted q s) (pivoted_constant q c s) (get_or rest j d)) (a.0 j d l)
    in
    solves-pivot q c (solution (s ∷ rest) q c) s rest (pivot-nonzero q s p.0)
    (ap (λ (b : Bool). if b then divided_constant q c s +ℚ sum_of (λ u. divided q s u *ℚ solution rest (pivoted q s) (pivoted_constant q c s) u) rest
    else solution rest (pivoted q s) (pivoted_constant q c s) s) (eqb-same s)
    ∙ ap (λ (w : ℚ). divided_constant q c s +ℚ w)
    (sym (sum_of-same_all (λ t. divided q s t *ℚ solution (s ∷ rest) q c t) (λ t. divided q s t *ℚ solution rest (pivoted q s) (pivoted_constant q c s) t) rest
    (λ j d l. ap (λ (w : ℚ). divided q s (get_or rest j d) *ℚ w) (same j d l)))))
    (solves_same rest (pivoted q s) (pivoted_constant q c s) (solution (s ∷ rest) q c) (solution rest (pivoted q s) (pivoted_constant q c s)) same
    (solution-solves rest (pivoted q s) (pivoted_constant q c s) a.1 p.1))

-- at a number that is not left it is 0
pub solution-outside : (left : List ℕ) (q : ℕ → ℕ → ℚ) (c : ℕ → ℚ) (v : ℕ) → All (λ s. eqb v s ≡ false) left → solution left q c v ≡ 0ℚ
solution-outside [] q c v h = refl
solution-outside (s ∷ rest) q c v h =
    ap (λ (b : Bool). if b then divided_constant q c s +ℚ sum_of (λ u. divided q s u *ℚ solution rest (pivoted q s) (pivoted_constant q c s) u) rest
    else solution rest (pivoted q s) (pivoted_constant q c s) v) (All-head (λ t. eqb v t ≡ false) s rest h)
    ∙ solution-outside rest (pivoted q s) (pivoted_constant q c s) v (All-tail (λ t. eqb v t ≡ false) s rest h)

-- ---- of a kernel with a weight

apart_by : (active : ℕ → Bool) (n : ℕ) (b : Bool) → Apart (active_below active n) → Apart (if b then n ∷ active_below active n else active_below active n)
apart_by active n true h = (λ j d l. eqb-smaller (get_or (active_below active n) j d) n (active_below-all active n j d l).1, h)
apart_by active n false h = h

pub active_below-apart : (active : ℕ → Bool) (n : ℕ) → Apart (active_below active n)
active_below-apart active zero = tt
active_below-apart active (suc n) = apart_by active n (active n) (active_below-apart active n)

other_number : (active : ℕ → Bool) (v s : ℕ) (b : Bool) → eqb v s ≡ b → active v ≡ false → active s ≡ true → b ≡ false
other_number active v s true e a h = let same : v ≡ s = grind arith in cc
other_number active v s false e a h = refl

module _ {A : Type 0} {index : A → ℕ} {entry : A → ℚ} {active : ℕ → Bool} {Allowed : ℕ → List A → Type 0} (K : Shrinks index entry active Allowed) (n : ℕ)
    (bound : (s : ℕ) → active s ≡ true → s < n) (row_of : ℕ → List A)
    (allowed : (s : ℕ) → active s ≡ true → Allowed s (row_of s)) where
  -- each pivot of the kernel's rows is above 0
  pub kernel_pivots : HasPivots (active_below active n) (λ s. entry_at index entry (row_of s))
  kernel_pivots = pivots_of_rows K.weight (active_below active n) (λ s. entry_at index entry (row_of s)) (rows_shrink index entry active n bound K row_of allowed)

  -- and so is each of the transposed rows
  pub kernel_pivots_transposed : HasPivots (active_below active n) (λ s t. entry_at index entry (row_of t) s)
  kernel_pivots_transposed = pivots_of_columns K.weight (active_below active n) (λ s t. entry_at index entry (row_of t) s) (rows_shrink index entry active n bound K row_of allowed)

  -- there is a solution
  pub kernel_solution : (c : ℕ → ℚ) → Solves index entry active row_of c (solution (active_below active n) (λ s. entry_at index entry (row_of s)) c)
  kernel_solution c =
      solves_from_dense index entry active n bound row_of c (solution (active_below active n) (λ s. entry_at index entry (row_of s)) c)
      (λ s a. solution-outside (active_below active n) (λ t. entry_at index entry (row_of t)) c s
      (λ j d l. other_number active s (get_or (active_below active n) j d) (eqb s (get_or (active_below active n) j d)) refl a (active_below-all active n j d l).0))
      (solution-solves (active_below active n) (λ s. entry_at index entry (row_of s)) c (active_below-apart active n) kernel_pivots)
