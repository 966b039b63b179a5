-- Elimination: each step keeps the solutions, and a weight keeps each pivot below 1.
use Rattle.std.proofs.Common.{◌≡◌, ◌≢◌, ℕ, zero, suc, ◌<◌, inl, inr, List, [], ◌∷◌, length, get_or, refl, sym, ◌∙◌, ap, subst, arith, pos}
use Rattle.std.specs.List.{All}
use Rattle.mdp_math.specs.{Rational.{ℚ, ◌+ℚ◌, ◌*ℚ◌, ◌-ℚ◌, inv_ℚ, ◌≤ℚ◌, ◌<ℚ◌}, Sum.{sum_of}, Pivot.{divided, divided_constant, pivoted, pivoted_constant}}
use Rattle.mdp_math.proofs.{Ring.{◌⊕◌, ◌⊗◌, ⊖, lit, ring}, Laws.{rat_ring}}
use Rattle.mdp_math.proofs.{Order.{0ℚ, 1ℚ, ≤ℚ_of_lt, ≤ℚ_or_gt, ≤ℚ-<ℚ_trans, clash_ℚ, mul-nonneg, mul-inv, add-nonneg, sub-pos}, Division.{inv-pos, mul-inv_pos}}
use Rattle.mdp_math.proofs.{Linear.{linear, combine, equal, at_most, known}, Sums.{sum_of-nonneg}, Kernel.{All-head, All-tail}}

-- ---- a weight on the numbers that are left

-- the numbers that are left have weights above 0 and entries of at least 0, and each row weighs less than its number
pub record RowsShrink (weight : ℕ → ℚ) (q : ℕ → ℕ → ℚ) (left : List ℕ) : Type 0 where
  pub positive : All (λ s. 0ℚ <ℚ weight s) left
  pub entries : All (λ s. All (λ v. 0ℚ ≤ℚ q s v) left) left
  pub sums : All (λ s. sum_of (λ v. q s v *ℚ weight v) left <ℚ weight s) left

-- the same of columns
abbrev pub ColumnsShrink : (ℕ → ℚ) → (ℕ → ℕ → ℚ) → List ℕ → Type 0
ColumnsShrink weight q left = RowsShrink weight (λ s v. q v s) left

-- the sum over a pivoted row
pivoted_sum : (f g x : ℕ → ℚ) (a i : ℚ) (vs : List ℕ) → sum_of (λ v. (f v +ℚ a *ℚ (g v *ℚ i)) *ℚ x v) vs ≡ sum_of (λ v. f v *ℚ x v) vs +ℚ (a *ℚ i) *ℚ sum_of (λ v. g v *ℚ x v) vs
pivoted_sum f g x a i [] = ring rat_ring 2 (λ a i. lit (pos 0)) (λ a i. lit (pos 0) ⊕ (a ⊗ i) ⊗ lit (pos 0)) refl a i
pivoted_sum f g x a i (v ∷ vs) =
    ap (λ (s : ℚ). (f v +ℚ a *ℚ (g v *ℚ i)) *ℚ x v +ℚ s) (pivoted_sum f g x a i vs)
    ∙ ring rat_ring 7 (λ f g x a i s t. (f ⊕ a ⊗ (g ⊗ i)) ⊗ x ⊕ (s ⊕ (a ⊗ i) ⊗ t)) (λ f g x a i s t. (f ⊗ x ⊕ s) ⊕ (a ⊗ i) ⊗ (g ⊗ x ⊕ t)) refl
    (f v) (g v) (x v) a i (sum_of (λ w. f w *ℚ x w) vs) (sum_of (λ w. g w *ℚ x w) vs)

divided_sum : (g x : ℕ → ℚ) (i : ℚ) (vs : List ℕ) → sum_of (λ v. (g v *ℚ i) *ℚ x v) vs ≡ i *ℚ sum_of (λ v. g v *ℚ x v) vs
divided_sum g x i [] = ring rat_ring 1 (λ i. lit (pos 0)) (λ i. i ⊗ lit (pos 0)) refl i
divided_sum g x i (v ∷ vs) =
    ap (λ (s : ℚ). (g v *ℚ i) *ℚ x v +ℚ s) (divided_sum g x i vs)
    ∙ ring rat_ring 4 (λ g x i s. (g ⊗ i) ⊗ x ⊕ i ⊗ s) (λ g x i s. i ⊗ (g ⊗ x ⊕ s)) refl (g v) (x v) i (sum_of (λ w. g w *ℚ x w) vs)

below_one : (p w r : ℚ) → 0ℚ ≤ℚ r → 0ℚ <ℚ w → p *ℚ w +ℚ r <ℚ w → p <ℚ 1ℚ
below_one p w r hr hw h = elim (≤ℚ_or_gt 1ℚ p) as (λ _. p <ℚ 1ℚ) [
  | inl l ↦ absurd (clash_ℚ (p *ℚ w +ℚ r) w h (linear 3 (λ p w r. w) (λ p w r. p ⊗ w ⊕ r) (λ p w r. at_most w (lit (pos 1)) p ∷ known (lit (pos 0)) r ∷ []) refl p w r (≤ℚ_of_lt 0ℚ w hw) l hr))
  | inr l ↦ l
]

weighted-nonneg : (f w : ℕ → ℚ) (vs : List ℕ) → All (λ v. 0ℚ ≤ℚ f v) vs → All (λ v. 0ℚ <ℚ w v) vs → 0ℚ ≤ℚ sum_of (λ v. f v *ℚ w v) vs
weighted-nonneg f w vs h k = sum_of-nonneg (λ v. f v *ℚ w v) vs (λ j d l. mul-nonneg (f (get_or vs j d)) (w (get_or vs j d)) (h j d l) (≤ℚ_of_lt 0ℚ (w (get_or vs j d)) (k j d l)))

-- the sum of row t after the step: r and o are the sums of the rows s and t over what is left
pivoted_below : (p a i r o x y : ℚ) → 0ℚ ≤ℚ a → 0ℚ ≤ℚ i → (1ℚ -ℚ p) *ℚ i ≡ 1ℚ → p *ℚ x +ℚ r <ℚ x → a *ℚ x +ℚ o <ℚ y → o +ℚ (a *ℚ i) *ℚ r <ℚ y
pivoted_below p a i r o x y ha hi e h k =
    ≤ℚ-<ℚ_trans _ (a *ℚ x +ℚ o) y
    (linear 7 (λ p a i r o x y. o ⊕ (a ⊗ i) ⊗ r) (λ p a i r o x y. a ⊗ x ⊕ o)
    (λ p a i r o x y. at_most (a ⊗ i) (p ⊗ x ⊕ r) x ∷ equal (a ⊗ x) ((lit (pos 1) ⊕ ⊖ p) ⊗ i) (lit (pos 1)) ∷ []) refl p a i r o x y
    (mul-nonneg a i ha hi) (≤ℚ_of_lt _ _ h) e)
    k

module _ (weight : ℕ → ℚ) (q : ℕ → ℕ → ℚ) (s : ℕ) (rest : List ℕ) (R : RowsShrink weight q (s ∷ rest)) where
  row_s-nonneg : All (λ v. 0ℚ ≤ℚ q s v) rest
  row_s-nonneg = All-tail (λ v. 0ℚ ≤ℚ q s v) s rest (All-head (λ t. All (λ v. 0ℚ ≤ℚ q t v) (s ∷ rest)) s rest R.entries)

  weights : All (λ v. 0ℚ <ℚ weight v) rest
  weights = All-tail (λ v. 0ℚ <ℚ weight v) s rest R.positive

  row_s-sum : q s s *ℚ weight s +ℚ sum_of (λ v. q s v *ℚ weight v) rest <ℚ weight s
  row_s-sum = All-head (λ t. sum_of (λ v. q t v *ℚ weight v) (s ∷ rest) <ℚ weight t) s rest R.sums

  -- the pivot 1 - q(s, s) is above 0
  pub diagonal-below : q s s <ℚ 1ℚ
  diagonal-below = below_one (q s s) (weight s) (sum_of (λ v. q s v *ℚ weight v) rest) (weighted-nonneg (q s) weight rest row_s-nonneg weights)
      (All-head (λ v. 0ℚ <ℚ weight v) s rest R.positive) row_s-sum

  pub pivot-pos : 0ℚ <ℚ 1ℚ -ℚ q s s
  pivot-pos = sub-pos (q s s) 1ℚ diagonal-below

  inverse-nonneg : 0ℚ ≤ℚ inv_ℚ (1ℚ -ℚ q s s)
  inverse-nonneg = ≤ℚ_of_lt _ _ (inv-pos (1ℚ -ℚ q s s) pivot-pos)

  pub divided-nonneg : All (λ v. 0ℚ ≤ℚ divided q s v) rest
  divided-nonneg k d l = mul-nonneg _ _ (row_s-nonneg k d l) inverse-nonneg

  -- the step keeps the fact for the numbers without s
  pub pivot-rows : RowsShrink weight (pivoted q s) rest
  pivot-rows = record {
    positive = weights;
    entries = λ k d l j e m.
        add-nonneg _ _ (R.entries (suc k) d (omega arith) (suc j) e (omega arith)) (mul-nonneg _ _ (R.entries (suc k) d (omega arith) 0 e (omega arith)) (divided-nonneg j e m));
    sums = λ k d l.
        subst (λ (u : ℚ). u <ℚ weight (get_or rest k d)) (sym (pivoted_sum (q (get_or rest k d)) (q s) weight (q (get_or rest k d) s) (inv_ℚ (1ℚ -ℚ q s s)) rest))
        (pivoted_below (q s s) (q (get_or rest k d) s) (inv_ℚ (1ℚ -ℚ q s s)) (sum_of (λ v. q s v *ℚ weight v) rest) (sum_of (λ v. q (get_or rest k d) v *ℚ weight v) rest)
        (weight s) (weight (get_or rest k d))
        (R.entries (suc k) d (omega arith) 0 d (omega arith)) inverse-nonneg (mul-inv_pos (1ℚ -ℚ q s s) pivot-pos) row_s-sum (R.sums (suc k) d (omega arith)));
  }

-- the same of columns
pub pivot-columns : (weight : ℕ → ℚ) (q : ℕ → ℕ → ℚ) (s : ℕ) (rest : List ℕ) → ColumnsShrink weight q (s ∷ rest) → ColumnsShrink weight (pivoted q s) rest
pivot-columns weight q s rest R =
    subst (λ (r : ℕ → ℕ → ℚ). RowsShrink weight r rest)
    (λ j t v. ring rat_ring 4 (λ o a b i. o ⊕ a ⊗ (b ⊗ i)) (λ o a b i. o ⊕ b ⊗ (a ⊗ i)) refl (q v t) (q s t) (q v s) (inv_ℚ (1ℚ -ℚ q s s)) j)
    (pivot-rows weight (λ t v. q v t) s rest R)

-- ---- solutions

-- x solves the system on the numbers that are left
abbrev pub SolvesOn : List ℕ → (ℕ → ℕ → ℚ) → (ℕ → ℚ) → (ℕ → ℚ) → Type 0
SolvesOn left q c x = All (λ t. x t ≡ c t +ℚ sum_of (λ v. q t v *ℚ x v) left) left

-- x(s) from the numbers that are left after s
abbrev pub SolvedBy : List ℕ → (ℕ → ℕ → ℚ) → (ℕ → ℚ) → (ℕ → ℚ) → ℕ → Type 0
SolvedBy rest q c x s = x s ≡ divided_constant q c s +ℚ sum_of (λ v. divided q s v *ℚ x v) rest

-- row s: p at s, r the rest, i the reciprocal of 1 - p
solved_for : (x p c r i : ℚ) → (1ℚ -ℚ p) *ℚ i ≡ 1ℚ → x ≡ c +ℚ (p *ℚ x +ℚ r) → x ≡ c *ℚ i +ℚ i *ℚ r
solved_for x p c r i e h =
    combine 5 (λ x p c r i. x) (λ x p c r i. c ⊗ i ⊕ i ⊗ r) (λ x p c r i. equal i x (c ⊕ (p ⊗ x ⊕ r)) ∷ equal x (lit (pos 1)) ((lit (pos 1) ⊕ ⊖ p) ⊗ i) ∷ []) refl x p c r i h (sym e)

solved_back : (x p c r i : ℚ) → (1ℚ -ℚ p) *ℚ i ≡ 1ℚ → x ≡ c *ℚ i +ℚ i *ℚ r → x ≡ c +ℚ (p *ℚ x +ℚ r)
solved_back x p c r i e h =
    combine 5 (λ x p c r i. x) (λ x p c r i. c ⊕ (p ⊗ x ⊕ r))
    (λ x p c r i. equal (lit (pos 1) ⊕ ⊖ p) x (c ⊗ i ⊕ i ⊗ r) ∷ equal (c ⊕ r) ((lit (pos 1) ⊕ ⊖ p) ⊗ i) (lit (pos 1)) ∷ []) refl x p c r i h e

-- row t: a at s, o the rest
row_on : (y x a o d c r i : ℚ) → x ≡ c *ℚ i +ℚ i *ℚ r → y ≡ d +ℚ (a *ℚ x +ℚ o) → y ≡ (d +ℚ a *ℚ (c *ℚ i)) +ℚ (o +ℚ (a *ℚ i) *ℚ r)
row_on y x a o d c r i h k =
    combine 8 (λ y x a o d c r i. y) (λ y x a o d c r i. (d ⊕ a ⊗ (c ⊗ i)) ⊕ (o ⊕ (a ⊗ i) ⊗ r))
    (λ y x a o d c r i. equal a x (c ⊗ i ⊕ i ⊗ r) ∷ equal (lit (pos 1)) y (d ⊕ (a ⊗ x ⊕ o)) ∷ []) refl y x a o d c r i h k

row_back : (y x a o d c r i : ℚ) → x ≡ c *ℚ i +ℚ i *ℚ r → y ≡ (d +ℚ a *ℚ (c *ℚ i)) +ℚ (o +ℚ (a *ℚ i) *ℚ r) → y ≡ d +ℚ (a *ℚ x +ℚ o)
row_back y x a o d c r i h k =
    combine 8 (λ y x a o d c r i. y) (λ y x a o d c r i. d ⊕ (a ⊗ x ⊕ o))
    (λ y x a o d c r i. equal (⊖ a) x (c ⊗ i ⊕ i ⊗ r) ∷ equal (lit (pos 1)) y ((d ⊕ a ⊗ (c ⊗ i)) ⊕ (o ⊕ (a ⊗ i) ⊗ r)) ∷ []) refl y x a o d c r i h k

module _ (q : ℕ → ℕ → ℚ) (c x : ℕ → ℚ) (s : ℕ) (rest : List ℕ) (pivot : 1ℚ -ℚ q s s ≢ 0ℚ) where
  with_sum : SolvedBy rest q c x s → x s ≡ c s *ℚ inv_ℚ (1ℚ -ℚ q s s) +ℚ inv_ℚ (1ℚ -ℚ q s s) *ℚ sum_of (λ v. q s v *ℚ x v) rest
  with_sum h = h ∙ ap (λ (u : ℚ). divided_constant q c s +ℚ u) (divided_sum (q s) x (inv_ℚ (1ℚ -ℚ q s s)) rest)

  -- one step keeps each solution
  pub pivot-solves : SolvesOn (s ∷ rest) q c x → SolvedBy rest q c x s × SolvesOn rest (pivoted q s) (pivoted_constant q c s) x
  pivot-solves h =
      let solved = solved_for (x s) (q s s) (c s) (sum_of (λ v. q s v *ℚ x v) rest) (inv_ℚ (1ℚ -ℚ q s s)) (mul-inv (1ℚ -ℚ q s s) pivot) (h 0 s (omega arith)) in (
        solved ∙ ap (λ (u : ℚ). divided_constant q c s +ℚ u) (sym (divided_sum (q s) x (inv_ℚ (1ℚ -ℚ q s s)) rest)),
        λ k d l.
            row_on (x (get_or rest k d)) (x s) (q (get_or rest k d) s) (sum_of (λ v. q (get_or rest k d) v *ℚ x v) rest) (c (get_or rest k d)) (c s)
            (sum_of (λ v. q s v *ℚ x v) rest) (inv_ℚ (1ℚ -ℚ q s s))
            solved (h (suc k) d (omega arith))
            ∙ ap (λ (u : ℚ). pivoted_constant q c s (get_or rest k d) +ℚ u) (sym (pivoted_sum (q (get_or rest k d)) (q s) x (q (get_or rest k d) s) (inv_ℚ (1ℚ -ℚ q s s)) rest)),
      )

  back_at : SolvedBy rest q c x s → SolvesOn rest (pivoted q s) (pivoted_constant q c s) x → (k d : ℕ) → k < length (s ∷ rest)
      → x (get_or (s ∷ rest) k d) ≡ c (get_or (s ∷ rest) k d) +ℚ sum_of (λ v. q (get_or (s ∷ rest) k d) v *ℚ x v) (s ∷ rest)
  back_at h e zero d l = solved_back (x s) (q s s) (c s) (sum_of (λ v. q s v *ℚ x v) rest) (inv_ℚ (1ℚ -ℚ q s s)) (mul-inv (1ℚ -ℚ q s s) pivot) (with_sum h)
  back_at h e (suc k) d l =
      row_back (x (get_or rest k d)) (x s) (q (get_or rest k d) s) (sum_of (λ v. q (get_or rest k d) v *ℚ x v) rest) (c (get_or rest k d)) (c s)
      (sum_of (λ v. q s v *ℚ x v) rest) (inv_ℚ (1ℚ -ℚ q s s))
      (with_sum h)
      (e k d (omega arith) ∙ ap (λ (u : ℚ). pivoted_constant q c s (get_or rest k d) +ℚ u) (pivoted_sum (q (get_or rest k d)) (q s) x (q (get_or rest k d) s) (inv_ℚ (1ℚ -ℚ q s s)) rest))

  -- and makes none
  pub solves-pivot : SolvedBy rest q c x s → SolvesOn rest (pivoted q s) (pivoted_constant q c s) x → SolvesOn (s ∷ rest) q c x
  solves-pivot h e = back_at h e
