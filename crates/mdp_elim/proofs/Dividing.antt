-- The equation of a state can be divided also where those of smaller states can't be solved so far: they don't matter.
use Rattle.std.proofs.Common.{◌≡◌, ◌≢◌, ℕ, zero, suc, ◌-◌, ◌<◌, ◌≤◌, ◌⊎◌, inl, inr, List, [], ◌∷◌, length, Some, refl, sym, ◌∙◌, ap, ap₂, subst, arith, pos}
use Rattle.mdp_math.specs.{Rational.{ℚ, of_int, ◌+ℚ◌, ◌*ℚ◌, ◌-ℚ◌, inv_ℚ, ◌<ℚ◌}, Pivot.{pivoted, HasPivots}}
use Rattle.mdp_math.proofs.{Numbers.{le_or}, Ring.{◌⊕◌, ◌⊗◌, lit}, Linear.{combine, equal}, Order.{0ℚ, 1ℚ}, Whole.{one-pos}}
use Rattle.mdp_elim.specs.{Equation.{Equation, no_equation}, Entries.{Between, entry_to}, Predecessors.{at, LeadBelow}, Kept.{put_in, solved_at}}
use Rattle.mdp_elim.proofs.{Law.{unit, matrix, all_below, can_eliminate}, RowSums.{over}, PutIn.{put_none}, OneByOne.{own-not_one}}

-- no equations for the states below t
masked : ℕ → List Equation → List Equation
masked zero equations = equations
masked (suc t) [] = []
masked (suc t) (e ∷ equations) = no_equation ∷ masked t equations

length-masked : (t : ℕ) (equations : List Equation) → length (masked t equations) ≡ length equations
unfolding masked
length-masked zero equations = refl
length-masked (suc t) [] = refl
length-masked (suc t) (e ∷ equations) = ap suc (length-masked t equations)

masked-below : (t u : ℕ) (equations : List Equation) → u < t → at (masked t equations) u ≡ no_equation
unfolding masked
masked-below zero u equations l = absurd (omega arith)
masked-below (suc t) u [] l = refl
masked-below (suc t) zero (e ∷ equations) l = refl
masked-below (suc t) (suc u) (e ∷ equations) l = masked-below t u equations (omega arith)

masked-above : (t u : ℕ) (equations : List Equation) → t ≤ u → at (masked t equations) u ≡ at equations u
unfolding masked
masked-above zero u equations l = refl
masked-above (suc t) u [] l = refl
masked-above (suc t) zero (e ∷ equations) l = absurd (omega arith)
masked-above (suc t) (suc u) (e ∷ equations) l = masked-above t u equations (omega arith)

-- ---- pivots

pivoted-none : (r : ℕ → ℕ → ℚ) (n u v : ℕ) → r u v ≡ 0ℚ → r u n ≡ 0ℚ → pivoted r n u v ≡ 0ℚ
pivoted-none r n u v h k =
    combine 4 (λ x w y i. x ⊕ w ⊗ (y ⊗ i)) (λ x w y i. lit (pos 0)) (λ x w y i. equal (lit (pos 1)) x (lit (pos 0)) ∷ equal (y ⊗ i) w (lit (pos 0)) ∷ []) refl
    (r u v) (r u n) (r n v) (inv_ℚ (1ℚ -ℚ r n n)) h k

zero_pivots : (n : ℕ) (r : ℕ → ℕ → ℚ) → ((u v : ℕ) → u < n → r u v ≡ 0ℚ) → HasPivots (all_below n) r
zero_pivots zero r h = tt
zero_pivots (suc n) r h = (
  subst (λ (x : ℚ). x <ℚ 1ℚ) (sym (h n n (omega arith))) one-pos,
  zero_pivots n (pivoted r n) (λ u v l. pivoted-none r n u v (h u v (omega arith)) (h u n (omega arith))),
)

masked_by : (t n : ℕ) (q r : ℕ → ℕ → ℚ) → (t ≤ n) ⊎ (n < t) → ((u v : ℕ) → t ≤ u → u < suc n → r u v ≡ q u v) → ((u v : ℕ) → u < t → r u v ≡ 0ℚ)
    → (((u v : ℕ) → t ≤ u → u < n → pivoted r n u v ≡ pivoted q n u v) → ((u v : ℕ) → u < t → pivoted r n u v ≡ 0ℚ) → HasPivots (all_below n) (pivoted r n))
    → HasPivots (all_below (suc n)) q → HasPivots (all_below (suc n)) r
masked_by t n q r (inl a) same none ih h = (
  subst (λ (x : ℚ). x <ℚ 1ℚ) (sym (same n n a (omega arith))) h.0,
  ih
      (λ u v l m.
      ap₂ ◌+ℚ◌ (same u v l (omega arith)) (ap₂ ◌*ℚ◌ (same u n l (omega arith))
      (ap₂ (λ (x y : ℚ). x *ℚ inv_ℚ (1ℚ -ℚ y)) (same n v a (omega arith)) (same n n a (omega arith)))))
      (λ u v l. pivoted-none r n u v (none u v l) (none u n l)),
)
masked_by t n q r (inr a) same none ih h = zero_pivots (suc n) r (λ u v l. none u v (omega arith))

masked_pivots : (t n : ℕ) (q r : ℕ → ℕ → ℚ) → ((u v : ℕ) → t ≤ u → u < n → r u v ≡ q u v) → ((u v : ℕ) → u < t → r u v ≡ 0ℚ)
    → HasPivots (all_below n) q → HasPivots (all_below n) r
masked_pivots t zero q r same none h = tt
masked_pivots t (suc n) q r same none h = masked_by t n q r (le_or t n) same none (λ a b. masked_pivots t n (pivoted q n) (pivoted r n) a b h.1) h

-- ---- a state's own entry

module _ (solved equations : List Equation) (n : ℕ) (len : length equations ≡ n) (down : LeadBelow n n equations) (pivots : HasPivots (all_below n) (matrix equations)) (t : ℕ) (within : t < n) where
  down_by : (u : ℕ) → (t ≤ u) ⊎ (u < t) → u < n → Between 0 n (at (masked t equations) u).entries
  down_by u (inl a) l = subst (λ (e : Equation). Between 0 n e.entries) (sym (masked-above t u equations a)) (down u l)
  down_by u (inr a) l = subst (λ (e : Equation). Between 0 n e.entries) (sym (masked-below t u equations a)) tt

  module _ (sum : Equation) (is : put_in solved (suc t) (n - suc t) (at equations t) ≡ Some sum) where
    below_by : (u : ℕ) → u ≤ t → (t ≤ u) ⊎ (u < t) → (r : Equation) × (put_in solved (suc t) (n - suc t) (at (masked t equations) u) ≡ Some r)
    below_by u l (inl a) =
        let e : t ≡ u = omega arith in
        (sum, ap (put_in solved (suc t) (n - suc t)) (ap (at (masked t equations)) (sym e) ∙ masked-above t t equations (omega arith)) ∙ is)
    below_by u l (inr a) = (no_equation, ap (put_in solved (suc t) (n - suc t)) (masked-below t u equations a) ∙ put_none solved (suc t) (n - suc t) no_equation tt)

  -- where the greater states are solved, it isn't 1
  pub not_one : ((s : ℕ) → t < s → s < n → solved_at solved n s (at equations s) ≡ Some (at solved s)) → (sum : Equation)
      → put_in solved (suc t) (n - suc t) (at equations t) ≡ Some sum → entry_to t sum.entries ≢ Some (of_int (pos 1))
  not_one above sum is =
      own-not_one solved (masked t equations) n (length-masked t equations ∙ len) t within
      (λ s l u. ap (solved_at solved n s) (masked-above t s equations (omega arith)) ∙ above s l u)
      (λ u l. below_by sum is u l (le_or t u))
      (can_eliminate n (masked t equations) (length-masked t equations ∙ len) (λ u l. down_by u (le_or t u) l)
      (masked_pivots t n (matrix equations) (matrix (masked t equations))
      (λ u v l m. ap (λ (e : Equation). over (unit v) e.entries) (masked-above t u equations l))
      (λ u v l. ap (λ (e : Equation). over (unit v) e.entries) (masked-below t u equations l)) pivots))
      sum (ap (put_in solved (suc t) (n - suc t)) (masked-above t t equations (omega arith)) ∙ is)
