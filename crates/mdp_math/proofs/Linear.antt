-- Inequalities and equations of ℚ from others: multiples of the hypotheses that add to the claim.
use Rattle.std.proofs.Common.{◌≡◌, ℕ, List, [], ◌∷◌, refl, sym, ◌∙◌, ap, pos}
use Rattle.mdp_math.proofs.{Ring.{Expr, ◌⊕◌, ◌⊗◌, ⊖, lit, normal, value, ring_by, ring, Curried, at_variables, ForAll, for_all}, Laws.{rat_ring}}
use Rattle.mdp_math.proofs.Order.{0ℚ, ≤ℚ_refl, ≤ℚ_of_eq, add-nonneg, mul-nonneg, sub-nonneg, le_by, lt_by, add-pos-nonneg}
use Rattle.mdp_math.specs.Rational.{ℚ, ◌+ℚ◌, ◌*ℚ◌, ◌-ℚ◌, ◌≤ℚ◌, ◌<ℚ◌}

-- k times the hypothesis l = r, or l ≤ r for a k of at least 0, or l ≤ r once
pub data Step : Type 0 where
  equal : Expr → Expr → Expr → Step
  at_most : Expr → Expr → Expr → Step
  known : Expr → Expr → Step

abbrev pub total : List Step → Expr
total [] = lit (pos 0)
total (equal k l r ∷ s) = k ⊗ (r ⊕ ⊖ l) ⊕ total s
total (at_most k l r ∷ s) = k ⊗ (r ⊕ ⊖ l) ⊕ total s
total (known l r ∷ s) = (r ⊕ ⊖ l) ⊕ total s

abbrev pub val : List ℚ → Expr → ℚ
val xs e = value rat_ring xs e

-- C under the hypotheses
abbrev pub Given : List ℚ → List Step → Type 0 → Type 0
Given xs [] C = C
Given xs (equal k l r ∷ s) C = val xs l ≡ val xs r → Given xs s C
Given xs (at_most k l r ∷ s) C = 0ℚ ≤ℚ val xs k → val xs l ≤ℚ val xs r → Given xs s C
Given xs (known l r ∷ s) C = val xs l ≤ℚ val xs r → Given xs s C

-- the same, where each hypothesis is an equation
abbrev pub GivenEquations : List ℚ → List Step → Type 0 → Type 0
GivenEquations xs [] C = C
GivenEquations xs (equal k l r ∷ s) C = val xs l ≡ val xs r → GivenEquations xs s C
GivenEquations xs (at_most k l r ∷ s) C = val xs l ≡ val xs r → GivenEquations xs s C
GivenEquations xs (known l r ∷ s) C = val xs l ≡ val xs r → GivenEquations xs s C

times_zero : (k l r : ℚ) → l ≡ r → k *ℚ (r -ℚ l) ≡ 0ℚ
times_zero k l r e = ap (λ (u : ℚ). k *ℚ (r -ℚ u)) e ∙ ring rat_ring 2 (λ k r. k ⊗ (r ⊕ ⊖ r)) (λ k r. lit (pos 0)) refl k r

total-nonneg : (xs : List ℚ) (s : List Step) (C : Type 0) → (0ℚ ≤ℚ val xs (total s) → C) → Given xs s C
total-nonneg xs [] C f = f (≤ℚ_refl 0ℚ)
total-nonneg xs (equal k l r ∷ s) C f = λ e. total-nonneg xs s C
    (λ h. f (add-nonneg (val xs k *ℚ (val xs r -ℚ val xs l)) (val xs (total s)) (≤ℚ_of_eq _ _ (sym (times_zero (val xs k) (val xs l) (val xs r) e))) h))
total-nonneg xs (at_most k l r ∷ s) C f = λ p e. total-nonneg xs s C (λ h. f (add-nonneg (val xs k *ℚ (val xs r -ℚ val xs l)) (val xs (total s)) (mul-nonneg _ _ p (sub-nonneg _ _ e)) h))
total-nonneg xs (known l r ∷ s) C f = λ e. total-nonneg xs s C (λ h. f (add-nonneg (val xs r -ℚ val xs l) (val xs (total s)) (sub-nonneg _ _ e) h))

sub_same : (l r : ℚ) → l ≡ r → r -ℚ l ≡ 0ℚ
sub_same l r e = ap (λ (u : ℚ). r -ℚ u) e ∙ ring rat_ring 1 (λ r. r ⊕ ⊖ r) (λ r. lit (pos 0)) refl r

zero_step : (u v : ℚ) → u ≡ 0ℚ → v ≡ 0ℚ → u +ℚ v ≡ 0ℚ
zero_step u v p q = ap (λ (w : ℚ). w +ℚ v) p ∙ ap (λ (w : ℚ). 0ℚ +ℚ w) q ∙ ring rat_ring 0 (lit (pos 0) ⊕ lit (pos 0)) (lit (pos 0)) refl

total-zero : (xs : List ℚ) (s : List Step) (C : Type 0) → (val xs (total s) ≡ 0ℚ → C) → GivenEquations xs s C
total-zero xs [] C f = f refl
total-zero xs (equal k l r ∷ s) C f = λ e. total-zero xs s C (λ h. f (zero_step _ _ (times_zero (val xs k) (val xs l) (val xs r) e) h))
total-zero xs (at_most k l r ∷ s) C f = λ e. total-zero xs s C (λ h. f (zero_step _ _ (times_zero (val xs k) (val xs l) (val xs r) e) h))
total-zero xs (known l r ∷ s) C f = λ e. total-zero xs s C (λ h. f (zero_step _ _ (sub_same (val xs l) (val xs r) e) h))

same_by : (x y e : ℚ) → y -ℚ x ≡ e → e ≡ 0ℚ → x ≡ y
same_by x y e p q =
    ring rat_ring 2 (λ x y. x) (λ x y. y ⊕ ⊖ (y ⊕ ⊖ x)) refl x y ∙ ap (λ (u : ℚ). y -ℚ u) (p ∙ q) ∙ ring rat_ring 1 (λ y. y ⊕ ⊖ (lit (pos 0))) (λ y. y) refl y

-- f ≤ g, from g - f as a sum of multiples of what is known
pub linear : (n : ℕ) (f g : Curried Expr n) (s : Curried (List Step) n) → normal (at_variables n 0 g ⊕ ⊖ (at_variables n 0 f)) ≡ normal (total (at_variables n 0 s))
    → ForAll ℚ n (λ xs. Given xs (at_variables n 0 s) (val xs (at_variables n 0 f) ≤ℚ val xs (at_variables n 0 g)))
linear n f g s e = for_all ℚ n (λ xs. Given xs (at_variables n 0 s) (val xs (at_variables n 0 f) ≤ℚ val xs (at_variables n 0 g)))
    (λ xs. total-nonneg xs (at_variables n 0 s) (val xs (at_variables n 0 f) ≤ℚ val xs (at_variables n 0 g))
    (λ h. le_by _ _ (val xs (total (at_variables n 0 s))) h (ring_by rat_ring xs (at_variables n 0 g ⊕ ⊖ (at_variables n 0 f)) (total (at_variables n 0 s)) e)))

-- f = g, from g - f as a sum of multiples of equations
pub combine : (n : ℕ) (f g : Curried Expr n) (s : Curried (List Step) n) → normal (at_variables n 0 g ⊕ ⊖ (at_variables n 0 f)) ≡ normal (total (at_variables n 0 s))
    → ForAll ℚ n (λ xs. GivenEquations xs (at_variables n 0 s) (val xs (at_variables n 0 f) ≡ val xs (at_variables n 0 g)))
combine n f g s e = for_all ℚ n (λ xs. GivenEquations xs (at_variables n 0 s) (val xs (at_variables n 0 f) ≡ val xs (at_variables n 0 g)))
    (λ xs. total-zero xs (at_variables n 0 s) (val xs (at_variables n 0 f) ≡ val xs (at_variables n 0 g))
    (λ h. same_by _ _ (val xs (total (at_variables n 0 s))) (ring_by rat_ring xs (at_variables n 0 g ⊕ ⊖ (at_variables n 0 f)) (total (at_variables n 0 s)) e) h))

-- f < g, from g - f as a positive e and a sum of multiples of what is known
pub linear_lt : (n : ℕ) (f g e : Curried Expr n) (s : Curried (List Step) n) → normal (at_variables n 0 g ⊕ ⊖ (at_variables n 0 f)) ≡ normal (at_variables n 0 e ⊕ total (at_variables n 0 s))
    → ForAll ℚ n (λ xs. 0ℚ <ℚ val xs (at_variables n 0 e) → Given xs (at_variables n 0 s) (val xs (at_variables n 0 f) <ℚ val xs (at_variables n 0 g)))
linear_lt n f g e s q = for_all ℚ n (λ xs. 0ℚ <ℚ val xs (at_variables n 0 e) → Given xs (at_variables n 0 s) (val xs (at_variables n 0 f) <ℚ val xs (at_variables n 0 g)))
    (λ xs p. total-nonneg xs (at_variables n 0 s) (val xs (at_variables n 0 f) <ℚ val xs (at_variables n 0 g))
    (λ h. lt_by _ _ (val xs (at_variables n 0 e) +ℚ val xs (total (at_variables n 0 s))) (add-pos-nonneg _ _ p h)
    (ring_by rat_ring xs (at_variables n 0 g ⊕ ⊖ (at_variables n 0 f)) (at_variables n 0 e ⊕ total (at_variables n 0 s)) q)))
