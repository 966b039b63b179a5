-- The laws of sums.
use Rattle.std.proofs.{Common.{◌≡◌, List, [], ◌∷◌, ◌++◌, refl, sym, ◌∙◌, ap, ap₂, pos, map}, lemmas.List.Elements.{recursion_from_All}}
use Rattle.std.specs.List.{All, AllByRecursion}
use Rattle.mdp_math.proofs.{Ring.{◌⊕◌, ◌⊗◌, lit, ring, ring₁, ring₃, ring₄}, Laws.{rat_ring, zero-+ℚ, +ℚ_assoc}}
use Rattle.mdp_math.proofs.Order.{0ℚ, ≤ℚ_refl, add-le-add_ℚ, add-nonneg}
use Rattle.mdp_math.specs.{Rational.{ℚ, ◌+ℚ◌, ◌*ℚ◌, ◌≤ℚ◌}, Sum.{sum_of}}

sum-le-by : {A : Type 0} → (f g : A → ℚ) (xs : List A) → AllByRecursion (λ x. f x ≤ℚ g x) xs → sum_of f xs ≤ℚ sum_of g xs
sum-le-by f g [] h = ≤ℚ_refl 0ℚ
sum-le-by f g (x ∷ xs) h = add-le-add_ℚ (f x) (g x) (sum_of f xs) (sum_of g xs) h.0 (sum-le-by f g xs h.1)

sum-nonneg-by : {A : Type 0} → (f : A → ℚ) (xs : List A) → AllByRecursion (λ x. 0ℚ ≤ℚ f x) xs → 0ℚ ≤ℚ sum_of f xs
sum-nonneg-by f [] h = ≤ℚ_refl 0ℚ
sum-nonneg-by f (x ∷ xs) h = add-nonneg (f x) (sum_of f xs) h.0 (sum-nonneg-by f xs h.1)

pub sum_of-append : {A : Type 0} → (f : A → ℚ) (xs ys : List A) → sum_of f (xs ++ ys) ≡ sum_of f xs +ℚ sum_of f ys
sum_of-append f [] ys = sym (zero-+ℚ (sum_of f ys))
sum_of-append f (x ∷ xs) ys = ap (λ (s : ℚ). f x +ℚ s) (sum_of-append f xs ys) ∙ sym (+ℚ_assoc (f x) (sum_of f xs) (sum_of f ys))

pub sum_of-add : {A : Type 0} → (f g : A → ℚ) (xs : List A) → sum_of (λ x. f x +ℚ g x) xs ≡ sum_of f xs +ℚ sum_of g xs
sum_of-add f g [] = sym (zero-+ℚ 0ℚ)
sum_of-add f g (x ∷ xs) = ap (λ (s : ℚ). (f x +ℚ g x) +ℚ s) (sum_of-add f g xs)
    ∙ ring₄ rat_ring (λ a b s t. (a ⊕ b) ⊕ (s ⊕ t)) (λ a b s t. (a ⊕ s) ⊕ (b ⊕ t)) refl (f x) (g x) (sum_of f xs) (sum_of g xs)

pub sum_of-scale : {A : Type 0} → (c : ℚ) (f : A → ℚ) (xs : List A) → sum_of (λ x. c *ℚ f x) xs ≡ c *ℚ sum_of f xs
sum_of-scale c f [] = ring₁ rat_ring (λ c. lit (pos 0)) (λ c. c ⊗ lit (pos 0)) refl c
sum_of-scale c f (x ∷ xs) = ap (λ (s : ℚ). c *ℚ f x +ℚ s) (sum_of-scale c f xs) ∙ ring₃ rat_ring (λ c a s. c ⊗ a ⊕ c ⊗ s) (λ c a s. c ⊗ (a ⊕ s)) refl c (f x) (sum_of f xs)

pub sum_of-same : {A : Type 0} → (f g : A → ℚ) (xs : List A) → ((x : A) → f x ≡ g x) → sum_of f xs ≡ sum_of g xs
sum_of-same f g [] h = refl
sum_of-same f g (x ∷ xs) h = ap₂ ◌+ℚ◌ (h x) (sum_of-same f g xs h)

-- monotone where each term of the list is
pub sum_of-le : {A : Type 0} → (f g : A → ℚ) (xs : List A) → All (λ x. f x ≤ℚ g x) xs → sum_of f xs ≤ℚ sum_of g xs
sum_of-le f g xs h = sum-le-by f g xs (recursion_from_All (λ x. f x ≤ℚ g x) xs h)

pub sum_of-nonneg : {A : Type 0} → (f : A → ℚ) (xs : List A) → All (λ x. 0ℚ ≤ℚ f x) xs → 0ℚ ≤ℚ sum_of f xs
sum_of-nonneg f xs h = sum-nonneg-by f xs (recursion_from_All (λ x. 0ℚ ≤ℚ f x) xs h)

pub sum_of-zero : {A : Type 0} → (xs : List A) → sum_of (λ x. 0ℚ) xs ≡ 0ℚ
sum_of-zero [] = refl
sum_of-zero (x ∷ xs) = zero-+ℚ (sum_of (λ x. 0ℚ) xs) ∙ sum_of-zero xs

-- two sums may be exchanged
pub sum_of-swap : {A B : Type 0} → (f : A → B → ℚ) (xs : List A) (ys : List B) → sum_of (λ x. sum_of (f x) ys) xs ≡ sum_of (λ y. sum_of (λ x. f x y) xs) ys
sum_of-swap f [] ys = sym (sum_of-zero ys)
sum_of-swap f (x ∷ xs) ys = ap (λ (s : ℚ). sum_of (f x) ys +ℚ s) (sum_of-swap f xs ys) ∙ sym (sum_of-add (f x) (λ y. sum_of (λ z. f z y) xs) ys)

pub sum_of-map : {A B : Type 0} → (g : A → B) (f : B → ℚ) (xs : List A) → sum_of f (map g xs) ≡ sum_of (λ x. f (g x)) xs
sum_of-map g f [] = refl
sum_of-map g f (x ∷ xs) = ap (λ (s : ℚ). f (g x) +ℚ s) (sum_of-map g f xs)

-- ---- more forms

same_by_each : {A : Type 0} → (f g : A → ℚ) (xs : List A) → AllByRecursion (λ x. f x ≡ g x) xs → sum_of f xs ≡ sum_of g xs
same_by_each f g [] h = refl
same_by_each f g (x ∷ xs) h = ap₂ ◌+ℚ◌ h.0 (same_by_each f g xs h.1)

pub sum_of-same_all : {A : Type 0} → (f g : A → ℚ) (xs : List A) → All (λ x. f x ≡ g x) xs → sum_of f xs ≡ sum_of g xs
sum_of-same_all f g xs h = same_by_each f g xs (recursion_from_All (λ x. f x ≡ g x) xs h)

pub sum_of-scale_right : {A : Type 0} → (c : ℚ) (f : A → ℚ) (xs : List A) → sum_of (λ x. f x *ℚ c) xs ≡ sum_of f xs *ℚ c
sum_of-scale_right c f [] = ring rat_ring 1 (λ c. lit (pos 0)) (λ c. lit (pos 0) ⊗ c) refl c
sum_of-scale_right c f (x ∷ xs) =
    ap (λ (s : ℚ). f x *ℚ c +ℚ s) (sum_of-scale_right c f xs)
    ∙ ring rat_ring 3 (λ c a s. a ⊗ c ⊕ s ⊗ c) (λ c a s. (a ⊕ s) ⊗ c) refl c (f x) (sum_of f xs)
