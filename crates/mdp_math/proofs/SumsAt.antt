-- The laws of sums and claims that go by element and place.
use Rattle.std.proofs.Common.{◌≡◌, ℕ, zero, suc, ◌+◌, ◌<◌, inl, inr, List, [], ◌∷◌, length, get_or, refl, sym, ◌∙◌, ap, ap₂, subst, arith, pos}
use Rattle.std.specs.List.{All}
use Rattle.mdp_math.specs.{Rational.{ℚ, ◌+ℚ◌, ◌*ℚ◌, inv_ℚ, ◌≤ℚ◌, ◌<ℚ◌}, Sum.{sum_of, sum_at, EachAt}}
use Rattle.mdp_math.proofs.{Ring.{◌⊕◌, ◌⊗◌, lit, ring}, Laws.{rat_ring, zero-+ℚ, zero-*ℚ, *ℚ_comm}, Division.{div-le, le-div}}
use Rattle.mdp_math.proofs.Order.{0ℚ, ◌/ℚ◌, ≤ℚ_trans, ≤ℚ_refl, ≤ℚ_antisymm, ≤ℚ_or_gt, add-le-add_ℚ, mul-le-mul_left_ℚ, ≤ℚ_of_eq}

-- ---- claims at each place

pub EachAt_all : {A : Type 0} (xs : List A) (P : ℕ → A → Type 0) → ((k : ℕ) (x : A) → P k x) → EachAt xs P
EachAt_all [] P h = tt
EachAt_all (x ∷ xs) P h = (h 0 x, EachAt_all xs (λ k y. P (suc k) y) (λ k y. h (suc k) y))

pub EachAt_mono : {A : Type 0} (xs : List A) (P Q : ℕ → A → Type 0) → ((k : ℕ) (x : A) → P k x → Q k x) → EachAt xs P → EachAt xs Q
EachAt_mono [] P Q f h = tt
EachAt_mono (x ∷ xs) P Q f h = (f 0 x h.0, EachAt_mono xs (λ k y. P (suc k) y) (λ k y. Q (suc k) y) (λ k y. f (suc k) y) h.1)

pub EachAt_both : {A : Type 0} (xs : List A) (P Q : ℕ → A → Type 0) → EachAt xs P → EachAt xs Q → EachAt xs (λ k x. P k x × Q k x)
EachAt_both [] P Q p q = tt
EachAt_both (x ∷ xs) P Q p q = ((p.0, q.0), EachAt_both xs (λ k y. P (suc k) y) (λ k y. Q (suc k) y) p.1 q.1)

-- between this form and the places of a list
pub EachAt-from_places : {A : Type 0} (xs : List A) (P : ℕ → A → Type 0) → ((k : ℕ) (d : A) → k < length xs → P k (get_or xs k d)) → EachAt xs P
EachAt-from_places [] P h = tt
EachAt-from_places (x ∷ xs) P h = (h 0 x (omega arith), EachAt-from_places xs (λ k y. P (suc k) y) (λ k d l. h (suc k) d (omega arith)))

pub EachAt-from_All : {A : Type 0} (xs : List A) (P : A → Type 0) → All P xs → EachAt xs (λ k x. P x)
EachAt-from_All xs P h = EachAt-from_places xs (λ k x. P x) (λ k d l. h k d l)

pub places_from_EachAt : {A : Type 0} (xs : List A) (P : ℕ → A → Type 0) → EachAt xs P → (k : ℕ) (d : A) → k < length xs → P k (get_or xs k d)
places_from_EachAt [] P h k d l = absurd (omega arith)
places_from_EachAt (x ∷ xs) P h zero d l = h.0
places_from_EachAt (x ∷ xs) P h (suc k) d l = places_from_EachAt xs (λ j y. P (suc j) y) h.1 k d (omega arith)

-- ---- sums

pub sum_at-same : {A : Type 0} (xs : List A) (f g : ℕ → A → ℚ) → EachAt xs (λ k x. f k x ≡ g k x) → sum_at xs f ≡ sum_at xs g
sum_at-same [] f g h = refl
sum_at-same (x ∷ xs) f g h = ap₂ ◌+ℚ◌ h.0 (sum_at-same xs (λ k y. f (suc k) y) (λ k y. g (suc k) y) h.1)

pub sum_at-add : {A : Type 0} (xs : List A) (f g : ℕ → A → ℚ) → sum_at xs (λ k x. f k x +ℚ g k x) ≡ sum_at xs f +ℚ sum_at xs g
sum_at-add [] f g = sym (zero-+ℚ 0ℚ)
sum_at-add (x ∷ xs) f g =
    let s : ℚ = sum_at xs (λ k y. f (suc k) y) in
    let t : ℚ = sum_at xs (λ k y. g (suc k) y) in
    ap (λ (u : ℚ). (f 0 x +ℚ g 0 x) +ℚ u) (sum_at-add xs (λ k y. f (suc k) y) (λ k y. g (suc k) y))
    ∙ ring rat_ring 4 (λ a b s t. (a ⊕ b) ⊕ (s ⊕ t)) (λ a b s t. (a ⊕ s) ⊕ (b ⊕ t)) refl (f 0 x) (g 0 x) s t

pub sum_at-scale : {A : Type 0} (c : ℚ) (xs : List A) (f : ℕ → A → ℚ) → sum_at xs (λ k x. c *ℚ f k x) ≡ c *ℚ sum_at xs f
sum_at-scale c [] f = ring rat_ring 1 (λ c. lit (pos 0)) (λ c. c ⊗ lit (pos 0)) refl c
sum_at-scale c (x ∷ xs) f =
    ap (λ (u : ℚ). c *ℚ f 0 x +ℚ u) (sum_at-scale c xs (λ k y. f (suc k) y))
    ∙ ring rat_ring 3 (λ c a s. c ⊗ a ⊕ c ⊗ s) (λ c a s. c ⊗ (a ⊕ s)) refl c (f 0 x) (sum_at xs (λ k y. f (suc k) y))

pub sum_at-scale_right : {A : Type 0} (c : ℚ) (xs : List A) (f : ℕ → A → ℚ) → sum_at xs (λ k x. f k x *ℚ c) ≡ sum_at xs f *ℚ c
sum_at-scale_right c [] f = ring rat_ring 1 (λ c. lit (pos 0)) (λ c. lit (pos 0) ⊗ c) refl c
sum_at-scale_right c (x ∷ xs) f =
    ap (λ (u : ℚ). f 0 x *ℚ c +ℚ u) (sum_at-scale_right c xs (λ k y. f (suc k) y))
    ∙ ring rat_ring 3 (λ c a s. a ⊗ c ⊕ s ⊗ c) (λ c a s. (a ⊕ s) ⊗ c) refl c (f 0 x) (sum_at xs (λ k y. f (suc k) y))

pub sum_at-le : {A : Type 0} (xs : List A) (f g : ℕ → A → ℚ) → EachAt xs (λ k x. f k x ≤ℚ g k x) → sum_at xs f ≤ℚ sum_at xs g
sum_at-le [] f g h = ≤ℚ_refl 0ℚ
sum_at-le (x ∷ xs) f g h = add-le-add_ℚ _ _ _ _ h.0 (sum_at-le xs (λ k y. f (suc k) y) (λ k y. g (suc k) y) h.1)

-- where no place is looked at
pub sum_at-sum_of : {A : Type 0} (xs : List A) (f : A → ℚ) → sum_at xs (λ k x. f x) ≡ sum_of f xs
sum_at-sum_of [] f = refl
sum_at-sum_of (x ∷ xs) f = ap (λ (s : ℚ). f x +ℚ s) (sum_at-sum_of xs f)

-- ---- weighted sums

-- a share of 0 or more, and a bound where it is more
weighted_le : (u v y : ℚ) → 0ℚ ≤ℚ u → (0ℚ <ℚ u → v ≤ℚ y) → u *ℚ v ≤ℚ u *ℚ y
weighted_le u v y h k = elim (≤ℚ_or_gt u 0ℚ) as (λ _. u *ℚ v ≤ℚ u *ℚ y) [
  | inl l ↦ ≤ℚ_of_eq _ _ (ap (λ (w : ℚ). w *ℚ v) (≤ℚ_antisymm u 0ℚ l h) ∙ zero-*ℚ v ∙ sym (zero-*ℚ y) ∙ ap (λ (w : ℚ). w *ℚ y) (sym (≤ℚ_antisymm u 0ℚ l h)))
  | inr p ↦ mul-le-mul_left_ℚ u v y h (k p)
]

-- weights of at least 0, and numbers that are at most y where the weight is above 0
pub sum_at-weighted_le : {A : Type 0} (xs : List A) (u v : ℕ → A → ℚ) (y : ℚ) → EachAt xs (λ k x. 0ℚ ≤ℚ u k x) → EachAt xs (λ k x. 0ℚ <ℚ u k x → v k x ≤ℚ y)
    → sum_at xs (λ k x. u k x *ℚ v k x) ≤ℚ sum_at xs u *ℚ y
sum_at-weighted_le xs u v y h b =
    subst (λ (s : ℚ). sum_at xs (λ k x. u k x *ℚ v k x) ≤ℚ s) (sum_at-scale_right y xs u)
    (sum_at-le xs (λ k x. u k x *ℚ v k x) (λ k x. u k x *ℚ y)
    (EachAt_mono xs (λ k x. (0ℚ ≤ℚ u k x) × (0ℚ <ℚ u k x → v k x ≤ℚ y)) (λ k x. u k x *ℚ v k x ≤ℚ u k x *ℚ y) (λ k x p. weighted_le (u k x) (v k x) y p.0 p.1)
    (EachAt_both xs (λ k x. 0ℚ ≤ℚ u k x) (λ k x. 0ℚ <ℚ u k x → v k x ≤ℚ y) h b)))

pub sum_at-weighted_ge : {A : Type 0} (xs : List A) (u v : ℕ → A → ℚ) (y : ℚ) → EachAt xs (λ k x. 0ℚ ≤ℚ u k x) → EachAt xs (λ k x. 0ℚ <ℚ u k x → y ≤ℚ v k x)
    → sum_at xs u *ℚ y ≤ℚ sum_at xs (λ k x. u k x *ℚ v k x)
sum_at-weighted_ge xs u v y h b =
    subst (λ (s : ℚ). s ≤ℚ sum_at xs (λ k x. u k x *ℚ v k x)) (sum_at-scale_right y xs u)
    (sum_at-le xs (λ k x. u k x *ℚ y) (λ k x. u k x *ℚ v k x)
    (EachAt_mono xs (λ k x. (0ℚ ≤ℚ u k x) × (0ℚ <ℚ u k x → y ≤ℚ v k x)) (λ k x. u k x *ℚ y ≤ℚ u k x *ℚ v k x) (λ k x p. weighted_le (u k x) y (v k x) p.0 p.1)
    (EachAt_both xs (λ k x. 0ℚ ≤ℚ u k x) (λ k x. 0ℚ <ℚ u k x → y ≤ℚ v k x) h b)))

-- ---- averages: the weights divided by their sum

average_is : {A : Type 0} (xs : List A) (u v : ℕ → A → ℚ) (i : ℚ) → sum_at xs (λ k x. (u k x *ℚ i) *ℚ v k x) ≡ sum_at xs (λ k x. u k x *ℚ v k x) *ℚ i
average_is xs u v i =
    sum_at-same xs (λ k x. (u k x *ℚ i) *ℚ v k x) (λ k x. (u k x *ℚ v k x) *ℚ i)
    (EachAt_all xs (λ k x. (u k x *ℚ i) *ℚ v k x ≡ (u k x *ℚ v k x) *ℚ i) (λ k x. ring rat_ring 3 (λ u v i. (u ⊗ i) ⊗ v) (λ u v i. (u ⊗ v) ⊗ i) refl (u k x) (v k x) i))
    ∙ sum_at-scale_right i xs (λ k x. u k x *ℚ v k x)

pub average-le : {A : Type 0} (xs : List A) (u v : ℕ → A → ℚ) (y : ℚ) → 0ℚ <ℚ sum_at xs u → EachAt xs (λ k x. 0ℚ ≤ℚ u k x) → EachAt xs (λ k x. 0ℚ <ℚ u k x → v k x ≤ℚ y)
    → sum_at xs (λ k x. (u k x /ℚ sum_at xs u) *ℚ v k x) ≤ℚ y
average-le xs u v y p h b =
    subst (λ (s : ℚ). s ≤ℚ y) (sym (average_is xs u v (inv_ℚ (sum_at xs u))))
    (div-le (sum_at xs (λ k x. u k x *ℚ v k x)) (sum_at xs u) y p (≤ℚ_trans _ _ _ (sum_at-weighted_le xs u v y h b) (≤ℚ_of_eq _ _ (*ℚ_comm (sum_at xs u) y))))

pub average-ge : {A : Type 0} (xs : List A) (u v : ℕ → A → ℚ) (y : ℚ) → 0ℚ <ℚ sum_at xs u → EachAt xs (λ k x. 0ℚ ≤ℚ u k x) → EachAt xs (λ k x. 0ℚ <ℚ u k x → y ≤ℚ v k x)
    → y ≤ℚ sum_at xs (λ k x. (u k x /ℚ sum_at xs u) *ℚ v k x)
average-ge xs u v y p h b =
    subst (λ (s : ℚ). y ≤ℚ s) (sym (average_is xs u v (inv_ℚ (sum_at xs u))))
    (le-div (sum_at xs (λ k x. u k x *ℚ v k x)) (sum_at xs u) y p (≤ℚ_trans _ _ _ (≤ℚ_of_eq _ _ (*ℚ_comm y (sum_at xs u))) (sum_at-weighted_ge xs u v y h b)))

-- an average of numbers that are all y
pub average-same : {A : Type 0} (xs : List A) (u v : ℕ → A → ℚ) (y : ℚ) → 0ℚ <ℚ sum_at xs u → EachAt xs (λ k x. 0ℚ ≤ℚ u k x) → EachAt xs (λ k x. 0ℚ <ℚ u k x → v k x ≡ y)
    → sum_at xs (λ k x. (u k x /ℚ sum_at xs u) *ℚ v k x) ≡ y
average-same xs u v y p h b =
    ≤ℚ_antisymm _ _
    (average-le xs u v y p h (EachAt_mono xs (λ k x. 0ℚ <ℚ u k x → v k x ≡ y) (λ k x. 0ℚ <ℚ u k x → v k x ≤ℚ y) (λ k x f l. ≤ℚ_of_eq _ _ (f l)) b))
    (average-ge xs u v y p h (EachAt_mono xs (λ k x. 0ℚ <ℚ u k x → v k x ≡ y) (λ k x. 0ℚ <ℚ u k x → y ≤ℚ v k x) (λ k x f l. ≤ℚ_of_eq _ _ (sym (f l))) b))
