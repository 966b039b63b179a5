-- The magnitude of a number, by its sign.
use Rattle.std.proofs.{Common.{◌≡◌, [], ◌∷◌, refl, pos, arith}, lemmas.List.Elements.{All-nil, All-cons}}
use Rattle.std.specs.List.{All}
use Rattle.mdp_math.specs.{Rational.{ℚ, neg_ℚ, ◌≤ℚ◌, ◌<ℚ◌}, Extremes.{greatest}}
use Rattle.mdp_math.proofs.{Ring.{⊖, lit}, Linear.{linear, known}, Order.{0ℚ, ≤ℚ_refl, ≤ℚ_antisymm, ≤ℚ_of_lt}, Extremes.{greatest-ge, greatest-le}}
use Rattle.mdp_discount_rules.specs.Rules.{magnitude}

both : (x y w : ℚ) → x ≤ℚ w → y ≤ℚ w → All (λ z. z ≤ℚ w) (x ∷ y ∷ [])
both x y w h k = All-cons (λ z. z ≤ℚ w) x (y ∷ []) h (All-cons (λ z. z ≤ℚ w) y [] k (All-nil (λ z. z ≤ℚ w)))

second : (x y : ℚ) → x ≤ℚ y → greatest (x ∷ y ∷ []) ≡ y
second x y h = ≤ℚ_antisymm _ _ (greatest-le y x (y ∷ []) (both x y y h (≤ℚ_refl y))) (greatest-ge (x ∷ y ∷ []) 1 0ℚ (omega arith))

first : (x y : ℚ) → y ≤ℚ x → greatest (x ∷ y ∷ []) ≡ x
first x y h = ≤ℚ_antisymm _ _ (greatest-le x x (y ∷ []) (both x y x (≤ℚ_refl x) h)) (greatest-ge (x ∷ y ∷ []) 0 0ℚ (omega arith))

pub magnitude-below : (x : ℚ) → x <ℚ 0ℚ → magnitude x ≡ neg_ℚ x
magnitude-below x h =
    second x (neg_ℚ x) (linear 1 (λ x. x) (λ x. ⊖ x) (λ x. known x (lit (pos 0)) ∷ known x (lit (pos 0)) ∷ []) refl x (≤ℚ_of_lt x 0ℚ h) (≤ℚ_of_lt x 0ℚ h))

pub magnitude-above : (x : ℚ) → 0ℚ ≤ℚ x → magnitude x ≡ x
magnitude-above x h = first x (neg_ℚ x) (linear 1 (λ x. ⊖ x) (λ x. x) (λ x. known (lit (pos 0)) x ∷ known (lit (pos 0)) x ∷ []) refl x h h)
