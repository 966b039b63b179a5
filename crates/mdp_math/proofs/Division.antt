-- The laws of the reciprocal and of division.
use Rattle.std.proofs.Common.{◌≡◌, ◌≢◌, ℕ, ◌<◌, [], ◌∷◌, inl, inr, refl, sym, ◌∙◌, arith, ℤ, pos}
use Rattle.mdp_math.specs.Rational.{ℚ, of_int, ratio, ◌+ℚ◌, ◌*ℚ◌, ◌-ℚ◌, inv_ℚ, ◌≤ℚ◌, ◌<ℚ◌}
use Rattle.mdp_math.proofs.{Ring.{◌⊕◌, ◌⊗◌, ⊖, lit, ring}, Laws.{rat_ring}}
use Rattle.mdp_math.proofs.Order.{0ℚ, 1ℚ, ◌/ℚ◌, ≤ℚ_of_lt, ≤ℚ_or_gt, sub-pos, clash_ℚ, mul-inv, mul-pos_ℚ, ne-zero_of_pos, div-of_int}
use Rattle.mdp_math.proofs.{Whole.{one-pos, of_nat-pos, ratio-pos}, Linear.{linear, linear_lt, combine, equal, at_most, known}}

-- ---- equations, for y not 0

pub div-mul : (x y : ℚ) → y ≢ 0ℚ → (x /ℚ y) *ℚ y ≡ x
div-mul x y h = combine 3 (λ x y i. (x ⊗ i) ⊗ y) (λ x y i. x) (λ x y i. equal x (y ⊗ i) (lit (pos 1)) ∷ []) refl x y (inv_ℚ y) (mul-inv y h)

-- the quotient is the one number that y times gives x
pub div-unique : (x y z : ℚ) → y ≢ 0ℚ → z *ℚ y ≡ x → z ≡ x /ℚ y
div-unique x y z h e =
    combine 4 (λ x y z i. z) (λ x y z i. x ⊗ i) (λ x y z i. equal z (lit (pos 1)) (y ⊗ i) ∷ equal i (z ⊗ y) x ∷ []) refl x y z (inv_ℚ y) (sym (mul-inv y h)) e

pub ratio-div : (a : ℤ) (b : ℕ) → 0 < b → ratio a b ≡ of_int a /ℚ of_int (pos b)
ratio-div a b h = div-unique (of_int a) (of_int (pos b)) (ratio a b) (ne-zero_of_pos (of_int (pos b)) (of_nat-pos b h)) (div-of_int a b h)

-- ---- order, for y above 0

pub mul-inv_pos : (y : ℚ) → 0ℚ <ℚ y → y *ℚ inv_ℚ y ≡ 1ℚ
mul-inv_pos y h = mul-inv y (ne-zero_of_pos y h)

pub inv-pos : (y : ℚ) → 0ℚ <ℚ y → 0ℚ <ℚ inv_ℚ y
inv-pos y h = elim (≤ℚ_or_gt (inv_ℚ y) 0ℚ) as (λ _. 0ℚ <ℚ inv_ℚ y) [
  | inl l ↦ absurd (clash_ℚ 0ℚ 1ℚ one-pos (linear 2 (λ y i. lit (pos 1)) (λ y i. lit (pos 0)) (λ y i. equal (lit (pos 1)) (lit (pos 1)) (y ⊗ i) ∷ at_most y i (lit (pos 0)) ∷ []) refl y
      (inv_ℚ y) (sym (mul-inv_pos y h)) (≤ℚ_of_lt 0ℚ y h) l))
  | inr l ↦ l
]

pub div-le : (x y z : ℚ) → 0ℚ <ℚ y → x ≤ℚ z *ℚ y → x /ℚ y ≤ℚ z
div-le x y z h k =
    linear 4 (λ x y z i. x ⊗ i) (λ x y z i. z) (λ x y z i. at_most i x (z ⊗ y) ∷ equal z (y ⊗ i) (lit (pos 1)) ∷ []) refl x y z (inv_ℚ y) (≤ℚ_of_lt 0ℚ (inv_ℚ y) (inv-pos y h)) k (mul-inv_pos y h)

pub le-div : (x y z : ℚ) → 0ℚ <ℚ y → z *ℚ y ≤ℚ x → z ≤ℚ x /ℚ y
le-div x y z h k =
    linear 4 (λ x y z i. z) (λ x y z i. x ⊗ i) (λ x y z i. at_most i (z ⊗ y) x ∷ equal z (lit (pos 1)) (y ⊗ i) ∷ []) refl x y z (inv_ℚ y)
    (≤ℚ_of_lt 0ℚ (inv_ℚ y) (inv-pos y h)) k (sym (mul-inv_pos y h))

-- ---- one half

abbrev pub half : ℚ
half = ratio (pos 1) 2

pub half_twice : of_int (pos 2) *ℚ half ≡ 1ℚ
half_twice = ring rat_ring 1 (λ h. lit (pos 2) ⊗ h) (λ h. h ⊗ lit (pos 2)) refl half ∙ div-of_int (pos 1) 2 (omega arith)

pub half_pos : 0ℚ <ℚ half
half_pos = ratio-pos 1 2 (omega arith) (omega arith)

pub half-lt : (x : ℚ) → 0ℚ <ℚ x → x *ℚ half <ℚ x
half-lt x h = linear_lt 2 (λ x h. x ⊗ h) (λ x h. x) (λ x h. x ⊗ h) (λ x h. equal x (lit (pos 2) ⊗ h) (lit (pos 1)) ∷ []) refl x half (mul-pos_ℚ x half h half_pos) half_twice

-- x is at most y, where it is at most y and any positive number
pub le_of_bounds : (x y : ℚ) → ((q : ℚ) → 0ℚ <ℚ q → x ≤ℚ y +ℚ q) → x ≤ℚ y
le_of_bounds x y h = elim (≤ℚ_or_gt x y) as (λ _. x ≤ℚ y) [
  | inl l ↦ l
  | inr l ↦
      let d : 0ℚ <ℚ x -ℚ y = sub-pos y x l in
      absurd (clash_ℚ ((x -ℚ y) *ℚ half) (x -ℚ y) (half-lt (x -ℚ y) d)
      (linear 3 (λ x y h. x ⊕ ⊖ y) (λ x y h. (x ⊕ ⊖ y) ⊗ h) (λ x y h. known x (y ⊕ (x ⊕ ⊖ y) ⊗ h) ∷ []) refl x y half (h ((x -ℚ y) *ℚ half) (mul-pos_ℚ (x -ℚ y) half d half_pos))))
]
