-- The order of fractions of natural numbers, by whole parts and the reciprocals of the rests.
use Rattle.std.proofs.Common.{◌≡◌, ◌≢◌, ℕ, suc, ◌+◌, ◌*◌, ◌/◌, ◌%◌, ◌<◌, ◌≤◌, ◌⊎◌, inl, inr, ⊎_elim, sym, ◌∙◌, ap, ap₂, arith, mul-pos, mul-zero, mod-lt}
use Rattle.std.proofs.{Common.{true, false, Less, Greater, nat_cmp, ℤ, pos, negsuc, neg_ℤ, ◌*ℤ◌, ◌<ℤ◌, ◌≤ℤ◌, int_cmp, int_lt, unsigned_abs}, lemmas.Int.{ints}}
use native.Mathlib.Nat.{div-add-mod, mul-le-mul_right, mul-lt-mul_of_pos_right}

-- ---- the order of two numbers

cmp-lt : (x y : ℕ) → x < y → nat_cmp x y ≡ Less
cmp-lt x y h = grind arith

cmp-gt : (x y : ℕ) → y < x → nat_cmp x y ≡ Greater
cmp-gt x y h = grind arith

-- numbers that stand to one another as two others do
cmp_same : (x y u v : ℕ) → (x < y → u < v) → (y < x → v < u) → (x ≡ y → u ≡ v) → nat_cmp x y ≡ nat_cmp u v
cmp_same x y u v l g e = by_cases (trichotomy x y)
  where
    trichotomy : (x y : ℕ) → (x < y) ⊎ ((y < x) ⊎ (x ≡ y))
    trichotomy x y = grind arith

    by_cases : (x < y) ⊎ ((y < x) ⊎ (x ≡ y)) → nat_cmp x y ≡ nat_cmp u v
    by_cases (inl h) = cmp-lt x y h ∙ sym (cmp-lt u v (l h))
    by_cases (inr (inl h)) = cmp-gt x y h ∙ sym (cmp-gt u v (g h))
    by_cases (inr (inr h)) = same x y u v h (e h)
      where
        same : (x y u v : ℕ) → x ≡ y → u ≡ v → nat_cmp x y ≡ nat_cmp u v
        same x y u v p q = grind arith

-- ---- whole parts

-- the fraction of the smaller whole part is the smaller one
whole_lt : (a b c d p q r s : ℕ) → b * p + r ≡ a → d * q + s ≡ c → r < b → 0 < d → p < q → a * d < c * b
whole_lt a b c d p q r s ea ec h k l =
    let above : a < b * suc p = omega (arith, ea) in
    let scaled : a * d < (b * suc p) * d = mul-lt-mul_of_pos_right above k in
    let more : suc p * (b * d) ≤ q * (b * d) = mul-le-mul_right (b * d) (omega arith) in
    let rest : q * (b * d) ≤ c * b = omega (arith, ap (λ (n : ℕ). n * b) ec) in
    omega arith

unlike : (x y : ℕ) → x ≢ y → (x < y) ⊎ (y < x)
unlike x y h = grind arith

pub whole_cmp : (a b c d : ℕ) → 0 < b → 0 < d → a / b ≢ c / d → nat_cmp (a / b) (c / d) ≡ nat_cmp (a * d) (c * b)
whole_cmp a b c d h k n = ⊎_elim
    (λ l. cmp-lt (a / b) (c / d) l ∙ sym (cmp-lt (a * d) (c * b) (whole_lt a b c d (a / b) (c / d) (a % b) (c % d) (div-add-mod a b) (div-add-mod c d) (mod-lt a h) k l)))
    (λ l. cmp-gt (a / b) (c / d) l ∙ sym (cmp-gt (a * d) (c * b) (whole_lt c d a b (c / d) (a / b) (c % d) (a % b) (div-add-mod c d) (div-add-mod a b) (mod-lt c k) h l)))
    (unlike (a / b) (c / d) n)

-- ---- rests

cmp_add : (t x y : ℕ) → nat_cmp (t + x) (t + y) ≡ nat_cmp x y
cmp_add t x y = cmp_same (t + x) (t + y) x y (λ h. omega arith) (λ h. omega arith) (λ h. omega arith)

pub rest_cmp : (a b c d : ℕ) → a / b ≡ c / d → nat_cmp (a * d) (c * b) ≡ nat_cmp (d * (a % b)) (b * (c % d))
rest_cmp a b c d e =
    let q : ℕ = a / b in
    let left : a * d ≡ a / b * (b * d) + d * (a % b) = omega (arith, ap (λ (n : ℕ). n * d) (div-add-mod a b)) in
    let same : c / d * (b * d) ≡ a / b * (b * d) = ap (λ (n : ℕ). n * (b * d)) (sym e) in
    let right : c * b ≡ a / b * (b * d) + b * (c % d) = omega (arith, ap (λ (n : ℕ). n * b) (div-add-mod c d), same) in
    ap₂ nat_cmp left right ∙ cmp_add (a / b * (b * d)) (d * (a % b)) (b * (c % d))

times_cmp : (b d r s : ℕ) → 0 < b → 0 < d → (r ≡ 0) ⊎ (s ≡ 0) → nat_cmp r s ≡ nat_cmp (d * r) (b * s)
times_cmp b d r s h k z = cmp_same r s (d * r) (b * s) (λ l. less l z) (λ l. more l z) (λ e. none e z)
  where
    zero_at : (n m : ℕ) → m ≡ 0 → n * m ≡ 0
    zero_at n m e = ap (λ (x : ℕ). n * x) e ∙ mul-zero n

    less : r < s → (r ≡ 0) ⊎ (s ≡ 0) → d * r < b * s
    less l (inl e) = let p : 0 < b * s = mul-pos h (omega arith) in omega (arith, zero_at d r e)
    less l (inr e) = absurd (omega arith)

    more : s < r → (r ≡ 0) ⊎ (s ≡ 0) → b * s < d * r
    more l (inl e) = absurd (omega arith)
    more l (inr e) = let p : 0 < d * r = mul-pos k (omega arith) in omega (arith, zero_at b s e)

    none : r ≡ s → (r ≡ 0) ⊎ (s ≡ 0) → d * r ≡ b * s
    none e (inl f) = let g : s ≡ 0 = omega arith in omega (arith, zero_at d r f, zero_at b s g)
    none e (inr f) = let g : r ≡ 0 = omega arith in omega (arith, zero_at d r g, zero_at b s f)

-- ---- the walk

-- n/m stands to k/l as a/b to c/d
pub record IsOrderOf (a b c d n m k l : ℕ) : Type 0 where
  pub some : 0 < m
  pub other_some : 0 < l
  pub same : nat_cmp (n * l) (k * m) ≡ nat_cmp (a * d) (c * b)

module _ (a b c d n m k l : ℕ) (i : IsOrderOf a b c d n m k l) where
  pub order_whole : n / m ≢ k / l → nat_cmp (n / m) (k / l) ≡ nat_cmp (a * d) (c * b)
  order_whole h = whole_cmp n m k l i.some i.other_some h ∙ i.same

  pub order_end : n / m ≡ k / l → (n % m ≡ 0) ⊎ (k % l ≡ 0) → nat_cmp (n % m) (k % l) ≡ nat_cmp (a * d) (c * b)
  order_end e z = times_cmp m l (n % m) (k % l) i.some i.other_some z ∙ sym (rest_cmp n m k l e) ∙ i.same

  pub order_step : n / m ≡ k / l → 0 < n % m → 0 < k % l → IsOrderOf a b c d l (k % l) m (n % m)
  order_step e p q = record { some = q; other_some = p; same = sym (rest_cmp n m k l e) ∙ i.same }

  pub order_falls : k % l + n % m < m + l
  order_falls = omega (arith, mod-lt n i.some, mod-lt k i.other_some)

-- ---- signs

negated : (m n : ℕ) → int_cmp (neg_ℤ (pos m)) (neg_ℤ (pos n)) ≡ nat_cmp n m
negated m n = grind (arith, ints)

kept : (m n : ℕ) → int_cmp (pos m) (pos n) ≡ nat_cmp m n
kept m n = grind (arith, ints)

pub cmp_magnitudes : (x y : ℤ) (b d : ℕ) → pos 0 ≤ℤ x → pos 0 ≤ℤ y → nat_cmp (unsigned_abs x * d) (unsigned_abs y * b) ≡ int_cmp (x *ℤ pos d) (y *ℤ pos b)
cmp_magnitudes (pos m) (pos n) b d h k = sym (kept (m * d) (n * b))
cmp_magnitudes (negsuc m) y b d h k = absurd h.le
cmp_magnitudes (pos m) (negsuc n) b d h k = absurd k.le

pub cmp_negated : (x y : ℤ) (b d : ℕ) → x <ℤ pos 0 → y <ℤ pos 0 → nat_cmp (unsigned_abs y * b) (unsigned_abs x * d) ≡ int_cmp (x *ℤ pos d) (y *ℤ pos b)
cmp_negated (negsuc m) (negsuc n) b d h k = sym (negated (suc m * d) (suc n * b))
cmp_negated (pos m) y b d h k = absurd (omega (arith, ints))
cmp_negated (negsuc m) (pos n) b d h k = absurd (omega (arith, ints))

pub cmp_across_zero : (x y : ℤ) (b d : ℕ) → 0 < d → x <ℤ pos 0 → pos 0 ≤ℤ y → Less ≡ int_cmp (x *ℤ pos d) (y *ℤ pos b)
cmp_across_zero (negsuc m) (pos n) b d p h k = let q : 0 < suc m * d = mul-pos (omega arith) p in grind (arith, ints)
cmp_across_zero (pos m) y b d p h k = absurd (omega (arith, ints))
cmp_across_zero (negsuc m) (negsuc n) b d p h k = absurd k.le

pub cmp_zero_across : (x y : ℤ) (b d : ℕ) → 0 < b → pos 0 ≤ℤ x → y <ℤ pos 0 → Greater ≡ int_cmp (x *ℤ pos d) (y *ℤ pos b)
cmp_zero_across (pos m) (negsuc n) b d p h k = let q : 0 < suc n * b = mul-pos (omega arith) p in grind (arith, ints)
cmp_zero_across (negsuc m) y b d p h k = absurd h.le
cmp_zero_across (pos m) (pos n) b d p h k = absurd (omega (arith, ints))

pub is_below_zero : (z x : ℤ) → z ≡ x → int_lt z (pos 0) ≡ true → x <ℤ pos 0
is_below_zero z x e h = grind (arith, ints)

pub is_from_zero : (z x : ℤ) → z ≡ x → int_lt z (pos 0) ≡ false → pos 0 ≤ℤ x
is_from_zero z x e h = grind (arith, ints)
