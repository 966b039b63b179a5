-- The laws of powers of a fraction, and how fast the powers of a fraction below 1 fall.
use Rattle.std.proofs.Common.{◌≡◌, ℕ, zero, suc, ◌+◌, ◌*◌, ◌-◌, ◌<◌, ◌≤◌, refl, sym, ◌∙◌, ap, subst, arith, ℤ, pos, negsuc, ◌*ℤ◌, ◌≤ℤ◌, ◌<ℤ◌, [], ◌∷◌}
use Rattle.std.proofs.lemmas.Int.{ints}
use Rattle.mdp_math.specs.{Rational.{ℚ, of_int, ratio, ◌+ℚ◌, ◌*ℚ◌, ◌-ℚ◌, ◌≤ℚ◌, ◌<ℚ◌}, Power.{pow_ℚ}}
use Rattle.mdp_math.proofs.{Ring.{◌⊕◌, ◌⊗◌, ⊖, lit, ring}, Laws.{rat_ring, den-pos, is_self, is_ratio, of_int-*ℤ, one-*ℚ, *ℚ_assoc}}
use Rattle.mdp_math.proofs.Whole.{one-pos, of_nat-suc, of_nat-nonneg}
use Rattle.mdp_math.proofs.Order.{0ℚ, 1ℚ, ≤ℚ_refl, ≤ℚ_trans, ≤ℚ_of_lt, ≤ℚ_of_eq, mul-nonneg, mul-pos_ℚ, sub-nonneg, sub-pos, of_int-le, le_of_is, positive, ratio-nonneg, div-of_int}
use Rattle.mdp_math.proofs.Linear.{linear, equal, at_most, known}

pub pow_ℚ-suc : (x : ℚ) (n : ℕ) → pow_ℚ x (suc n) ≡ x *ℚ pow_ℚ x n
pow_ℚ-suc x n = refl

pub pow_ℚ-add : (x : ℚ) (m n : ℕ) → pow_ℚ x (m + n) ≡ pow_ℚ x m *ℚ pow_ℚ x n
pow_ℚ-add x zero n = let e : 0 + n ≡ n = omega arith in ap (pow_ℚ x) e ∙ sym (one-*ℚ (pow_ℚ x n))
pow_ℚ-add x (suc m) n =
    let e : suc m + n ≡ suc (m + n) = omega arith in
    ap (pow_ℚ x) e ∙ ap (λ (y : ℚ). x *ℚ y) (pow_ℚ-add x m n) ∙ sym (*ℚ_assoc x (pow_ℚ x m) (pow_ℚ x n))

pub pow_ℚ-one : (x : ℚ) → pow_ℚ x 1 ≡ x
pow_ℚ-one = ring rat_ring 1 (λ x. x ⊗ lit (pos 1)) (λ x. x) refl

-- ---- order

pub pow_ℚ-nonneg : (x : ℚ) (n : ℕ) → 0ℚ ≤ℚ x → 0ℚ ≤ℚ pow_ℚ x n
pow_ℚ-nonneg x zero h = of_int-le (pos 0) (pos 1) (omega (arith, ints))
pow_ℚ-nonneg x (suc n) h = mul-nonneg x (pow_ℚ x n) h (pow_ℚ-nonneg x n h)

pub pow_ℚ-pos : (x : ℚ) (n : ℕ) → 0ℚ <ℚ x → 0ℚ <ℚ pow_ℚ x n
pow_ℚ-pos x zero h = one-pos
pow_ℚ-pos x (suc n) h = mul-pos_ℚ x (pow_ℚ x n) h (pow_ℚ-pos x n h)

pub pow_ℚ-le_one : (x : ℚ) (n : ℕ) → 0ℚ ≤ℚ x → x ≤ℚ 1ℚ → pow_ℚ x n ≤ℚ 1ℚ
pow_ℚ-le_one x zero h k = ≤ℚ_refl 1ℚ
pow_ℚ-le_one x (suc n) h k =
    linear 2 (λ x p. x ⊗ p) (λ x p. lit (pos 1)) (λ x p. at_most x p (lit (pos 1)) ∷ known x (lit (pos 1)) ∷ []) refl x (pow_ℚ x n) h (pow_ℚ-le_one x n h k) k

-- a greater exponent, no greater power
pub pow_ℚ-antitone : (x : ℚ) (m n : ℕ) → 0ℚ ≤ℚ x → x ≤ℚ 1ℚ → m ≤ n → pow_ℚ x n ≤ℚ pow_ℚ x m
pow_ℚ-antitone x m n h k l =
    let e : n ≡ m + (n - m) = omega arith in
    linear 3 (λ p q r. r) (λ p q r. p) (λ p q r. equal (lit (pos 1)) r (p ⊗ q) ∷ at_most p q (lit (pos 1)) ∷ []) refl (pow_ℚ x m) (pow_ℚ x (n - m)) (pow_ℚ x n)
    (ap (pow_ℚ x) e ∙ pow_ℚ-add x m (n - m)) (pow_ℚ-nonneg x m h) (pow_ℚ-le_one x (n - m) h k)

-- ---- Bernoulli's bound

pub bernoulli : (e : ℚ) (n : ℕ) → 0ℚ ≤ℚ e → e ≤ℚ 1ℚ → pow_ℚ (1ℚ -ℚ e) n *ℚ (1ℚ +ℚ of_int (pos n) *ℚ e) ≤ℚ 1ℚ
bernoulli e zero h k = ≤ℚ_of_eq _ _ (ring rat_ring 1 (λ e. lit (pos 1) ⊗ (lit (pos 1) ⊕ lit (pos 0) ⊗ e)) (λ e. lit (pos 1)) refl e)
bernoulli e (suc n) h k =
    let p : ℚ = pow_ℚ (1ℚ -ℚ e) n in
    let c : ℚ = of_int (pos n) in
    linear 4 (λ p e c d. ((lit (pos 1) ⊕ ⊖ e) ⊗ p) ⊗ (lit (pos 1) ⊕ d ⊗ e)) (λ p e c d. lit (pos 1))
    (λ p e c d. equal (((lit (pos 1) ⊕ ⊖ e) ⊗ p) ⊗ e) d (c ⊕ lit (pos 1)) ∷ known (p ⊗ (lit (pos 1) ⊕ c ⊗ e)) (lit (pos 1)) ∷ at_most (p ⊗ (e ⊗ e)) (lit (pos 0)) (c ⊕ lit (pos 1)) ∷ []) refl
    p e c (of_int (pos (suc n)))
    (of_nat-suc n)
    (bernoulli e n h k)
    (mul-nonneg p (e *ℚ e) (pow_ℚ-nonneg (1ℚ -ℚ e) n (sub-nonneg e 1ℚ k)) (mul-nonneg e e h h))
    (subst (λ (u : ℚ). 0ℚ ≤ℚ u) (of_nat-suc n) (of_nat-nonneg (suc n)))

-- ---- powers of a fraction below 1 come below each positive bound

-- 1/d, for a positive fraction with the denominator d
unit_terms : (n : ℤ) (d : ℕ) → pos 0 <ℤ n → (pos 1 *ℤ pos d) ≤ℤ (n *ℤ pos d)
unit_terms (pos zero) d h = omega (arith, ints)
unit_terms (pos (suc n)) d h = omega (arith, ints)
unit_terms (negsuc n) d h = absurd h.lt

pub unit_fraction-le : (x : ℚ) → 0ℚ <ℚ x → ratio (pos 1) x.den ≤ℚ x
unit_fraction-le x h = le_of_is _ _ (pos 1) x.num x.den x.den (is_ratio (pos 1) x.den (den-pos x)) (is_self x) (unit_terms x.num x.den (positive x h))

-- from n = k b on, at e of at least 1/b, a power of 1 - e is at most 1/k
at_least_k : (e : ℚ) (b k : ℕ) → 0 < b → ratio (pos 1) b ≤ℚ e → of_int (pos k) ≤ℚ of_int (pos (k * b)) *ℚ e
at_least_k e b k hb le =
    linear 5 (λ u e b k n. k) (λ u e b k n. n ⊗ e)
    (λ u e b k n. equal k (lit (pos 1)) (u ⊗ b) ∷ equal u (k ⊗ b) n ∷ at_most n u e ∷ []) refl
    (ratio (pos 1) b) e (of_int (pos b)) (of_int (pos k)) (of_int (pos (k * b)))
    (sym (div-of_int (pos 1) b hb)) (sym (of_int-*ℤ (pos k) (pos b))) (of_nat-nonneg (k * b)) le

small_at : (e : ℚ) (b k : ℕ) → 0 < b → 0 < k → ratio (pos 1) b ≤ℚ e → e ≤ℚ 1ℚ → pow_ℚ (1ℚ -ℚ e) (k * b) ≤ℚ ratio (pos 1) k
small_at e b k hb hk le he =
    let h : 0ℚ ≤ℚ e = ≤ℚ_trans 0ℚ (ratio (pos 1) b) e (ratio-nonneg 1 b hb) le in
    let p : ℚ = pow_ℚ (1ℚ -ℚ e) (k * b) in
    let hp : 0ℚ ≤ℚ pow_ℚ (1ℚ -ℚ e) (k * b) = pow_ℚ-nonneg (1ℚ -ℚ e) (k * b) (sub-nonneg e 1ℚ he) in
    linear 5 (λ p u k n e. p) (λ p u k n e. u)
    (λ p u k n e. equal p (lit (pos 1)) (u ⊗ k) ∷ at_most (u ⊗ p) k (n ⊗ e) ∷ at_most (u ⊗ p) (lit (pos 0)) (lit (pos 1)) ∷ at_most u (p ⊗ (lit (pos 1) ⊕ n ⊗ e)) (lit (pos 1)) ∷ []) refl
    p (ratio (pos 1) k) (of_int (pos k)) (of_int (pos (k * b))) e
    (sym (div-of_int (pos 1) k hk))
    (mul-nonneg _ _ (ratio-nonneg 1 k hk) hp) (at_least_k e b k hb le)
    (mul-nonneg _ _ (ratio-nonneg 1 k hk) hp) (≤ℚ_of_lt 0ℚ 1ℚ one-pos)
    (ratio-nonneg 1 k hk) (bernoulli e (k * b) h he)

pub pow_ℚ-small : (e : ℚ) (b k n : ℕ) → 0 < b → 0 < k → ratio (pos 1) b ≤ℚ e → e ≤ℚ 1ℚ → k * b ≤ n → pow_ℚ (1ℚ -ℚ e) n ≤ℚ ratio (pos 1) k
pow_ℚ-small e b k n hb hk le he hn =
    let h : 0ℚ ≤ℚ e = ≤ℚ_trans 0ℚ (ratio (pos 1) b) e (ratio-nonneg 1 b hb) le in
    ≤ℚ_trans _ _ _ (pow_ℚ-antitone (1ℚ -ℚ e) (k * b) n (sub-nonneg e 1ℚ he)
    (linear 1 (λ e. lit (pos 1) ⊕ ⊖ e) (λ e. lit (pos 1)) (λ e. known (lit (pos 0)) e ∷ []) refl e h) hn) (small_at e b k hb hk le he)

-- from some exponent on, the powers of a fraction below 1 are at most 1/k
pub pow_ℚ-fades : (x : ℚ) (k : ℕ) → 0ℚ ≤ℚ x → x <ℚ 1ℚ → 0 < k → (n : ℕ) × ((m : ℕ) → n ≤ m → pow_ℚ x m ≤ℚ ratio (pos 1) k)
pow_ℚ-fades x k h l hk =
    let e : ℚ = 1ℚ -ℚ x in
    let he : e ≤ℚ 1ℚ = linear 1 (λ x. lit (pos 1) ⊕ ⊖ x) (λ x. lit (pos 1)) (λ x. known (lit (pos 0)) x ∷ []) refl x h in
    let back : 1ℚ -ℚ (1ℚ -ℚ x) ≡ x = ring rat_ring 1 (λ x. lit (pos 1) ⊕ ⊖ (lit (pos 1) ⊕ ⊖ x)) (λ x. x) refl x in (
      k * e.den,
      λ m hm. subst (λ (y : ℚ). pow_ℚ y m ≤ℚ ratio (pos 1) k) back
          (pow_ℚ-small (1ℚ -ℚ x) (ℚ.den (1ℚ -ℚ x)) k m (den-pos (1ℚ -ℚ x)) hk (unit_fraction-le (1ℚ -ℚ x) (sub-pos x 1ℚ l)) he hm),
    )

-- and at most any positive bound
pub pow_ℚ-below : (x q : ℚ) → 0ℚ ≤ℚ x → x <ℚ 1ℚ → 0ℚ <ℚ q → (n : ℕ) × ((m : ℕ) → n ≤ m → pow_ℚ x m ≤ℚ q)
pow_ℚ-below x q h l hq =
    let f = pow_ℚ-fades x q.den h l (den-pos q) in
    (f.0, λ m hm. ≤ℚ_trans _ _ q (f.1 m hm) (unit_fraction-le q hq))
