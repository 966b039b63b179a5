-- Sums over shared denominators, as code computes them with numerators of 64 bits.
use Rattle.std.proofs.Common.{◌≡◌, ℕ, ◌+◌, ◌*◌, ◌<◌, ◌≤◌, ◌^◌, sym, ◌∙◌, refl, ap, ap₂, subst, ℤ, pos, ◌+ℤ◌, ◌*ℤ◌, unsigned_abs, to_z, of_z, to_z-of_z, mul-pos, Some, Option, List, length, drop, get_or}
use Rattle.std.proofs.{lemmas.Int.{fits_signed_from_abs}, lemmas.List.{drop_more, drop_all}}
use lib.Signed.{mag}
use mir.Syntax.{w128}
use Rattle.mdp_math.specs.{Rational.{ℚ, ratio}, Written.{narrow, written_add, written_mul, ◌>>=◌}}
use Rattle.mdp_math.proofs.{IntegerRing.{int_ring}, Laws.{is_ratio, same_is}, Ring.{◌⊗◌, ring₃}, Shared.{written_add-ratios, written_mul-ratios}}
use Rattle.mdp_math.proofs.Written.{narrow-some}
use Rattle.mdp_spec.specs.{Mdp.{value_at}, Row.{entries}, Written.{written_sum}}
use Rattle.mdp_num.proofs.Values.{narrow-bits, result-bits}

-- a product in width of numbers that were read at 128 bits
pub product-read : (a b r s n : ℤ) → mag r < 2 ^ 127 → r ≡ a → mag s < 2 ^ 127 → s ≡ b → Some n ≡ narrow (to_z w128 (of_z w128 r) *ℤ to_z w128 (of_z w128 s))
    → (to_z w128 (of_z w128 n) ≡ a *ℤ b) × (unsigned_abs (a *ℤ b) < 2 ^ 127)
product-read a b r s n h e k f p =
    let q = narrow-some _ n p in
    let m : to_z w128 (of_z w128 r) *ℤ to_z w128 (of_z w128 s) ≡ a *ℤ b = ap₂ ◌*ℤ◌ (result-bits r h ∙ e) (result-bits s k ∙ f) in
    (narrow-bits _ n p ∙ q.0 ∙ m, subst (λ (z : ℤ). unsigned_abs z < 2 ^ 127) m q.1)

-- the same number over a product of denominators
pub ratio-times : (a : ℤ) (d e : ℕ) → 0 < d → 0 < e → ratio a e ≡ ratio (a *ℤ pos d) (d * e)
ratio-times a d e p q =
    same_is (ratio a e) (ratio (a *ℤ pos d) (d * e)) a (a *ℤ pos d) e (d * e) (is_ratio a e q) (is_ratio (a *ℤ pos d) (d * e) (mul-pos p q))
    (ring₃ int_ring (λ a d e. a ⊗ (d ⊗ e)) (λ a d e. (a ⊗ d) ⊗ e) refl a (pos d) (pos e))

pub value-read : (v : ℚ) (a n : ℤ) (d e : ℕ) → 0 < d → 0 < e → v ≡ ratio a e → n ≡ a *ℤ pos d → v ≡ ratio n (d * e)
value-read v a n d e p q f g = f ∙ ratio-times a d e p q ∙ ap (λ (z : ℤ). ratio z (d * e)) (sym g)

pub term-read : (p v : ℚ) (a b n : ℤ) (d e : ℕ) → 0 < d → 0 < e → d * e < 2 ^ 127 → p ≡ ratio a d → v ≡ ratio b e → (n ≡ a *ℤ b) × (unsigned_abs (a *ℤ b) < 2 ^ 127)
    → written_mul p v ≡ Some (ratio n (d * e))
term-read p v a b n d e h k w f g r =
    ap₂ written_mul f g ∙ written_mul-ratios a b d e h k r.1 w ∙ ap (λ (z : ℤ). Some (ratio z (d * e))) (sym r.0)

pub sum-read : (a b n : ℤ) (l : ℕ) → 0 < l → l < 2 ^ 127 → unsigned_abs a < 2 ^ 127 → unsigned_abs b < 2 ^ 127 → Some n ≡ narrow (a +ℤ to_z w128 (of_z w128 b))
    → (written_add (ratio a l) (ratio b l) ≡ Some (ratio (to_z w128 (of_z w128 n)) l)) × (unsigned_abs (to_z w128 (of_z w128 n)) < 2 ^ 127)
sum-read a b n l h k p q e =
    let f : to_z w128 (of_z w128 b) ≡ b = to_z-of_z (fits_signed_from_abs w128 b q) in
    let g : Some n ≡ narrow (a +ℤ b) = e ∙ ap (λ (z : ℤ). narrow (a +ℤ z)) f in
    let r = narrow-some (a +ℤ b) n g in
    let m : to_z w128 (of_z w128 n) ≡ a +ℤ b = narrow-bits _ n g ∙ r.0 in
    (written_add-ratios a b l h p q r.1 k ∙ ap (λ (z : ℤ). Some (ratio z l)) (sym m), subst (λ (z : ℤ). unsigned_abs z < 2 ^ 127) (sym m) r.1)

-- the written sum of a row begins with its next entry
pub written_sum-next : (z : List ℚ) (ts : List ℕ) (ps : List ℚ) (i : ℕ) (p v acc : ℚ) → i < length ts → length ts ≡ length ps → v ≡ value_at z (get_or ts i 0)
    → written_sum z acc (entries (drop i ts) (drop i ps))
    ≡ (written_mul (get_or ps i p) v >>= λ t. written_add acc t >>= λ s. written_sum z s (entries (drop (i + 1) ts) (drop (i + 1) ps)))
written_sum-next z ts ps i p v acc h e f =
    let row = entries (drop (i + 1) ts) (drop (i + 1) ps) in
    ap₂ (λ (us : List ℕ) (qs : List ℚ). written_sum z acc (entries us qs)) (drop_more ts i 0 h) (drop_more ps i p (subst (λ (n : ℕ). i < n) e h))
    ∙ ap (λ (x : ℚ). written_mul (get_or ps i p) x >>= λ t. written_add acc t >>= λ s. written_sum z s row) (sym f)

pub written_sum-step : (z : List ℚ) (ts : List ℕ) (ps : List ℚ) (i : ℕ) (p v acc term next : ℚ) → i < length ts → length ts ≡ length ps
    → v ≡ value_at z (get_or ts i 0) → written_mul (get_or ps i p) v ≡ Some term → written_add acc term ≡ Some next
    → written_sum z acc (entries (drop i ts) (drop i ps)) ≡ written_sum z next (entries (drop (i + 1) ts) (drop (i + 1) ps))
written_sum-step z ts ps i p v acc term next h e f m a =
    let row = entries (drop (i + 1) ts) (drop (i + 1) ps) in
    written_sum-next z ts ps i p v acc h e f
    ∙ ap (λ (o : Option ℚ). o >>= λ t. written_add acc t >>= λ s. written_sum z s row) m
    ∙ ap (λ (o : Option ℚ). o >>= λ s. written_sum z s row) a

pub written_sum-end : (z : List ℚ) (ts : List ℕ) (ps : List ℚ) (i : ℕ) (acc : ℚ) → length ts ≤ i → written_sum z acc (entries (drop i ts) (drop i ps)) ≡ Some acc
written_sum-end z ts ps i acc h = ap (λ (us : List ℕ). written_sum z acc (entries us (drop i ps))) (drop_all i ts h)

-- a denominator that is read at 128 bits
pub product-is : (n : ℤ) (l : ℕ) → n ≡ pos l → l < 2 ^ 127 → to_z w128 (of_z w128 n) ≡ pos l
product-is n l e h = rw e (to_z-of_z (fits_signed_from_abs w128 (pos l) h))
