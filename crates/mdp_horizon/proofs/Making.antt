-- What a choice in whole numbers is, in exact ones: its scale, its weights and its start.
use Rattle.std.proofs.Common.{◌≡◌, ◌∙◌, ℕ, ◌*◌, ◌/◌, ◌<◌, ◌^◌, List, [], ◌∷◌, Option, Some, None, unwrap_or, refl, sym, ap, subst, arith}
use Rattle.std.proofs.{Common.{ℤ, pos, ◌*ℤ◌, int_div, unsigned_abs}, Math.Nat.{dvd-mul_left, dvd-mul_right, mul-div_cancel', div-mul_cancel, one-le-mul}}
use Rattle.std.proofs.lemmas.Nat.Gcd.{dvd_refl, dvd_trans}
use Rattle.std.specs.Int.{◌∣◌}
use Rattle.mdp_math.specs.{Gcd.{gcd, gcd_is}, Rational.{ℚ, of_int, ◌*ℚ◌, quotient-pos}, Written.{narrow, ◌>>=◌}}
use Rattle.mdp_math.proofs.{IntegerRing.{int_ring}, Laws.{of_int-*ℤ, same_is, is_of_int, is_mul, is_self, den-pos, rat_ring}, Options.{Some_same, step_told}}
use Rattle.mdp_math.proofs.{Ring.{◌⊗◌, lit, ring}, Written.{narrow-some}}
use Rattle.mdp_spec.specs.Mdp.{Entry}
use Rattle.mdp_horizon.specs.{declared.choice.Scale.{Scale}, Scaled.{common_with, common_in, no_scale, scaled_start, scale_in, scale_of}}

-- each denominator of the row divides c
abbrev pub AllDivide : ℕ → List Entry → Type 0
AllDivide c [] = Unit {0}
AllDivide c (x ∷ row) = (x.prob.den ∣ c) × AllDivide c row

multiple_is : (b d : ℕ) → b * (d / gcd b d) ≡ b / gcd b d * d
multiple_is b d =
    let g = gcd_is b d in
    let p = ap (λ k. k * (d / gcd b d)) (div-mul_cancel (gcd b d) g.0) in
    let q = ap (λ k. (b / gcd b d) * k) (mul-div_cancel' (gcd b d) g.1) in
    omega (arith, p, q)

beyond-right : (b d : ℕ) → d ∣ b * (d / gcd b d)
beyond-right b d = subst (λ (k : ℕ). d ∣ k) (sym (multiple_is b d)) (dvd-mul_left d (b / gcd b d))

beyond-pos : (b d : ℕ) → 0 < b → 0 < d → 0 < b * (d / gcd b d)
beyond-pos b d p q = one-le-mul p (quotient-pos d (gcd b d) q (gcd_is b d).1)

-- a common multiple of b and the row's denominators
pub record IsCommon (b : ℕ) (row : List Entry) (c : ℤ) : Type 0 where
  pub common : ℕ
  pub is : c ≡ pos common
  pub above : 0 < common
  pub first : b ∣ common
  pub all : AllDivide common row

pub common_in-is : (b : ℕ) (row : List Entry) (c : ℤ) → 0 < b → common_in (pos b) row ≡ Some c → IsCommon b row c
common_in-is b [] c h e = record { common = b; is = sym (Some_same _ _ e); above = h; first = dvd_refl b; all = tt }
common_in-is b (x ∷ row) c h e =
    let d : ℕ = x.prob.den in
    let m : ℕ = b * (d / gcd b d) in
    let p = step_told (common_with (pos b) x.prob) (λ k. common_in k row) c (sym e) in
    let w : p.0 ≡ pos m = (narrow-some (pos m) p.0 p.1).0 in
    let rest : IsCommon m row c = common_in-is m row c (beyond-pos b d h (den-pos x.prob)) (sym (p.2 ∙ ap (λ k. common_in k row) w)) in
    record {
      common = rest.common;
      is = rest.is;
      above = rest.above;
      first = dvd_trans b (dvd-mul_right b (d / gcd b d)) rest.first;
      all = (dvd_trans d (beyond-right b d) rest.first, rest.all);
    }

-- ---- weights

pub weight-is : (p : ℚ) (c : ℕ) → p.den ∣ c → of_int (p.num *ℤ int_div (pos c) (pos p.den)) ≡ of_int (pos c) *ℚ p
weight-is p c h =
    let q : ℕ = c / p.den in
    let k : pos p.den *ℤ pos q ≡ pos c = ap pos (mul-div_cancel' p.den h) in
    same_is (of_int (p.num *ℤ pos q)) (of_int (pos c) *ℚ p) _ _ _ _ (is_of_int (p.num *ℤ pos q)) (is_mul _ _ _ _ _ _ (is_of_int (pos c)) (is_self p))
    (ring int_ring 3 (λ n q d. (n ⊗ q) ⊗ (lit (pos 1) ⊗ d)) (λ n q d. ((d ⊗ q) ⊗ n) ⊗ lit (pos 1)) refl p.num (pos q) (pos p.den)
    ∙ ap (λ (z : ℤ). (z *ℤ p.num) *ℤ pos 1) k)

pub num-is : (p : ℚ) → of_int p.num ≡ of_int (pos p.den) *ℚ p
num-is p =
    same_is (of_int p.num) (of_int (pos p.den) *ℚ p) _ _ _ _ (is_of_int p.num) (is_mul _ _ _ _ _ _ (is_of_int (pos p.den)) (is_self p))
    (ring int_ring 2 (λ n d. n ⊗ (lit (pos 1) ⊗ d)) (λ n d. (d ⊗ n) ⊗ lit (pos 1)) refl p.num (pos p.den))

-- ---- the scale

pub record IsScale (one : ℕ) (start : ℚ) (row : List Entry) (sc : Scale) : Type 0 where
  pub common : ℕ
  pub is : sc.common ≡ pos common
  pub above : 0 < common
  pub all : AllDivide common row
  pub begins : of_int sc.start ≡ of_int (pos common) *ℚ (of_int (pos one) *ℚ start)

pub scale_in-is : (one : ℕ) (start : ℚ) (row : List Entry) (sc : Scale) → scale_in (pos one) start row ≡ Some sc → IsScale one start row sc
scale_in-is one start row sc e =
    let a = step_told (common_in (pos start.den) row)
    (λ common. scaled_start (pos one) start common >>= (λ whole. let o : Option Scale = Some (record { common = common; start = whole }) in o)) sc (sym e) in
    let c : IsCommon start.den row a.0 = common_in-is start.den row a.0 (den-pos start) (sym a.1) in
    let f = step_told (scaled_start (pos one) start a.0) (λ whole. let o : Option Scale = Some (record { common = a.0; start = whole }) in o) sc a.2 in
    let b = step_told (narrow (start.num *ℤ int_div a.0 (pos start.den))) (λ part. narrow (part *ℤ pos one)) f.0 f.1 in
    let part : b.0 ≡ start.num *ℤ int_div (pos c.common) (pos start.den) = (narrow-some _ b.0 b.1).0 ∙ ap (λ (k : ℤ). start.num *ℤ int_div k (pos start.den)) c.is in
    let whole : f.0 ≡ b.0 *ℤ pos one = (narrow-some _ f.0 b.2).0 in
    let same : sc ≡ record { common = a.0; start = f.0 } = Some_same _ _ f.2 in
    record {
      common = c.common;
      is = ap Scale.common same ∙ c.is;
      above = c.above;
      all = c.all;
      begins =
          ap (λ (s : Scale). of_int s.start) same
          ∙ ap of_int whole
          ∙ of_int-*ℤ b.0 (pos one)
          ∙ ap (λ (x : ℚ). x *ℚ of_int (pos one)) (ap of_int part ∙ weight-is start c.common c.first)
          ∙ ring rat_ring 3 (λ c s o. (c ⊗ s) ⊗ o) (λ c s o. c ⊗ (o ⊗ s)) refl (of_int (pos c.common)) start (of_int (pos one));
    }

-- ---- a scale is in width

pub start-narrow : (one : ℤ) (start : ℚ) (row : List Entry) → unsigned_abs (Scale.start (scale_of one start row)) < 2 ^ 127
start-narrow one start row = by_case (scale_in one start row) refl
  where
    by_case : (o : Option Scale) → scale_in one start row ≡ o → unsigned_abs (Scale.start (unwrap_or o no_scale)) < 2 ^ 127
    by_case None e = omega arith
    by_case (Some sc) e =
        let a = step_told (common_in (pos start.den) row) (λ common. scaled_start one start common >>= (λ whole. let o : Option Scale = Some (record { common = common; start = whole }) in o)) sc (sym e) in
        let f = step_told (scaled_start one start a.0) (λ whole. let o : Option Scale = Some (record { common = a.0; start = whole }) in o) sc a.2 in
        let b = step_told (narrow (start.num *ℤ int_div a.0 (pos start.den))) (λ part. narrow (part *ℤ one)) f.0 f.1 in
        let w = narrow-some (b.0 *ℤ one) f.0 b.2 in
        subst (λ (x : ℤ). unsigned_abs x < 2 ^ 127) (sym (ap Scale.start (Some_same _ _ f.2) ∙ w.0)) w.1
