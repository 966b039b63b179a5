-- Where each row's common denominator, times the units that make 1, stays within 127 bits, no row is wide for a bounded until.
use Rattle.std.proofs.Common.{◌≡◌, ◌∙◌, ℕ, ◌+◌, ◌*◌, ◌/◌, ◌<◌, ◌≤◌, ◌^◌, Bool, List, [], ◌∷◌, Option, Some, unwrap_or, refl, sym, ap, subst, arith}
use Rattle.std.proofs.{Common.{ℤ, pos, negsuc, ◌+ℤ◌, ◌*ℤ◌, ◌<ℤ◌, int_div, unsigned_abs}, lemmas.Int.{ints}, Math.Nat.{mul-le-mul_left}}
use Rattle.std.specs.List.{All}
use Rattle.mdp_math.specs.{Rational.{ℚ, of_int, ◌+ℚ◌, ◌*ℚ◌, ◌≤ℚ◌, ◌<ℚ◌}, Sum.{sum_of}, Written.{narrow, ◌>>=◌}}
use Rattle.mdp_math.proofs.{Kernel.{All-head, All-tail}, Laws.{rat_ring, den-pos}, Order.{0ℚ, ≤ℚ_refl, positive}, Ring.{◌⊕◌, ◌⊗◌, lit, ring}, Whole.{of_nat-add}, Written.{narrow-kept}}
use Rattle.mdp_spec.specs.{Mdp.{Entry, Mdp, states_of, row_at}, Row.{IsRow, IsMdp}}
use Rattle.mdp_rows.specs.declared.dir.Dir.{Dir}
use Rattle.mdp_horizon.specs.{Objective.Objective.{until}, declared.choice.Scale.{Scale}, declared.choice.Term.{Term}, Whole.{whole_at}}
use Rattle.mdp_horizon.specs.Scaled.{common_in, no_scale, scaled_start, scale_of, term_of, terms_of, total_with, total_of, scaled}
use Rattle.mdp_horizon.specs.{Columns.{cover, follow}, Exact.{HasRoom}, Gap.{NoneIsWide, RowsHaveRoom}}
use Rattle.mdp_horizon.proofs.{Finite.{IsInside, IsThere, inside_each}, Gap.{whole_le}, Making.{AllDivide, weight-is, IsCommon, common_in-is}}

-- ---- the weights of a row make its common denominator

abbrev weight_of : ℕ → Entry → ℕ
weight_of b x = unsigned_abs x.prob.num * (b / x.prob.den)

abbrev weights : ℕ → List Entry → ℕ
weights b [] = 0
weights b (x ∷ row) = weight_of b x + weights b row

times_whole : (n : ℤ) (q : ℕ) → pos 0 <ℤ n → n *ℤ pos q ≡ pos (unsigned_abs n * q)
times_whole (pos k) q h = refl
times_whole (negsuc k) q h = absurd (omega (arith, ints))

weight_same : (b : ℕ) (x : Entry) → 0ℚ <ℚ x.prob → x.prob.num *ℤ int_div (pos b) (pos x.prob.den) ≡ pos (weight_of b x)
weight_same b x h = times_whole x.prob.num (b / x.prob.den) (positive x.prob h)

weights_all : (b : ℕ) (row : List Entry) → AllDivide b row → All (λ x. 0ℚ <ℚ x.prob) row → of_int (pos (weights b row)) ≡ of_int (pos b) *ℚ sum_of (λ x. x.prob) row
weights_all b [] all h = ring rat_ring 1 (λ b. lit (pos 0)) (λ b. b ⊗ lit (pos 0)) refl (of_int (pos b))
weights_all b (x ∷ row) all h =
    of_nat-add (weight_of b x) (weights b row)
    ∙ ap (λ (y : ℚ). y +ℚ of_int (pos (weights b row))) (ap of_int (sym (weight_same b x (All-head (λ x. 0ℚ <ℚ x.prob) x row h))) ∙ weight-is x.prob b all.0)
    ∙ ap (λ (y : ℚ). of_int (pos b) *ℚ x.prob +ℚ y) (weights_all b row all.1 (All-tail (λ x. 0ℚ <ℚ x.prob) x row h))
    ∙ ring rat_ring 3 (λ b p s. b ⊗ p ⊕ b ⊗ s) (λ b p s. b ⊗ (p ⊕ s)) refl (of_int (pos b)) x.prob (sum_of (λ x. x.prob) row)

weights_is : (n b : ℕ) (row : List Entry) → IsRow n row → AllDivide b row → weights b row ≡ b
weights_is n b row known_ all =
    let e : of_int (pos (weights b row)) ≡ of_int (pos b) =
    weights_all b row all known_.distribution.positive
    ∙ ap (λ (y : ℚ). of_int (pos b) *ℚ y) known_.distribution.total
    ∙ ring rat_ring 1 (λ b. b ⊗ lit (pos 1)) (λ b. b) refl (of_int (pos b))
    in
    let up = whole_le (pos (weights b row)) (pos b) (subst (λ (y : ℚ). of_int (pos (weights b row)) ≤ℚ y) e (≤ℚ_refl (of_int (pos (weights b row))))) in
    let down = whole_le (pos b) (pos (weights b row)) (subst (λ (y : ℚ). y ≤ℚ of_int (pos (weights b row))) e (≤ℚ_refl (of_int (pos (weights b row))))) in
    omega (arith, ints, up, down)

-- ---- sums over a column of values from 0 to one

one_term : (column : List (Option ℤ)) (acc b one : ℕ) (x : Entry) (v : ℤ) → whole_at column x.target ≡ Some v → IsInside one v → 0ℚ <ℚ x.prob → acc + weight_of b x * one < 2 ^ 127
    → (next : ℕ) × (next ≤ acc + weight_of b x * one) × (total_with column (pos acc) (term_of (pos b) x) ≡ Some (pos next))
one_term column acc b one x (negsuc v) e i h l = let low = i.0 in absurd (omega (arith, ints))
one_term column acc b one x (pos v) e i h l =
    let top = i.1 in
    let w : ℕ = weight_of b x in
    let m : w * v ≤ w * one = mul-le-mul_left w (omega (arith, ints)) in (
      acc + w * v,
      omega (arith, m),
      ap (λ (o : Option ℤ). o >>= (λ value. narrow (Term.weight (term_of (pos b) x) *ℤ value) >>= (λ product. narrow (pos acc +ℤ product)))) e
          ∙ ap (λ (k : ℤ). narrow (k *ℤ pos v) >>= (λ product. narrow (pos acc +ℤ product))) (weight_same b x h)
          ∙ ap (λ (o : Option ℤ). o >>= (λ product. narrow (pos acc +ℤ product))) (narrow-kept (pos (w * v)) (omega (arith, m, l)))
          ∙ narrow-kept (pos (acc + w * v)) (omega (arith, m, l)),
    )

module _ (n one b : ℕ) (column : List (Option ℤ)) (there : (t : ℕ) → t < n → IsThere one (whole_at column t)) where
  total_fits : (row : List Entry) (acc : ℕ) → All (λ x. x.target < n) row → All (λ x. 0ℚ <ℚ x.prob) row → acc + weights b row * one < 2 ^ 127
      → (k : ℤ) × (total_of column (pos acc) (terms_of (pos b) row) ≡ Some k)
  total_fits [] acc inside above l = (pos acc, refl)
  total_fits (x ∷ row) acc inside above l =
      let v = there x.target (All-head (λ x. x.target < n) x row inside) in
      let step = one_term column acc b one x v.0 v.1 v.2 (All-head (λ x. 0ℚ <ℚ x.prob) x row above) (omega (arith, l)) in
      let rest = total_fits row step.0 (All-tail (λ x. x.target < n) x row inside) (All-tail (λ x. 0ℚ <ℚ x.prob) x row above) (let s = step.1 in omega (arith, s, l)) in
      (rest.0, ap (λ (o : Option ℤ). o >>= (λ sum. total_of column sum (terms_of (pos b) row))) step.2 ∙ rest.1)

-- ---- the scale

start_zero : (one b : ℕ) → scaled_start (pos one) 0ℚ (pos b) ≡ Some (pos 0)
unfolding narrow of_int
start_zero one b =
    let p : 0 * (b / 1) ≡ 0 = omega arith in
    let q : 0 * one ≡ 0 = omega arith in
    ap (λ (k : ℕ). narrow (pos k) >>= (λ part. narrow (part *ℤ pos one))) p ∙ ap (λ (k : ℕ). narrow (pos k)) q

scale_is : (one b : ℕ) (row : List Entry) → common_in (pos (ℚ.den 0ℚ)) row ≡ Some (pos b) → scale_of (pos one) 0ℚ row ≡ record { common = pos b; start = pos 0 }
scale_is one b row e =
    ap (λ (o : Option ℤ). unwrap_or (o >>= (λ common. scaled_start (pos one) 0ℚ common >>= (λ whole. let s : Option Scale = Some (record { common = common; start = whole }) in s))) no_scale) e
    ∙ ap (λ (o : Option ℤ). unwrap_or (o >>= (λ whole. let s : Option Scale = Some (record { common = pos b; start = whole }) in s)) no_scale) (start_zero one b)

room_is : (n one b : ℕ) (row : List Entry) (column : List (Option ℤ)) → IsRow n row → common_in (pos (ℚ.den 0ℚ)) row ≡ Some (pos b) → b * one < 2 ^ 127
    → ((t : ℕ) → t < n → IsThere one (whole_at column t)) → HasRoom column (scaled (pos one) 0ℚ row)
room_is n one b row column known_ e l there =
    let c : IsCommon (ℚ.den 0ℚ) row (pos b) = common_in-is (ℚ.den 0ℚ) row (pos b) (den-pos 0ℚ) e in
    let same : IsCommon.common c ≡ b = let p = c.is in omega (arith, ints) in
    let all : AllDivide b row = subst (λ (k : ℕ). AllDivide k row) same c.all in
    let sum = weights_is n b row known_ all in
    let above = c.above in
    subst (λ (s : Scale). (pos 0 <ℤ s.common) × ((k : ℤ) × (total_of column s.start (terms_of s.common row) ≡ Some k))) (sym (scale_is one b row e)) (
      omega (arith, ints),
      total_fits n one b column there row 0 known_.in_range known_.distribution.positive (subst (λ (k : ℕ). 0 + k * one < 2 ^ 127) (sym sum) (omega (arith, l))),
    )

-- ---- all steps

pub none_wide : (dir : Dir) (one : ℕ) (m : Mdp) (stay goals : List Bool) (n : ℕ) → one < 2 ^ 127 → IsMdp m → RowsHaveRoom one m (until stay goals)
    → NoneIsWide dir (pos one) m (until stay goals) n
none_wide dir one m stay goals n small known_ rows left s c l h i =
    let r = rows s c h i in
    let row = known_.row s c h i in (
      room_is (states_of m) one r.0 (row_at m s c) (cover dir (pos one) m (until stay goals) left) row r.1 r.2
          (λ t j. let p = inside_each dir one m stay goals known_ small left t j in (p.0, p.2, p.4.0)),
      room_is (states_of m) one r.0 (row_at m s c) (follow dir (pos one) m (until stay goals) left) row r.1 r.2
          (λ t j. let p = inside_each dir one m stay goals known_ small left t j in (p.1, p.3, p.4.1)),
    )
