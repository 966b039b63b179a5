-- What a row of values that are given closes as: a distribution over the states.
use Rattle.std.proofs.Common.{◌≡◌, ℕ, ◌+◌, ◌*◌, ◌/◌, ◌≤◌, ◌<◌, Bool, true, false, cond, not, IsTrue, leb, le-leb, ltb, eqb→eq, T, List, [], ◌∷◌, length, map, pos}
use Rattle.std.proofs.{Common.{unsigned_abs, refl, sym, ap, subst, ◌∙◌, arith}, lemmas.Int.{ints}}
use Rattle.std.proofs.lemmas.List.Elements.{All-from_recursion, recursion_from_All, All-filter}
use Rattle.std.specs.{Prelude.{Ok}, List.{All, AllByRecursion}}
use borrow.Author.Tests.{leb-true, ltb-false, eqb-false}
use Rattle.mdp_math.proofs.{Booleans.{and-parts, and-both, and-left, and-right}, Laws.{is_self, is_of_int, zero-+ℚ, den-of_int}}
use Rattle.mdp_math.proofs.{Order.{0ℚ, 1ℚ, nonneg, is_positive, ≤ℚ_antisymm, ≤ℚ_of_lt, <ℚ-≤ℚ_trans, is_nonneg, le_of_is, mul-nonneg}, Whole.{ratio-pos}}
use Rattle.mdp_math.proofs.{Division.{mul-inv_pos, inv-pos}, Extremes.{le_of_test}, Sums.{sum_of-map, sum_of-scale_right}}
use Rattle.mdp_math.specs.{Gcd.{gcd-one_right}, Rational.{ℚ, ratio, inv_ℚ, le_ℚ, ◌+ℚ◌, ◌*ℚ◌, ◌<ℚ◌, ◌≤ℚ◌}}
use Rattle.mdp_num.specs.Numeral.{limit}
use Rattle.mdp_spec.specs.{Mdp.{Entry}, Row.{ascends_from, IsRow}, Unit.{lcm, row_den}}
use Rattle.mdp_rows.specs.Draft.{kept, is_zero, is_one, is_near_one, row_total, scaled_row, within_limit, ruled_row, closed_row, ◌>>=◌}
use Rattle.mdp_rows.specs.{declared.error.RowsError.TheVariants.{RowSum, RowWide}, declared.rule.RowRule.{RowRule}}
use Rattle.mdp_rows.specs.declared.rule.RowRule.TheVariants.{Exact, Scaled}
use Rattle.mdp_rows.proofs.{Flat.Kept.{filter_le}, Calls.Steps.{done, ok_same, then_ok, else_ok, if_ok}, ClosedRows.Parts.{one_by}}

-- each value times q
abbrev pub divided : ℚ → List Entry → List Entry
divided q row = map (λ x. record { target = x.target; prob = x.prob *ℚ q }) row

-- ---- values that are 0

le_zero : (x : ℚ) → x.num ≡ pos 0 → x ≤ℚ 0ℚ
le_zero x z = le_of_is x 0ℚ x.num (pos 0) x.den 1 (is_self x) (is_of_int (pos 0)) (rw z (omega (arith, ints)))

zero_by : (x : ℚ) → unsigned_abs x.num ≡ 0 → x ≡ 0ℚ
zero_by x e =
    let z : x.num ≡ pos 0 = omega (arith, ints) in
    ≤ℚ_antisymm x 0ℚ (le_zero x z) (is_nonneg x (rw z (omega (arith, ints))))

pub zero_value : (x : ℚ) → is_zero x ≡ true → x ≡ 0ℚ
zero_value x e = zero_by x (eqb→eq (unsigned_abs x.num) 0 (subst T (sym e) tt))

pub value_positive : (x : ℚ) → 0ℚ ≤ℚ x → is_zero x ≡ false → 0ℚ <ℚ x
value_positive x h z = is_positive x (let n = nonneg x h in let k = eqb-false (unsigned_abs x.num) 0 z in omega (arith, ints))

-- ---- the values add to the same without them

sum_head : (b : Bool) (x : Entry) (row rest : List Entry) → (b ≡ true → x.prob ≡ 0ℚ) → row_total rest ≡ row_total row → row_total (cond (not b) (x ∷ rest) rest) ≡ x.prob +ℚ row_total row
sum_head true x row rest z e = e ∙ sym (ap (λ (q : ℚ). q +ℚ row_total row) (z refl) ∙ zero-+ℚ (row_total row))
sum_head false x row rest z e = ap (λ (q : ℚ). x.prob +ℚ q) e

pub total-kept : (row : List Entry) → row_total (kept row) ≡ row_total row
total-kept [] = refl
total-kept (x ∷ row) = sum_head (is_zero x.prob) x row (kept row) (zero_value x.prob) (total-kept row)

-- ---- and have the same denominator

lcm-one : (a : ℕ) → lcm a 1 ≡ a
lcm-one a = ap (λ (g : ℕ). a / g * 1) (gcd-one_right a) ∙ omega arith

den_head : (b : Bool) (x : Entry) (row rest : List Entry) → (b ≡ true → x.prob ≡ 0ℚ) → row_den rest ≡ row_den row → row_den (cond (not b) (x ∷ rest) rest) ≡ lcm (row_den row) x.prob.den
den_head true x row rest z e =
    e ∙ sym (ap (λ (n : ℕ). lcm (row_den row) n) (ap (λ (q : ℚ). q.den) (z refl) ∙ den-of_int (pos 0)) ∙ lcm-one (row_den row))
den_head false x row rest z e = ap (λ (n : ℕ). lcm n x.prob.den) e

pub den-kept : (row : List Entry) → row_den (kept row) ≡ row_den row
den-kept [] = refl
den-kept (x ∷ row) = den_head (is_zero x.prob) x row (kept row) (zero_value x.prob) (den-kept row)

-- ---- the targets ascend

pub ascends-lower : (low high : ℕ) (row : List Entry) → low ≤ high → IsTrue (ascends_from high row) → IsTrue (ascends_from low row)
ascends-lower low high [] h a = refl
ascends-lower low high (x ∷ row) h a =
    let l : high ≤ x.target = leb-true high x.target (and-left (leb high x.target) (ascends_from (x.target + 1) row) a) in
    and-both (leb low x.target) (ascends_from (x.target + 1) row) (le-leb low x.target (omega arith)) (and-right (leb high x.target) (ascends_from (x.target + 1) row) a)

ascends_head : (b : Bool) (low : ℕ) (x : Entry) (rest : List Entry) → IsTrue (leb low x.target) → IsTrue (ascends_from (x.target + 1) rest) → IsTrue (ascends_from low (cond b (x ∷ rest) rest))
ascends_head true low x rest l a = and-both (leb low x.target) (ascends_from (x.target + 1) rest) l a
ascends_head false low x rest l a = ascends-lower low (x.target + 1) rest (let k = leb-true low x.target l in omega arith) a

ascends-kept : (low : ℕ) (row : List Entry) → IsTrue (ascends_from low row) → IsTrue (ascends_from low (kept row))
ascends-kept low [] a = refl
ascends-kept low (x ∷ row) a =
    ascends_head (not (is_zero x.prob)) low x (kept row) (and-left (leb low x.target) (ascends_from (x.target + 1) row) a)
    (ascends-kept (x.target + 1) row (and-right (leb low x.target) (ascends_from (x.target + 1) row) a))

ascends-scaled : (q : ℚ) (low : ℕ) (row : List Entry) → IsTrue (ascends_from low row) → IsTrue (ascends_from low (divided q row))
ascends-scaled q low [] a = refl
ascends-scaled q low (x ∷ row) a =
    and-both (leb low x.target) _ (and-left (leb low x.target) (ascends_from (x.target + 1) row) a)
    (ascends-scaled q (x.target + 1) row (and-right (leb low x.target) (ascends_from (x.target + 1) row) a))

-- ---- the values are positive

positive_head : (b : Bool) (x : Entry) (rest : List Entry) → (b ≡ false → 0ℚ <ℚ x.prob)
    → AllByRecursion (λ y. 0ℚ <ℚ y.prob) rest → AllByRecursion (λ y. 0ℚ <ℚ y.prob) (cond (not b) (x ∷ rest) rest)
positive_head true x rest h all = all
positive_head false x rest h all = (h refl, all)

positive-kept : (row : List Entry) → AllByRecursion (λ y. 0ℚ ≤ℚ y.prob) row → AllByRecursion (λ y. 0ℚ <ℚ y.prob) (kept row)
positive-kept [] all = tt
positive-kept (x ∷ row) all = positive_head (is_zero x.prob) x (kept row) (value_positive x.prob all.0) (positive-kept row all.1)

nonneg-scaled : (q : ℚ) (row : List Entry) → 0ℚ ≤ℚ q → AllByRecursion (λ y. 0ℚ ≤ℚ y.prob) row → AllByRecursion (λ y. 0ℚ ≤ℚ y.prob) (divided q row)
nonneg-scaled q [] h all = tt
nonneg-scaled q (x ∷ row) h all = (mul-nonneg x.prob q all.0 h, nonneg-scaled q row h all.1)

range-scaled : (q : ℚ) (n : ℕ) (row : List Entry) → AllByRecursion (λ y. y.target < n) row → AllByRecursion (λ y. y.target < n) (divided q row)
range-scaled q n [] all = tt
range-scaled q n (x ∷ row) all = (all.0, range-scaled q n row all.1)

-- ---- how many are kept

pub length-kept : (row : List Entry) → length (kept row) ≤ length row
length-kept row = filter_le (λ x. not (is_zero x.prob)) row

pub length-scaled : (q : ℚ) (row : List Entry) → length (divided q row) ≡ length row
length-scaled q [] = refl
length-scaled q (x ∷ row) = let h = length-scaled q row in omega (arith, h)

-- ---- what is 1, and what is near

near_pos : (x : ℚ) → is_near_one x ≡ true → 0ℚ <ℚ x
near_pos x e =
    let p = and-parts (le_ℚ (ratio (pos 999) 1000) x) (le_ℚ x (ratio (pos 1001) 1000)) e in
    <ℚ-≤ℚ_trans 0ℚ (ratio (pos 999) 1000) x (ratio-pos 999 1000 (omega arith) (omega arith)) (le_of_test (ratio (pos 999) 1000) x p.0)

total-scaled : (row : List Entry) → 0ℚ <ℚ row_total row → row_total (scaled_row row) ≡ 1ℚ
total-scaled row h =
    sum_of-map (λ (x : Entry). let y : Entry = record { target = x.target; prob = x.prob *ℚ inv_ℚ (row_total row) } in y) (λ (y : Entry). y.prob) row
    ∙ sum_of-scale_right (inv_ℚ (row_total row)) (λ (x : Entry). x.prob) row
    ∙ mul-inv_pos (row_total row) h

-- ---- what a row closes as

-- values that make a row, some of them 0
pub record AreValues (n : ℕ) (row : List Entry) : Type 0 where
  pub ascending : IsTrue (ascends_from 0 row)
  pub in_range : All (λ x. x.target < n) row
  pub nonnegative : All (λ x. 0ℚ ≤ℚ x.prob) row

-- a closed row, of no more entries than were given
pub record IsClosedRow (n most : ℕ) (row : List Entry) : Type 0 where
  pub is_row : IsRow n row
  pub den : row_den row ≤ limit
  pub few : length row ≤ most

kept_row : (n most : ℕ) (row : List Entry) → AreValues n row → row_total row ≡ 1ℚ → row_den row ≤ limit → length row ≤ most → IsClosedRow n most (kept row)
kept_row n most row v one den few = record {
  is_row = record {
    distribution = record {
      ascending = ascends-kept 0 row v.ascending;
      positive = All-from_recursion (λ y. 0ℚ <ℚ y.prob) (kept row) (positive-kept row (recursion_from_All (λ y. 0ℚ ≤ℚ y.prob) row v.nonnegative));
      total = total-kept row ∙ one;
    };
    in_range = All-filter (λ x. not (is_zero x.prob)) (λ x. x.target < n) row v.in_range;
  };
  den = rw (den-kept row) den;
  few = let h = length-kept row in omega arith;
}

scaled_values : (n : ℕ) (row : List Entry) → AreValues n row → 0ℚ <ℚ row_total row → AreValues n (scaled_row row)
scaled_values n row v h = record {
  ascending = ascends-scaled (inv_ℚ (row_total row)) 0 row v.ascending;
  in_range = All-from_recursion (λ x. x.target < n) (scaled_row row) (range-scaled (inv_ℚ (row_total row)) n row (recursion_from_All (λ x. x.target < n) row v.in_range));
  nonnegative =
      All-from_recursion (λ x. 0ℚ ≤ℚ x.prob) (scaled_row row)
      (nonneg-scaled (inv_ℚ (row_total row)) row (≤ℚ_of_lt 0ℚ (inv_ℚ (row_total row)) (inv-pos (row_total row) h)) (recursion_from_All (λ x. 0ℚ ≤ℚ x.prob) row v.nonnegative));
}

-- what is within the limit stays
within-same : (s c : ℕ) (row r : List Entry) → within_limit s c row ≡ Ok r → (row ≡ r) × (row_den row ≤ limit)
within-same s c row r e =
    let f = else_ok (ltb limit (row_den row)) (RowWide s c) (done row) r e in
    (ok_same row r f.1, ltb-false limit (row_den row) f.0)

ruled : (rule : RowRule) (s c n : ℕ) (row values : List Entry) → AreValues n row → row_den row ≤ limit → ruled_row rule s c row ≡ Ok values → IsClosedRow n (length row) (kept values)
ruled Exact s c n row values v den e =
    let f = if_ok (is_one (row_total row)) (RowSum s c) (done row) values e in
    subst (λ (r : List Entry). IsClosedRow n (length row) (kept r)) (ok_same row values f.1) (kept_row n (length row) row v (one_by (row_total row) f.0) den (omega arith))
ruled Scaled s c n row values v den e =
    let f = if_ok (is_near_one (row_total row)) (RowSum s c) (within_limit s c (scaled_row row)) values e in
    let p : 0ℚ <ℚ row_total row = near_pos (row_total row) f.0 in
    let w = within-same s c (scaled_row row) values f.1 in
    subst (λ (r : List Entry). IsClosedRow n (length row) (kept r)) w.0
    (kept_row n (length row) (scaled_row row) (scaled_values n row v p) (total-scaled row p) w.1 (let l = length-scaled (inv_ℚ (row_total row)) row in omega arith))

-- a row that closes is a distribution over the states, its common denominator within the limit
pub closed_row-sound : (rule : RowRule) (s c n : ℕ) (row r : List Entry) → AreValues n row → closed_row rule s c row ≡ Ok r → IsClosedRow n (length row) r
closed_row-sound rule s c n row r v e =
    let g = then_ok (within_limit s c row) (λ given. ruled_row rule s c given >>= λ values. Ok (kept values)) r e in
    let w = within-same s c row g.0 g.1 in
    let h = then_ok (ruled_row rule s c g.0) (λ values. Ok (kept values)) r g.2 in
    subst (IsClosedRow n (length row)) (ok_same (kept h.0) r h.2)
    (ruled rule s c n row h.0 v w.1 (ap (λ (x : List Entry). ruled_row rule s c x) w.0 ∙ h.1))
