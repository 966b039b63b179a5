-- A row's values in parts of a common denominator.
use Rattle.std.proofs.Common.{◌≡◌, ℕ, zero, suc, ◌+◌, ◌*◌, ◌/◌, ◌<◌, ◌≤◌, ltb, lt-ltb, Option, Some, None, if◌then◌else◌, Bool, true, false, T, eqb, eq-eqb}
use Rattle.std.proofs.Common.{eqb→eq, zero-mul, List, [], ◌∷◌, length, take, get_or, ℤ, pos, ◌*ℤ◌, ◌≤ℤ◌, unsigned_abs, refl, sym, ap, ap₂, subst, ◌∙◌, arith}
use Rattle.std.proofs.{lemmas.Int.{ints}, lemmas.List.Sums.{sum_by-cons, sum_by_more_le}, Math.Seq.{take-length}}
use Rattle.std.specs.{Int.{◌∣◌}, List.{AllByRecursion}}
use Rattle.mdp_math.specs.{Rational.{ℚ, ratio, of_int, le_ℚ, ◌+ℚ◌}, Sum.{sum_of}}
use Rattle.mdp_math.proofs.{Booleans.{and-parts}, Laws.{is_self, is_ratio, is_of_int, same_is}}
use Rattle.mdp_math.proofs.Order.{0ℚ, 1ℚ, nonneg, is_le, ratio-add_same, ≤ℚ_antisymm, ≤ℚ_of_eq}
use Rattle.mdp_spec.specs.Unit.{row_den}
use Rattle.mdp_rows.specs.{Draft.{is_one}, Parts.{part, parts}, Given.{row_of}, declared.given.Given.{Given}}
use Rattle.mdp_spec.proofs.Units.{row_den-pos}
use Rattle.mdp_rows.proofs.ClosedRows.Denominators.{row_den-all}
use native.Mathlib.Nat.{div-mul_cancel, mul-lt-mul_of_pos_left, mul-le-mul_left}
use borrow.Author.Tests.{ltb-false, ltb-true}

pub pos-abs : (z : ℤ) → pos 0 ≤ℤ z → z ≡ pos (unsigned_abs z)
pos-abs z h = omega (arith, ints)

shuffle : (n q e d : ℕ) → q * e ≡ d → n * d ≡ q * n * e
shuffle n q e d h = ap (λ (k : ℕ). n * k) (sym h) ∙ omega arith

pub part_is : (d : ℕ) (g : Given) → 0 < d → g.value.den ∣ d → g.value ≡ ratio (pos (part d g)) d
part_is d g h k =
    let z : g.value.num ≡ pos (unsigned_abs g.value.num) = pos-abs g.value.num (nonneg g.value g.term.nonnegative) in
    same_is _ _ _ _ _ _ (is_self g.value) (is_ratio (pos (part d g)) d h)
    (ap (λ (n : ℤ). n *ℤ pos d) z ∙ ap pos (shuffle (unsigned_abs g.value.num) (d / g.value.den) g.value.den d (div-mul_cancel g.value.den k)))

none_is : (d : ℕ) → 0 < d → 0ℚ ≡ ratio (pos 0) d
none_is d h = same_is _ _ _ _ _ _ (is_of_int (pos 0)) (is_ratio (pos 0) d h) (omega (arith, ints))

pub sum_parts : (d : ℕ) (row : List Given) → 0 < d → AllByRecursion (λ x. x.prob.den ∣ d) (row_of row) → sum_of (λ x. x.prob) (row_of row) ≡ ratio (pos (parts d row)) d
sum_parts d [] h all = none_is d h
sum_parts d (g ∷ row) h all =
    ap₂ ◌+ℚ◌ (part_is d g h all.0) (sum_parts d row h all.1) ∙ ratio-add_same (part d g) (parts d row) d h
    ∙ ap (λ (n : ℕ). ratio (pos n) d) (sym (sum_by-cons (part d) g row))

-- ---- whether a number of parts is 1

pub one_by : (x : ℚ) → is_one x ≡ true → x ≡ 1ℚ
one_by x e =
    let p = and-parts (le_ℚ x 1ℚ) (le_ℚ 1ℚ x) e in
    ≤ℚ_antisymm x 1ℚ (record { le = subst T (sym p.0) tt }) (record { le = subst T (sym p.1) tt })

one_is : is_one 1ℚ ≡ true
unfolding le_ℚ of_int
one_is = refl

same_bool : (a b : Bool) → (a ≡ true → b ≡ true) → (b ≡ true → a ≡ true) → a ≡ b
same_bool true b f g = sym (f refl)
same_bool false true f g = absurd (let e = g refl in cc)
same_bool false false f g = refl

pub is_one-ratio : (t d : ℕ) → 0 < d → is_one (ratio (pos t) d) ≡ eqb t d
is_one-ratio t d h =
    same_bool (is_one (ratio (pos t) d)) (eqb t d)
    (λ e. (let x : ratio (pos t) d ≡ 1ℚ = one_by (ratio (pos t) d) e in
    let a = is_le (ratio (pos t) d) 1ℚ (pos t) (pos 1) d 1 (is_ratio (pos t) d h) (is_of_int (pos 1)) (≤ℚ_of_eq _ _ x) in
    let b = is_le 1ℚ (ratio (pos t) d) (pos 1) (pos t) 1 d (is_of_int (pos 1)) (is_ratio (pos t) d h) (≤ℚ_of_eq _ _ (sym x)) in
    eq-eqb t d (omega (arith, ints, a, b))))
    (λ e. (let s : t ≡ d = eqb→eq t d (subst T (sym e) tt) in
    ap is_one (same_is _ _ _ _ _ _ (is_ratio (pos t) d h) (is_of_int (pos 1)) (omega (arith, ints))) ∙ one_is))

pub is_one-parts : (row : List Given) (d : ℕ) → d ≡ row_den (row_of row) → is_one (sum_of (λ x. x.prob) (row_of row)) ≡ eqb (parts d row) d
is_one-parts row d e =
    let h : 0 < d = rw e (row_den-pos (row_of row)) in
    let all : AllByRecursion (λ x. x.prob.den ∣ d) (row_of row) = rw e (row_den-all (row_of row)) in
    ap is_one (sum_parts d row h all) ∙ is_one-ratio (parts d row) d h

-- ---- the sum, where it is at most 2

abbrev pub sum_within : ℕ → ℕ → Option ℕ
sum_within d n = if ltb (2 * d) n then None else Some n

pub sum_past : (d n : ℕ) → 2 * d < n → None ≡ sum_within d n
sum_past d n h = ap (λ (b : Bool). if b then None else Some n) (sym (lt-ltb (2 * d) n h))

some_sum : (b : Bool) (d m n : ℕ) → (b ≡ false → m ≤ 2 * d) → Some n ≡ (if b then None else Some m) → (n ≡ m) × (m ≤ 2 * d)
some_sum true d m n h e = absurd cc
some_sum false d m n h e = (cc, h refl)

none_sum : (b : Bool) (d m : ℕ) → (b ≡ true → 2 * d < m) → None ≡ (if b then None else Some m) → 2 * d < m
none_sum true d m h e = h refl
none_sum false d m h e = absurd cc

pub within-none : (d m : ℕ) → None ≡ sum_within d m → 2 * d < m
within-none d m e = none_sum (ltb (2 * d) m) d m (λ t. ltb-true (2 * d) m t) e

pub within-some : (d m n : ℕ) → Some n ≡ sum_within d m → (n ≡ m) × (m ≤ 2 * d)
within-some d m n e = some_sum (ltb (2 * d) m) d m n (λ t. ltb-false (2 * d) m t) e

divides_at : (d : ℕ) (row : List Given) (i : ℕ) (g : Given) → i < length row → AllByRecursion (λ x. x.prob.den ∣ d) (row_of row) → ℚ.den (Given.value (get_or row i g)) ∣ d
divides_at d [] i g h all = absurd (omega arith)
divides_at d (x ∷ row) zero g h all = all.0
divides_at d (x ∷ row) (suc i) g h all = divides_at d row i g (omega arith) all.1

-- a value's denominator divides the row's
pub den_of_value : (row : List Given) (d i : ℕ) (g : Given) → d ≡ row_den (row_of row) → i < length row → g ≡ get_or row i g → d / g.value.den * g.value.den ≡ d
den_of_value row d i g e h is =
    let all : AllByRecursion (λ x. x.prob.den ∣ d) (row_of row) = rw e (row_den-all (row_of row)) in
    let k : g.value.den ∣ d = rw is (divides_at d row i g h all) in
    div-mul_cancel g.value.den k

pub part_le : (row : List Given) (d i : ℕ) (g : Given) → i < length row → g ≡ get_or row i g → part d g ≤ parts d row
part_le row d i g h is =
    let s = sum_by_more_le (part d) row i g h in
    let t : part d g ≡ part d (get_or row i g) = ap (part d) is in
    omega arith

part_past : (d q b n : ℕ) → 0 < d → q * b ≡ d → b < n → d < q * n
part_past d zero b n h e l = absurd (omega (arith, zero-mul b))
part_past d (suc q) b n h e l = let m : suc q * b < suc q * n = mul-lt-mul_of_pos_left l (omega arith) in omega arith

twice : (q b d : ℕ) → q * b ≡ d → q * (2 * b) ≡ 2 * d
twice q b d e = let f : q * (2 * b) ≡ 2 * (q * b) = omega arith in f ∙ ap (λ (n : ℕ). 2 * n) e

pub value_past : (row : List Given) (d i : ℕ) (g : Given) → d ≡ row_den (row_of row) → i < length row → g ≡ get_or row i g → 2 * g.value.den < unsigned_abs g.value.num
    → None ≡ sum_within d (parts d row)
value_past row d i g e h is past =
    let pos : 0 < d = rw e (row_den-pos (row_of row)) in
    let m : 2 * d < part d g = part_past (2 * d) (d / g.value.den) (2 * g.value.den) (unsigned_abs g.value.num) (omega arith)
    (twice (d / g.value.den) g.value.den d (den_of_value row d i g e h is)) past in
    let l = part_le row d i g h is in
    sum_past d (parts d row) (omega arith)

pub value_within : (row : List Given) (d i : ℕ) (g : Given) → d ≡ row_den (row_of row) → i < length row → g ≡ get_or row i g → unsigned_abs g.value.num ≤ 2 * g.value.den → part d g ≤ 2 * d
value_within row d i g e h is l =
    let t = twice (d / g.value.den) g.value.den d (den_of_value row d i g e h is) in
    let m : d / g.value.den * unsigned_abs g.value.num ≤ d / g.value.den * (2 * g.value.den) = mul-le-mul_left (d / g.value.den) l in
    omega arith

pub so_far_past : (row : List Given) (d i : ℕ) (g : Given) (n : ℕ) → i < length row → g ≡ get_or row i g → n ≡ parts d (take i row) → 2 * d < n + part d g → None ≡ sum_within d (parts d row)
so_far_past row d i g n h is f past =
    let s = sum_by_more_le (part d) row i g h in
    let t : part d g ≡ part d (get_or row i g) = ap (part d) is in
    sum_past d (parts d row) (omega (arith, s, t))

taken : (row : List Given) (i : ℕ) → i ≡ length row → take i row ≡ row
taken row i e = rw e (take-length row)
