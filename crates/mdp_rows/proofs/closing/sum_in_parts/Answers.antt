use Rattle.std.proofs.Common.{◌≡◌, ◌<◌, ◌≤◌, ℕ, ◌*◌, ◌/◌, List, length, get_or, unsigned_abs, arith, ap₂}
use Rattle.mdp_spec.specs.Unit.{row_den}
use Rattle.mdp_rows.specs.{Given.{row_of}, Parts.{part}, declared.given.Given.{Given}}
use Rattle.mdp_rows.proofs.ClosedRows.Parts.{value_past, value_within, so_far_past}
use Rattle.mdp_rows.proofs.closing.sum_in_parts.Goals as goal

-- a value of at most 2 is at most twice so many parts
small_part : (row : List Given) (den i : ℕ) (g : Given) (num own : ℕ) → den ≡ row_den (row_of row) → i < length row → g ≡ get_or row i g → num ≡ unsigned_abs g.value.num → own ≡ g.value.den
    → num ≤ 2 * own → den / own * num ≤ 2 * den
small_part row den i g num own e h is n d few =
    let p = ap₂ (λ (x y : ℕ). den / x * y) d n in
    let w : part den g ≤ 2 * den = value_within row den i g e h is (omega (arith, n, d, few)) in
    omega (arith, p, w)

pub returns-then-num-own_den : goal.returns-then-num-own_den
returns-then-num-own_den c = value_past _ _ c.loop-given.given-index c.given-item.result c.requires.common (omega (arith, c.loop-given-test.true)) c.given-item.is
    (let n = c.num_of-num.ensures in
    let d = c.den_of-own_den.ensures in
    omega (arith, n, d, c.if-num-own_den.true))

pub overflow_mul-parts : goal.overflow_mul-parts
overflow_mul-parts c =
    let w = small_part _ _ c.loop-given.given-index _ _ _ c.requires.common (omega (arith, c.loop-given-test.true)) c.given-item.is c.num_of-num.ensures c.den_of-own_den.ensures c.if-num-own_den.false in
    omega (arith, w, c.requires.within)

pub overflow_add-parts : goal.overflow_add-parts
overflow_add-parts c =
    let w = small_part _ _ c.loop-given.given-index _ _ _ c.requires.common (omega (arith, c.loop-given-test.true)) c.given-item.is c.num_of-num.ensures c.den_of-own_den.ensures c.if-num-own_den.false in
    omega (arith, w, c.requires.within, c.loop-given.invariant.1)

pub returns-then-parts-den : goal.returns-then-parts-den
returns-then-parts-den c = so_far_past _ _ c.loop-given.given-index c.given-item.result _ (omega (arith, c.loop-given-test.true)) c.given-item.is c.loop-given.invariant.0
    (let n = c.num_of-num.ensures in
    let d = c.den_of-own_den.ensures in
    let e = ap₂ (λ (p q : ℕ). c.args.den / p * q) d n in
    omega (arith, e, c.if-parts-den.true))
