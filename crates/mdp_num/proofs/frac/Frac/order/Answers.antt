use Rattle.std.proofs.Common.{◌∙◌}
use Rattle.mdp_math.specs.Rational.{ℚ}
use Rattle.mdp_math.proofs.{Laws.{den-pos}, Written.{written_compare-some}}
use Rattle.mdp_num.proofs.{Values.{num-bits}, Orders.{cmp_magnitudes, cmp_negated, cmp_across_zero, cmp_zero_across, is_below_zero, is_from_zero}}
use Rattle.mdp_num.proofs.frac.Frac.order.Goals as goal

pub returns-in-Ok : goal.returns-in-Ok
returns-in-Ok c = written_compare-some c.args.self.now c.args.other.now c.in-Ok.order c.in-Ok.ensures

pub returns-then-other-lt0 : goal.returns-then-other-lt0
returns-then-other-lt0 c =
    let x = is_below_zero _ _ (num-bits _ _ c.self.view_is c.self.invariant) c.if-self-lt0.true in
    let y = is_below_zero _ _ (num-bits _ _ c.other.view_is c.other.invariant) c.if-other-lt0.true in
    c.magnitude_order.ensures ∙ cmp_negated (ℚ.num c.args.self.now) (ℚ.num c.args.other.now) (ℚ.den c.args.self.now) (ℚ.den c.args.other.now) x y

pub returns-else-other-lt0 : goal.returns-else-other-lt0
returns-else-other-lt0 c =
    let x = is_below_zero _ _ (num-bits _ _ c.self.view_is c.self.invariant) c.if-self-lt0.true in
    let y = is_from_zero _ _ (num-bits _ _ c.other.view_is c.other.invariant) c.if-other-lt0.false in
    cmp_across_zero (ℚ.num c.args.self.now) (ℚ.num c.args.other.now) (ℚ.den c.args.self.now) (ℚ.den c.args.other.now) (den-pos c.args.other.now) x y

pub returns-then-other-lt0-2 : goal.returns-then-other-lt0-2
returns-then-other-lt0-2 c =
    let x = is_from_zero _ _ (num-bits _ _ c.self.view_is c.self.invariant) c.if-self-lt0.false in
    let y = is_below_zero _ _ (num-bits _ _ c.other.view_is c.other.invariant) c.if-other-lt0-2.true in
    cmp_zero_across (ℚ.num c.args.self.now) (ℚ.num c.args.other.now) (ℚ.den c.args.self.now) (ℚ.den c.args.other.now) (den-pos c.args.self.now) x y

pub returns-else-other-lt0-2 : goal.returns-else-other-lt0-2
returns-else-other-lt0-2 c =
    let x = is_from_zero _ _ (num-bits _ _ c.self.view_is c.self.invariant) c.if-self-lt0.false in
    let y = is_from_zero _ _ (num-bits _ _ c.other.view_is c.other.invariant) c.if-other-lt0-2.false in
    c.magnitude_order-else-other-lt0-2.ensures ∙ cmp_magnitudes (ℚ.num c.args.self.now) (ℚ.num c.args.other.now) (ℚ.den c.args.self.now) (ℚ.den c.args.other.now) x y
