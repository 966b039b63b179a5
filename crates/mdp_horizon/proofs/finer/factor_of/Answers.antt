use Rattle.std.proofs.Common.{◌≡◌, ◌∙◌, suc, ◌+◌, ◌≤◌, ◌^◌, ap, arith}
use Rattle.std.proofs.Math.Nat.{pow-le-pow_right}
use Rattle.mdp_horizon.specs.Finer.{finer, finer_by}
use Rattle.mdp_horizon.proofs.Fineness.{finer-bounds}
use Rattle.mdp_horizon.proofs.finer.factor_of.Goals as goal

pub finer-factor-requires : goal.finer-factor-requires
finer-factor-requires c =
    let p = finer-bounds c.args.steps c.args.room c.loop.counter in
    let few : c.loop.counter ≤ 6 = omega arith in
    let q : 10 ^ c.loop.counter ≤ 10 ^ 6 = pow-le-pow_right {n = 10} (omega arith) few in
    omega (arith, p.1, q, c.loop.invariant)

pub loop-preserved : goal.loop-preserved
loop-preserved c =
    let on : suc c.loop.counter ≡ c.loop.counter + 1 = omega arith in
    c.finer-factor.ensures.value ∙ ap (finer c.args.steps c.args.room) c.loop.invariant ∙ ap (finer_by c.args.steps c.args.room) on

pub returns : goal.returns
returns c =
    let e : c.loop.counter ≡ 7 = omega arith in
    let is : c.loop.factor ≡ finer_by c.args.steps c.args.room 7 = c.loop.invariant ∙ ap (finer_by c.args.steps c.args.room) e in
    let p = finer-bounds c.args.steps c.args.room 7 in
    record { value = is; few = omega (arith, is, p.1); some = omega (arith, is, p.0) }
