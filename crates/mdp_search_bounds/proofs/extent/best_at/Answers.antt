use Rattle.std.proofs.Common.{◌<◌, ◌≡◌, ◌⊎◌, ℕ, inl, refl, arith, subst}
use Rattle.mdp_math.specs.Rational.{ℚ}
use Rattle.mdp_rows.specs.Better.{IsAsGood}
use Rattle.mdp_search_bounds.proofs.Best.{good_same, good_trans, at_next, one-next}
use Rattle.mdp_search_bounds.proofs.extent.best_at.Goals as goal

pub loop-c-init : goal.loop-c-init
loop-c-init c = record { as_first = good_same c.args.dir c.args.first.now; as_each = λ i l. absurd (omega arith); one = inl refl }

pub loop-c-preserved : goal.loop-c-preserved
loop-c-preserved c =
    let m = c.args.model.now in
    let x = c.better-best.result in
    let old = c.loop-c.best in
    let as_reward = subst (λ (y : ℚ). IsAsGood c.args.dir x y) c.reward.ensures c.better-best.ensures.as_number in
    let has = subst (λ (n : ℕ). c.loop-c.c < n) c.choices-c-end.ensures c.loop-c-test.true in
    let one = subst (λ (y : ℚ). (x ≡ old) ⊎ (x ≡ y)) c.reward.ensures c.better-best.ensures.one in
    record {
      as_first = good_trans c.args.dir x old c.args.first.now c.better-best.ensures.as_best c.loop-c.invariant.as_first;
      as_each = at_next c.args.dir m c.args.name old x c.better-best.ensures.as_best c.args.s c.loop-c.c c.loop-c.invariant.as_each as_reward;
      one = one-next m c.args.name c.args.s c.loop-c.c c.args.first.now old x c.requires.state has c.loop-c.invariant.one one;
    }
