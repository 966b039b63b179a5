use Rattle.std.proofs.{Common.{List, ◌+◌, drop, inl, inr, refl, sym, ap, ap₂, ◌∙◌, arith}, lemmas.Result.{err_from_is_err_and}}
use Rattle.mdp_math.specs.{Rational.{ℚ}, Written.{written_add}}
use Rattle.mdp_rows.specs.Draft.{kept_sum, summed_rewards}
use Rattle.mdp_rows.proofs.Assembled.Sums.{sums_then, sums_start, sums_more, sums_stop, sums_end}
use Rattle.mdp_rows.proofs.rewards.add_rewards.Goals as goal

pub loop-i-init : goal.loop-i-init
loop-i-init c = sums_start c.args.own.now c.args.given.now c.clear.new.self.items c.clear.ensures.items

pub loop-i-preserved : goal.loop-i-preserved
loop-i-preserved c =
    let e = rw c.if-is_err.ensures.negation at c.push.ensures.items in
    sums_more c.args.own.now c.args.given.now c.loop-i.sums.items c.loop-i.i c.index-own-i.result c.index-given-i.result c.add_reward.result c.loop-i-test.true c.requires c.loop-i.invariant
    (c.add_reward.ensures ∙ ap₂ (λ (x y : ℚ). kept_sum (written_add x y)) c.index-own-i.is c.index-given-i.is) c.in_ok-sum.sum (c.in_ok-sum.was {u = tt})
    ∙ ap (λ (xs : List ℚ). sums_then xs (summed_rewards (drop (c.loop-i.i + 1) c.args.own.now) (drop (c.loop-i.i + 1) c.args.given.now))) (sym e)

pub returns-in_err-sum-clause-refused : goal.returns-in_err-sum-clause-refused
returns-in_err-sum-clause-refused c =
    let p = err_from_is_err_and c.from_residual.result c.from_residual.ensures.1 in
    rw (p.1, p.2)
    (inr (sums_stop c.args.own.now c.args.given.now c.loop-i.sums.items c.loop-i.i c.index-own-i.result c.index-given-i.result c.add_reward.result c.loop-i-test.true c.requires c.loop-i.invariant
    (c.add_reward.ensures ∙ ap₂ (λ (x y : ℚ). kept_sum (written_add x y)) c.index-own-i.is c.index-given-i.is) c.in_err-sum.field-0.0 (c.in_err-sum.was {u = tt})))

pub returns-then-is_err-clause-refused : goal.returns-then-is_err-clause-refused
returns-then-is_err-clause-refused c = inl refl

pub returns-clause-added : goal.returns-clause-added
returns-clause-added c = sums_end c.args.own.now c.args.given.now c.loop-i.sums.items c.loop-i.i (omega arith) c.requires c.loop-i.invariant
