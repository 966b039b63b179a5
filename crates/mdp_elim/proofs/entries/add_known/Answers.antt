use Rattle.std.proofs.lemmas.Result.{MatchResult-from_err}
use Rattle.mdp_elim.proofs.InPlace.{added-no_sum, added-next, added-between, between-rest}
use Rattle.mdp_elim.proofs.entries.add_known.Goals as goal

pub returns-in_err-sum-clause-wide : goal.returns-in_err-sum-clause-wide
returns-in_err-sum-clause-wide c =
    MatchResult-from_err _ _ _ c.from_residual-in_err-sum.ensures.0
    (λ _.
    added-no_sum c.args.times.now c.in-Some.x.now c.in-Some.rest.now c.loop-x.left.now c.loop-x.row _ c.in-Some.ensures.cases.0 c.loop-x.invariant.same
    c.loop-x.invariant.row.0 c.loop-x.invariant.row.1 c.in-Some-find.at c.target.result c.target.ensures (c.in-Some-find.ensures.found)
    c.factor.result c.in_ok-more.more c.factor.ensures (c.in_ok-more.ensures {u = tt}) _ c.factor-in-Some.result c.factor-in-Some.ensures
    (c.in_err-sum.ensures {u = tt}))

pub loop-x-preserved : goal.loop-x-preserved
loop-x-preserved c =
    record {
      same = added-next c.args.times.now c.in-Some.x.now c.in-Some.rest.now c.loop-x.left.now c.loop-x.row _ c.in-Some.ensures.cases.0 c.loop-x.invariant.same
          c.loop-x.invariant.row.0 c.loop-x.invariant.row.1 c.in-Some-find.at c.target.result c.target.ensures (c.in-Some-find.ensures.found)
          c.factor.result c.in_ok-more.more c.factor.ensures (c.in_ok-more.ensures {u = tt}) _ c.factor-in-Some.result c.factor-in-Some.ensures
          c.in_ok-sum.sum (c.in_ok-sum.ensures {u = tt}) c.new.result c.target-in-Some.result c.target-in-Some.ensures c.new.ensures;
      row = (
        c.loop-x.invariant.row.0,
        added-between c.args.times.now c.in-Some.x.now c.in-Some.rest.now c.loop-x.left.now c.loop-x.row _ c.in-Some.ensures.cases.0 c.loop-x.invariant.same
            c.loop-x.invariant.row.0 c.loop-x.invariant.row.1 c.in-Some-find.at c.target.result c.target.ensures (c.in-Some-find.ensures.found)
            c.factor.result c.in_ok-more.more c.factor.ensures (c.in_ok-more.ensures {u = tt}) _ c.factor-in-Some.result c.factor-in-Some.ensures
            c.in_ok-sum.sum (c.in_ok-sum.ensures {u = tt}) c.new.result c.target-in-Some.result c.target-in-Some.ensures c.new.ensures,
      );
      left = (c.loop-x.invariant.left.0, between-rest c.loop-x.invariant.left.0 c.in-Some.x.now c.in-Some.rest.now c.loop-x.left.now c.in-Some.ensures.cases.0 c.loop-x.invariant.left.1);
    }
