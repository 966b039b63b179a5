use Rattle.std.proofs.{Common.{arith, refl}, lemmas.Result.{MatchResult-from_err}}
use Rattle.mdp_elim.specs.Entries.{divided_entry}
use Rattle.mdp_elim.proofs.{Steps.{so_far-next, so_far-all, so_far-stop, so_far-len}, Merge.{divided_entry-some, divided_entry-none}}
use Rattle.mdp_elim.proofs.entries.divide_row.Goals as goal

pub returns-in_err-quotient-clause-wide : goal.returns-in_err-quotient-clause-wide
returns-in_err-quotient-clause-wide c =
    let n = so_far-len (divided_entry c.args.divisor.now) c.loop-i.i c.args.row.now c.loop-i.row c.loop-i.invariant in
    MatchResult-from_err _ _ _ c.from_residual.ensures.0
    (λ _. so_far-stop (divided_entry c.args.divisor.now) c.loop-i.i c.args.row.now c.loop-i.row c.index-row-i.result c.loop-i.invariant (omega arith)
    (divided_entry-none c.args.divisor.now c.factor.result _ _ refl c.factor.ensures (c.in_err-quotient.ensures {u = tt})))

pub loop-i-preserved : goal.loop-i-preserved
loop-i-preserved c =
    so_far-next (divided_entry c.args.divisor.now) c.loop-i.i c.args.row.now c.loop-i.row c.new.result c.index-row-i.result c.loop-i.invariant (omega arith)
    (divided_entry-some c.args.divisor.now c.factor.result _ _ refl c.factor.ensures c.in_ok-quotient.quotient c.target.result c.new.result c.target.ensures (c.in_ok-quotient.ensures {u = tt}) c.new.ensures)

pub returns-clause-ok : goal.returns-clause-ok
returns-clause-ok c = so_far-all (divided_entry c.args.divisor.now) c.loop-i.i c.args.row.now c.loop-i.row c.loop-i.invariant (omega arith)
