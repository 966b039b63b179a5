use Rattle.std.proofs.Common.{◌≡◌, Err, rules, arith}
use Rattle.mdp_wide.specs.declared.unfinished.Unfinished.TheVariants as error
use Rattle.mdp_elim.proofs.{Merge.{merged-wide, merged-more, merged-all}, Finish.{ok_no_err}}
use Rattle.mdp_elim.proofs.entries.merged.Goals as goal

pub returns-in_err-rest-clause-wide : goal.returns-in_err-rest-clause-wide
returns-in_err-rest-clause-wide c = λ h.
    let was : c.merge_entry.result ≡ Err (error.TooWide tt) = search rules in
    merged-wide c.args.times.now c.args.source.now c.loop-x.x-index c.x-item.result c.loop-x.rest.now c.loop-x.sums.items _ c.loop-x-test.true c.x-item.is c.loop-x.invariant
    (c.merge_entry.ensures.wide was)

pub loop-x-preserved : goal.loop-x-preserved
loop-x-preserved c =
    merged-more c.args.times.now c.args.source.now c.loop-x.x-index c.x-item.result c.loop-x.rest.now c.loop-x.sums.items _ c.loop-x-test.true c.x-item.is c.loop-x.invariant
    c.requires.0 c.in_ok-rest.rest.now c.merge_entry.new.sums.items c.requires.1 (c.in_ok-rest.ensures {u = tt}).ok

pub returns-clause-ok : goal.returns-clause-ok
returns-clause-ok c =
    merged-all c.args.times.now c.args.source.now c.loop-x.x-index c.loop-x.rest.now c.loop-x.sums.items c.extend_from_slice.new.self.items _
    (omega (arith, c.loop-x.auto.x-index-end, c.loop-x-test.false)) c.loop-x.invariant (c.in_ok-extend_from_slice.ensures {u = tt}).items

pub returns-clause-wide : goal.returns-clause-wide
returns-clause-wide c = λ e. absurd (ok_no_err _ _ e)
