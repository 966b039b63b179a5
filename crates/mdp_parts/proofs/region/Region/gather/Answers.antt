use Rattle.std.proofs.Common.{◌≡◌, get_or, ◌∙◌, arith}
use Rattle.mdp_parts.proofs.{Gathering.{gathering_next}, Searching.{at_default}}
use Rattle.mdp_parts.proofs.region.Region.gather.Goals as goal

pub loop-next-preserved : goal.loop-next-preserved
loop-next-preserved c =
    let list = c.loop-next.self.list.items in
    let e : c.index-t.result.now ≡ get_or list c.loop-next.next 0 =
    c.index-t.ensures ∙ at_default list c.loop-next.next c.index-t.result.now (omega arith) in
    gathering_next c.args.model.now c.known.ensures.mdp c.args.allowed.now c.loop-next.self.places.items list _ _ c.loop-next.next
    c.index-t.result.now (omega arith) e
    c.loop-next.invariant c.in_ok-add_targets.ensures.region c.in_ok-add_targets.ensures.grown (c.in_ok-add_targets.ensures.closed c.if-not-branch.false)
