use Rattle.mdp_proposals.proofs.Below.{none_below, more_below}
use Rattle.mdp_proposals.proofs.ranks.max_ranks.Goals as goal

pub loop-s-init : goal.loop-s-init
loop-s-init c = rw (c.none-edges.ensures, c.states.ensures) (none_below _)

pub loop-s-preserved : goal.loop-s-preserved
loop-s-preserved c = more_below _ c.loop-s.s _ c.loop-s.edges _ c.loop-s.invariant c.in_ok-push_row.ensures.length c.in_ok-push_row.ensures.added
