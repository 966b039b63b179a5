use Rattle.mdp_graph.proofs.Passes.{ranks_seen}
use Rattle.mdp_graph.proofs.meet.must_meet.Goals as goal

pub meeting_pass-requires : goal.meeting_pass-requires
meeting_pass-requires c = record { ranks = ranks_seen _ _ _ _ _ c.deref.ensures.value c.in_ok-ranks.ensures }
