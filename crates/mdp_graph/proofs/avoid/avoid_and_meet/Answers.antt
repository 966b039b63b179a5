use Rattle.mdp_graph.proofs.Passes.{ranks_seen}
use Rattle.mdp_graph.proofs.avoid.avoid_and_meet.Goals as goal

pub avoiding_pass-requires : goal.avoiding_pass-requires
avoiding_pass-requires c = record { met = ranks_seen _ _ _ _ _ c.deref.ensures.value c.in_ok-met.ensures }

pub meeting_pass-requires : goal.meeting_pass-requires
meeting_pass-requires c = record { ranks = ranks_seen _ _ _ _ _ c.deref-2.ensures.value c.in_ok-met.ensures }
