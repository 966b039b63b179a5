use Rattle.mdp_graph.proofs.Passes.{ranks_seen}
use Rattle.mdp_graph.proofs.avoid.may_avoid.Goals as goal

pub avoiding_pass-requires : goal.avoiding_pass-requires
avoiding_pass-requires c = record { met = ranks_seen _ _ _ _ _ c.deref.ensures.value c.in_ok-met.ensures }
