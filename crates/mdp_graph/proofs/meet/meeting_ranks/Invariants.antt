use Rattle.mdp_spec.specs.Mdp.{states_of}
use Rattle.mdp_graph.specs.{Sets.{marked}, Meet.{must_step}, NextLayer.{AreLayers}, Ranking.{unranked}}
use Rattle.mdp_graph.proofs.Meeting.{IsMeeting}
use Rattle.mdp_graph.proofs.meet.meeting_ranks.Given as goal

abbrev pub invariant-loop-alloc : goal.invariant-loop-alloc
invariant-loop-alloc l =
    IsMeeting (must_step l.model) (marked l.target) (states_of l.model) l.layers.ranks.items l.met.items l.rank × AreLayers l.model l.layers.preds l.layers.waiting l.layers.ranks.items

abbrev pub decreases-loop-alloc : goal.decreases-loop-alloc
decreases-loop-alloc l = unranked l.layers.ranks.items
