use Rattle.mdp_spec.specs.Mdp.{states_of}
use Rattle.mdp_ends.specs.{Walks.{AreComponents}, Rounds.{KeepsEnds}}
use Rattle.mdp_ends.proofs.Existing.{total_below}
use Rattle.mdp_parts.specs.Allowed.{allowed_at, AreChoices}
use Rattle.mdp_parts.proofs.search.end_components.Given as goal

abbrev pub invariant-loop-changed : goal.invariant-loop-changed
invariant-loop-changed l = record {
  sizes : AreChoices l.model l.allowed;
  keeps : KeepsEnds l.model (allowed_at l.allowed);
  parts : AreComponents l.model (allowed_at l.allowed) l.parts.items;
}

abbrev pub decreases-loop-changed : goal.decreases-loop-changed
decreases-loop-changed l = total_below l.model (allowed_at l.allowed) (states_of l.model)
