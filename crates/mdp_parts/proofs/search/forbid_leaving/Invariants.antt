use Rattle.std.specs.List.{All}
use Rattle.std.proofs.Common.{◌<◌}
use Rattle.mdp_spec.specs.Mdp.{states_of}
use Rattle.mdp_parts.proofs.Forbidding.{IsPassing}
use Rattle.mdp_parts.proofs.search.forbid_leaving.Given as goal

abbrev pub invariant-loop-s : goal.invariant-loop-s
invariant-loop-s l = record {
  passing : IsPassing l.model l.parts l.s l.initial.allowed l.allowed l.any;
  below : All (λ s. s < states_of l.model) l.changed.items;
}
