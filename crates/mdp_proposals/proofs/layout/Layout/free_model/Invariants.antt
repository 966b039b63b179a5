use Rattle.std.proofs.Common.{◌≡◌}
use Rattle.mdp_proposals.proofs.layout.Layout.free_model.Given as goal

abbrev pub invariant-loop-s : goal.invariant-loop-s
invariant-loop-s l = l.builder.names ≡ l.self.earning.model.now.names
