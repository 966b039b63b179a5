use Rattle.std.proofs.Common.{◌≡◌, length}
use Rattle.mdp_spec.specs.Mdp.{states_of}
use Rattle.mdp_subsystem_search.specs.Shown.{AreNeeded}
use Rattle.mdp_subsystem_search.proofs.query.Query.needed.Given as goal

abbrev pub invariant-loop-s : goal.invariant-loop-s
invariant-loop-s l = record {
  each : length l.needed ≡ states_of l.self.model.now;
  needed : AreNeeded l.self.dir l.self.model.now l.self.goals.now l.self.start l.self.threshold l.kept l.needed;
}
