use Rattle.mdp_subsystem_search.specs.Kept.{IsFound}
use Rattle.mdp_subsystem_search.proofs.query.Query.without_light.Given as goal

abbrev pub invariant-loop : goal.invariant-loop
invariant-loop l = IsFound l.self.dir l.self.model.now l.self.goals.now l.self.start l.self.threshold l.left
