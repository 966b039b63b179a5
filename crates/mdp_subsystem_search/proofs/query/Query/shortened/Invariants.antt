use Rattle.mdp_subsystem_search.specs.Kept.{IsFound}
use Rattle.mdp_subsystem_search.proofs.query.Query.shortened.Given as goal

abbrev pub invariant-loop-digits : goal.invariant-loop-digits
invariant-loop-digits l = IsFound l.self.dir l.self.model.now l.self.goals.now l.self.start l.self.threshold (record { kept = l.kept; cert = l.cert })
