use Rattle.mdp_gain.specs.Code.{component_in}
use Rattle.mdp_gain.proofs.Allowing.{AreAllowed}
use Rattle.mdp_gain.proofs.chosen.Chosen.choices.Given as goal

abbrev pub invariant-loop-s : goal.invariant-loop-s
invariant-loop-s l = AreAllowed l.self.component.model.now (component_in l.self.component) l.self.policy.now l.s l.allowed
