use Rattle.mdp_gain.specs.Code.{component_in}
use Rattle.mdp_gain.proofs.Allowing.{IsAllowing}
use Rattle.mdp_gain.proofs.chosen.Chosen.allow_at.Given as goal

abbrev pub invariant-loop-c : goal.invariant-loop-c
invariant-loop-c l = IsAllowing l.self.component.model.now (component_in l.self.component) l.self.policy.now l.s l.c l.initial.allowed l.allowed
