use Rattle.std.proofs.Common.{arith}
use Rattle.mdp_gain.specs.Code.{component_in}
use Rattle.mdp_gain.proofs.{Allowing.{all_allowed}, Given.{count-is}}
use Rattle.mdp_gain.proofs.chosen.Chosen.choices.Goals as goal

pub allow_at-requires-clause-state : goal.allow_at-requires-clause-state
allow_at-requires-clause-state c = omega (arith, c.loop-s-test.true, c.count-s-end.ensures, count-is c.args.self.now.component)

pub returns-clause-taken : goal.returns-clause-taken
returns-clause-taken c =
    all_allowed c.args.self.now.component.model.now (component_in c.args.self.now.component) c.args.self.now.policy.now c.loop-s.s c.loop-s.allowed c.loop-s.invariant
    (omega (arith, c.loop-s-test.false, c.loop-s.auto.s-end, c.count-s-end.ensures, count-is c.args.self.now.component))
