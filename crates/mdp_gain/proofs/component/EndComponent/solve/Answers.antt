use Rattle.mdp_unichain.proofs.Paths.{first_is_start}
use Rattle.mdp_gain.specs.Code.{component_in}
use Rattle.mdp_gain.proofs.Given.{is-component}
use Rattle.mdp_gain.proofs.component.EndComponent.solve.Goals as goal

pub improve-end-requires-clause-start : goal.improve-end-requires-clause-start
improve-end-requires-clause-start c = first_is_start (component_in c.args.self.now) c.in_ok-start.start.items (is-component c.args.self.now c.requires.given) (c.in_ok-start.ensures {u = tt})

pub outcome-requires-clause-path : goal.outcome-requires-clause-path
outcome-requires-clause-path c = (c.in_ok-start.start.items, c.in_ok-start.ensures {u = tt}, c.improve-end.ensures.path)
