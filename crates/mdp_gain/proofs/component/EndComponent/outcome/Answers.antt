use Rattle.std.proofs.Common.{rules}
use Rattle.mdp_gain.specs.Query.{plain}
use Rattle.mdp_gain.proofs.Solving.{found_fits, error_fits, found_ends, error_ends}
use Rattle.mdp_gain.proofs.component.EndComponent.outcome.Goals as goal

pub inner_of-requires-clause-policy : goal.inner_of-requires-clause-policy
inner_of-requires-clause-policy c =
    (found_fits c.args.self.now c.in_ok-states.states.items (c.in_ok-states.ensures {u = tt}) c.args.end c.requires.entries c.in-Ok.found (search rules)).0

pub inner_of-requires-clause-bias : goal.inner_of-requires-clause-bias
inner_of-requires-clause-bias c =
    (found_fits c.args.self.now c.in_ok-states.states.items (c.in_ok-states.ensures {u = tt}) c.args.end c.requires.entries c.in-Ok.found (search rules)).1

pub at_states-requires : goal.at_states-requires
at_states-requires c =
    error_fits c.args.self.now c.in_ok-states.states.items (c.in_ok-states.ensures {u = tt}) c.args.end c.requires.entries c.in-Err.error (search rules) c.deref.result.now c.deref.ensures.value

pub returns-in_ok-inner_of-in-Ok : goal.returns-in_ok-inner_of-in-Ok
returns-in_ok-inner_of-in-Ok c =
    let path = c.requires.path in
    found_ends c.args.self.now c.in_ok-states.states.items (c.in_ok-states.ensures {u = tt}) c.requires.given path.0 path.1 c.args.end path.2 c.in-Ok.found (search rules) (plain c.in_ok-inner_of-in-Ok.field-0)
    (c.in_ok-inner_of-in-Ok.ensures {u = tt})

pub returns-in-Err : goal.returns-in-Err
returns-in-Err c =
    let path = c.requires.path in
    error_ends c.args.self.now c.in_ok-states.states.items (c.in_ok-states.ensures {u = tt}) c.requires.given path.0 path.1 c.args.end path.2 c.in-Err.error (search rules) c.deref.result.now c.deref.ensures.value
    c.at_states.result c.at_states.ensures _ c.in_part.ensures
