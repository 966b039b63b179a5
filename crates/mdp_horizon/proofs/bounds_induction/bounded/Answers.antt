use Rattle.std.proofs.Common.{◌∙◌, length, sym, ap}
use Rattle.mdp_horizon.specs.Code.{plain_objective}
use Rattle.mdp_horizon.proofs.StepsLemmas.{cover_states, follow_states}
use Rattle.mdp_horizon.proofs.bounds_induction.bounded.Goals as goal

pub shown_column-requires-clause-states : goal.shown_column-requires-clause-states
shown_column-requires-clause-states c =
    c.states-states.ensures
    ∙ sym (ap length (c.in_ok-found.ensures {u = tt}).cover ∙ cover_states c.args.query.dir c.args.query.one c.args.query.model.now (plain_objective c.args.query.objective) c.args.steps)

pub shown_column-requires-2-clause-states : goal.shown_column-requires-2-clause-states
shown_column-requires-2-clause-states c =
    c.states-states.ensures
    ∙ sym (ap length (c.in_ok-found.ensures {u = tt}).follow ∙ follow_states c.args.query.dir c.args.query.one c.args.query.model.now (plain_objective c.args.query.objective) c.args.steps)
