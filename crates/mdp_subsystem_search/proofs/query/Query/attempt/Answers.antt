use Rattle.std.proofs.Common.{ap, ◌∙◌}
use Rattle.mdp_spec.specs.Mdp.{states_of}
use Rattle.mdp_spec.proofs.Subsystem.{sub-states}
use Rattle.mdp_subsystem_search.proofs.query.Query.attempt.Goals as goal

pub proposed-requires : goal.proposed-requires
proposed-requires c = ap states_of (c.in_ok-sub.ensures {u = tt}) ∙ sub-states c.args.self.now.model.now c.args.self.now.goals.now c.args.kept.now

pub reaching-requires-clause-states : goal.reaching-requires-clause-states
reaching-requires-clause-states c = ap states_of (c.in_ok-sub.ensures {u = tt}) ∙ sub-states c.args.self.now.model.now c.args.self.now.goals.now c.args.kept.now
