use Rattle.std.proofs.Common.{◌∙◌, ℕ, List, Some, None, IfOk, sym, ap, subst}
use Rattle.mdp_spec.specs.{Mdp.{Mdp, states_of}, Sub.{sub_of}, Tree.{IsPolicy}}
use Rattle.mdp_spec.proofs.Subsystem.{sub-states, policy_on_sub}
use Rattle.mdp_policy.specs.Answer.{plain}
use Rattle.mdp_policy.proofs.{Facts.{IsValued}, Ways.{answered_there, as_one, each_part, bound_part, none_up_part, up_part, down_part}}
use Rattle.mdp_policy.proofs.way.until_value.Goals.{After-deref, After-reach_value}
use Rattle.mdp_policy.proofs.way.until_value.Goals as goal

pub reach_value-requires-clause-goals : goal.reach_value-requires-clause-goals
reach_value-requires-clause-goals c = c.requires.goals ∙ sym (ap states_of c.in_ok-way.ensures ∙ sub-states c.args.model.now c.args.goals.now c.args.stay.now)

pub reach_value-requires-clause-policy : goal.reach_value-requires-clause-policy
reach_value-requires-clause-policy c =
    subst (λ (w : Mdp). IsPolicy w c.deref.result.now) (sym c.in_ok-way.ensures)
    (subst (IsPolicy (sub_of c.args.model.now c.args.goals.now c.args.stay.now)) (sym (c.deref.ensures.value ∙ c.in_ok-choices.ensures))
    (policy_on_sub c.args.model.now c.args.goals.now c.args.stay.now c.args.policy.now c.requires.policy))

-- the value that was found on the way, of the model
valued : (c : After-reach_value) → IfOk c.reach_value.result (λ v. IsValued c.args.model.now (Some c.args.stay.now) c.args.goals.now c.args.policy.now (plain v))
valued c =
    let r = c.reach_value.ensures in
    let there : IfOk c.reach_value.result (λ v. IsValued c.in_ok-way.way None c.args.goals.now c.deref.result.now (plain v)) =
    as_one c.in_ok-way.way None c.args.goals.now c.deref.result.now c.reach_value.result r.each r.bound r.none_up r.up r.down r.up_in r.down_in in
    answered_there c.args.model.now c.args.stay.now c.args.goals.now c.args.policy.now c.known.ensures.mdp c.requires.policy c.reach_value.result
    (subst (λ (p : List ℕ). IfOk c.reach_value.result (λ v. IsValued (sub_of c.args.model.now c.args.goals.now c.args.stay.now) None c.args.goals.now p (plain v)))
    (c.deref.ensures.value ∙ c.in_ok-choices.ensures)
    (subst (λ (w : Mdp). IfOk c.reach_value.result (λ v. IsValued w None c.args.goals.now c.deref.result.now (plain v))) c.in_ok-way.ensures there))

pub returns-clause-each : goal.returns-clause-each
returns-clause-each c = each_part c.args.model.now (Some c.args.stay.now) c.args.goals.now c.args.policy.now c.reach_value.result (valued (goal.at.returns-clause-each c).After-reach_value)

pub returns-clause-bound : goal.returns-clause-bound
returns-clause-bound c = bound_part c.args.model.now (Some c.args.stay.now) c.args.goals.now c.args.policy.now c.reach_value.result (valued (goal.at.returns-clause-bound c).After-reach_value)

pub returns-clause-none_up : goal.returns-clause-none_up
returns-clause-none_up c =
    none_up_part c.args.model.now (Some c.args.stay.now) c.args.goals.now c.args.policy.now c.reach_value.result (valued (goal.at.returns-clause-none_up c).After-reach_value)

pub returns-clause-up : goal.returns-clause-up
returns-clause-up c = up_part c.args.model.now (Some c.args.stay.now) c.args.goals.now c.args.policy.now c.reach_value.result (valued (goal.at.returns-clause-up c).After-reach_value)

pub returns-clause-down : goal.returns-clause-down
returns-clause-down c = down_part c.args.model.now (Some c.args.stay.now) c.args.goals.now c.args.policy.now c.reach_value.result (valued (goal.at.returns-clause-down c).After-reach_value)
