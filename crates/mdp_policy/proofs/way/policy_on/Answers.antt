use Rattle.std.proofs.Common.{◌≡◌, ◌∙◌, ◌++◌, ◌∷◌, [], ℕ, ◌≤◌, ◌<◌, List, length, sym, ap₂, subst}
use Rattle.std.proofs.lemmas.List.{take_more, take_all}
use Rattle.mdp_spec.specs.{Mdp.{states_of}, Sub.{policy_on}}
use Rattle.mdp_spec.proofs.Subsystem.{sub-states, policy_on_sub}
use Rattle.mdp_policy.proofs.way.policy_on.Goals.{Start}
use Rattle.mdp_policy.proofs.way.policy_on.Goals as goal

-- one choice for each state
each : (c : Start) → states_of c.args.model.now ≡ length (policy_on c.args.goals.now c.args.stay.now c.args.policy.now)
each c =
    let m = c.args.model.now in
    sym ((policy_on_sub m c.args.goals.now c.args.stay.now c.args.policy.now c.requires.policy).one_each ∙ sub-states m c.args.goals.now c.args.stay.now)

pub loop-s-preserved : goal.loop-s-preserved
loop-s-preserved c =
    (c.in_ok-push.ensures {u = tt}).items ∙ ap₂ (λ (xs : List ℕ) (x : ℕ). xs ++ x ∷ []) c.loop-s.invariant c.choice_on.ensures
    ∙ sym (take_more _ c.loop-s.s 0 (subst (λ (n : ℕ). c.loop-s.s < n) (c.states-s-end.ensures ∙ each (goal.at.loop-s-preserved c).Start) c.loop-s-test.true))

pub returns : goal.returns
returns c =
    c.loop-s.invariant
    ∙ take_all c.loop-s.s _ (subst (λ (n : ℕ). n ≤ c.loop-s.s) (c.states-s-end.ensures ∙ each (goal.at.returns c).Start) c.loop-s-test.false)
