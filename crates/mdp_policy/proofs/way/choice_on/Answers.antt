use Rattle.std.proofs.Common.{◌≡◌, ◌∙◌, ◌||◌, Bool, sym, ap₂, slice_index_or}
use Rattle.std.specs.Prelude.{slice_index}
use Rattle.mdp_spec.specs.Sub.{policy_on}
use Rattle.mdp_spec.proofs.Subsystem.{stays-goal, stays-kept, policy_on-stays, policy_on-loops}
use Rattle.mdp_policy.proofs.way.choice_on.Goals.{then-at, else-at}
use Rattle.mdp_policy.proofs.way.choice_on.Goals as goal

pub returns-then-at-2 : goal.returns-then-at-2
returns-then-at-2 c =
    let stay = c.args.stay.now in
    let goals = c.args.goals.now in
    elim c.if-at.branch as (λ _. slice_index_or c.args.policy.now c.args.s 0 ≡ slice_index (policy_on goals stay c.args.policy.now) c.args.s) [
      | then-at w ↦ sym (policy_on-stays goals stay c.args.policy.now c.args.s (stays-goal goals stay c.args.s (sym c.at.ensures ∙ w.if-at.true)))
      | else-at w ↦ sym (policy_on-stays goals stay c.args.policy.now c.args.s (stays-kept goals stay c.args.s (sym w.at-else-at.ensures ∙ sym w.value-is ∙ c.if-at-2.true)))
    ]

pub returns-else-at-2 : goal.returns-else-at-2
returns-else-at-2 c =
    let stay = c.args.stay.now in
    let goals = c.args.goals.now in
    elim c.if-at.branch as (λ _. 0 ≡ slice_index (policy_on goals stay c.args.policy.now) c.args.s) [
      | then-at w ↦ let e = sym w.value-is ∙ c.if-at-2.false in cc
      | else-at w ↦ sym (policy_on-loops goals stay c.args.policy.now c.args.s
          (ap₂ (λ (a b : Bool). a || b) (sym c.at.ensures ∙ w.if-at.false) (sym w.at-else-at.ensures ∙ sym w.value-is ∙ c.if-at-2.false)))
    ]
