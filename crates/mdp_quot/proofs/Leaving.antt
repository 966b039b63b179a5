-- Each policy that the two queries evaluate leaves its active nodes, so the system of its values has exactly one solution.
use Rattle.mdp_policy_iteration.specs.Laws.{HasOneValue}
use Rattle.mdp_quot.specs.{Problem.{steps_problem, outer_problem}, ExitsLaws.{ChosenExitsLeave, OuterPoliciesLeave}}
use Rattle.mdp_quot.proofs.{Sizes.{is_shaped}, StepsNodes.{steps-known}, OuterNodes.{outer-known}, StepsBest.{steps-leaves}, OuterBest.{outer-leaves}}
use Rattle.mdp_quot.proofs.{StepsOfAll.{chosen-policy}, OuterOfAll.{policy-is}}

pub chosen_exits_leave : HasOneValue → ChosenExitsLeave
chosen_exits_leave once q chosen of c =
    let is = chosen-policy q chosen c in
    let leaves = steps-leaves q chosen is of in
    (leaves, once (steps_problem q) chosen (steps-known q (is_shaped q of)) is leaves)

pub outer_policies_leave : HasOneValue → OuterPoliciesLeave
outer_policies_leave once dir q gains policy of o =
    let is = policy-is dir q gains policy o in
    let leaves = outer-leaves dir q gains policy is of in
    (leaves, once (outer_problem dir q gains) policy (outer-known dir q gains (is_shaped q of)) is leaves)
