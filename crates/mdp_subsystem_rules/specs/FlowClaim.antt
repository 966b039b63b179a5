-- The checks of what is claimed of a flow, by the fields of the claim.
use Rattle.std.specs.Prelude.{List, ◌++◌, map}
use Rattle.mdp_math.specs.Rational.{ℚ}
use Rattle.mdp_farkas.specs.Verdict.{Check}
use Rattle.mdp_claims.specs.declared.subsystem.Flow.{Flow}
use Rattle.mdp_subsystem_rules.specs.{FlowChecks.{kept_check, checks_at, each_flow, checks_from}, Sums.{FlowSums, after_flow, after_flows}}
use Rattle.mdp_subsystem_rules.specs.declared.flow.FlowClaim.{FlowClaim}

-- the rules at a flow, and at each of a list, from these sums on
abbrev pub flow_at : FlowClaim → FlowSums → Flow → List Check
flow_at x sums f = checks_at x.model.now x.goals.now x.kept.now sums f

abbrev pub flows_at : FlowClaim → FlowSums → List Flow → List Check
flows_at x sums flows = each_flow x.model.now x.goals.now x.kept.now sums flows

-- the sums after one flow, and after each of a list
abbrev pub sums_after : FlowClaim → FlowSums → Flow → FlowSums
sums_after x sums f = after_flow x.model.now x.goals.now sums f

abbrev pub sums_after_all : FlowClaim → FlowSums → List Flow → FlowSums
sums_after_all x sums flows = after_flows x.model.now x.goals.now sums flows

-- all rules, with this threshold and from these sums on
abbrev pub all_checks : FlowClaim → ℚ → FlowSums → List Check
all_checks x threshold sums =
    map (kept_check x.goals.now) x.cert.now.kept.items ++ checks_from x.model.now x.goals.now threshold x.cert.now.kept.items x.cert.now.flows.items sums
