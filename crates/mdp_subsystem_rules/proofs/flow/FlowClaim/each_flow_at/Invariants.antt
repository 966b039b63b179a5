use Rattle.std.proofs.Common.{◌≡◌, drop}
use Rattle.mdp_spec.specs.Mdp.{states_of}
use Rattle.mdp_subsystem_rules.specs.{FlowClaim.{flows_at, sums_after_all}, Sums.{AreSums}}
use Rattle.mdp_farkas.specs.Verdict.{objection_to}
use Rattle.mdp_subsystem_rules.proofs.flow.FlowClaim.each_flow_at.Given as goal

-- the flows that are left, from the sums so far, end the walk as all flows do from the first sums, and give the same sums
abbrev pub invariant-loop-flow : goal.invariant-loop-flow
invariant-loop-flow l =
    (objection_to (flows_at l.self l.initial.sums l.flows) ≡ objection_to (flows_at l.self l.sums (drop l.flow-index l.flows)))
    × (sums_after_all l.self l.initial.sums l.flows ≡ sums_after_all l.self l.sums (drop l.flow-index l.flows))
    × AreSums (states_of l.self.model.now) l.sums
