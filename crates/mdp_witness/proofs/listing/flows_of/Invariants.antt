use Rattle.std.proofs.Common.{◌≡◌}
use Rattle.mdp_subsystem_rules.specs.Visits.{visit_flows}
use Rattle.mdp_witness.proofs.listing.flows_of.Given as goal

abbrev pub invariant-loop-s : goal.invariant-loop-s
invariant-loop-s l = l.flows.items ≡ visit_flows l.s l.policy l.visits
