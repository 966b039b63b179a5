use Rattle.std.specs.List.{AllWithin}
use Rattle.mdp_cert.specs.Cert.{IsFlowInWidth}
use Rattle.mdp_cert.proofs.widths.all_flows_narrow.Given as goal

abbrev pub invariant-loop-flow : goal.invariant-loop-flow
invariant-loop-flow l = AllWithin IsFlowInWidth l.flows 0 l.flow-index
