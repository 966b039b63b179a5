use Rattle.std.proofs.Common.{◌≡◌, take}
use Rattle.std.specs.List.{filter_map}
use Rattle.mdp_cert.specs.Witness.{kept_in, mark_in, flow_in}
use Rattle.mdp_cert.proofs.flow_lines.flow_body.Given as goal

abbrev pub invariant-loop-line : goal.invariant-loop-line
invariant-loop-line l = record {
  kept : l.cert.kept.items ≡ filter_map kept_in (take l.line-index l.lines);
  wide : l.cert.wide.items ≡ filter_map mark_in (take l.line-index l.lines);
  flows : l.cert.flows.items ≡ filter_map flow_in (take l.line-index l.lines);
}
