use Rattle.std.proofs.Common.{arith}
use Rattle.mdp_rows.specs.declared.dir.Dir.TheVariants.{Max}
use Rattle.mdp_command_solve.specs.Ways.{owned_name}
use Rattle.mdp_command.proofs.Thresholds.{threshold_fits}
use Rattle.mdp_command_solve.proofs.WitnessFitting.{flow_fits, start_fits}
use Rattle.mdp_command_solve.proofs.witness_certificate.flow_certificate_of.Goals as goal

pub invariant_of-cert : goal.invariant_of-cert
invariant_of-cert c = record {
  some = let e = c.states.ensures in let l = c.known.ensures.mdp.some in omega (arith, e, l);
  limit = let e = c.states.ensures in let l = c.known.ensures.mdp.few in omega (arith, e, l);
  names = c.requires.names;
  threshold = threshold_fits c.args.threshold c.requires.threshold;
  inside = start_fits Max (owned_name c.args.stay) c.args.label.items c.args.threshold c.states.result c.args.start (let e = c.states.ensures in let l = c.requires.start in omega (arith, e, l));
  entries = flow_fits c.args.model.now c.states.result c.states.ensures c.args.found.kept.items c.args.found.wide.items c.args.found.flows.items c.requires.shape;
}
