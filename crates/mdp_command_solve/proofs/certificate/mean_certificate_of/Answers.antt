use Rattle.std.proofs.Common.{Some, refl, arith}
use Rattle.mdp_cert.specs.Cert.{mean}
use Rattle.mdp_spec.specs.Mdp.{value_at}
use Rattle.mdp_mean.specs.Query as averaged
use Rattle.mdp_command_solve.proofs.Printing.{init_inside, mean_entries}
use Rattle.mdp_command_solve.proofs.certificate.mean_certificate_of.Goals as goal

pub invariant_of-cert : goal.invariant_of-cert
invariant_of-cert c = record {
  some = let e = c.states.ensures in let l = c.known.ensures.mdp.some in omega (arith, e, l);
  limit = let e = c.states.ensures in let l = c.known.ensures.mdp.few in omega (arith, e, l);
  names = c.requires.name;
  threshold = refl;
  inside = init_inside (mean c.args.dir c.args.name.items) refl c.args.model.now (λ s. Some (value_at c.deref.result.now s)) c.states.result
      c.init_with-init.result c.states.ensures (λ s. refl) c.init_with-init.ensures;
  entries = mean_entries c.args.dir c.args.name.items _ _ (averaged.plain c.args.answer) c.states.ensures
      (record { gains = c.requires.gains; bound = c.requires.bound; bias = c.requires.bias; choices = c.requires.choices });
}
