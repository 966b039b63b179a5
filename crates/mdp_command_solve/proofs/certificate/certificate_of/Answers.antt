use Rattle.std.proofs.Common.{Some, refl, ap, ◌∙◌, arith}
use Rattle.mdp_cert.specs.Cert.{PlainClaim, plain_claim, are_names, has_threshold, is_witness, is_body_of, policy}
use Rattle.mdp_spec.specs.Mdp.{value_at}
use Rattle.mdp_command_solve.specs.Ways.{owned_name}
use Rattle.mdp_command_solve.proofs.Printing.{init_inside, body_entries, no_threshold, no_witness}
use Rattle.mdp_command_solve.proofs.certificate.certificate_of.Goals as goal

pub invariant_of-cert : goal.invariant_of-cert
invariant_of-cert c =
    let dir = c.args.dir in
    let stay = owned_name c.args.stay in
    let label = c.args.label.items in
    let is = c.claim_of.ensures in
    record {
      some = let e = c.states.ensures in let l = c.known.ensures.mdp.some in omega (arith, e, l);
      limit = let e = c.states.ensures in let l = c.known.ensures.mdp.few in omega (arith, e, l);
      names = ap are_names is ∙ c.requires.names;
      threshold = ap has_threshold is ∙ no_threshold dir stay label;
      inside = init_inside (plain_claim c.claim_of.result) (ap is_witness is ∙ no_witness dir stay label) c.args.model.now (λ s. Some (value_at c.deref.result.now s)) c.states.result
          c.init_with-init.result c.states.ensures (λ s. refl) c.init_with-init.ensures;
      entries = ap (λ (k : PlainClaim). is_body_of k c.states.result (policy c.args.answer.values.items c.args.answer.choices.items c.args.answer.ranks.items)) is
          ∙ body_entries dir stay label _ _ _ _ _ c.states.ensures c.requires.values c.requires.choices c.requires.ranks;
    }
