use Rattle.std.proofs.Common.{◌≡◌, ℕ, true, sym, ap, subst, ◌∙◌, arith}
use Rattle.mdp_spec.specs.Labels.{initial_of}
use Rattle.mdp_cert.specs.{Cert.{plain_claim}, BoundsCert.{plain_body, is_init_of, is_body_of}}
use Rattle.mdp_text.proofs.InitialState.{initial_below}
use Rattle.mdp_command_bounds_search.proofs.Printing.{values_of_body, init_inside}
use Rattle.mdp_command_bounds_search.proofs.certificate.certificate_of.Goals as goal

pub init_between-init-requires : goal.init_between-init-requires
init_between-init-requires c = values_of_body (plain_claim c.args.claim) _ (plain_body c.args.body) c.requires.entries

pub invariant_of-result : goal.invariant_of-result
invariant_of-result c =
    let m = c.args.model.now in
    let claim = plain_claim c.args.claim in
    let body = plain_body c.args.body in
    let entries : is_body_of claim c.states.result body ≡ true = subst (λ (n : ℕ). is_body_of claim n body ≡ true) (sym c.states.ensures) c.requires.entries in
    record {
      some = let e = c.states.ensures in let l = c.known.ensures.mdp.some in omega (arith, e, l);
      limit = let e = c.states.ensures in let l = c.known.ensures.mdp.few in omega (arith, e, l);
      names = c.requires.names;
      inside =
          ap (is_init_of claim c.states.result) c.init_between-init.ensures
          ∙ init_inside claim c.states.result (initial_of m) body entries (λ s h. let l = initial_below m s h in let e = c.states.ensures in omega (arith, l, e));
      entries = entries;
    }
