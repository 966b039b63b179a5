use Rattle.std.proofs.Common.{Bool, ◌&&◌, ap₂, refl, arith}
use Rattle.mdp_spec.specs.Bounds.{reward_at}
use Rattle.mdp_cert.specs.Cert.{reward}
use Rattle.mdp_command_solve.proofs.Printing.{init_inside, may_be_reward, reward_entries}
use Rattle.mdp_command_solve.proofs.certificate.reward_certificate_of.Goals as goal

pub invariant_of-cert : goal.invariant_of-cert
invariant_of-cert c = record {
  some = let e = c.states.ensures in let l = c.known.ensures.mdp.some in omega (arith, e, l);
  limit = let e = c.states.ensures in let l = c.known.ensures.mdp.few in omega (arith, e, l);
  names = ap₂ (λ (a b : Bool). a && b) c.requires.name c.requires.label;
  threshold = refl;
  inside = init_inside (reward c.args.dir c.args.name.items c.args.label.items) refl c.args.model.now (reward_at c.deref.result.now) c.states.result c.init_with_rewards-init.result c.states.ensures
      (λ s. may_be_reward c.args.dir c.args.name.items c.args.label.items (reward_at c.deref.result.now s)) c.init_with_rewards-init.ensures;
  entries = reward_entries c.args.dir c.args.name.items c.args.label.items _ _ _ _ _ c.states.ensures c.requires.values c.requires.choices c.requires.ranks;
}
