use Rattle.std.proofs.Common.{inl, inr, ⊎_elim, sym, ◌∙◌}
use Rattle.mdp_subsystem_bounds.specs.Plain.{plain}
use Rattle.mdp_subsystem_bounds.proofs.Accepting.{accepted_of, answer_accepted, accepted_is_bound}
use Rattle.mdp_subsystem_bounds.proofs.checking.check_subsystem_bounds.Goals as goal

pub returns-clause-accepted : goal.returns-clause-accepted
returns-clause-accepted c =
    let m = c.args.model.now in
    let cert = c.args.cert.now in
    ⊎_elim (λ memory. inl memory)
    (λ is. inr (
      (λ yes_. accepted_of m (plain cert) c.known.ensures.mdp cert.choice_each (sym is ∙ yes_)),
      (λ accepted. is ∙ answer_accepted m (plain cert) c.known.ensures.mdp cert.choice_each accepted),
    )) c.answered.ensures

pub returns-clause-bound : goal.returns-clause-bound
returns-clause-bound c yes_ =
    let m = c.args.model.now in
    let cert = c.args.cert.now in
    ⊎_elim (λ memory. absurd (let clash = sym memory ∙ yes_ in cc))
    (λ is. accepted_is_bound m (plain cert) c.known.ensures.mdp (accepted_of m (plain cert) c.known.ensures.mdp cert.choice_each (sym is ∙ yes_))) c.answered.ensures
