use Rattle.std.proofs.Common.{◌≡◌, true, sym, ap, ◌∙◌, arith}
use Rattle.mdp_cert.specs.{declared.body.Body.{Body}, declared.cert.Cert.{Cert}, Cert.{plain_claim, plain_body, is_body_of}}
use Rattle.mdp_cert.proofs.{Growth.{bounds-entries, policy-entries, reward-entries, gains-entries, lines-of-flow, lines-of-floor}}
use Rattle.mdp_cert.proofs.StateWords.{three-back, back}
use Rattle.mdp_cert.proofs.write.push_body.Goals as goal

-- a certificate of this body has the entries that the body is to have
of-body : (cert : Cert) (body : Body) → cert.body ≡ body → is_body_of (plain_claim cert.claim) cert.states (plain_body body) ≡ true
of-body cert body is = ap (λ (b : Body). is_body_of (plain_claim cert.claim) cert.states (plain_body b)) (sym is) ∙ cert.entries

pub push_to_end-requires : goal.push_to_end-requires
push_to_end-requires c =
    let cert = c.args.cert.now in bounds-entries (plain_claim cert.claim) cert.states c.in-Upper.bounds.values.items (of-body cert _ c.in-Upper.is)

pub push_policy-requires : goal.push_policy-requires
push_policy-requires c =
    let cert = c.args.cert.now in
    let x = c.in-Reach.policy in
    let e = policy-entries (plain_claim cert.claim) cert.states x.values.items x.choices.items x.ranks.items (of-body cert _ c.in-Reach.is) in
    rw (c.deref.ensures.value, c.deref-in-Reach.ensures.value, c.deref-in-Reach-2.ensures.value) (three-back cert.states x.values.items x.choices.items x.ranks.items e.values e.choices e.ranks).count

pub push_policy-requires-in-Reward : goal.push_policy-requires-in-Reward
push_policy-requires-in-Reward c =
    let cert = c.args.cert.now in
    let x = c.in-Reward.policy in
    let e = reward-entries (plain_claim cert.claim) cert.states x.values.items x.choices.items x.ranks.items (of-body cert _ c.in-Reward.is) in
    rw (c.deref-in-Reward.ensures.value, c.deref-in-Reward-2.ensures.value, c.deref-in-Reward-3.ensures.value) (three-back cert.states x.values.items x.choices.items x.ranks.items e.values e.choices e.ranks).count

pub push_means-requires : goal.push_means-requires
push_means-requires c =
    let cert = c.args.cert.now in
    let x = c.in-Mean.mean in
    let e =
    gains-entries (plain_claim cert.claim) cert.states x.gains.items x.bound.items x.bias.items x.choices.items x.spread (of-body cert _ c.in-Mean.is) in
    (back cert.states x.gains.items x.bound.items x.bias.items x.choices.items (record { lower = e.gains; upper = e.bounds; choices = e.biases; ranks = e.choices })).count

pub push_listed-requires : goal.push_listed-requires
push_listed-requires c =
    let cert = c.args.cert.now in
    let x = c.in-Flow.flow in
    let e = lines-of-flow (plain_claim cert.claim) cert.states x.kept.items x.wide.items x.flows.items (of-body cert _ c.in-Flow.is) in
    omega (arith, e, c.len.ensures, c.len-in-Flow.ensures)

pub push_listed-requires-in-Floor : goal.push_listed-requires-in-Floor
push_listed-requires-in-Floor c =
    let cert = c.args.cert.now in
    let x = c.in-Floor.floor in
    let e = lines-of-floor (plain_claim cert.claim) cert.states x.kept.items x.wide.items x.values.items x.ranks.items (of-body cert _ c.in-Floor.is) in
    omega (arith, e, c.len-in-Floor.ensures)
