use Rattle.std.proofs.Common.{◌≡◌, true, sym, ap, ◌∙◌}
use Rattle.mdp_cert.specs.{Cert.{plain_claim}, declared.bounds_body.BoundsBody.{BoundsBody}, declared.bounds_cert.BoundsCert.{BoundsCert}}
use Rattle.mdp_cert.specs.BoundsCert.{plain_body, is_body_of}
use Rattle.mdp_cert.proofs.StateWords.{back, gains-back}
use Rattle.mdp_cert.proofs.BoundsBodies.{reach-counts, reward-counts, mean-counts}
use Rattle.mdp_cert.proofs.bounds_write.push_body.Goals as goal

-- a certificate of this body has the entries that the body is to have
of-body : (cert : BoundsCert) (body : BoundsBody) → cert.body ≡ body → is_body_of (plain_claim cert.claim) cert.states (plain_body body) ≡ true
of-body cert body is = ap (λ (b : BoundsBody). is_body_of (plain_claim cert.claim) cert.states (plain_body b)) (sym is) ∙ cert.entries

pub push_ranked-requires : goal.push_ranked-requires
push_ranked-requires c =
    let cert = c.args.cert.now in
    let x = c.in-Reach.cert in
    rw (c.deref.ensures.value, c.deref-in-Reach.ensures.value, c.deref-in-Reach-2.ensures.value, c.deref-in-Reach-3.ensures.value)
    (back cert.states x.lower.items x.upper.items x.choices.items x.ranks.items
    (reach-counts (plain_claim cert.claim) cert.states x.lower.items x.upper.items x.choices.items x.ranks.items (of-body cert _ c.in-Reach.is))).count

pub push_ranked-requires-in-Reward : goal.push_ranked-requires-in-Reward
push_ranked-requires-in-Reward c =
    let cert = c.args.cert.now in
    let x = c.in-Reward.cert in
    rw (c.deref-in-Reward.ensures.value, c.deref-in-Reward-2.ensures.value, c.deref-in-Reward-3.ensures.value, c.deref-in-Reward-4.ensures.value)
    (back cert.states x.lower.items x.upper.items x.choices.items x.ranks.items
    (reward-counts (plain_claim cert.claim) cert.states x.lower.items x.upper.items x.choices.items x.ranks.items (of-body cert _ c.in-Reward.is))).count

pub push_gains-requires : goal.push_gains-requires
push_gains-requires c =
    let cert = c.args.cert.now in
    let x = c.in-Mean.cert in
    let e =
    mean-counts (plain_claim cert.claim) cert.states x.lower.items x.upper.items x.bound.items x.bias.items x.choices.items x.spread (of-body cert _ c.in-Mean.is) in
    (gains-back cert.states x.lower.items x.upper.items x.bound.items x.bias.items x.choices.items e).count
