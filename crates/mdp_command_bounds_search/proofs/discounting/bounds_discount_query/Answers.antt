use Rattle.std.proofs.Common.{◌⊎◌, sym, subst}
use Rattle.mdp_discount_rules.specs.{BoundsPlain.{plain}, declared.bounds.DiscountBounds.{DiscountBounds}}
use Rattle.mdp_search_bounds.specs.{Near.{AreValuesNear}, Wide.{IsDiscountWide}}
use Rattle.mdp_command_bounds_search.proofs.DiscountPrinting.{printed, text_due}
use Rattle.mdp_command_bounds_search.proofs.discounting.bounds_discount_query.Goals as goal

pub returns-clause-due : goal.returns-clause-due
returns-clause-due c =
    let e = c.in_ok-cert.ensures in
    text_due c.args.dir c.args.name.now c.args.factor c.args.model.now (plain c.in_ok-cert.cert) e.claim e.accepted e.fits c.in-Some.place (sym c.in-Some.ensures) _
    c.certificate_text.ensures

pub returns-clause-printed : goal.returns-clause-printed
returns-clause-printed c =
    let m = c.args.model.now in
    let e = c.in_ok-cert.ensures in
    let r = c.in-Some.place in
    let near =
    subst (λ (b : DiscountBounds). AreValuesNear c.args.digits m b.lower.items b.upper.items ⊎ IsDiscountWide c.args.dir m r c.args.factor) (sym e.bounds) c.in_ok-bounds.ensures.near in
    printed c.args.dir c.args.name.now c.args.factor m (plain c.in_ok-cert.cert) e.claim e.accepted e.fits c.args.digits (r, sym c.in-Some.ensures, near)
    c.known.ensures.mdp c.discount_bounds_text_law.ensures.back c.discount_bounds_law.ensures.true_claim _ c.certificate_text.ensures
