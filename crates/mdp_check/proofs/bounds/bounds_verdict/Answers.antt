use Rattle.std.proofs.Common.{◌↔◌, ℕ, List, sym, subst}
use Rattle.std.specs.Prelude.{IfOk}
use Rattle.mdp_cert.specs.{declared.claim.Claim.{Claim}, declared.bounds_body.BoundsBody.{BoundsBody}, Cert.{until, plain_claim}, BoundsCert.{plain_body}}
use Rattle.mdp_farkas.specs.Verdict.{IsYes}
use Rattle.mdp_bounds.specs.Reach.{IsReachBounds}
use Rattle.mdp_check.specs.{Check.{way_of}, Bounds.{valid_bounds_by}}
use Rattle.mdp_check.proofs.bounds.bounds_verdict.Goals as goal

pub returns-in-Until-Reach-clause-rules : goal.returns-in-Until-Reach-clause-rules
returns-in-Until-Reach-clause-rules c =
    let m = c.args.model.now in
    let goals = c.args.goals.now in
    let cert = c.args.cert.now in
    let found = c.in-Until-Reach in
    let said = found.reach in
    subst (λ (claim : Claim). IfOk c.until_bounds_verdict.result (λ v. IsYes v ↔ valid_bounds_by m c.args.reward goals (plain_claim claim) (plain_body cert.body))) (sym found.is-0)
    (subst (λ (body : BoundsBody). IfOk c.until_bounds_verdict.result (λ v. IsYes v ↔ valid_bounds_by m c.args.reward goals (until found.dir found.stay.items found.label-0.items) (plain_body body))) (sym found.is-1)
    (subst (λ (stay : List ℕ). IfOk c.until_bounds_verdict.result (λ v. IsYes v ↔ IsReachBounds found.dir (way_of m goals stay) goals said.lower.items said.upper.items said.choices.items said.ranks.items))
    c.deref.ensures.value c.until_bounds_verdict.ensures.rules))
