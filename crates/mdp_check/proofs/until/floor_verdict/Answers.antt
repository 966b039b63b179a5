use Rattle.std.proofs.Common.{◌≡◌, ◌↔◌, ℕ, List, Option, Some, Vec, Global, sym, ap, subst}
use Rattle.std.specs.Prelude.{IfOk, option_map}
use Rattle.mdp_farkas.specs.Verdict.{verdict_of, IfYes, IsYes}
use Rattle.mdp_subsystem_rules.specs.FloorChecks.{floor_checks, HoldsFloor}
use Rattle.mdp_check.specs.Check.{way_of, way_by, floor_bound}
use Rattle.mdp_check.proofs.until.floor_verdict.Goals as goal

abbrev named : Option (Vec ℕ Global) → Option (List ℕ)
named o = option_map (λ name. name.items) o

pub returns-in-Some-clause-verdict : goal.returns-in-Some-clause-verdict
returns-in-Some-clause-verdict c =
    let m = c.args.model.now in
    let goals = c.args.goals.now in
    let cert = c.args.cert.now in
    let r = c.until_floor_verdict.result in
    subst (λ (o : Option (List ℕ)). IfOk r (λ v. v ≡ verdict_of (floor_checks (way_by m goals o) goals c.args.start c.args.threshold cert.kept.items cert.values.items cert.ranks.items))) (sym (ap named c.in-Some.is))
    (subst (λ (stay : List ℕ). IfOk r (λ v. v ≡ verdict_of (floor_checks (way_of m goals stay) goals c.args.start c.args.threshold cert.kept.items cert.values.items cert.ranks.items))) c.deref.ensures.value
    c.until_floor_verdict.ensures.verdict)

pub returns-in-Some-clause-rules : goal.returns-in-Some-clause-rules
returns-in-Some-clause-rules c =
    let m = c.args.model.now in
    let goals = c.args.goals.now in
    let cert = c.args.cert.now in
    let r = c.until_floor_verdict.result in
    subst (λ (o : Option (List ℕ)). IfOk r (λ v. IsYes v ↔ HoldsFloor (way_by m goals o) goals c.args.start c.args.threshold cert.kept.items cert.values.items cert.ranks.items)) (sym (ap named c.in-Some.is))
    (subst (λ (stay : List ℕ). IfOk r (λ v. IsYes v ↔ HoldsFloor (way_of m goals stay) goals c.args.start c.args.threshold cert.kept.items cert.values.items cert.ranks.items)) c.deref.ensures.value
    c.until_floor_verdict.ensures.rules)

pub returns-in-Some-clause-bound : goal.returns-in-Some-clause-bound
returns-in-Some-clause-bound c =
    let m = c.args.model.now in
    let goals = c.args.goals.now in
    let cert = c.args.cert.now in
    let r = c.until_floor_verdict.result in
    subst (λ (o : Option (List ℕ)). IfOk r (λ v. IfYes v (floor_bound m goals c.args.start o c.args.threshold cert.kept.items))) (sym (ap named c.in-Some.is))
    (subst (λ (stay : List ℕ). IfOk r (λ v. IfYes v (floor_bound m goals c.args.start (Some stay) c.args.threshold cert.kept.items))) c.deref.ensures.value
    c.until_floor_verdict.ensures.sub_min)
