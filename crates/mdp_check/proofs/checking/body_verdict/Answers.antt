use Rattle.std.proofs.Common.{rules, ◌≡◌, ◌↔◌, ℕ, List, sym, ap, subst, ◌∙◌}
use Rattle.std.specs.Prelude.{IfOk, option_map}
use Rattle.mdp_cert.specs.{declared.claim.Claim.{Claim}, declared.body.Body.{Body}, Cert.{PlainClaim, until, witness, plain_claim, plain_body, is_body_of}}
use Rattle.mdp_rows.specs.declared.dir.Dir.TheVariants.{Max, Min}
use Rattle.mdp_farkas.specs.{Verdict.{IsYes}, Reach.{IsReach}}
use Rattle.mdp_subsystem_rules.specs.{FlowChecks.{HoldsFlow}, FloorChecks.{HoldsFloor}}
use Rattle.mdp_check.specs.{Check.{way_of, way_by, valid_by}, Initial.{start_of}}
use Rattle.mdp_cert.proofs.Growth.{flow-lists, floor-lists}
use Rattle.mdp_check.proofs.{Shapes.{flow_shape, floor_shape}, Ways.{label_in}}
use Rattle.mdp_check.proofs.checking.body_verdict.Goals as goal

pub flow_verdict-requires-clause-shape : goal.flow_verdict-requires-clause-shape
flow_verdict-requires-clause-shape c =
    let cert = c.args.cert.now in
    let flow = c.in-Witness-Max-default-default-default-Flow.flow in
    flow_shape c.args.model.now cert.states flow.kept.items flow.wide.items flow.flows.items c.requires.states
    (flow-lists (plain_claim cert.claim) cert.states flow.kept.items flow.wide.items flow.flows.items
    (ap (λ (b : Body). is_body_of (plain_claim cert.claim) cert.states (plain_body b)) (sym c.in-Witness-Max-default-default-default-Flow.is-1) ∙ cert.entries))

pub floor_verdict-requires-clause-shape : goal.floor_verdict-requires-clause-shape
floor_verdict-requires-clause-shape c =
    let cert = c.args.cert.now in
    let floor = c.in-Witness-Min-default-default-default-Floor.floor in
    floor_shape c.args.model.now cert.states floor.kept.items floor.wide.items floor.values.items floor.ranks.items c.requires.states
    (floor-lists (plain_claim cert.claim) cert.states floor.kept.items floor.wide.items floor.values.items floor.ranks.items
    (ap (λ (b : Body). is_body_of (plain_claim cert.claim) cert.states (plain_body b)) (sym c.in-Witness-Min-default-default-default-Floor.is-1) ∙ cert.entries))

pub returns-in-Witness-Max-default-default-default-Flow-clause-rules : goal.returns-in-Witness-Max-default-default-default-Flow-clause-rules
returns-in-Witness-Max-default-default-default-Flow-clause-rules c =
    let m = c.args.model.now in
    let goals = c.args.goals.now in
    let cert = c.args.cert.now in
    let start = start_of cert.init in
    let found = c.in-Witness-Max-default-default-default-Flow in
    let said = found.flow in
    let r = c.flow_verdict.result in
    let claim : PlainClaim = witness Max (option_map (λ name. name.items) found.stay) (label_in (plain_claim cert.claim)) found.threshold in
    let is : plain_claim cert.claim ≡ claim = search rules in
    subst (λ (k : PlainClaim). IfOk r (λ v. IsYes v ↔ valid_by m c.args.reward goals start k (plain_body cert.body))) (sym is)
    (subst (λ (b : Body). IfOk r (λ v. IsYes v ↔ valid_by m c.args.reward goals start claim (plain_body b))) (sym found.is-1)
    (subst (λ (s : ℕ). IfOk r (λ v. IsYes v ↔ HoldsFlow (way_by m goals (option_map (λ name. name.items) found.stay)) goals s found.threshold said.kept.items said.flows.items)) c.start_of-start.ensures
    c.flow_verdict.ensures.rules))

pub returns-in-Witness-Min-default-default-default-Floor-clause-rules : goal.returns-in-Witness-Min-default-default-default-Floor-clause-rules
returns-in-Witness-Min-default-default-default-Floor-clause-rules c =
    let m = c.args.model.now in
    let goals = c.args.goals.now in
    let cert = c.args.cert.now in
    let start = start_of cert.init in
    let found = c.in-Witness-Min-default-default-default-Floor in
    let said = found.floor in
    let r = c.floor_verdict.result in
    let claim : PlainClaim = witness Min (option_map (λ name. name.items) found.stay) (label_in (plain_claim cert.claim)) found.threshold in
    let is : plain_claim cert.claim ≡ claim = search rules in
    subst (λ (k : PlainClaim). IfOk r (λ v. IsYes v ↔ valid_by m c.args.reward goals start k (plain_body cert.body))) (sym is)
    (subst (λ (b : Body). IfOk r (λ v. IsYes v ↔ valid_by m c.args.reward goals start claim (plain_body b))) (sym found.is-1)
    (subst (λ (s : ℕ). IfOk r (λ v. IsYes v ↔ HoldsFloor (way_by m goals (option_map (λ name. name.items) found.stay)) goals s found.threshold said.kept.items said.values.items said.ranks.items)) c.start_of-start.ensures
    c.floor_verdict.ensures.rules))

pub returns-in-Until-Reach-clause-rules : goal.returns-in-Until-Reach-clause-rules
returns-in-Until-Reach-clause-rules c =
    let m = c.args.model.now in
    let goals = c.args.goals.now in
    let cert = c.args.cert.now in
    let start = start_of cert.init in
    let found = c.in-Until-Reach in
    let said = found.reach in
    subst (λ (claim : Claim). IfOk c.until_verdict.result (λ v. IsYes v ↔ valid_by m c.args.reward goals start (plain_claim claim) (plain_body cert.body))) (sym found.is-0)
    (subst (λ (body : Body). IfOk c.until_verdict.result (λ v. IsYes v ↔ valid_by m c.args.reward goals start (until found.dir found.stay.items found.label-0.items) (plain_body body))) (sym found.is-1)
    (subst (λ (stay : List ℕ). IfOk c.until_verdict.result (λ v. IsYes v ↔ IsReach found.dir (way_of m goals stay) goals said.values.items said.choices.items said.ranks.items))
    c.deref.ensures.value c.until_verdict.ensures.rules))
