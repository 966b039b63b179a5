use Rattle.std.proofs.{Common.{◌≡◌, ℕ, ◌<◌, Bool, List, ◌++◌, length, map, All, sym, ap, ◌∙◌, subst}, lemmas.Result.{err_from_is_err_and}}
use Rattle.mdp_math.specs.Rational.{ℚ}
use Rattle.mdp_spec.specs.Mdp.{Mdp, states_of}
use Rattle.mdp_claims.specs.declared.subsystem.Flow.{Flow}
use Rattle.mdp_farkas.specs.Verdict.{objection_to}
use Rattle.mdp_farkas.proofs.Objections.{halts, goes_on}
use Rattle.mdp_subsystem_rules.specs.{FlowChecks.{kept_check, each_flow, sum_checks, checks_from}, Kept.{kept_marks}, Sums.{FlowSums, AreSums, after_flows}}
use Rattle.mdp_subsystem_rules.proofs.Sizes.{sized_all}
use Rattle.mdp_subsystem_rules.proofs.flow.FlowClaim.walk.Goals as goal

-- the sums after flows are of all states, and so each kept state has its place in them
sized_end : (m : Mdp) (goals : List Bool) (before end : FlowSums) (flows : List Flow) → AreSums (states_of m) before → end ≡ after_flows m goals before flows → AreSums (states_of m) end
sized_end m goals before end flows sized is = subst (λ (sums : FlowSums). AreSums (states_of m) sums) (sym is) (sized_all (states_of m) m goals before flows sized)

in_sums : (n : ℕ) (sums : List ℚ) (kept slice : List ℕ) → length sums ≡ n → slice ≡ kept → All (λ s. s < n) kept → All (λ s. s < length sums) slice
in_sums n sums kept slice e is inside = subst (λ (xs : List ℕ). All (λ s. s < length sums) xs) (sym is) (subst (λ (n : ℕ). All (λ s. s < n) kept) (sym e) inside)

pub returns-in_err-each_kept : goal.returns-in_err-each_kept
returns-in_err-each_kept c =
    let cert = c.args.self.cert.now in
    let states = map (kept_check c.args.self.goals.now) cert.kept.items in
    let rest = checks_from c.args.self.model.now c.args.self.goals.now c.args.threshold.now cert.kept.items cert.flows.items c.args.sums.now in
    let p = err_from_is_err_and c.from_residual.result c.from_residual.ensures.1 in
    rw (p.1, p.2)
    (halts states rest c.in_err-each_kept.field-0.0
    (c.in_err-each_kept.ensures {u = tt} ∙ ap (λ (kept : List ℕ). objection_to (map (kept_check c.args.self.goals.now) kept)) c.as_slice.ensures.value))

pub returns-in_err-each_flow_at : goal.returns-in_err-each_flow_at
returns-in_err-each_flow_at c =
    let m = c.args.self.model.now in
    let goals = c.args.self.goals.now in
    let cert = c.args.self.cert.now in
    let states = map (kept_check goals) cert.kept.items in
    let each = each_flow m goals (kept_marks (states_of m) cert.kept.items) c.args.sums.now cert.flows.items in
    let sums = sum_checks cert.kept.items c.args.threshold.now (after_flows m goals c.args.sums.now cert.flows.items) in
    let p = err_from_is_err_and c.from_residual-in_err-each_flow_at.result c.from_residual-in_err-each_flow_at.ensures.1 in
    rw (p.1, p.2)
    (goes_on states (each ++ sums) tt _
    (c.in_ok-each_kept.ensures {u = tt} ∙ ap (λ (kept : List ℕ). objection_to (map (kept_check goals) kept)) c.as_slice.ensures.value)
    (halts each sums c.in_err-each_flow_at.field-0.0
    ((c.in_err-each_flow_at.ensures {u = tt}).verdict
    ∙ ap (λ (flows : List Flow). objection_to (each_flow m goals c.args.self.kept.now c.args.sums.now flows)) c.as_slice-2.ensures.value
    ∙ ap (λ (marks : List Bool). objection_to (each_flow m goals marks c.args.sums.now cert.flows.items)) c.args.self.marks)))

pub sums_at-requires-clause-same_length : goal.sums_at-requires-clause-same_length
sums_at-requires-clause-same_length c =
    let x = c.args.self in
    let sized = sized_end x.model.now x.goals.now c.args.sums.now c.each_flow_at.new.sums c.as_slice-2.result.now c.requires.sums (c.in_ok-each_flow_at.ensures {u = tt}).sums in
    sized.outflows ∙ sym sized.inflows

pub sums_at-requires-clause-kept : goal.sums_at-requires-clause-kept
sums_at-requires-clause-kept c =
    let x = c.args.self in
    let sized = sized_end x.model.now x.goals.now c.args.sums.now c.each_flow_at.new.sums c.as_slice-2.result.now c.requires.sums (c.in_ok-each_flow_at.ensures {u = tt}).sums in
    in_sums (states_of x.model.now) c.each_flow_at.new.sums.outflows x.cert.now.kept.items c.as_slice-3.result.now sized.outflows c.as_slice-3.ensures.value x.shape.kept_in_range

pub returns : goal.returns
returns c =
    let m = c.args.self.model.now in
    let goals = c.args.self.goals.now in
    let cert = c.args.self.cert.now in
    let states = map (kept_check goals) cert.kept.items in
    let end = after_flows m goals c.args.sums.now cert.flows.items in
    let each = each_flow m goals (kept_marks (states_of m) cert.kept.items) c.args.sums.now cert.flows.items in
    let done = c.in_ok-each_flow_at.ensures {u = tt} in
    goes_on states (each ++ sum_checks cert.kept.items c.args.threshold.now end) tt c.sums_at.result
    (c.in_ok-each_kept.ensures {u = tt} ∙ ap (λ (kept : List ℕ). objection_to (map (kept_check goals) kept)) c.as_slice.ensures.value)
    (goes_on each (sum_checks cert.kept.items c.args.threshold.now end) tt c.sums_at.result
    (done.verdict
    ∙ ap (λ (flows : List Flow). objection_to (each_flow m goals c.args.self.kept.now c.args.sums.now flows)) c.as_slice-2.ensures.value
    ∙ ap (λ (marks : List Bool). objection_to (each_flow m goals marks c.args.sums.now cert.flows.items)) c.args.self.marks)
    (c.sums_at.ensures
    ∙ ap (λ (kept : List ℕ). objection_to (sum_checks kept c.args.threshold.now c.each_flow_at.new.sums)) c.as_slice-3.ensures.value
    ∙ ap (λ (sums : FlowSums). objection_to (sum_checks cert.kept.items c.args.threshold.now sums))
    (done.sums ∙ ap (λ (flows : List Flow). after_flows m goals c.args.sums.now flows) c.as_slice-2.ensures.value)))
