use Rattle.std.proofs.{Common.{◌∙◌, sym}, lemmas.Result.{err_from_is_err_and}}
use Rattle.mdp_unichain.specs.{Chain.{AllLeadTo, IsReference}, Improvement.{IsImproved}}
use Rattle.mdp_unichain.proofs.{Improving.{state-below}, Compares.{improves_exactly}}
use Rattle.mdp_gain.specs.Code.{component_in, values_in}
use Rattle.mdp_policy_iteration.proofs.Answering.{says_of, says_same}
use Rattle.mdp_gain.proofs.Rounds.{values_refused, improved_refused, makes_err, round_done, round_next}
use Rattle.mdp_gain.proofs.chosen.Chosen.round.Goals as goal

pub evaluate-requires-clause-leads : goal.evaluate-requires-clause-leads
evaluate-requires-clause-leads c = IsReference.leads c.requires.reference

pub invariant_of-referred : goal.invariant_of-referred
invariant_of-referred c = record { below = state-below (component_in c.args.self.now.component) c.args.t (AllLeadTo.state (IsReference.leads c.requires.reference)) }

pub returns-in_err-values-clause-made : goal.returns-in_err-values-clause-made
returns-in_err-values-clause-made c = λ n.
    let e = err_from_is_err_and c.from_residual.result c.from_residual.ensures.1 in
    makes_err (component_in c.args.self.now.component) n c.args.self.now.policy.now c.from_residual.result e.0 e.1
    (values_refused (component_in c.args.self.now.component) c.args.self.now.policy.now c.args.t c.requires.reference n e.0
    (says_same e.0 c.in_err-values.field-0.0 _ e.2 (says_of _ c.evaluate.result c.in_err-values.field-0.0 _ c.evaluate.ensures.value c.in_err-values.was)))

pub returns-in_err-improved-clause-made : goal.returns-in_err-improved-clause-made
returns-in_err-improved-clause-made c = λ n.
    let e = err_from_is_err_and c.from_residual-in_err-improved.result c.from_residual-in_err-improved.ensures.1 in
    makes_err (component_in c.args.self.now.component) n c.args.self.now.policy.now c.from_residual-in_err-improved.result e.0 e.1
    (improved_refused (component_in c.args.self.now.component) c.args.self.now.policy.now c.args.t c.requires.reference n (values_in c.in_ok-values.values) (c.in_ok-values.ensures {u = tt}).value e.0
    (says_same e.0 c.in_err-improved.field-0.0 _ e.2 (says_of _ c.improved.result c.in_err-improved.field-0.0 _ c.improved.ensures c.in_err-improved.was)))

pub next_policy-requires-clause-improved : goal.next_policy-requires-clause-improved
next_policy-requires-clause-improved c =
    IsImproved.is
    (improves_exactly (component_in c.args.self.now.component) c.args.self.now.policy.now c.in_ok-improved.improved.items (values_in c.in_ok-values.values) c.args.self.now.is (c.in_ok-improved.ensures {u = tt}))

pub returns-then-is_same-clause-made : goal.returns-then-is_same-clause-made
returns-then-is_same-clause-made c = λ n.
    round_done (component_in c.args.self.now.component) c.args.self.now.policy.now c.args.t c.requires.reference n (values_in c.in_ok-values.values) (c.in_ok-values.ensures {u = tt}).value
    c.in_ok-improved.improved.items (c.in_ok-improved.ensures {u = tt}) (sym c.deref.ensures.value ∙ c.is_same.ensures.same c.if-is_same.true)

pub returns-clause-made : goal.returns-clause-made
returns-clause-made c = λ n.
    round_next (component_in c.args.self.now.component) c.args.self.now.policy.now c.args.t c.requires.reference n (values_in c.in_ok-values.values) (c.in_ok-values.ensures {u = tt}).value
    c.in_ok-improved.improved.items (c.in_ok-improved.ensures {u = tt}) (λ e. c.is_same.ensures.other c.if-is_same.false (c.deref.ensures.value ∙ e)) c.in_ok-next_policy.field-0.items
    (c.in_ok-next_policy.ensures {u = tt})
