use Rattle.std.proofs.{Common.{◌∙◌, ◌+◌, Ok, sym, ap, arith, slice_index}, lemmas.Result.{err_from_is_err_and}}
use Rattle.std.specs.Result.{result_ok}
use Rattle.mdp_spec.specs.Mdp.{states_of}
use Rattle.mdp_wide.specs.declared.too_wide.Kind.TheVariants.{Evaluate}
use Rattle.mdp_policy_iteration.specs.{Path.{evaluating}, Places.{at_place}}
use Rattle.mdp_policy_iteration.proofs.Answering.{up_to-more, up_to-refused, placed-ok, placed-err, says, answers_err}
use Rattle.mdp_policy.specs.Written.{constant}
use Rattle.mdp_policy.proofs.evaluate.Evaluation.constants.Goals as goal

pub constant_of-requires-clause-values : goal.constant_of-requires-clause-values
constant_of-requires-clause-values c = c.deref.ensures.value ∙ c.in_ok-values.ensures {u = tt}

pub loop-s-preserved : goal.loop-s-preserved
loop-s-preserved c =
    let self = c.args.self in
    let f = constant self.model.now self.goals.now self.marks.now self.policy.now in
    let step = placed-ok Evaluate c.loop-s.s (slice_index self.policy.now c.loop-s.s) c.constant_of.result c.in_ok-constant.constant (sym c.at_node.ensures ∙ c.in_ok-constant.was {u = tt}) in
    up_to-more f c.loop-s.s (c.loop-s.s + 1) c.loop-s.constants.items c.in_ok-constant.constant c.loop-s.invariant
    (ap (at_place (evaluating self.policy.now c.loop-s.s)) (sym c.constant_of.ensures ∙ ap result_ok step)) (omega arith)
    ∙ ap Ok (sym (c.in_ok-push.ensures {u = tt}).items)

pub returns-in_err-constant : goal.returns-in_err-constant
returns-in_err-constant c =
    let self = c.args.self in
    let f = constant self.model.now self.goals.now self.marks.now self.policy.now in
    let e = err_from_is_err_and c.from_residual-in_err-constant.result c.from_residual-in_err-constant.ensures.1 in
    let step = placed-err Evaluate c.loop-s.s (slice_index self.policy.now c.loop-s.s) c.constant_of.result c.in_err-constant.field-0.0 (sym c.at_node.ensures ∙ c.in_err-constant.was) in
    let here = ap (at_place (evaluating self.policy.now c.loop-s.s)) (sym c.constant_of.ensures ∙ ap result_ok step.step_is) in
    answers_err _ c.from_residual-in_err-constant.result e.0 _ e.1
    (says Evaluate c.loop-s.s (slice_index self.policy.now c.loop-s.s) e.0 _ (e.2 ∙ step.error_is)
    (up_to-refused f c.loop-s.s (states_of self.model.now) c.loop-s.constants.items (evaluating self.policy.now c.loop-s.s) c.loop-s.invariant here (omega arith)))
