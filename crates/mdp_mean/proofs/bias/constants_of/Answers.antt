use Rattle.std.proofs.{Common.{◌∙◌, ◌+◌, Ok, Some, sym, ap, arith, slice_index}, lemmas.Result.{err_from_is_err_and}}
use Rattle.mdp_elim.specs.System.{is_active}
use Rattle.mdp_wide.specs.declared.too_wide.Kind.TheVariants.{Evaluate}
use Rattle.mdp_spec.specs.Mdp.{states_of}
use Rattle.mdp_policy_iteration.proofs.Answering.{up_to-more, up_to-refused}
use Rattle.mdp_mean.specs.{Code.{joining_in}, Join.{evaluating, constant}, Terms.{constant_by}}
use Rattle.mdp_mean.proofs.Answering.{at-ok, at-err, placed-ok, placed-err, says, answers_err}
use Rattle.mdp_mean.proofs.bias.constants_of.Goals as goal

pub loop-s-preserved : goal.loop-s-preserved
loop-s-preserved c =
    let j = joining_in c.args.join.now in
    let s = c.loop-s.s in
    let step = placed-ok Evaluate (Some s) (Some (slice_index j.policy s)) c.constant_at.result c.in_ok-constant.constant (sym c.at_state.ensures ∙ c.in_ok-constant.was {u = tt}) in
    up_to-more (constant j) s (s + 1) c.loop-s.constants.items c.in_ok-constant.constant c.loop-s.invariant
    (at-ok (evaluating j.policy s) (constant_by j s (slice_index j.policy s) (is_active j.active s)) c.constant_at.result c.in_ok-constant.constant c.constant_at.ensures step) (omega arith)
    ∙ ap Ok (sym (c.in_ok-push.ensures {u = tt}).items)

pub returns-in_err-constant : goal.returns-in_err-constant
returns-in_err-constant c =
    let j = joining_in c.args.join.now in
    let s = c.loop-s.s in
    let e = err_from_is_err_and c.from_residual.result c.from_residual.ensures.1 in
    let placed = placed-err Evaluate (Some s) (Some (slice_index j.policy s)) c.constant_at.result c.in_err-constant.field-0.0 (sym c.at_state.ensures ∙ c.in_err-constant.was) in
    answers_err _ c.from_residual.result e.0 _ e.1
    (says Evaluate (Some s) (Some (slice_index j.policy s)) e.0 _ (e.2 ∙ placed.error_is)
    (up_to-refused (constant j) s (states_of j.model) c.loop-s.constants.items (evaluating j.policy s) c.loop-s.invariant
    (at-err (evaluating j.policy s) (constant_by j s (slice_index j.policy s) (is_active j.active s)) c.constant_at.result placed.cause c.constant_at.ensures placed.step_is) (omega arith)))
