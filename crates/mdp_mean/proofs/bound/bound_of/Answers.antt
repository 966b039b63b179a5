use Rattle.std.proofs.{Common.{◌∙◌, ◌+◌, Ok, Some, sym, ap, arith, slice_index}, lemmas.Result.{err_from_is_err_and}}
use Rattle.mdp_wide.specs.declared.too_wide.Kind.TheVariants.{Compare}
use Rattle.mdp_spec.specs.Mdp.{states_of}
use Rattle.mdp_policy_iteration.proofs.Answering.{up_to-more, up_to-refused}
use Rattle.mdp_mean.specs.{Code.{joining_in}, Join.{bounding, bound_at}, Terms.{bound_by}}
use Rattle.mdp_mean.proofs.Answering.{at-ok, at-err, placed-ok, placed-err, says, answers_err}
use Rattle.mdp_mean.proofs.bound.bound_of.Goals as goal

pub loop-s-preserved : goal.loop-s-preserved
loop-s-preserved c =
    let j = joining_in c.args.join.now in
    let s = c.loop-s.s in
    let step = placed-ok Compare (Some s) (Some (slice_index j.policy s)) c.bound_at.result c.in_ok-bound.bound (sym c.at_state.ensures ∙ c.in_ok-bound.was {u = tt}) in
    up_to-more (bound_at j c.args.excess.now) s (s + 1) c.loop-s.values.items c.in_ok-bound.bound c.loop-s.invariant
    (at-ok (bounding j.policy s) (bound_by j c.args.excess.now s) c.bound_at.result c.in_ok-bound.bound c.bound_at.ensures step) (omega arith)
    ∙ ap Ok (sym (c.in_ok-push.ensures {u = tt}).items)

pub returns-in_err-bound : goal.returns-in_err-bound
returns-in_err-bound c =
    let j = joining_in c.args.join.now in
    let s = c.loop-s.s in
    let e = err_from_is_err_and c.from_residual.result c.from_residual.ensures.1 in
    let placed = placed-err Compare (Some s) (Some (slice_index j.policy s)) c.bound_at.result c.in_err-bound.field-0.0 (sym c.at_state.ensures ∙ c.in_err-bound.was) in
    answers_err _ c.from_residual.result e.0 _ e.1
    (says Compare (Some s) (Some (slice_index j.policy s)) e.0 _ (e.2 ∙ placed.error_is)
    (up_to-refused (bound_at j c.args.excess.now) s (states_of j.model) c.loop-s.values.items (bounding j.policy s) c.loop-s.invariant
    (at-err (bounding j.policy s) (bound_by j c.args.excess.now s) c.bound_at.result placed.cause c.bound_at.ensures placed.step_is) (omega arith)))
