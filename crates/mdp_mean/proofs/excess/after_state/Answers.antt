use Rattle.std.proofs.{Common.{◌∙◌, ◌+◌, length, arith}, lemmas.Result.{err_from_is_err_and}}
use Rattle.mdp_spec.specs.Mdp.{choices_at}
use Rattle.mdp_mean.specs.{Code.{joining_in}, Join.{after_choice}}
use Rattle.mdp_mean.proofs.Answering.{steps-more, steps-refused, answers_err, says_same, Says-then}
use Rattle.mdp_mean.proofs.excess.after_state.Goals as goal

pub loop-c-preserved : goal.loop-c-preserved
loop-c-preserved c =
    steps-more (after_choice (joining_in c.args.join.now) c.args.s) c.args.greatest c.loop-c.c (c.loop-c.c + 1) c.loop-c.excess c.loop-c.invariant (omega arith)
    ∙ c.in_ok-excess.ensures {u = tt}

pub returns-in_err-excess : goal.returns-in_err-excess
returns-in_err-excess c =
    let e = err_from_is_err_and c.from_residual.result c.from_residual.ensures.1 in
    let f = after_choice (joining_in c.args.join.now) c.args.s in
    answers_err _ c.from_residual.result e.0 _ e.1
    (says_same e.0 c.in_err-excess.field-0.0 _ e.2
    (Says-then c.in_err-excess.field-0.0 (f c.loop-c.c c.loop-c.excess) _
    (λ w h. steps-refused f c.args.greatest c.loop-c.c (length (choices_at c.args.join.now.model.now c.args.s)) c.loop-c.excess w c.loop-c.invariant h (omega arith))
    (c.in_err-excess.ensures {u = tt})))
