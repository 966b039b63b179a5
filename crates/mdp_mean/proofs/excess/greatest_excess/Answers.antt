use Rattle.std.proofs.{Common.{◌∙◌, ◌+◌, arith}, lemmas.Result.{err_from_is_err_and}}
use Rattle.mdp_spec.specs.Mdp.{states_of}
use Rattle.mdp_farkas.specs.Compare.{0ℚ}
use Rattle.mdp_mean.specs.{Code.{joining_in}, Join.{after_state}}
use Rattle.mdp_mean.proofs.Answering.{steps-more, steps-refused, answers_err, says_same, Says-then}
use Rattle.mdp_mean.proofs.excess.greatest_excess.Goals as goal

pub loop-s-preserved : goal.loop-s-preserved
loop-s-preserved c =
    steps-more (after_state (joining_in c.args.join.now)) 0ℚ c.loop-s.s (c.loop-s.s + 1) c.loop-s.excess c.loop-s.invariant (omega arith) ∙ c.in_ok-excess.ensures {u = tt}

pub returns-in_err-excess : goal.returns-in_err-excess
returns-in_err-excess c =
    let e = err_from_is_err_and c.from_residual.result c.from_residual.ensures.1 in
    let f = after_state (joining_in c.args.join.now) in
    answers_err _ c.from_residual.result e.0 _ e.1
    (says_same e.0 c.in_err-excess.field-0.0 _ e.2
    (Says-then c.in_err-excess.field-0.0 (f c.loop-s.s c.loop-s.excess) _
    (λ w h. steps-refused f 0ℚ c.loop-s.s (states_of c.args.join.now.model.now) c.loop-s.excess w c.loop-s.invariant h (omega arith))
    (c.in_err-excess.ensures {u = tt})))
