use Rattle.std.proofs.Common.{◌∙◌, ◌+◌, ◌∷◌, drop, sym, ap, arith}
use Rattle.mdp_horizon.specs.{Columns.{no_scaled}, Scaled.{Scaled}, BoundsCode.{values_of, plain_choices}}
use Rattle.mdp_horizon.proofs.Loops.{followed_step, rest_of}
use Rattle.mdp_horizon.proofs.best.wide_followed.Goals as goal

pub loop-c-preserved : goal.loop-c-preserved
loop-c-preserved c =
    c.loop-c.invariant
    ∙ followed_step c.args.dir (values_of c.args.column.now) c.loop-c.leader c.judged_sum-leader.result (plain_choices c.args.choices.now) c.loop-c.c _
    (rest_of (plain_choices c.args.choices.now) c.loop-c.c no_scaled (omega arith) ∙ ap (λ (x : Scaled). x ∷ drop (c.loop-c.c + 1) (plain_choices c.args.choices.now)) (sym c.at-choice.ensures)) c.judged_sum-leader.ensures
