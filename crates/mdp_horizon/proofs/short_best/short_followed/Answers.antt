use Rattle.std.proofs.Common.{◌∙◌, length, map, sym, arith}
use Rattle.mdp_horizon.specs.{Columns.{no_scaled}, Short.{known}, BoundsCode.{plain_short, plain_leader}}
use Rattle.mdp_horizon.proofs.{Loops.{followed_step}, More.{rest_with}, Ready.{ready_at}}
use Rattle.mdp_horizon.proofs.short_best.short_followed.Goals as goal

pub short_sum-requires : goal.short_sum-requires
short_sum-requires c = ready_at plain_short (length c.args.values.now) c.args.choices.now 0 c.index-choices-0.result (omega (arith, c.requires.some)) c.index-choices-0.is c.requires.ready

pub judged-requires : goal.judged-requires
judged-requires c = ready_at plain_short (length c.args.values.now) c.args.choices.now c.loop-c.c c.index-choices-c.result (omega arith) c.index-choices-c.is c.requires.ready

pub loop-c-preserved : goal.loop-c-preserved
loop-c-preserved c =
    c.loop-c.invariant
    ∙ followed_step c.args.dir (known c.args.values.now) (plain_leader c.loop-c.leader) (plain_leader c.in_ok-leader.leader) (map plain_short c.args.choices.now) c.loop-c.c _
    (rest_with plain_short c.args.choices.now c.loop-c.c c.index-choices-c.result no_scaled (omega arith) c.index-choices-c.is) (sym (c.in_ok-leader.ensures {u = tt}))
