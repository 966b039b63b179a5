use Rattle.std.proofs.Common.{sym, ◌∙◌, arith}
use Rattle.mdp_parts.proofs.Targeting.{none_appended, appended_more, appended_skip, all_appended}
use Rattle.mdp_parts.proofs.edges.push_targets.Goals.{then-at+in_ok-extend_from_slice, else-at}
use Rattle.mdp_parts.proofs.edges.push_targets.Goals as goal

pub loop-c-init : goal.loop-c-init
loop-c-init c = none_appended c.args.model.now c.args.allowed.now c.args.s c.args.targets.now.items

pub loop-c-preserved : goal.loop-c-preserved
loop-c-preserved c = elim c.if-at.branch [
  | then-at+in_ok-extend_from_slice w ↦
      rw w.targets-is
      (appended_more c.args.model.now c.args.allowed.now c.args.s c.loop-c.c _ c.loop-c.targets.items _ w.row.result.targets.now w.row.result.probs.now
      c.loop-c.invariant (sym c.at.ensures ∙ w.if-at.true) w.row.result.same_length w.row.ensures.row w.in_ok-extend_from_slice.ensures.items)
  | else-at w ↦
      rw w.targets-is
      (appended_skip c.args.model.now c.args.allowed.now c.args.s c.loop-c.c _ c.loop-c.targets.items c.loop-c.invariant (sym c.at.ensures ∙ w.if-at.false))
]

pub returns : goal.returns
returns c = all_appended c.args.model.now c.args.allowed.now c.args.s c.loop-c.c _ c.loop-c.targets.items c.loop-c.invariant (omega arith)
