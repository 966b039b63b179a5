use Rattle.std.proofs.Common.{◌+◌, List, Bool, sym, subst, ◌∙◌}
use Rattle.mdp_gain.proofs.{Flagging.{AreFlagged, flagged_on, not_flagged, none_flagged}, classes.flagged_parts.Goals.{then-flags-s, else-flags-s}}
use Rattle.mdp_gain.proofs.classes.flagged_parts.Goals as goal

pub loop-s-preserved : goal.loop-s-preserved
loop-s-preserved c = elim c.if-flags-s.branch [
  | then-flags-s w ↦
      flagged_on c.args.flags.now c.args.parts.now c.loop-s.s c.loop-s.marks c.loop-s.invariant w.if-flags-s.true (c.requires.parts c.loop-s.s 0 c.loop-s-test.true)
      c.if-flags-s.marks (w.marks-is ∙ w.set.ensures)
  | else-flags-s w ↦
      subst (λ (marks : List Bool). AreFlagged c.args.flags.now c.args.parts.now (c.loop-s.s + 1) marks) (sym w.marks-is)
      (not_flagged c.args.flags.now c.args.parts.now c.loop-s.s c.loop-s.marks c.loop-s.invariant w.if-flags-s.false)
]

pub loop-s-init : goal.loop-s-init
loop-s-init c = none_flagged c.args.flags.now c.args.parts.now c.in_ok-marks.marks (c.in_ok-marks.ensures {u = tt})
