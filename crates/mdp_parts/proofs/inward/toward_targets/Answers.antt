use Rattle.mdp_parts.proofs.InnerPass.{is_toward_targets, has_target_marked}
use Rattle.mdp_parts.proofs.inward.toward_targets.Goals as goal

pub returns-clause-toward : goal.returns-clause-toward
returns-clause-toward c =
    rw (c.in_ok-by_ranks.ensures.marks, c.in_ok-by_ranks.ensures.ranks, c.in_ok-by_ranks.ensures.choices, c.deref-2.ensures.value)
    (is_toward_targets c.args.model.now c.known.ensures.mdp c.args.ends.now c.requires.ends c.args.target.now _ c.in_ok-ranks.ensures _ _ c.deref.ensures.value c.in_ok-choices.ensures)

pub returns-clause-marks : goal.returns-clause-marks
returns-clause-marks c =
    rw (c.in_ok-by_ranks.ensures.marks, c.deref-2.ensures.value)
    (has_target_marked c.args.model.now c.known.ensures.mdp c.args.ends.now c.requires.ends c.args.target.now _ c.in_ok-ranks.ensures)
