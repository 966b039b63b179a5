use Rattle.mdp_graph.proofs.Meeting.{all_fall}
use Rattle.mdp_graph.proofs.meet.meeting_pass.Goals as goal

pub returns-clause-marks : goal.returns-clause-marks
returns-clause-marks c = c.in_ok-pass.ensures.reached _ _ _ c.requires.ranks

pub returns-clause-ranks : goal.returns-clause-ranks
returns-clause-ranks c = c.in_ok-pass.ensures.least _ _ _ c.requires.ranks

pub returns-clause-falls : goal.returns-clause-falls
returns-clause-falls c =
    rw (c.in_ok-pass.ensures.marks, c.in_ok-pass.ensures.ranks) (all_fall c.args.model.now c.known.ensures.mdp c.args.target.now c.args.ranks.now c.requires.ranks)
