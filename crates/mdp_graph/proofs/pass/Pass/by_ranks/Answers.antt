use Rattle.mdp_graph.proofs.Passes.{reached_marks, least_ranks}
use Rattle.mdp_graph.proofs.pass.Pass.by_ranks.Goals as goal

pub returns-clause-reached : goal.returns-clause-reached
returns-clause-reached c = λ step first n a. rw c.in_ok-marks_by.ensures (reached_marks step first n c.args.ranks.now a)

pub returns-clause-least : goal.returns-clause-least
returns-clause-least c = λ step first n a. rw (c.in_ok-marks_by.ensures, c.in_ok-plain_ranks.ensures) (least_ranks step first n c.args.ranks.now a)
