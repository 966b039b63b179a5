use Rattle.mdp_command_solve.proofs.Solved.{query_once, text_is_accepted, text_is_answer, until_text_is_answer, reward_text_is_answer, mean_text_is_answer}
use Rattle.mdp_command_solve.proofs.laws.solve_law.Goals as goal

pub returns : goal.returns
returns c =
    let reach = c.query_law.ensures in
    let reward = c.query_law-2.ensures in
    let mean = c.mean_law.ensures in
    record {
      once = query_once mean.one_end;
      accepted = text_is_accepted;
      answer = text_is_answer reach.rules reach.max reach.min;
      until = until_text_is_answer reach.rules reach.max reach.min;
      reward = reward_text_is_answer reward.rules reward.max reward.min;
      mean = mean_text_is_answer mean.rules mean.max mean.min;
    }
