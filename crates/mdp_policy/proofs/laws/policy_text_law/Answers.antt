use Rattle.mdp_policy.proofs.Reading.{read_from_text, read_back}
use Rattle.mdp_policy.proofs.laws.policy_text_law.Goals as goal

pub returns : goal.returns
returns c = record { read = read_from_text; back = read_back }
