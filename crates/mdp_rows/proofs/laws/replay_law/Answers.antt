use Rattle.mdp_rows.proofs.ReplayStates.{is_replayed}
use Rattle.mdp_rows.proofs.laws.replay_law.Goals as goal

pub returns : goal.returns
returns c = is_replayed
