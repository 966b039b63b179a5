use Rattle.mdp_rows.proofs.ReplayStates.{is_replayed}
use Rattle.mdp_drn.proofs.TextWritten.ReadsBack.{reads_back}
use Rattle.mdp_drn.proofs.laws_of_writing.written_law.Goals as goal

pub returns : goal.returns
returns c = record { reads_back = reads_back is_replayed }
