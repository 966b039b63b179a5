use Rattle.mdp_rows.proofs.ReplayStates.{is_replayed}
use Rattle.mdp_drn.proofs.TextWritten.ReadsBack.{reads_back}
use Rattle.mdp_drn.proofs.writing.write.Goals as goal

pub returns-in-Ok-clause-reads_back : goal.returns-in-Ok-clause-reads_back
returns-in-Ok-clause-reads_back c = reads_back is_replayed c.args.model.now c.known.ensures.model

pub returns-in-Err-clause-reads_back : goal.returns-in-Err-clause-reads_back
returns-in-Err-clause-reads_back c = reads_back is_replayed c.args.model.now c.known.ensures.model
