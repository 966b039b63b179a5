use Rattle.mdp_drn.proofs.ReadingLaws.ModelsKept.{reads-as_model}
use Rattle.mdp_drn.proofs.laws.model_law.Goals as goal

pub returns : goal.returns
returns c = reads-as_model
