use Rattle.mdp_num.proofs.Spellings.{sound, complete, one_spelling}
use Rattle.mdp_num.proofs.laws.spelling_law.Goals as goal

pub returns : goal.returns
returns c = record { spelled = sound; read_back = complete; one = one_spelling }
