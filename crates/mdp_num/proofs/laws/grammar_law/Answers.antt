use Rattle.mdp_num.proofs.Grammar.{sound, complete}
use Rattle.mdp_num.proofs.laws.grammar_law.Goals as goal

pub returns : goal.returns
returns c = record { sound = sound; complete = complete }
