use Rattle.mdp_text.proofs.Cuts.{words_count}
use Rattle.mdp_text.proofs.words.word_count.Goals as goal

pub returns-clause-count : goal.returns-clause-count
returns-clause-count c = words_count c.args.text.now _ c.blank_count.ensures.blanks
