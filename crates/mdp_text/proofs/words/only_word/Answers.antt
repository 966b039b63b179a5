use Rattle.mdp_text.proofs.Cuts.{words_alone}
use Rattle.mdp_text.proofs.words.only_word.Goals as goal

pub returns : goal.returns
returns c = words_alone c.args.text.now c.requires
