use Rattle.std.proofs.Common.{arith}
use Rattle.mdp_text.proofs.Cuts.{words_cut, words_one}
use Rattle.mdp_text.proofs.words.first_word.Goals as goal

pub returns-then-end-text : goal.returns-then-end-text
returns-then-end-text c = words_cut _ c.args.text.now c.before-end.ensures (omega arith)

pub returns-else-end-text : goal.returns-else-end-text
returns-else-end-text c = words_one _ c.args.text.now c.before-end.ensures (omega arith)
