use Rattle.mdp_num.proofs.Meaning.{meant, refused-by_shape, split, no-zero}
use Rattle.mdp_num.proofs.laws.value_law.Goals as goal

pub returns : goal.returns
returns c = record { meant = meant; shape = refused-by_shape; split = split; no_zero = no-zero }
