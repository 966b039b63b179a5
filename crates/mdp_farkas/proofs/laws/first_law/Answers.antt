use Rattle.mdp_farkas.proofs.Firsts.{wide_is_first, no_is_first}
use Rattle.mdp_farkas.proofs.laws.first_law.Goals as goal

pub returns-clause-wide : goal.returns-clause-wide
returns-clause-wide c = wide_is_first

pub returns-clause-no : goal.returns-clause-no
returns-clause-no c = no_is_first
