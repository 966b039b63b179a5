use Rattle.std.proofs.Common.{map, ap}
use Rattle.mdp_quot.specs.QuotientView.{row_in}
use Rattle.mdp_quot.proofs.build.settled.Goals as goal

pub returns-clause-rows : goal.returns-clause-rows
returns-clause-rows c = ap (map row_in) c.in_ok-rows.ensures
