use Rattle.std.proofs.{Common.{arith}, lemmas.Int.{ints}}
use Rattle.mdp_math.proofs.Written.{narrow-kept, narrow-past}
use Rattle.mdp_num.proofs.frac.plus.Goals as goal

pub returns-in-Some : goal.returns-in-Some
returns-in-Some c = grind (arith, ints, narrow-kept, narrow-past)

pub returns-in_default : goal.returns-in_default
returns-in_default c = grind (arith, ints, narrow-kept, narrow-past)

pub returns-in_default-2 : goal.returns-in_default-2
returns-in_default-2 c = grind (arith, ints, narrow-kept, narrow-past)
