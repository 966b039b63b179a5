use Rattle.mdp_mean.specs.PartsCode.{inners_in}
use Rattle.mdp_mean.proofs.Adding.{Keeps}
use Rattle.mdp_mean.proofs.inners.all_inners.Given as goal

abbrev pub invariant-loop-i : goal.invariant-loop-i
invariant-loop-i l = Keeps l.dir l.model l.ends.parts l.m l.i (inners_in l.inners)
