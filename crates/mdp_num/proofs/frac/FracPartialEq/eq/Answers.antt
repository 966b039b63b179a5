use Rattle.std.proofs.lemmas.Bool.Decides.{same_from_decides}
use Rattle.mdp_num.specs.OrderView.{equal_decides}
use Rattle.mdp_num.proofs.Equal.{same_num-decides, other_num-decides}
use Rattle.mdp_num.proofs.frac.FracPartialEq.eq.Goals as goal

pub returns-then-self-other : goal.returns-then-self-other
returns-then-self-other c =
    let d = same_num-decides _ _ _ _ c.self.view_is c.self.invariant c.other.view_is c.other.invariant c.if-self-other.true in
    record { test = same_from_decides _ _ d (equal_decides c.args.self.now c.args.other.now); equal = d }

pub returns-else-self-other : goal.returns-else-self-other
returns-else-self-other c =
    let d = other_num-decides _ _ _ _ c.self.view_is c.self.invariant c.other.view_is c.other.invariant c.if-self-other.false in
    record { test = same_from_decides _ _ d (equal_decides c.args.self.now c.args.other.now); equal = d }
