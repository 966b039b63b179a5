use Rattle.std.proofs.Common.{◌≡◌, ◌+◌, suc, List, sym, subst, arith}
use Rattle.mdp_spec.specs.Mdp.{Entry}
use Rattle.mdp_elim.specs.Equation as spec
use Rattle.mdp_elim.specs.Entries.{Between}
use Rattle.mdp_elim.proofs.RowSums.{between-without}
use Rattle.mdp_elim.proofs.equation.Equation.substitute.Goals as goal

pub plus-requires-clause-ascend : goal.plus-requires-clause-ascend
plus-requires-clause-ascend c =
    let e : c.args.s + 1 ≡ suc c.args.s = omega arith in
    let given = subst (λ n. Between 0 n c.args.self.now.entries) e c.requires.below in
    let below = subst (λ (x : spec.Equation). Between 0 (suc c.args.s) x.entries) (sym c.self.view_is) given in
    let rest = between-without 0 c.args.s c.self.inside.entries.items below in
    (c.args.s, subst (λ (row : List Entry). Between 0 c.args.s row) (sym c.take_entry.ensures.rest) rest)
