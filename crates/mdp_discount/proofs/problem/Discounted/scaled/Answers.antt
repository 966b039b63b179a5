use Rattle.std.proofs.Common.{◌∙◌, ap, arith}
use Rattle.std.specs.Option.{option_map}
use Rattle.mdp_discount.specs.ScaledView.{row_in}
use Rattle.mdp_discount.proofs.MadeRows.{made-len, made-count, made-row}
use Rattle.mdp_discount.proofs.problem.Discounted.scaled.Goals as goal

pub bounds-self-s : goal.bounds-self-s
bounds-self-s c = let x = c.args.self.now in let n = made-len x.model.now x.factor x.states.now x.made in let l = c.requires.state in omega (arith, n, l)

pub bounds-rows-c : goal.bounds-rows-c
bounds-rows-c c =
    let x = c.args.self.now in
    let n = made-count x.model.now x.factor x.states.now x.made c.args.s c.index-self-s.result c.requires.state in
    let l = c.requires.choice in
    omega (arith, n, l)

pub returns : goal.returns
returns c =
    let x = c.args.self.now in
    ap (option_map row_in) c.index-rows-c.is ∙ made-row x.model.now x.factor x.states.now x.made c.args.s c.args.c c.index-self-s.result c.index-rows-c.result c.requires.state c.requires.choice
