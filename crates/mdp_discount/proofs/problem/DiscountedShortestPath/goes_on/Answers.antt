use Rattle.std.proofs.Common.{◌∙◌, ℕ, ltb, sym, ap}
use Rattle.mdp_discount.proofs.Nodes.{goes-is}
use Rattle.mdp_discount.proofs.problem.DiscountedShortestPath.goes_on.Goals as goal

pub returns : goal.returns
returns c =
    let x = c.args.self.now in
    ap (λ (n : ℕ). ltb c.args.s n) c.states.ensures ∙ sym (goes-is x.dir x.model.now x.name x.factor c.args.s c.args._c c.requires.node c.requires.choice)
