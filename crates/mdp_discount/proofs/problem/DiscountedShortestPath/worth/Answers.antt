use Rattle.std.proofs.{Common.{◌∙◌, ℕ, ◌<◌, length, sym, ap, arith}, lemmas.List.{get_or_default}}
use Rattle.mdp_spec.specs.Mdp.{value_at}
use Rattle.mdp_discount.specs.Problem.{0ℚ}
use Rattle.mdp_discount.proofs.Nodes.{has-choice, node-count, written-none, written-some}
use Rattle.mdp_discount.proofs.problem.DiscountedShortestPath.worth.Goals as goal

pub bounds-values-states : goal.bounds-values-states
bounds-values-states c =
    let x = c.args.self.now in let n = node-count x.dir x.model.now x.name x.factor in let k = c.states.ensures in let v = c.requires.values in omega (arith, n, k, v)

pub returns-then-ne : goal.returns-then-ne
returns-then-ne c =
    let x = c.args.self.now in
    let v = c.args.values.now in
    let b = has-choice x.dir x.model.now x.name x.factor c.args.s c.args.c c.requires.node c.requires.choice in
    let inside : c.states.result < length v = (let n = node-count x.dir x.model.now x.name x.factor in let k = c.states.ensures in let a = c.requires.values in omega (arith, n, k, a)) in
    written-none x.dir x.model.now x.name x.factor c.args.s c.args.c b.0 b.1 v c.index-values-states.result c.whole.result
    (c.index-values-states.is ∙ get_or_default v c.states.result c.index-values-states.result 0ℚ inside ∙ ap (λ (k : ℕ). value_at v k) c.states.ensures) c.whole.ensures
    (sym c.ne.ensures ∙ c.if-ne.true)

pub earned-requires-clause-state : goal.earned-requires-clause-state
earned-requires-clause-state c =
    let x = c.args.self.now in
    (has-choice x.dir x.model.now x.name x.factor c.args.s c.args.c c.requires.node c.requires.choice).0

pub earned-requires-clause-choice : goal.earned-requires-clause-choice
earned-requires-clause-choice c =
    let x = c.args.self.now in
    (has-choice x.dir x.model.now x.name x.factor c.args.s c.args.c c.requires.node c.requires.choice).1

pub earned-requires-clause-values : goal.earned-requires-clause-values
earned-requires-clause-values c =
    let x = c.args.self.now in let n = node-count x.dir x.model.now x.name x.factor in let v = c.requires.values in omega (arith, n, v)

pub returns : goal.returns
returns c =
    let x = c.args.self.now in
    let v = c.args.values.now in
    let b = has-choice x.dir x.model.now x.name x.factor c.args.s c.args.c c.requires.node c.requires.choice in
    let inside : c.states.result < length v = (let n = node-count x.dir x.model.now x.name x.factor in let k = c.states.ensures in let a = c.requires.values in omega (arith, n, k, a)) in
    c.earned.ensures
    ∙ written-some x.dir x.model.now x.name x.factor c.args.s c.args.c b.0 b.1 v c.index-values-states.result c.whole.result
    (c.index-values-states.is ∙ get_or_default v c.states.result c.index-values-states.result 0ℚ inside ∙ ap (λ (k : ℕ). value_at v k) c.states.ensures) c.whole.ensures
    (sym c.ne.ensures ∙ c.if-ne.false)
