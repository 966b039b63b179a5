use Rattle.std.proofs.{Common.{◌≡◌, ◌<◌, ◌∙◌, ◌∷◌, [], ℕ, List, sym, subst, arith, length}, lemmas.List.Elements.{All-nil, All-cons}}
use Rattle.std.specs.List.{All}
use Rattle.mdp_policy_iteration.specs.Problem.{rows_of}
use Rattle.mdp_policy_iteration.proofs.Chain.{rows-len, row-at, row-stops, can_take}
use Rattle.mdp_policy_iteration.proofs.policy_chain.PolicyChainRowsOf.row.Goals as goal

pub goes_on-requires-clause-node : goal.goes_on-requires-clause-node
goes_on-requires-clause-node g c = subst (λ n. c.args.s < n) (rows-len (g.P.ShortestPath.problem c.args.self.now.problem.now) c.args.self.now.policy.now) c.requires

pub goes_on-requires-clause-choice : goal.goes_on-requires-clause-choice
goes_on-requires-clause-choice g c =
    can_take (g.P.ShortestPath.problem c.args.self.now.problem.now) c.args.self.now.policy.now c.args.self.now.is c.args.s
    (subst (λ n. c.args.s < n) (rows-len (g.P.ShortestPath.problem c.args.self.now.problem.now) c.args.self.now.policy.now) c.requires)

pub bounds-self-s : goal.bounds-self-s
bounds-self-s g c =
    let l = subst (λ n. c.args.s < n) (rows-len (g.P.ShortestPath.problem c.args.self.now.problem.now) c.args.self.now.policy.now) c.requires in
    let e = c.args.self.now.is.one_each in
    omega arith

pub row-requires-else-goes_on : goal.row-requires-else-goes_on
row-requires-else-goes_on g c =
    let l = subst (λ n. c.args.s < n) (rows-len (g.P.ShortestPath.problem c.args.self.now.problem.now) c.args.self.now.policy.now) c.requires in
    let e = c.args.self.now.enough in
    omega arith

pub returns-then-goes_on-clause-row : goal.returns-then-goes_on-clause-row
returns-then-goes_on-clause-row g c =
    c.row.ensures.row
    ∙ sym (row-at (g.P.ShortestPath.problem c.args.self.now.problem.now) c.args.self.now.policy.now c.args.s
    (subst (λ n. c.args.s < n) (rows-len (g.P.ShortestPath.problem c.args.self.now.problem.now) c.args.self.now.policy.now) c.requires))

pub returns-then-goes_on-clause-in_range : goal.returns-then-goes_on-clause-in_range
returns-then-goes_on-clause-in_range g c =
    subst (λ n. All (λ t. t < n) c.row.result.targets.now) (sym (rows-len (g.P.ShortestPath.problem c.args.self.now.problem.now) c.args.self.now.policy.now)) c.row.ensures.in_range

pub returns-else-goes_on-clause-row : goal.returns-else-goes_on-clause-row
returns-else-goes_on-clause-row g c =
    c.row-else-goes_on.ensures.row
    ∙ sym (row-at (g.P.ShortestPath.problem c.args.self.now.problem.now) c.args.self.now.policy.now c.args.s
    (subst (λ n. c.args.s < n) (rows-len (g.P.ShortestPath.problem c.args.self.now.problem.now) c.args.self.now.policy.now) c.requires)
    ∙ row-stops c.args.s _ (sym c.goes_on.ensures ∙ c.if-goes_on.false))

below_one : (n s : ℕ) (ts : List ℕ) → ts ≡ s ∷ [] → s < n → All (λ t. t < n) ts
below_one n s ts e l = subst (λ (xs : List ℕ). All (λ t. t < n) xs) (sym e) (All-cons (λ t. t < n) s [] l (All-nil (λ t. t < n)))

pub returns-else-goes_on-clause-in_range : goal.returns-else-goes_on-clause-in_range
returns-else-goes_on-clause-in_range g c =
    below_one (length
    (rows_of (g.P.ShortestPath.problem c.args.self.now.problem.now) c.args.self.now.policy.now)) c.args.s c.row-else-goes_on.result.targets.now c.row-else-goes_on.ensures.targets c.requires

pub row-requires-clause-node : goal.row-requires-clause-node
row-requires-clause-node g c = subst (λ n. c.args.s < n) (rows-len (g.P.ShortestPath.problem c.args.self.now.problem.now) c.args.self.now.policy.now) c.requires

pub row-requires-clause-fits : goal.row-requires-clause-fits
row-requires-clause-fits g c =
    c.args.self.now.fit c.args.s (subst (λ n. c.args.s < n) (rows-len (g.P.ShortestPath.problem c.args.self.now.problem.now) c.args.self.now.policy.now) c.requires)

pub row-requires-clause-choice : goal.row-requires-clause-choice
row-requires-clause-choice g c =
    can_take (g.P.ShortestPath.problem c.args.self.now.problem.now) c.args.self.now.policy.now c.args.self.now.is c.args.s
    (subst (λ n. c.args.s < n) (rows-len (g.P.ShortestPath.problem c.args.self.now.problem.now) c.args.self.now.policy.now) c.requires)
