use Rattle.std.proofs.Common.{◌∙◌, ◌∷◌, [], ℕ, Bool, List, Vec, length, map, sym, ap, subst, arith, rules}
use Rattle.std.specs.Global.{Global}
use Rattle.mdp_num.specs.declared.frac.Frac.{Frac}
use Rattle.mdp_elim.specs.Kept as elimination
use Rattle.mdp_elim.specs.System.{Leaves, system}
use Rattle.mdp_policy_iteration.specs.Problem.{rows_of, active_of}
use Rattle.mdp_policy_iteration.proofs.{Chain.{rows-len, active-len}, Solving.{one_column, solution-below}}
use Rattle.mdp_policy_iteration.proofs.evaluation.solve_at.Goals as goal

pub solve_again-requires-clause-columns : goal.solve_again-requires-clause-columns
solve_again-requires-clause-columns g c =
    one_column (λ x. x.items) c.from_ref.result.now c.args.constants.now (length (rows_of (g.P.ShortestPath.problem c.args.rows.problem.now) c.args.rows.policy.now)) c.from_ref.ensures.value
    (c.requires.constants ∙ sym (rows-len (g.P.ShortestPath.problem c.args.rows.problem.now) c.args.rows.policy.now))

pub solve_again-requires-clause-in_range : goal.solve_again-requires-clause-in_range
solve_again-requires-clause-in_range g c = λ k d l.
    let h = c.requires.in_range k d l in
    let n = rows-len (g.P.ShortestPath.problem c.args.rows.problem.now) c.args.rows.policy.now in
    omega arith

pub bounds-rows-state : goal.bounds-rows-state
bounds-rows-state g c =
    let l = solution-below _ _ _ (c.in-Err-TooWide.ensures.wide c.in-Err-TooWide.state (search rules)) in
    let n = rows-len (g.P.ShortestPath.problem c.args.rows.problem.now) c.args.rows.policy.now in
    let m = c.args.rows.is.one_each in
    omega arith

pub solve_again-requires-clause-active : goal.solve_again-requires-clause-active
solve_again-requires-clause-active g c =
    let p = g.P.ShortestPath.problem c.args.rows.problem.now in
    ap length c.requires.active ∙ active-len p c.args.rows.policy.now ∙ sym (rows-len p c.args.rows.policy.now)

pub solve_again-requires-clause-leaves : goal.solve_again-requires-clause-leaves
solve_again-requires-clause-leaves g c =
    let p = g.P.ShortestPath.problem c.args.rows.problem.now in
    subst (λ (a : List Bool). (ranks : List ℕ) × Leaves (rows_of p c.args.rows.policy.now) a ranks) (sym c.requires.active) (c.requires.leaves.0, c.requires.leaves.2)

pub solve_again-requires-clause-ascend : goal.solve_again-requires-clause-ascend
solve_again-requires-clause-ascend g c = record { each = c.requires.ascend }

pub solve_again-requires-clause-others : goal.solve_again-requires-clause-others
solve_again-requires-clause-others g c =
    let rows = rows_of (g.P.ShortestPath.problem c.args.rows.problem.now) c.args.rows.policy.now in
    subst (λ (xs : List (Vec Frac Global)). elimination.CanServe c.args.nodes.now (system rows c.args.active.now (map (λ c. c.items) xs)) c.args.kept.now) (sym c.from_ref.ensures.value)
    (subst (λ (a : List Bool). elimination.CanServe c.args.nodes.now (system rows a (c.args.constants.now.items ∷ [])) c.args.kept.now) (sym c.requires.active) c.requires.others)

pub returns-in-Ok-clause-kept : goal.returns-in-Ok-clause-kept
returns-in-Ok-clause-kept g c =
    let p = g.P.ShortestPath.problem c.args.rows.problem.now in
    let rows = rows_of p c.args.rows.policy.now in
    subst (λ (xs : List (Vec Frac Global)). elimination.IsKept (system rows (active_of p c.args.rows.policy.now) (map (λ c. c.items) xs)) c.solve_again.new.self) c.from_ref.ensures.value
    (subst (λ (a : List Bool). elimination.IsKept (system rows a (map (λ c. c.items) c.from_ref.result.now)) c.solve_again.new.self) c.requires.active c.in-Ok.ensures.kept)

pub returns-in-Ok-clause-others : goal.returns-in-Ok-clause-others
returns-in-Ok-clause-others g c = c.in-Ok.ensures.others
