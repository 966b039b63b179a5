use Rattle.std.proofs.{Common.{◌≡◌, ◌⊎◌, sym, ap, subst, ◌∙◌, refl, length, map, List, Err, rules}, lemmas.List.{length-map}}
use Rattle.mdp_math.specs.Rational.{ℚ}
use Rattle.mdp_elim.specs.Equation as spec
use Rattle.mdp_wide.specs.declared.unfinished.Unfinished.TheVariants as error
use Rattle.mdp_elim.specs.{Elimination.{CanEliminate}, System.{SolveEach}, Solve.{columns_of}, Predecessors.{LeadBelow}}
use Rattle.mdp_elim.proofs.{Active.{wide_active}, Leaving.{system-can, system-leads, system-len, solve_each}}
use Rattle.mdp_elim.proofs.{Chains.{solution-of, written_solution-ok, written_solution-err}, Finish.{ok_no_err}}
use Rattle.mdp_elim.proofs.chain.solve_leaving.Goals as goal

pub solve_system-requires-clause-can : goal.solve_system-requires-clause-can
solve_system-requires-clause-can g c =
    subst (λ (es : List spec.Equation). CanEliminate (length es) es) (sym (c.in_ok-system.ensures {u = tt}).value)
    (system-can (g.R.RowsOf.rows c.args.rows.now) c.args.active.now c.requires.leaves.0 c.known.ensures c.requires.active c.requires.leaves.1 _)

pub returns-in_err-values-clause-wide : goal.returns-in_err-values-clause-wide
returns-in_err-values-clause-wide g c = λ s h.
    let is = (c.in_ok-system.ensures {u = tt}).value in
    let len = ap length is ∙ system-len (g.R.RowsOf.rows c.args.rows.now) c.args.active.now c.requires.leaves.0 c.known.ensures c.requires.active c.requires.leaves.1 _ in
    let p : c.solve_system.result ≡ Err (error.TooWide s) = search rules in
    written_solution-err (g.R.RowsOf.rows c.args.rows.now) c.args.active.now _ c.in_ok-system.system.items _ is len refl s (c.solve_system.ensures.wide s p)

pub returns-in_err-values-clause-place : goal.returns-in_err-values-clause-place
returns-in_err-values-clause-place g c = λ s h.
    let is = (c.in_ok-system.ensures {u = tt}).value in
    let len = ap length is ∙ system-len (g.R.RowsOf.rows c.args.rows.now) c.args.active.now c.requires.leaves.0 c.known.ensures c.requires.active c.requires.leaves.1 _ in
    let p : c.solve_system.result ≡ Err (error.TooWide s) = search rules in
    wide_active c.args.active.now (g.R.RowsOf.rows c.args.rows.now) _ c.requires.active s
    (solution-of (g.R.RowsOf.rows c.args.rows.now) c.args.active.now _ c.in_ok-system.system.items _ is len refl _ (c.solve_system.ensures.wide s p))

pub solve_system-requires-clause-down : goal.solve_system-requires-clause-down
solve_system-requires-clause-down g c =
    subst (λ (es : List spec.Equation). LeadBelow (length es) (length es) es) (sym (c.in_ok-system.ensures {u = tt}).value)
    (system-leads (g.R.RowsOf.rows c.args.rows.now) c.args.active.now c.requires.leaves.0 c.known.ensures c.requires.active c.requires.leaves.1 _)

pub returns-clause-value : goal.returns-clause-value
returns-clause-value g c =
    let is = (c.in_ok-system.ensures {u = tt}).value in
    let len = ap length is ∙ system-len (g.R.RowsOf.rows c.args.rows.now) c.args.active.now c.requires.leaves.0 c.known.ensures c.requires.active c.requires.leaves.1 _ in
    written_solution-ok (g.R.RowsOf.rows c.args.rows.now) c.args.active.now _ c.in_ok-system.system.items (length c.args.columns.now) is len
    (sym (length-map c.args.columns.now _)) (record { first = c.in_ok-values.values.first.items; second = c.in_ok-values.values.second.items }) _
    (c.in_ok-values.ensures {u = tt}).ok (c.in_ok-answers.ensures {u = tt})

pub returns-clause-solves : goal.returns-clause-solves
returns-clause-solves g c =
    let is = (c.in_ok-system.ensures {u = tt}).value in
    let len = ap length is ∙ system-len (g.R.RowsOf.rows c.args.rows.now) c.args.active.now c.requires.leaves.0 c.known.ensures c.requires.active c.requires.leaves.1 _ in
    let n = length-map c.args.columns.now (λ x. x.items) in
    let made = solution-of (g.R.RowsOf.rows c.args.rows.now) c.args.active.now _ c.in_ok-system.system.items (length c.args.columns.now) is len (sym n) _ (c.in_ok-values.ensures {u = tt}).ok in
    let each = solve_each (g.R.RowsOf.rows c.args.rows.now) c.args.active.now c.requires.leaves.0 c.known.ensures c.requires.active c.requires.leaves.1 _
    (record { first = c.in_ok-values.values.first.items; second = c.in_ok-values.values.second.items }) made (subst (λ m. (m ≡ 1) ⊎ (m ≡ 2)) (sym n) c.requires.some_columns) in
    subst (λ (xs : List (List ℚ)). SolveEach (g.R.RowsOf.rows c.args.rows.now) c.args.active.now (map (λ x. x.items) c.args.columns.now) xs)
    (ap (λ m. columns_of m (record { first = c.in_ok-values.values.first.items; second = c.in_ok-values.values.second.items })) n ∙ sym (c.in_ok-answers.ensures {u = tt})) each

pub returns-clause-wide : goal.returns-clause-wide
returns-clause-wide g c = λ s e. absurd (ok_no_err _ _ e)
