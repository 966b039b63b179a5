use Rattle.std.proofs.Common.{◌≡◌, sym, subst, List, length, Err, rules}
use Rattle.mdp_elim.specs.Equation as spec
use Rattle.mdp_wide.specs.declared.unfinished.Unfinished.TheVariants as error
use Rattle.mdp_elim.specs.{Elimination.{CanEliminate}, Predecessors.{LeadBelow}}
use Rattle.mdp_elim.proofs.Expected.{visits-can, visits-leads, visits-place, written_visits-ok, written_visits-err, are_visits}
use Rattle.mdp_elim.proofs.transposed.visits.Goals as goal

pub solve_system-requires-clause-can : goal.solve_system-requires-clause-can
solve_system-requires-clause-can g c =
    subst (λ (es : List spec.Equation). CanEliminate (length es) es) (sym (c.in_ok-system.ensures {u = tt}).value)
    (visits-can (g.R.RowsOf.rows c.args.chain.now.rows.now) c.args.chain.now.active.now c.args.chain.now.ranks.now c.known.ensures c.requires.active c.requires.leaves c.args.start)

pub solve_system-requires-clause-down : goal.solve_system-requires-clause-down
solve_system-requires-clause-down g c =
    subst (λ (es : List spec.Equation). LeadBelow (length es) (length es) es) (sym (c.in_ok-system.ensures {u = tt}).value)
    (visits-leads (g.R.RowsOf.rows c.args.chain.now.rows.now) c.args.chain.now.active.now c.args.chain.now.ranks.now c.known.ensures c.requires.active c.requires.leaves c.args.start)

pub returns-in_err-first-clause-place : goal.returns-in_err-first-clause-place
returns-in_err-first-clause-place g c = λ s h.
    let p : c.solve_system.result ≡ Err (error.TooWide s) = search rules in
    visits-place (g.R.RowsOf.rows c.args.chain.now.rows.now) c.args.chain.now.active.now c.args.chain.now.ranks.now c.known.ensures c.requires.active
    c.requires.leaves c.args.start c.in_ok-system.system.items (c.in_ok-system.ensures {u = tt}).value s (c.solve_system.ensures.wide s p)

pub returns-in_err-first-clause-wide : goal.returns-in_err-first-clause-wide
returns-in_err-first-clause-wide g c = λ s h.
    let p : c.solve_system.result ≡ Err (error.TooWide s) = search rules in
    written_visits-err (g.R.RowsOf.rows c.args.chain.now.rows.now) c.args.chain.now.active.now c.args.chain.now.ranks.now c.known.ensures c.requires.active
    c.requires.leaves c.args.start c.in_ok-system.system.items (c.in_ok-system.ensures {u = tt}).value s (c.solve_system.ensures.wide s p)

pub returns-clause-value : goal.returns-clause-value
returns-clause-value g c =
    written_visits-ok (g.R.RowsOf.rows c.args.chain.now.rows.now) c.args.chain.now.active.now c.args.chain.now.ranks.now c.known.ensures c.requires.active
    c.requires.leaves c.args.start c.in_ok-system.system.items (c.in_ok-system.ensures {u = tt}).value _ (c.in_ok-first.ensures {u = tt}).ok

pub returns-clause-solves : goal.returns-clause-solves
returns-clause-solves g c =
    are_visits (g.R.RowsOf.rows c.args.chain.now.rows.now) c.args.chain.now.active.now c.args.chain.now.ranks.now c.known.ensures c.requires.active
    c.requires.leaves c.args.start c.in_ok-system.system.items (c.in_ok-system.ensures {u = tt}).value _ (c.in_ok-first.ensures {u = tt}).ok

pub visits_system-requires-clause-active : goal.visits_system-requires-clause-active
visits_system-requires-clause-active g c = c.requires.active

pub visits_system-requires-clause-start : goal.visits_system-requires-clause-start
visits_system-requires-clause-start g c = c.requires.start

pub solve_system-requires-clause-few : goal.solve_system-requires-clause-few
solve_system-requires-clause-few g c = (c.in_ok-system.ensures {u = tt}).few
