use Rattle.std.proofs.{Common.{◌≡◌, ◌∙◌, ℕ, Ok, Result, List, length, map, sym, ap, ap₂, subst, arith}, lemmas.List.{with_items_is}}
use Rattle.std.proofs.lemmas.Result.{on_ok_weaker}
use Rattle.mdp_math.specs.Rational.{ℚ}
use Rattle.mdp_elim.specs.{Elimination.{solution}, Predecessors.{at}, System.{system}}
use Rattle.mdp_elim.specs.Kept.{Kept, CanServe, AreSolved, LeadToSmaller, StaySolved, StayOutside, values_by}
use Rattle.mdp_elim.proofs.{KeptSolution.{solved-solution}, Leaving.{system-len}, Others.{serve-solved, serve-outside, outside-kept}}
use Rattle.mdp_elim.specs.Equation as spec
use Rattle.mdp_elim.proofs.keeping.Kept.solve_again.Goals as goal

pub solve_states-requires-clause-count : goal.solve_states-requires-clause-count
solve_states-requires-clause-count g c =
    let rows = g.R.RowsOf.rows c.args.rows.now in
    let columns = map (λ c. c.items) c.args.columns.now in
    let len = system-len rows c.args.active.now c.requires.leaves.0 c.known.ensures c.requires.active c.requires.leaves.1 columns in
    let inside : Kept = record { solved = c.self.inside.solved.items; first = c.self.inside.first.items; second = c.self.inside.second.items } in
    let serve = subst (λ k. CanServe c.args.states.now (system rows c.args.active.now columns) k) (sym c.self.view_is) c.requires.others in
    ap length c.deref_mut.ensures.value ∙ serve.room.solved ∙ len

pub solve_states-requires-clause-others : goal.solve_states-requires-clause-others
solve_states-requires-clause-others g c =
    let rows = g.R.RowsOf.rows c.args.rows.now in
    let columns = map (λ c. c.items) c.args.columns.now in
    let inside : Kept = record { solved = c.self.inside.solved.items; first = c.self.inside.first.items; second = c.self.inside.second.items } in
    let serve = subst (λ k. CanServe c.args.states.now (system rows c.args.active.now columns) k) (sym c.self.view_is) c.requires.others in
    subst (λ es. StaySolved c.args.states.now (system rows c.args.active.now columns) es) (sym c.deref_mut.ensures.value) (serve-solved c.args.states.now (system rows c.args.active.now columns) inside serve)

pub evaluate_states-requires-clause-outside : goal.evaluate_states-requires-clause-outside
evaluate_states-requires-clause-outside g c =
    let rows = g.R.RowsOf.rows c.args.rows.now in
    let columns = map (λ c. c.items) c.args.columns.now in
    let states = c.args.states.now in
    let new = c.solve_states.new.solved in
    let inside : Kept = record { solved = c.self.inside.solved.items; first = c.self.inside.first.items; second = c.self.inside.second.items } in
    let serve = subst (λ k. CanServe c.args.states.now (system rows c.args.active.now columns) k) (sym c.self.view_is) c.requires.others in
    let d : c.deref.result.now ≡ c.solve_states.new.solved = c.deref.ensures.value ∙ with_items_is c.self.inside.solved c.solve_states.new.solved (omega arith) in
    let count : length c.solve_states.new.solved ≡ length c.self.inside.solved.items = omega (arith, ap length c.deref_mut.ensures.value) in
    subst (λ es. StayOutside states es) (sym d)
    (outside-kept states c.self.inside.solved.items new count (λ u h. (c.in_ok-solve_states.ensures {u = tt}).others u h ∙ ap (λ (es : List spec.Equation). at es u) c.deref_mut.ensures.value)
    (serve-outside states (system rows c.args.active.now columns) inside serve))

pub evaluate_states-requires-clause-in_range : goal.evaluate_states-requires-clause-in_range
evaluate_states-requires-clause-in_range g c =
    let rows = g.R.RowsOf.rows c.args.rows.now in
    let columns = map (λ c. c.items) c.args.columns.now in
    let len = system-len rows c.args.active.now c.requires.leaves.0 c.known.ensures c.requires.active c.requires.leaves.1 columns in
    let d : c.deref.result.now ≡ c.solve_states.new.solved = c.deref.ensures.value ∙ with_items_is c.self.inside.solved c.solve_states.new.solved (omega arith) in
    let count : length c.deref.result.now ≡ length (g.R.RowsOf.rows c.args.rows.now) = ap length d ∙ (c.in_ok-solve_states.ensures {u = tt}).ok.count ∙ len in
    λ k d l. omega (arith, c.requires.in_range k d l, count)

-- the values by what is solved
solution_by : (equations solved now : List spec.Equation) (n : ℕ) (r : Result spec.Values ℕ) → length equations ≡ n → AreSolved equations solved → now ≡ solved
    → values_by now (length now) ≡ r → solution n equations ≡ r
solution_by equations solved now n r len is same h = solved-solution equations solved n len is ∙ ap (λ es. values_by es (length es)) (sym same) ∙ h

pub returns-clause-value : goal.returns-clause-value
returns-clause-value g c =
    let rows = g.R.RowsOf.rows c.args.rows.now in
    let columns = map (λ c. c.items) c.args.columns.now in
    let len = system-len rows c.args.active.now c.requires.leaves.0 c.known.ensures c.requires.active c.requires.leaves.1 columns in
    let d : c.deref.result.now ≡ c.solve_states.new.solved = c.deref.ensures.value ∙ with_items_is c.self.inside.solved c.solve_states.new.solved (omega arith) in
    let first = with_items_is c.self.inside.first c.evaluate_states.new.first (omega arith) in
    let second = with_items_is c.self.inside.second c.evaluate_states.new.second (omega arith) in
    on_ok_weaker c.evaluate_states.result
    (λ h.
    solution_by (system rows c.args.active.now columns) c.solve_states.new.solved c.deref.result.now (length rows) _ len (c.in_ok-solve_states.ensures {u = tt}).ok d h
    ∙ ap₂ (λ (a b : List ℚ). let v : spec.Values = record { first = a; second = b } in let r : Result spec.Values ℕ = Ok v in r) (sym first) (sym second)) c.evaluate_states.ensures.ok

pub returns-clause-wide : goal.returns-clause-wide
returns-clause-wide g c = λ s h.
    let rows = g.R.RowsOf.rows c.args.rows.now in
    let columns = map (λ c. c.items) c.args.columns.now in
    let len = system-len rows c.args.active.now c.requires.leaves.0 c.known.ensures c.requires.active c.requires.leaves.1 columns in
    let d : c.deref.result.now ≡ c.solve_states.new.solved = c.deref.ensures.value ∙ with_items_is c.self.inside.solved c.solve_states.new.solved (omega arith) in
    solution_by (system rows c.args.active.now columns) c.solve_states.new.solved c.deref.result.now (length rows) _ len (c.in_ok-solve_states.ensures {u = tt}).ok d (c.evaluate_states.ensures.wide s h)

pub solve_states-requires-clause-active : goal.solve_states-requires-clause-active
solve_states-requires-clause-active g c = c.requires.active

pub solve_states-requires-clause-ascend : goal.solve_states-requires-clause-ascend
solve_states-requires-clause-ascend g c = c.requires.ascend

pub solve_states-requires-clause-columns : goal.solve_states-requires-clause-columns
solve_states-requires-clause-columns g c = c.requires.columns

pub solve_states-requires-clause-in_range : goal.solve_states-requires-clause-in_range
solve_states-requires-clause-in_range g c = c.requires.in_range

pub solve_states-requires-clause-leaves : goal.solve_states-requires-clause-leaves
solve_states-requires-clause-leaves g c = c.requires.leaves

pub evaluate_states-requires-clause-ascend : goal.evaluate_states-requires-clause-ascend
evaluate_states-requires-clause-ascend g c = c.requires.ascend

pub evaluate_states-requires-clause-down : goal.evaluate_states-requires-clause-down
evaluate_states-requires-clause-down g c =
    let d : c.deref.result.now ≡ c.solve_states.new.solved = c.deref.ensures.value ∙ with_items_is c.self.inside.solved c.solve_states.new.solved (omega arith) in
    let ok = (c.in_ok-solve_states.ensures {u = tt}).ok in
    subst (λ es. LeadToSmaller es) (sym d) (λ s l. ok.down s (omega (arith, ok.count, l)))
