use Rattle.std.proofs.Common.{◌≡◌, ◌<◌, ◌-◌, ◌∙◌, suc, None, Some, get_or, length, map, refl, sym, ap, subst, arith}
use Rattle.mdp_elim.specs.Equation as spec
use Rattle.mdp_elim.specs.{Entries.{Between}, System.{system}, Kept.{put_in, IsTried}}
use Rattle.mdp_elim.proofs.{Leaving.{at-system, system-len, system-down, system-pivots}, Dividing.{not_one}}
use Rattle.mdp_elim.proofs.Solving.{AreTried, tried_first, tried_next, tried_solved, tried_wide, tried-other, tried-down, above_solved, other-not_here}
use Rattle.mdp_elim.proofs.Finish.{wide_state}
use Rattle.mdp_elim.proofs.keeping.solve_states.Goals as goal

pub loop-i-init : goal.loop-i-init
loop-i-init g c =
    let rows = g.R.RowsOf.rows c.args.rows.now in
    let active = c.args.active.now in
    let len = system-len rows active c.requires.leaves.0 c.known.ensures c.requires.active c.requires.leaves.1 (map (λ c. c.items) c.args.columns.now) in
    record {
      within = omega arith;
      count = c.requires.count;
      down = c.requires.down;
      others = λ u h. refl;
      tried = tried_first c.args.states.now (system rows active (map (λ c. c.items) c.args.columns.now)) (length rows) c.requires.ascend c.args.solved.now c.requires.others len;
    }

pub solve_state-requires-clause-below : goal.solve_state-requires-clause-below
solve_state-requires-clause-below g c =
    let rows = g.R.RowsOf.rows c.args.rows.now in
    let active = c.args.active.now in
    let columns = map (λ c. c.items) c.args.columns.now in
    let t = get_or c.args.states.now (c.loop-i.i - 1) 0 in
    let within : get_or c.args.states.now (c.loop-i.i - 1) 0 < length (g.R.RowsOf.rows c.args.rows.now) = c.requires.in_range (c.loop-i.i - 1) 0 (omega (arith, c.loop-i.invariant.within, c.loop-i-test.true)) in
    let is = at-system rows active c.requires.active columns t within ∙ sym (c.in_ok-equation.ensures {u = tt}) in
    let below = system-down rows active c.requires.leaves.0 c.known.ensures c.requires.active c.requires.leaves.1 columns t within in
    subst (λ n. Between 0 n c.in_ok-equation.equation.entries) (sym c.loop-i.invariant.count) (subst (λ (e : spec.Equation). Between 0 (length (g.R.RowsOf.rows c.args.rows.now)) e.entries) is below)

pub solve_state-requires-clause-can : goal.solve_state-requires-clause-can
solve_state-requires-clause-can g c = λ none sum made.
    let rows = g.R.RowsOf.rows c.args.rows.now in
    let active = c.args.active.now in
    let columns = map (λ c. c.items) c.args.columns.now in
    let states = c.args.states.now in
    let i = c.loop-i.i - 1 in
    let t = get_or c.args.states.now (c.loop-i.i - 1) 0 in
    let solved = c.loop-i.solved in
    let at_i : c.loop-i.i - 1 < length c.args.states.now = omega (arith, c.loop-i.invariant.within, c.loop-i-test.true) in
    let within : get_or c.args.states.now (c.loop-i.i - 1) 0 < length (g.R.RowsOf.rows c.args.rows.now) = c.requires.in_range (c.loop-i.i - 1) 0 at_i in
    let len = system-len rows active c.requires.leaves.0 c.known.ensures c.requires.active c.requires.leaves.1 columns in
    let down = system-down rows active c.requires.leaves.0 c.known.ensures c.requires.active c.requires.leaves.1 columns in
    let pivots = system-pivots rows active c.requires.leaves.0 c.known.ensures c.requires.active c.requires.leaves.1 columns in
    let is = at-system rows active c.requires.active columns t within ∙ sym (c.in_ok-equation.ensures {u = tt}) in
    let n : c.loop-i.i ≡ suc (c.loop-i.i - 1) = omega (arith, c.loop-i-test.true) in
    let tried = subst (λ o. AreTried states (system rows active columns) (length rows) c.loop-i.i solved o) none c.loop-i.invariant.tried in
    let all = subst (λ j. AreTried states (system rows active columns) (length rows) j solved None) n tried in
    let put = subst (λ (e : spec.Equation). put_in solved (suc t) (length rows - suc t) e ≡ Some sum) (sym is)
    (subst (λ m. put_in solved (suc t) (m - suc t) c.in_ok-equation.equation ≡ Some sum) c.loop-i.invariant.count made) in
    not_one solved (system rows active columns) (length rows) len down pivots t within
    (above_solved states (system rows active columns) (length rows) c.requires.ascend c.args.solved.now c.requires.others len i t refl at_i within solved c.loop-i.invariant.count all) sum put

pub loop-i-preserved : goal.loop-i-preserved
loop-i-preserved g c =
    let rows = g.R.RowsOf.rows c.args.rows.now in
    let active = c.args.active.now in
    let columns = map (λ c. c.items) c.args.columns.now in
    let states = c.args.states.now in
    let i = c.loop-i.i - 1 in
    let t = get_or c.args.states.now (c.loop-i.i - 1) 0 in
    let old = c.loop-i.solved in
    let new = c.solve_state.new.solved in
    let at_i : c.loop-i.i - 1 < length c.args.states.now = omega (arith, c.loop-i.invariant.within, c.loop-i-test.true) in
    let within : get_or c.args.states.now (c.loop-i.i - 1) 0 < length (g.R.RowsOf.rows c.args.rows.now) = c.requires.in_range (c.loop-i.i - 1) 0 at_i in
    let len = system-len rows active c.requires.leaves.0 c.known.ensures c.requires.active c.requires.leaves.1 columns in
    let is = at-system rows active c.requires.active columns t within ∙ sym (c.in_ok-equation.ensures {u = tt}) in
    let n : c.loop-i.i ≡ suc (c.loop-i.i - 1) = omega (arith, c.loop-i-test.true) in
    let step = c.in_ok-wide.ensures {u = tt} in
    let made = subst (λ (e : spec.Equation). IsTried old new t e c.loop-i.wide c.in_ok-wide.wide) (sym is) step in
    let other = other-not_here states (system rows active columns) (length rows) c.requires.ascend c.args.solved.now c.requires.others len i t refl at_i within old c.loop-i.invariant.count in
    record {
      within = omega (arith, c.loop-i.invariant.within);
      count = omega (arith, c.loop-i.invariant.count);
      down = tried-down old new t c.in_ok-equation.equation c.loop-i.wide c.in_ok-wide.wide step c.loop-i.invariant.down;
      others = λ u h. tried-other old new t c.in_ok-equation.equation c.loop-i.wide c.in_ok-wide.wide step u (other u h) ∙ c.loop-i.invariant.others u h;
      tried = tried_next states (system rows active columns) (length rows) c.requires.ascend c.args.solved.now c.requires.others len i t refl at_i within old c.loop-i.invariant.count
          new c.loop-i.wide c.in_ok-wide.wide c.loop-i.invariant.others (subst (λ j. AreTried states (system rows active columns) (length rows) j old c.loop-i.wide) n c.loop-i.invariant.tried) made;
    }

pub returns-in-Some-clause-wide : goal.returns-in-Some-clause-wide
returns-in-Some-clause-wide g c = λ s h.
    let rows = g.R.RowsOf.rows c.args.rows.now in
    let active = c.args.active.now in
    let columns = map (λ c. c.items) c.args.columns.now in
    let len = system-len rows active c.requires.leaves.0 c.known.ensures c.requires.active c.requires.leaves.1 columns in
    let z : c.loop-i.i ≡ 0 = omega (arith, c.loop-i-test.false) in
    let same = wide_state c.in-Some.state s h in
    let o : c.loop-i.wide ≡ Some s = c.in-Some.is ∙ ap Some same in
    tried_wide c.args.states.now (system rows active columns) (length rows) len c.loop-i.solved c.loop-i.invariant.count s
    (subst (λ j. AreTried c.args.states.now (system rows active columns) (length rows) j c.loop-i.solved (Some s)) z
    (subst (λ o. AreTried c.args.states.now (system rows active columns) (length rows) c.loop-i.i c.loop-i.solved o) o c.loop-i.invariant.tried))

pub returns-in-None-clause-ok : goal.returns-in-None-clause-ok
returns-in-None-clause-ok g c =
    let rows = g.R.RowsOf.rows c.args.rows.now in
    let active = c.args.active.now in
    let columns = map (λ c. c.items) c.args.columns.now in
    let len = system-len rows active c.requires.leaves.0 c.known.ensures c.requires.active c.requires.leaves.1 columns in
    let z : c.loop-i.i ≡ 0 = omega (arith, c.loop-i-test.false) in
    tried_solved c.args.states.now (system rows active columns) (length rows) len c.loop-i.solved c.loop-i.invariant.count
    (subst (λ j. AreTried c.args.states.now (system rows active columns) (length rows) j c.loop-i.solved None) z
    (subst (λ o. AreTried c.args.states.now (system rows active columns) (length rows) c.loop-i.i c.loop-i.solved o) c.in-None.is c.loop-i.invariant.tried)) c.loop-i.invariant.down

pub equation_at-requires-clause-state : goal.equation_at-requires-clause-state
equation_at-requires-clause-state g c = c.requires.in_range (c.loop-i.i - 1) 0 (omega (arith, c.loop-i.invariant.within, c.loop-i-test.true))

pub equation_at-requires-clause-active : goal.equation_at-requires-clause-active
equation_at-requires-clause-active g c = c.requires.active

pub equation_at-requires-clause-columns : goal.equation_at-requires-clause-columns
equation_at-requires-clause-columns g c = λ k d l.
    let n = c.requires.columns k d l in
    let h = c.requires.in_range (c.loop-i.i - 1) 0 (omega (arith, c.loop-i.invariant.within, c.loop-i-test.true)) in
    omega (arith, n, h)

pub solve_state-requires-clause-state : goal.solve_state-requires-clause-state
solve_state-requires-clause-state g c =
    let h = c.requires.in_range (c.loop-i.i - 1) 0 (omega (arith, c.loop-i.invariant.within, c.loop-i-test.true)) in
    omega (arith, h, c.loop-i.invariant.count)

pub solve_state-requires-clause-down : goal.solve_state-requires-clause-down
solve_state-requires-clause-down g c = c.loop-i.invariant.down

pub returns-in-None-clause-others : goal.returns-in-None-clause-others
returns-in-None-clause-others g c = c.loop-i.invariant.others
