use Rattle.std.proofs.Common.{◌≡◌, ◌∙◌, ℕ, ◌<◌, ◌≤◌, true, sym, subst}
use Rattle.mdp_spec.specs.Mdp.{states_of, row_at}
use Rattle.mdp_policy_iteration.specs.Code.{fits_at}
use Rattle.mdp_discount.proofs.{MadeRows.{is_some-scaled}, Nodes.{state-can, state-fits, end-fits, is-end}}
use Rattle.mdp_discount.specs.Problem.{discount_problem}
use Rattle.mdp_discount.proofs.problem.DiscountedShortestPath.fits.Goals as goal

pub scaled-requires-clause-choice : goal.scaled-requires-clause-choice
scaled-requires-clause-choice c =
    let x = c.args.self.now in
    let l : c.args.s < _ = subst (λ (n : ℕ). c.args.s < n) c.states.ensures c.if-s-states.true in
    state-can x.dir x.model.now x.name x.factor c.args.s c.args.c l c.requires.choice

pub returns-then-s-states : goal.returns-then-s-states
returns-then-s-states c =
    let x = c.args.self.now in
    let l : c.args.s < _ = subst (λ (n : ℕ). c.args.s < n) c.states.ensures c.if-s-states.true in
    c.is_some.ensures
    ∙ is_some-scaled (states_of x.model.now) x.factor (row_at x.model.now c.args.s c.args.c) c.scaled.result c.scaled.ensures
    ∙ sym (state-fits x.dir x.model.now x.name x.factor c.args.s c.args.c l (state-can x.dir x.model.now x.name x.factor c.args.s c.args.c l c.requires.choice))

pub returns-else-s-states : goal.returns-else-s-states
returns-else-s-states c =
    let x = c.args.self.now in
    let e = is-end x.dir x.model.now x.name x.factor c.args.s c.requires.node (subst (λ (n : ℕ). n ≤ c.args.s) c.states.ensures c.if-s-states.false) in
    sym (subst (λ (k : ℕ). fits_at (discount_problem x.dir x.model.now x.name x.factor) k c.args.c ≡ true) (sym e) (end-fits x.dir x.model.now x.name x.factor c.args.c))
