use Rattle.std.proofs.Common.{◌∙◌, ℕ, ◌+◌, ◌<◌, List, sym, ap, subst}
use Rattle.std.specs.{Option.{is_some}, List.{All}}
use Rattle.mdp_spec.specs.{Mdp.{Entry, states_of, row_at}, Row.{IsRow}}
use Rattle.mdp_elim.proofs.GivenRows.{targets_below}
use Rattle.mdp_discount.proofs.{ScaledRows.{discounted-row}, Nodes.{node-count, state-can, state-fits, goes-state, goes-row}}
use Rattle.mdp_discount.proofs.MadeRows.{is_some-scaled, scaled-is}
use Rattle.mdp_discount.proofs.problem.DiscountedShortestPath.row.Goals as goal

pub scaled-requires-clause-state : goal.scaled-requires-clause-state
scaled-requires-clause-state c =
    let x = c.args.self.now in goes-state x.dir x.model.now x.name x.factor c.args.s c.args.c c.requires.node c.requires.choice c.requires.goes_on

pub scaled-requires-clause-choice : goal.scaled-requires-clause-choice
scaled-requires-clause-choice c =
    let x = c.args.self.now in
    let l = goes-state x.dir x.model.now x.name x.factor c.args.s c.args.c c.requires.node c.requires.choice c.requires.goes_on in
    state-can x.dir x.model.now x.name x.factor c.args.s c.args.c l c.requires.choice

pub unreachable-requires : goal.unreachable-requires
unreachable-requires c =
    let x = c.args.self.now in
    let l = goes-state x.dir x.model.now x.name x.factor c.args.s c.args.c c.requires.node c.requires.choice c.requires.goes_on in
    let fits = sym (state-fits x.dir x.model.now x.name x.factor c.args.s c.args.c l (state-can x.dir x.model.now x.name x.factor c.args.s c.args.c l c.requires.choice)) ∙ c.requires.fits in
    let some = is_some-scaled (states_of x.model.now) x.factor (row_at x.model.now c.args.s c.args.c) c.scaled.result c.scaled.ensures ∙ fits in
    let none = ap is_some c.in-None.is in
    cc

pub returns-clause-row : goal.returns-clause-row
returns-clause-row c =
    let x = c.args.self.now in
    let l = goes-state x.dir x.model.now x.name x.factor c.args.s c.args.c c.requires.node c.requires.choice c.requires.goes_on in
    let fits = sym (state-fits x.dir x.model.now x.name x.factor c.args.s c.args.c l (state-can x.dir x.model.now x.name x.factor c.args.s c.args.c l c.requires.choice)) ∙ c.requires.fits in
    scaled-is (states_of x.model.now) x.factor (row_at x.model.now c.args.s c.args.c) c.in-Some.row (c.in-Some.ensures {u = tt}) fits
    ∙ sym (goes-row x.dir x.model.now x.name x.factor c.args.s c.args.c l c.requires.choice)

pub returns-clause-in_range : goal.returns-clause-in_range
returns-clause-in_range c =
    let x = c.args.self.now in
    let m = x.model.now in
    let l = goes-state x.dir m x.name x.factor c.args.s c.args.c c.requires.node c.requires.choice c.requires.goes_on in
    let i = state-can x.dir m x.name x.factor c.args.s c.args.c l c.requires.choice in
    let fits = sym (state-fits x.dir m x.name x.factor c.args.s c.args.c l i) ∙ c.requires.fits in
    let is = scaled-is (states_of m) x.factor (row_at m c.args.s c.args.c) c.in-Some.row (c.in-Some.ensures {u = tt}) fits in
    let within = IsRow.in_range (discounted-row (states_of m) x.factor x.discount (row_at m c.args.s c.args.c) (c.known.ensures.mdp.row c.args.s c.args.c l i)) in
    subst (λ (n : ℕ). All (λ t. t < n) c.in-Some.row.targets.now) (sym (node-count x.dir m x.name x.factor))
    (targets_below (states_of m + 1) c.in-Some.row.targets.now c.in-Some.row.probs.now c.in-Some.row.same_length
    (subst (λ (es : List Entry). All (λ e. e.target < states_of m + 1) es) (sym is) within))
