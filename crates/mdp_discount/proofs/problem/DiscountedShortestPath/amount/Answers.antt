use Rattle.std.proofs.Common.{◌≡◌, ◌∙◌, ℕ, ◌<◌, ◌≤◌, sym, ap, subst}
use Rattle.mdp_policy_iteration.specs.{Problem.{amount}, Code.{move_at}}
use Rattle.mdp_discount.specs.Problem.{0ℚ, discount_problem}
use Rattle.mdp_discount.proofs.Nodes.{state-can, state-move, end-move, is-end}
use Rattle.mdp_discount.proofs.problem.DiscountedShortestPath.amount.Goals as goal

pub reward-requires-clause-choice : goal.reward-requires-clause-choice
reward-requires-clause-choice c =
    let x = c.args.self.now in
    let l : c.args.s < _ = subst (λ (n : ℕ). c.args.s < n) c.states.ensures c.if-s-states.true in
    state-can x.dir x.model.now x.name x.factor c.args.s c.args.c l c.requires.choice

pub returns-then-s-states : goal.returns-then-s-states
returns-then-s-states c =
    let x = c.args.self.now in
    let l : c.args.s < _ = subst (λ (n : ℕ). c.args.s < n) c.states.ensures c.if-s-states.true in
    c.reward.ensures
    ∙ sym (ap amount (state-move x.dir x.model.now x.name x.factor c.args.s c.args.c l (state-can x.dir x.model.now x.name x.factor c.args.s c.args.c l c.requires.choice)))

pub returns-else-s-states : goal.returns-else-s-states
returns-else-s-states c =
    let x = c.args.self.now in
    let e = is-end x.dir x.model.now x.name x.factor c.args.s c.requires.node (subst (λ (n : ℕ). n ≤ c.args.s) c.states.ensures c.if-s-states.false) in
    c.whole.ensures
    ∙ sym (subst (λ (k : ℕ). amount (move_at (discount_problem x.dir x.model.now x.name x.factor) k c.args.c) ≡ 0ℚ) (sym e) (ap amount (end-move x.dir x.model.now x.name x.factor c.args.c)))
