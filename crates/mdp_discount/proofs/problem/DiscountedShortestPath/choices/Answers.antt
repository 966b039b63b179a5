use Rattle.std.proofs.Common.{◌≡◌, ◌∙◌, ℕ, ◌<◌, ◌≤◌, length, sym, subst}
use Rattle.mdp_policy_iteration.specs.Problem.{choices_at}
use Rattle.mdp_discount.specs.Problem.{discount_problem}
use Rattle.mdp_discount.proofs.Nodes.{state-choices, end-choices, is-end}
use Rattle.mdp_discount.proofs.problem.DiscountedShortestPath.choices.Goals as goal

pub returns-then-s-states : goal.returns-then-s-states
returns-then-s-states c =
    let x = c.args.self.now in
    let l : c.args.s < _ = subst (λ (n : ℕ). c.args.s < n) c.states.ensures c.if-s-states.true in
    c.choices.ensures ∙ sym (state-choices x.dir x.model.now x.name x.factor c.args.s l)

pub returns-else-s-states : goal.returns-else-s-states
returns-else-s-states c =
    let x = c.args.self.now in
    let e = is-end x.dir x.model.now x.name x.factor c.args.s c.requires (subst (λ (n : ℕ). n ≤ c.args.s) c.states.ensures c.if-s-states.false) in
    sym (subst (λ (k : ℕ). length (choices_at (discount_problem x.dir x.model.now x.name x.factor) k) ≡ 0) (sym e) (end-choices x.dir x.model.now x.name x.factor))
