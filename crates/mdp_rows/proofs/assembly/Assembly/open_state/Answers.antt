use Rattle.std.proofs.Common.{inr, List, ◌++◌, ap, ◌∙◌}
use Rattle.mdp_math.specs.Rational.{ℚ}
use Rattle.mdp_rows.proofs.Assembled.Drafts.{too_many_states, state_is_opened, is_with_new_state, is_with_rewards}
use Rattle.mdp_rows.proofs.assembly.Assembly.open_state.Goals as goal

pub returns-then-states-self : goal.returns-then-states-self
returns-then-states-self c = record { follows = inr (too_many_states c.self.inside _ c.args.rewards.now c.states.result c.self.view_is c.self.invariant c.states.ensures c.if-states-self.true) }

pub invariant_of-self : goal.invariant_of-self
invariant_of-self c = is_with_rewards c.self.inside _ _ c.self.view_is c.self.invariant c.requires.closed

pub invariant_of-self-2 : goal.invariant_of-self-2
invariant_of-self-2 c =
    let e = rw c.if-is_err.ensures.negation at c.extend_from_slice.ensures.items in
    is_with_new_state c.self.inside _ c.args.rewards.now _ _ c.states.result c.self.view_is c.self.invariant c.requires.closed c.requires.one_each c.states.ensures c.if-states-self.false
    (e ∙ ap (λ (xs : List ℚ). xs ++ c.args.rewards.now) c.clear.ensures.items) c.clear-2.ensures.items

pub returns : goal.returns
returns c =
    let e = rw c.if-is_err.ensures.negation at c.extend_from_slice.ensures.items in
    record {
      follows = state_is_opened c.self.inside _ c.args.rewards.now _ _ c.states.result c.self.view_is c.self.invariant c.requires.closed c.requires.one_each c.states.ensures c.if-states-self.false
          (e ∙ ap (λ (xs : List ℚ). xs ++ c.args.rewards.now) c.clear.ensures.items) c.clear-2.ensures.items;
    }
