use Rattle.std.proofs.Common.{ℕ, ◌<◌, List, Option, length, subst, subst₂, sym}
use Rattle.std.specs.Prelude.{IsSome}
use Rattle.mdp_math.specs.Rational.{ℚ}
use Rattle.mdp_spec.specs.Bounds.{reward_at}
use Rattle.mdp_search_bounds.specs.Near.{IsRewardNear}
use Rattle.mdp_search_bounds.proofs.Nearness.{values_near_of}
use Rattle.mdp_search_bounds.proofs.discount.DiscountingSearch.gap.Goals as goal

pub returns-then-are_there : goal.returns-then-are_there
returns-then-are_there c held digits shows =
    let v = c.args.bounds.now in
    let there = subst (λ (l : List (Option ℚ)). (s : ℕ) → s < length l → IsSome (reward_at l s)) c.deref.ensures.value (c.are_there.ensures c.if-are_there.true) in
    let near =
    subst₂ (λ (a b : List (Option ℚ)). (s : ℕ) → s < length a → s < length b → IsRewardNear digits (reward_at a s) (reward_at b s)) c.deref-then-are_there.ensures.value
    c.deref-then-are_there-2.ensures.value (c.between_rewards.ensures digits shows) in
    values_near_of digits c.args.self.now.model.now v.lower.items v.upper.items held.sizes.lower there
    (λ s i. near s (subst (λ (n : ℕ). s < n) (sym held.sizes.lower) i) (subst (λ (n : ℕ). s < n) (sym held.sizes.upper) i))
