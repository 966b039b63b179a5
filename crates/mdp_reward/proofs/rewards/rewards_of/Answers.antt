use Rattle.std.specs.List.{range_with_len}
use Rattle.std.proofs.Common.{◌∙◌, ◌++◌, ◌∷◌, Option, [], List, sym, ap₂, ◌≡◌, map, subst, arith}
use Rattle.mdp_math.specs.Rational.{ℚ}
use Rattle.mdp_math.proofs.Lists.{map_more}
use Rattle.mdp_spec.specs.Mdp.{states_of}
use Rattle.mdp_reward.specs.Query.{reward_by}
use Rattle.mdp_reward.proofs.rewards.rewards_of.Goals as goal

pub loop-s-preserved : goal.loop-s-preserved
loop-s-preserved c =
    (c.in_ok-push.ensures {u = tt}).items ∙ ap₂ (λ (xs : List (Option ℚ)) (x : Option ℚ). xs ++ x ∷ []) c.loop-s.invariant c.reward_by.ensures ∙ sym (map_more _ c.loop-s.s)

pub returns : goal.returns
returns c =
    let all : c.loop-s.s ≡ states_of c.args.model.now = omega (arith, c.states-s-end.ensures) in
    subst (λ n. c.loop-s.rewards.items ≡ map (reward_by c.args.finite.now c.args.values.now) (range_with_len 0 n)) all c.loop-s.invariant
