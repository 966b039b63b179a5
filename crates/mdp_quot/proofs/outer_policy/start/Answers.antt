use Rattle.std.proofs.Common.{◌∙◌, ◌++◌, ◌∷◌, ℕ, [], List, sym, ap₂}
use Rattle.mdp_math.proofs.Lists.{map_more}
use Rattle.mdp_quot.proofs.outer_policy.start.Goals as goal

pub loop-node-preserved : goal.loop-node-preserved
loop-node-preserved c = (c.in_ok-push.ensures {u = tt}).items ∙ ap₂ (λ (xs : List ℕ) (x : ℕ). xs ++ x ∷ []) c.loop-node.invariant c.first_choice.ensures ∙ sym (map_more _ c.loop-node.node)
