use Rattle.std.proofs.Common.{◌∙◌, ◌++◌, ◌∷◌, ℕ, [], List, sym, ap}
use Rattle.mdp_math.proofs.Lists.{map_more}
use Rattle.mdp_quot.proofs.exit_counts.start.Goals as goal

pub loop-node-preserved : goal.loop-node-preserved
loop-node-preserved c = (c.in_ok-push.ensures {u = tt}).items ∙ ap (λ (xs : List ℕ). xs ++ 0 ∷ []) c.loop-node.invariant ∙ sym (map_more _ c.loop-node._node)
