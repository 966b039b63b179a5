use Rattle.std.proofs.Common.{◌∙◌, ◌++◌, ◌∷◌, Bool, not, [], List, sym, ap₂}
use Rattle.mdp_math.proofs.Lists.{map_more}
use Rattle.mdp_reward.proofs.start.unmarked.Goals as goal

pub loop-s-preserved : goal.loop-s-preserved
loop-s-preserved c = (c.in_ok-push.ensures {u = tt}).items ∙ ap₂ (λ (xs : List Bool) (x : Bool). xs ++ not x ∷ []) c.loop-s.invariant c.at.ensures ∙ sym (map_more _ c.loop-s.s)
