use Rattle.std.proofs.Common.{◌≡◌, ◌∙◌, ◌++◌, ◌∷◌, [], ℕ, List, sym, ap, subst, arith}
use Rattle.std.specs.List.{range_with_len}
use Rattle.mdp_math.proofs.Lists.{range_more}
use Rattle.mdp_policy_iteration.proofs.loops.all_nodes.Goals as goal

pub loop-s-preserved : goal.loop-s-preserved
loop-s-preserved c = (c.in_ok-push.ensures {u = tt}).items ∙ ap (λ (xs : List ℕ). xs ++ c.loop-s.s ∷ []) c.loop-s.invariant ∙ sym (range_more c.loop-s.s)

pub returns : goal.returns
returns c = subst (λ n. c.loop-s.nodes.items ≡ range_with_len 0 n) (omega arith) c.loop-s.invariant
