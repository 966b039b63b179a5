use Rattle.std.proofs.{Common.{◌∙◌, ◌++◌, ◌∷◌, [], List, sym, ap₂, zero-add}, lemmas.List.FromFn.{map-range_with_len_more}}
use Rattle.mdp_math.specs.Rational.{ℚ}
use Rattle.mdp_mean.proofs.parts.at_nodes.Goals as goal

pub loop-s-preserved : goal.loop-s-preserved
loop-s-preserved c =
    (c.in_ok-push.ensures {u = tt}).items ∙ ap₂ (λ (xs : List ℚ) (x : ℚ). xs ++ x ∷ []) c.loop-s.invariant c.value_at.ensures
    ∙ sym (map-range_with_len_more _ 0 c.loop-s.s c.loop-s.s (zero-add c.loop-s.s))
