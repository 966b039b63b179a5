use Rattle.std.proofs.{Common.{ℕ, ◌++◌, ◌∷◌, [], List, get_or, sym, ap₂, ◌∙◌, arith}, lemmas.List.FromFn.{map-range_with_len_more}}
use Rattle.mdp_ends.specs.Toward.{lifted_choice}
use Rattle.mdp_quot.proofs.quotient.Quotient.lifted_by.Goals as goal

pub loop-s-preserved : goal.loop-s-preserved
loop-s-preserved c =
    c.in_ok-push.ensures.items ∙ ap₂ (λ (xs : List ℕ) (x : ℕ). xs ++ x ∷ []) c.loop-s.invariant c.lifted_at.ensures
    ∙ sym (map-range_with_len_more (λ s. lifted_choice c.args.model.now c.args.ends.now.parts c.args.self.now.nodes s
    (get_or c.args.inner.now s 0) (get_or c.args.outer.now (get_or c.args.self.now.nodes s 0) 0)) 0 c.loop-s.s c.loop-s.s (omega arith))
