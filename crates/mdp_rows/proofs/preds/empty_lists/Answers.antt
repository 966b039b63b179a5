use Rattle.std.proofs.{Common.{ℕ, List, ◌++◌, ◌∷◌, [], replicate, ap, ap₂, ◌∙◌, arith}, lemmas.List.{replicate-append-replicate}}
use Rattle.mdp_rows.specs.declared.preds.Pred.{Pred}
use Rattle.mdp_rows.proofs.preds.empty_lists.Goals as goal

pub loop-preserved : goal.loop-preserved
loop-preserved c = (c.in_ok-push.ensures {u = tt}).items ∙ ap₂ (λ (xs : List (List Pred)) (x : List Pred). xs ++ x ∷ []) c.loop.invariant c.new.ensures ∙ replicate-append-replicate c.loop.counter 1 []

pub returns : goal.returns
returns c = c.loop.invariant ∙ ap (λ (n : ℕ). replicate n []) (omega arith)
