use Rattle.std.proofs.Common.{Result, Ok, Err, OnOk}
use Rattle.mdp_parts.proofs.Pruning.{pruned_both}
use Rattle.mdp_parts.proofs.losing.Losing.search_from.Goals as goal

on_ok : {A E : Type 0} (P Q : Type 0) (r : Result A E) → (P → Q) → OnOk r P → OnOk r Q
on_ok P Q (Ok x) f p = f p
on_ok P Q (Err e) f p = p

pub returns-then-branch-clause-pruned : goal.returns-then-branch-clause-pruned
returns-then-branch-clause-pruned c =
    on_ok _ _ c.forbid_losing.result
    (λ p. pruned_both c.args.model.now c.args.allowed.now c.forbid_entering.new.allowed c.forbid_losing.new.allowed c.in_ok-forbid_entering.ensures.pruned p)
    c.forbid_losing.ensures.pruned
