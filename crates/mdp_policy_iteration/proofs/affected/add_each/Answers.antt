use Rattle.std.proofs.{Common.{ℕ, ◌==◌, List, arith}, lemmas.List.Folds.{list_any_more}}
use Rattle.mdp_rows.specs.Preds.{is_among}
use Rattle.mdp_policy_iteration.proofs.Marking.{none_added, more_added, all_added}
use Rattle.mdp_policy_iteration.proofs.affected.add_each.Goals as goal

pub loop-s-init : goal.loop-s-init
loop-s-init c = none_added _ _ c.requires.marked

pub loop-s-preserved : goal.loop-s-preserved
loop-s-preserved c =
    more_added _ _ _ _ _ _ _ _ _ c.loop-s.invariant c.in_ok-add.ensures (λ s. list_any_more (λ x. x == s) c.args.nodes.now c.loop-s.s-index 0 c.loop-s-test.true)

pub returns : goal.returns
returns c = all_added (λ (xs : List ℕ) (s : ℕ). is_among s xs) c.args.nodes.now c.loop-s.s-index _ _ _ _ c.loop-s.invariant (omega arith)
