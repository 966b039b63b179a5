use Rattle.std.proofs.{Common.{ℕ, ◌||◌, [], List, sym, ap, ◌∙◌, arith, get_or, take}, lemmas.List.Folds.{list_any_more}}
use Rattle.mdp_rows.specs.declared.preds.Pred.{Pred}
use Rattle.mdp_policy_iteration.specs.Marked.{has_one, depends_on_one}
use Rattle.mdp_policy_iteration.proofs.Marking.{none_added, more_added, all_added}
use Rattle.mdp_policy_iteration.proofs.dependents.Dependents.add_dependents.Goals as goal

pub loop-t-init : goal.loop-t-init
loop-t-init c = none_added _ _ c.requires.marked

pub loop-t-preserved : goal.loop-t-preserved
loop-t-preserved c =
    more_added _ _ _ _ _ _ _ _ _ c.loop-t.invariant c.in_ok-add_all.ensures
    (λ s. list_any_more (λ (t : ℕ). has_one (get_or c.args.self.now t []) s) c.args.nodes.now c.loop-t.t-index 0 c.loop-t-test.true
    ∙ ap (λ (ps : List Pred). depends_on_one c.args.self.now (take c.loop-t.t-index c.args.nodes.now) s || has_one ps s) (sym c.of.ensures))

pub returns : goal.returns
returns c = all_added (depends_on_one c.args.self.now) c.args.nodes.now c.loop-t.t-index _ _ _ _ c.loop-t.invariant (omega arith)
