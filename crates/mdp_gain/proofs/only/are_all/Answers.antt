use Rattle.std.proofs.{Common.{ap, sym, ◌∙◌, List, ℕ, not, ◌==◌}, lemmas.List.{take_all}}
use Rattle.std.specs.List.{list_any}
use Rattle.mdp_graph.proofs.{RowSets.{list_any-by}, Collecting.{any_more}}
use Rattle.mdp_gain.proofs.Alls.{all-not}
use Rattle.mdp_gain.proofs.only.are_all.Goals as goal

pub loop-t-preserved : goal.loop-t-preserved
loop-t-preserved c =
    any_more (λ (t : ℕ). not (t == c.args.s)) c.args.targets.now c.loop-t.t-index 0 c.loop-t-test.true c.loop-t.invariant (sym c.is_other.ensures ∙ c.if-is_other.false)

pub returns-then-is_other : goal.returns-then-is_other
returns-then-is_other c =
    sym (all-not (λ (t : ℕ). t == c.args.s) c.args.targets.now
    ∙ ap not (list_any-by (λ (t : ℕ). not (t == c.args.s)) c.args.targets.now 0 c.loop-t.t-index c.loop-t-test.true (sym c.is_other.ensures ∙ c.if-is_other.true)))

pub returns : goal.returns
returns c =
    sym (all-not (λ (t : ℕ). t == c.args.s) c.args.targets.now
    ∙ ap not (sym (ap (λ (x : List ℕ). list_any (λ (t : ℕ). not (t == c.args.s)) x) (take_all c.loop-t.t-index c.args.targets.now c.loop-t-test.false)) ∙ c.loop-t.invariant))
