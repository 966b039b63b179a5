use Rattle.std.proofs.{Common.{ap, sym, ◌∙◌, List, ℕ, get_or, not, ◌==◌}, lemmas.List.{take_all}}
use Rattle.std.specs.List.{list_any}
use Rattle.mdp_graph.proofs.{RowSets.{list_any-by}, Collecting.{any_more}}
use Rattle.mdp_gain.proofs.classes.has_other.Goals as goal

pub loop-t-preserved : goal.loop-t-preserved
loop-t-preserved c =
    any_more (λ (t : ℕ). not (get_or c.args.parts.now t 0 == c.args.part)) c.args.targets.now c.loop-t.t-index 0 c.loop-t-test.true c.loop-t.invariant
    (sym c.is_other.ensures ∙ c.if-is_other.false)

pub returns-then-is_other : goal.returns-then-is_other
returns-then-is_other c =
    sym (list_any-by (λ (t : ℕ). not (get_or c.args.parts.now t 0 == c.args.part)) c.args.targets.now 0 c.loop-t.t-index c.loop-t-test.true (sym c.is_other.ensures ∙ c.if-is_other.true))

pub returns : goal.returns
returns c =
    sym c.loop-t.invariant
    ∙ ap (λ (x : List ℕ). list_any (λ (t : ℕ). not (get_or c.args.parts.now t 0 == c.args.part)) x) (take_all c.loop-t.t-index c.args.targets.now c.loop-t-test.false)
