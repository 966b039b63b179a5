use Rattle.std.proofs.{Common.{ap, sym, ◌∙◌, List, ℕ}, lemmas.List.{take_all}}
use Rattle.std.specs.List.{list_any}
use Rattle.mdp_graph.specs.{Layers.{rank_at}, Choices.{is_before}}
use Rattle.mdp_graph.proofs.{RowSets.{list_any-by}, Collecting.{any_more}}
use Rattle.mdp_graph.proofs.pass.some_before.Goals as goal

pub loop-t-preserved : goal.loop-t-preserved
loop-t-preserved c =
    any_more (λ (t : ℕ). is_before c.args.rank (rank_at c.args.ranks.now t)) c.args.targets.now c.loop-t.t-index 0 c.loop-t-test.true c.loop-t.invariant
    (sym c.is_below.ensures ∙ c.if-is_below.false)

pub returns-then-is_below : goal.returns-then-is_below
returns-then-is_below c =
    sym (list_any-by (λ (t : ℕ). is_before c.args.rank (rank_at c.args.ranks.now t)) c.args.targets.now 0 c.loop-t.t-index c.loop-t-test.true (sym c.is_below.ensures ∙ c.if-is_below.true))

pub returns : goal.returns
returns c =
    sym c.loop-t.invariant
    ∙ ap (λ (x : List ℕ). list_any (λ (t : ℕ). is_before c.args.rank (rank_at c.args.ranks.now t)) x) (take_all c.loop-t.t-index c.args.targets.now c.loop-t-test.false)
