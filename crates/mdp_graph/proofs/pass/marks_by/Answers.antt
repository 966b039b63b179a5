use Rattle.std.proofs.{Common.{is_some, None, ap, ◌∙◌, map, List, Option, ℕ}, lemmas.List.{take_all}}
use Rattle.mdp_graph.proofs.Collecting.{mapped}
use Rattle.mdp_graph.proofs.pass.marks_by.Goals as goal

pub loop-rank-preserved : goal.loop-rank-preserved
loop-rank-preserved c =
    mapped is_some c.args.ranks.now c.loop-rank.rank-index None c.loop-rank.values.items _ _ c.loop-rank.invariant c.in_ok-push.ensures.items c.loop-rank-test.true c.is_some.ensures

pub returns : goal.returns
returns c = c.from_values.ensures ∙ c.loop-rank.invariant ∙ ap (λ (x : List (Option ℕ)). map is_some x) (take_all c.loop-rank.rank-index c.args.ranks.now c.loop-rank-test.false)
