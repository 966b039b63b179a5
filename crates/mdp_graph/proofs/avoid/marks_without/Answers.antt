use Rattle.std.proofs.{Common.{is_none, None, ap, sym, not, ◌∙◌, map, List, Option, ℕ}, lemmas.List.{take_all}}
use Rattle.mdp_math.proofs.Booleans.{not-not}
use Rattle.mdp_graph.proofs.Collecting.{mapped}
use Rattle.mdp_graph.proofs.avoid.marks_without.Goals as goal

pub loop-rank-init : goal.loop-rank-init
loop-rank-init c = c.in_ok-values.ensures.items

pub loop-rank-preserved : goal.loop-rank-preserved
loop-rank-preserved c =
    mapped is_none c.args.ranks.now c.loop-rank.rank-index None c.loop-rank.values.items _ c.is_none.result c.loop-rank.invariant c.in_ok-push.ensures.items c.loop-rank-test.true
    (sym (ap not c.is_none.ensures ∙ not-not c.is_none.result))

pub returns : goal.returns
returns c = c.from_values.ensures ∙ c.loop-rank.invariant ∙ ap (λ (x : List (Option ℕ)). map is_none x) (take_all c.loop-rank.rank-index c.args.ranks.now c.loop-rank-test.false)
