use Rattle.std.proofs.{Common.{None, ap, ◌∙◌, map, List, Option, ℕ}, lemmas.List.{take_all}}
use Rattle.mdp_graph.specs.Choices.{plain_rank}
use Rattle.mdp_graph.proofs.Collecting.{mapped}
use Rattle.mdp_graph.proofs.pass.plain_ranks.Goals as goal

pub loop-rank-preserved : goal.loop-rank-preserved
loop-rank-preserved c =
    mapped plain_rank c.args.ranks.now c.loop-rank.rank-index None c.loop-rank.plain.items _ _ c.loop-rank.invariant c.in_ok-push.ensures.items c.loop-rank-test.true c.unwrap_or.ensures

pub returns : goal.returns
returns c = c.loop-rank.invariant ∙ ap (λ (x : List (Option ℕ)). map plain_rank x) (take_all c.loop-rank.rank-index c.args.ranks.now c.loop-rank-test.false)
