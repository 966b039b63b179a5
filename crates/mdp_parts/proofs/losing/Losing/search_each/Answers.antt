use Rattle.mdp_parts.proofs.Pruning.{pruned_both}
use Rattle.mdp_parts.proofs.losing.Losing.search_each.Goals as goal

pub loop-next-preserved : goal.loop-next-preserved
loop-next-preserved c = record {
  pruned = pruned_both c.args.model.now c.args.allowed.now c.loop-next.allowed c.search_from.new.allowed
      c.loop-next.invariant.pruned c.in_ok-search_from.ensures.pruned;
  losing = c.in_ok-search_from.ensures.losing;
  region = c.in_ok-search_from.ensures.region;
}
