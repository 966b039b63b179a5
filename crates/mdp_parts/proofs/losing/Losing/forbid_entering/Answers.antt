use Rattle.mdp_parts.proofs.Pruning.{pruned_both}
use Rattle.mdp_parts.proofs.losing.Losing.forbid_entering.Goals as goal

pub loop-t-preserved : goal.loop-t-preserved
loop-t-preserved c = record {
  pruned = pruned_both c.args.model.now c.args.allowed.now c.loop-t.allowed c.forbid_into.new.allowed
      c.loop-t.invariant.pruned c.in_ok-forbid_into.ensures.pruned;
  losing = c.in_ok-forbid_into.ensures.losing;
}
