use Rattle.std.proofs.Common.{◌∙◌}
use Rattle.mdp_parts.proofs.Pruning.{pruned_none, pruned_both}
use Rattle.mdp_parts.proofs.losing.Losing.forbid_losing.Goals as goal

pub loop-t-init : goal.loop-t-init
loop-t-init c = record { pruned = pruned_none c.args.model.now c.args.allowed.now c.requires.allowed; losing = c.requires.losing; region = c.requires.region }

pub loop-t-preserved : goal.loop-t-preserved
loop-t-preserved c = record {
  pruned = pruned_both c.args.model.now c.args.allowed.now c.loop-t.allowed c.forbid_into.new.allowed
      c.loop-t.invariant.pruned c.in_ok-forbid_into.ensures.pruned;
  losing = c.in_ok-forbid_into.ensures.losing;
  region = c.in_ok-set_to.ensures.region.count ∙ c.loop-t.invariant.region;
}
