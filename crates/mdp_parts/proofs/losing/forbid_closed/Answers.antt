use Rattle.mdp_parts.proofs.Pruning.{pruned_both}
use Rattle.mdp_parts.proofs.losing.forbid_closed.Goals as goal

pub returns : goal.returns
returns c =
    pruned_both c.args.model.now c.args.allowed.now c.forbid_losing.new.allowed c.search_each.new.allowed
    c.in_ok-forbid_losing.ensures.pruned c.in_ok-search_each.ensures.pruned
