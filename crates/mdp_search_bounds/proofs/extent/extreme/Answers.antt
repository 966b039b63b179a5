use Rattle.mdp_spec.specs.Row.{IsMdp}
use Rattle.mdp_search_bounds.proofs.Best.{one-earned}
use Rattle.mdp_search_bounds.proofs.extent.extreme.Goals as goal

pub returns : goal.returns
returns c =
    let some = IsMdp.some c.known.ensures.mdp in
    record {
      as_each = c.best_of.ensures.as_each;
      earned = one-earned c.args.model.now c.args.name c.reward.result c.best_of.result
          (record { state = 0; choice = 0; state_in = some; choice_in = IsMdp.choice c.known.ensures.mdp 0 some; earns = c.reward.ensures }) c.best_of.ensures.one;
    }
