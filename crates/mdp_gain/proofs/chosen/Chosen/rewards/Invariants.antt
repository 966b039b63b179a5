use Rattle.std.proofs.Common.{◌≡◌, map}
use Rattle.std.specs.List.{range_with_len}
use Rattle.mdp_unichain.specs.Component.{reward_by}
use Rattle.mdp_gain.specs.Code.{component_in}
use Rattle.mdp_gain.proofs.chosen.Chosen.rewards.Given as goal

abbrev pub invariant-loop-s : goal.invariant-loop-s
invariant-loop-s l = l.rewards.items ≡ map (reward_by (component_in l.self.component) l.self.policy.now) (range_with_len 0 l.s)
