use Rattle.std.proofs.Common.{map, drop}
use Rattle.mdp_drn.specs.Values.{trimmed}
use Rattle.mdp_drn.proofs.LinesRead.RewardsFrom.{RewardsFrom}
use Rattle.mdp_drn.proofs.values.push_rewards.Given as goal

abbrev pub invariant-loop-text : goal.invariant-loop-text
invariant-loop-text l = let texts = map trimmed (map (λ text. text.now) l.texts) in RewardsFrom texts (drop l.text-index texts) l.rewards.items
