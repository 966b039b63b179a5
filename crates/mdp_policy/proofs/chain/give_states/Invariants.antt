use Rattle.std.proofs.Common.{◌≡◌, drop}
use Rattle.mdp_rows.specs.{Head.{IsSameHead}, Replay.{with_states}}
use Rattle.mdp_policy.specs.Chain.{chain_of}
use Rattle.mdp_policy.proofs.chain.give_states.Given as goal

abbrev pub invariant-loop-s : goal.invariant-loop-s
invariant-loop-s l = record {
  given : with_states l.model.names l.model.labels (drop l.s (chain_of l.model l.policy).states) l.builder ≡ with_states l.model.names l.model.labels (chain_of l.model l.policy).states l.fn.builder;
  same : IsSameHead l.fn.builder l.builder;
}
