use Rattle.std.proofs.Common.{◌≡◌, drop}
use Rattle.mdp_spec.specs.Sub.{sub_of}
use Rattle.mdp_rows.specs.{Head.{IsSameHead}, Replay.{with_states}}
use Rattle.mdp_rows.proofs.subsystem.give_states.Given as goal

abbrev pub invariant-loop-s : goal.invariant-loop-s
invariant-loop-s l = record {
  given : with_states l.model.names l.model.labels (drop l.s (sub_of l.model l.goals l.kept).states) l.builder ≡ with_states l.model.names l.model.labels
      (sub_of l.model l.goals l.kept).states l.fn.builder;
  same : IsSameHead l.fn.builder l.builder;
}
