use Rattle.std.proofs.Common.{◌≡◌, IsTrue, drop}
use Rattle.mdp_spec.specs.Mdp.{state_at}
use Rattle.mdp_rows.specs.{Draft.{has_state}, Head.{IsSameHead}, Replay.{with_labels}}
use Rattle.mdp_rows.proofs.subsystem.give_labels.Given as goal

abbrev pub invariant-loop-i : goal.invariant-loop-i
invariant-loop-i l = record {
  given : with_labels l.model.labels (drop l.i (state_at l.model l.s).labels) l.builder ≡ with_labels l.model.labels (state_at l.model l.s).labels l.fn.builder;
  same : IsSameHead l.fn.builder l.builder;
  state_open : IsTrue (has_state l.builder);
}
