use Rattle.std.proofs.Common.{◌≡◌, IsTrue, drop}
use Rattle.mdp_spec.specs.Mdp.{row_at}
use Rattle.mdp_rows.specs.{Draft.{has_state, has_choice}, Head.{IsSameHead}, Replay.{with_entries}}
use Rattle.mdp_rows.proofs.subsystem.give_entries.Given as goal

abbrev pub invariant-loop-i : goal.invariant-loop-i
invariant-loop-i l = record {
  given : with_entries (drop l.i (row_at l.model l.s l.c)) l.builder ≡ with_entries (row_at l.model l.s l.c) l.fn.builder;
  same : IsSameHead l.fn.builder l.builder;
  state_open : IsTrue (has_state l.builder);
  choice_open : IsTrue (has_choice l.builder);
}
