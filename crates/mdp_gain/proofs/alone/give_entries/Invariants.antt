use Rattle.std.proofs.Common.{◌≡◌, IsTrue, drop, map}
use Rattle.mdp_spec.specs.Mdp.{row_at}
use Rattle.mdp_rows.specs.{Draft.{has_state, has_choice}, Head.{IsSameHead}, Replay.{with_entries}}
use Rattle.mdp_gain.specs.Alone.{placed_entry}
use Rattle.mdp_gain.proofs.alone.give_entries.Given as goal

abbrev pub invariant-loop-i : goal.invariant-loop-i
invariant-loop-i l = record {
  given : with_entries (map (placed_entry l.part.states.now) (drop l.i (row_at l.part.model.now l.s l.c))) l.builder
      ≡ with_entries (map (placed_entry l.part.states.now) (row_at l.part.model.now l.s l.c)) l.fn.builder;
  same : IsSameHead l.fn.builder l.builder;
  state_open : IsTrue (has_state l.builder);
  choice_open : IsTrue (has_choice l.builder);
}
