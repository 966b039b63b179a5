use Rattle.std.proofs.Common.{◌≡◌, IsTrue, drop}
use Rattle.mdp_spec.specs.Mdp.{choices_at}
use Rattle.mdp_rows.specs.{Draft.{has_state}, Head.{IsSameHead}, Replay.{with_choices}}
use Rattle.mdp_rows.proofs.subsystem.give_choices.Given as goal

abbrev pub invariant-loop-c : goal.invariant-loop-c
invariant-loop-c l = record {
  given : with_choices (drop l.c (choices_at l.model l.s)) l.builder ≡ with_choices (choices_at l.model l.s) l.fn.builder;
  same : IsSameHead l.fn.builder l.builder;
  state_open : IsTrue (has_state l.builder);
}
