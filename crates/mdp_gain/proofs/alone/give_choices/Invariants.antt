use Rattle.std.proofs.Common.{◌≡◌, IsTrue, drop}
use Rattle.mdp_rows.specs.{Draft.{has_state}, Head.{IsSameHead}, Replay.{with_choices}}
use Rattle.mdp_gain.specs.PartCode.{state_in}
use Rattle.mdp_gain.proofs.alone.give_choices.Given as goal

abbrev pub invariant-loop-c : goal.invariant-loop-c
invariant-loop-c l = record {
  given : with_choices (drop l.c (state_in l.part l.s).choices) l.builder ≡ with_choices (state_in l.part l.s).choices l.fn.builder;
  same : IsSameHead l.fn.builder l.builder;
  state_open : IsTrue (has_state l.builder);
}
