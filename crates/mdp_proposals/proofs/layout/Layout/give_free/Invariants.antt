use Rattle.std.proofs.Common.{IsTrue}
use Rattle.mdp_rows.specs.{Draft.{has_state}, Head.{IsSameHead}}
use Rattle.mdp_proposals.proofs.layout.Layout.give_free.Given as goal

abbrev pub invariant-loop-c : goal.invariant-loop-c
invariant-loop-c l = record {
  same : IsSameHead l.fn.builder l.builder;
  state_open : IsTrue (has_state l.builder);
}
