use Rattle.std.proofs.Common.{◌≡◌, [], ◌∷◌, drop}
use Rattle.mdp_rows.specs.{Head.{IsSameHead}, Replay.{with_states}}
use Rattle.mdp_gain.specs.{Alone.{only_name}, PartCode.{model_in}}
use Rattle.mdp_gain.proofs.alone.give_states.Given as goal

abbrev pub invariant-loop-s : goal.invariant-loop-s
invariant-loop-s l = record {
  given : with_states (only_name ∷ []) [] (drop l.s-index (model_in l.part).states) l.builder
      ≡ with_states (only_name ∷ []) [] (model_in l.part).states l.fn.builder;
  same : IsSameHead l.fn.builder l.builder;
}
