use Rattle.std.proofs.Common.{◌≡◌, ◌++◌, drop}
use Rattle.mdp_text.specs.Answer.{Keeps}
use Rattle.mdp_horizon.specs.BoundsSpelling.{state_lines}
use Rattle.mdp_horizon.proofs.bounds_push.push_states.Given as goal

abbrev pub invariant-loop-s : goal.invariant-loop-s
invariant-loop-s l = record {
  rest : l.out.items ++ state_lines l.s (drop l.s l.lower) (drop l.s l.upper) ≡ l.initial.out.items ++ state_lines 0 l.lower l.upper;
  front : Keeps l.initial.out.items l.out.items;
}
