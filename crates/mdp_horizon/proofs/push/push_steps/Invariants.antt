use Rattle.std.proofs.Common.{◌≡◌, ◌++◌, drop}
use Rattle.mdp_text.specs.Answer.{Keeps}
use Rattle.mdp_horizon.specs.{Spelling.{step_lines}, Answer.{lists}}
use Rattle.mdp_horizon.proofs.push.push_steps.Given as goal

abbrev pub invariant-loop-done : goal.invariant-loop-done
invariant-loop-done l = record {
  rest : l.out.items ++ step_lines (lists (drop l.done l.steps)) ≡ l.initial.out.items ++ step_lines (lists l.steps);
  front : Keeps l.initial.out.items l.out.items;
}
