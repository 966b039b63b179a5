use Rattle.std.proofs.Common.{◌≡◌, ◌++◌, drop}
use Rattle.mdp_text.specs.{Answer.{Keeps}, Spelling.{value_lines}}
use Rattle.mdp_text.proofs.push.append_values.Given as goal

abbrev pub invariant-loop-s : goal.invariant-loop-s
invariant-loop-s l = record {
  rest : l.out.items ++ value_lines l.s (drop l.s l.values) ≡ l.initial.out.items ++ value_lines 0 l.values;
  front : Keeps l.initial.out.items l.out.items;
}
