use Rattle.std.proofs.Common.{◌≡◌, ◌+◌, ◌-◌, ◌≤◌}
use Rattle.mdp_text.specs.Lines.{place}
use Rattle.mdp_policy.specs.Text.{choices_from}
use Rattle.mdp_policy.proofs.Reading.{onto}
use Rattle.mdp_policy.proofs.read.choices_from.Given as goal

abbrev pub invariant-loop-s : goal.invariant-loop-s
invariant-loop-s l = record {
  lines : l.next ≤ l.line + l.s;
  said : onto l.choices.items (choices_from (l.states - l.s) l.s (place l.next l.rest)) ≡ choices_from l.states 0 (place l.line l.bytes);
}
