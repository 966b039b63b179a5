use Rattle.std.proofs.Common.{◌≡◌, ◌+◌, length, Ok}
use Rattle.mdp_elim.specs.{Elimination.{no_values}, Finish.{finish, LeadDown}}
use Rattle.mdp_elim.proofs.elimination.evaluate_all.Given as goal

abbrev pub invariant-loop-equation : goal.invariant-loop-equation
invariant-loop-equation l = record {
  same : finish 0 l.fn.solved.items (Ok no_values) ≡ finish l.s l.waiting.items (Ok (record { first = l.first.items; second = l.second.items }));
  down : LeadDown l.s l.waiting.items;
  count : length l.waiting.items + l.s ≡ length l.fn.solved.items;
  first : length l.first.items ≡ l.s;
  second : length l.second.items ≡ l.s;
}

abbrev pub decreases-loop-equation : goal.decreases-loop-equation
decreases-loop-equation l = length l.waiting.items
