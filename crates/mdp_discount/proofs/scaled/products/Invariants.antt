use Rattle.std.proofs.Common.{◌≡◌, ◌++◌, length, drop}
use Rattle.mdp_spec.specs.Row.{entries}
use Rattle.mdp_discount.specs.{Problem.{scaled_entries, products_fit}, ScaledView.{entries_in}}
use Rattle.mdp_discount.proofs.scaled.products.Given as goal

abbrev pub invariant-loop-i : goal.invariant-loop-i
invariant-loop-i l = record {
  kept : entries_in l.made ++ scaled_entries l.factor (entries (drop l.i l.row.targets.now) (drop l.i l.row.probs.now)) ≡ scaled_entries l.factor (entries l.row.targets.now l.row.probs.now);
  fits : products_fit l.factor (entries (drop l.i l.row.targets.now) (drop l.i l.row.probs.now)) ≡ products_fit l.factor (entries l.row.targets.now l.row.probs.now);
  same_length : length l.made.targets.items ≡ length l.made.probs.items;
}
