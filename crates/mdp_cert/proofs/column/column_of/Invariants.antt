use Rattle.std.proofs.Common.{◌≡◌, map, take}
use Rattle.mdp_cert.proofs.column.column_of.Given as goal

abbrev pub invariant-loop-entry : goal.invariant-loop-entry
invariant-loop-entry g l = l.column.items ≡ map g.C.Column.field (take l.entry-index l.entries)
