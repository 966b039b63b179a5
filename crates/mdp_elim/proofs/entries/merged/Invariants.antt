use Rattle.std.proofs.Common.{◌≡◌, drop}
use Rattle.mdp_elim.specs.Entries.{after, plus_row}
use Rattle.mdp_elim.proofs.entries.merged.Given as goal

abbrev pub invariant-loop-x : goal.invariant-loop-x
invariant-loop-x l = plus_row l.times l.source l.fn.row ≡ after l.sums.items (plus_row l.times (drop l.x-index l.source) l.rest)
