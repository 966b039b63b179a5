use Rattle.std.proofs.Common.{◌≡◌, length}
use Rattle.mdp_elim.proofs.Lists.{HaveNoEntries}
use Rattle.mdp_elim.proofs.keeping.no_equations.Given as goal

abbrev pub invariant-loop : goal.invariant-loop
invariant-loop l = record { count : length l.equations.items ≡ l.counter; none : HaveNoEntries l.equations.items }
