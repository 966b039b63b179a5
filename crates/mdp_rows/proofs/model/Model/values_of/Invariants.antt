use Rattle.std.proofs.Common.{◌≡◌, ◌==◌, map, take}
use Rattle.std.specs.List.{list_any}
use Rattle.mdp_rows.proofs.model.Model.values_of.Given as goal

abbrev pub invariant-loop-s : goal.invariant-loop-s
invariant-loop-s l = l.values.items ≡ map (λ x. list_any (λ k. k == l.l) x.labels) (take l.s l.self.states)
