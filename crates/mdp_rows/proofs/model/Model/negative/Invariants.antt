use Rattle.std.specs.{Prelude.{◌≡◌, false, take}, List.{list_any}}
use Rattle.mdp_rows.specs.Negative.{any_negative}
use Rattle.mdp_rows.proofs.model.Model.negative.Given as goal

abbrev pub invariant-loop-s : goal.invariant-loop-s
invariant-loop-s l = list_any (λ x. any_negative l.m x.choices) (take l.s l.self.states) ≡ false
