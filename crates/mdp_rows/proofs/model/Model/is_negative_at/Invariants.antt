use Rattle.std.specs.Prelude.{◌≡◌, false, take}
use Rattle.mdp_spec.specs.Mdp.{choices_at}
use Rattle.mdp_rows.specs.Negative.{any_negative}
use Rattle.mdp_rows.proofs.model.Model.is_negative_at.Given as goal

abbrev pub invariant-loop-c : goal.invariant-loop-c
invariant-loop-c l = any_negative l.m (take l.c (choices_at l.self l.s)) ≡ false
