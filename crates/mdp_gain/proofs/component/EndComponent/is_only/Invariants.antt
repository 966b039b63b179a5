use Rattle.std.proofs.Common.{◌≡◌, ◌<◌, ℕ, true}
use Rattle.mdp_gain.specs.{Code.{component_in}, Only.{stays}}
use Rattle.mdp_gain.proofs.component.EndComponent.is_only.Given as goal

abbrev pub invariant-loop-c : goal.invariant-loop-c
invariant-loop-c l = (k : ℕ) → k < l.c → stays (component_in l.self) l.s k ≡ true
