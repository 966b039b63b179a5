use Rattle.std.proofs.Common.{◌≡◌, ◌<◌, ℕ, false}
use Rattle.mdp_unichain.specs.Component.{is_state}
use Rattle.mdp_gain.specs.Code.{component_in}
use Rattle.mdp_gain.proofs.component.EndComponent.least_state.Given as goal

abbrev pub invariant-loop-s : goal.invariant-loop-s
invariant-loop-s l = (k : ℕ) → k < l.s → is_state (component_in l.self) k ≡ false
