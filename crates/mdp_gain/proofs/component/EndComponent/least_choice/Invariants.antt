use Rattle.std.proofs.Common.{◌≡◌, ◌<◌, ℕ, false}
use Rattle.mdp_unichain.specs.Component.{choice_at}
use Rattle.mdp_gain.specs.Code.{component_in}
use Rattle.mdp_gain.proofs.component.EndComponent.least_choice.Given as goal

abbrev pub invariant-loop-c : goal.invariant-loop-c
invariant-loop-c l = (k : ℕ) → k < l.c → (choice_at (component_in l.self) l.s k).inner ≡ false
