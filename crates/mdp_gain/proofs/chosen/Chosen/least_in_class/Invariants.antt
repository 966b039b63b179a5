use Rattle.std.proofs.Common.{◌≡◌, ◌<◌, ℕ, false}
use Rattle.mdp_unichain.specs.Classes.{is_in_class}
use Rattle.mdp_gain.specs.Code.{component_in}
use Rattle.mdp_gain.proofs.chosen.Chosen.least_in_class.Given as goal

abbrev pub invariant-loop-s : goal.invariant-loop-s
invariant-loop-s l = (k : ℕ) → k < l.s → is_in_class (component_in l.self.component) l.classes.parts.items l.classes.left k ≡ false
