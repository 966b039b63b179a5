use Rattle.std.proofs.Common.{◌≡◌, map}
use Rattle.std.specs.List.{range_with_len}
use Rattle.mdp_unichain.specs.Classes.{leaves}
use Rattle.mdp_gain.specs.Code.{component_in}
use Rattle.mdp_gain.proofs.chosen.Chosen.leaving.Given as goal

abbrev pub invariant-loop-s : goal.invariant-loop-s
invariant-loop-s l = l.flags.items ≡ map (leaves (component_in l.self.component) l.self.policy.now l.parts) (range_with_len 0 l.s)
