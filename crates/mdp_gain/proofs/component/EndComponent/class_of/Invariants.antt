use Rattle.std.proofs.Common.{◌≡◌, map}
use Rattle.std.specs.List.{range_with_len}
use Rattle.mdp_unichain.specs.Classes.{shares_part}
use Rattle.mdp_gain.specs.Code.{component_in}
use Rattle.mdp_gain.proofs.component.EndComponent.class_of.Given as goal

abbrev pub invariant-loop-s : goal.invariant-loop-s
invariant-loop-s l = l.class.items ≡ map (shares_part (component_in l.self) l.parts l.t) (range_with_len 0 l.s)
