use Rattle.std.proofs.Common.{◌≡◌, Ok}
use Rattle.mdp_unichain.specs.Written.{best_of}
use Rattle.mdp_gain.specs.Code.{component_in}
use Rattle.mdp_gain.proofs.component.EndComponent.choice_over.Given as goal

abbrev pub invariant-loop-c : goal.invariant-loop-c
invariant-loop-c g l = best_of (component_in l.self) (g.V.ValuesOf.values l.bias) l.s l.fn.present l.c ≡ Ok (record { value = l.best.value; choice = l.best.choice })
