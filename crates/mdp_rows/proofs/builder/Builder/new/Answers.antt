use Rattle.std.proofs.Common.{sym, subst}
use Rattle.mdp_rows.specs.Sound.{IsSound}
use Rattle.mdp_rows.proofs.SoundCalls.{new_draft-sound}
use Rattle.mdp_rows.proofs.builder.Builder.new.Goals as goal

pub invariant_of-result : goal.invariant_of-result
invariant_of-result c = λ _. subst IsSound (sym (c.in_ok-new.ensures {u = tt})) (new_draft-sound _ _ _ c.requires.some c.requires.few c.requires.names)
