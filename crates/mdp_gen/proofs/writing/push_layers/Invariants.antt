use Rattle.std.proofs.Common.{◌≡◌, ◌<◌, ◌*◌, [], drop}
use Rattle.mdp_drn.specs.Writing.{states_text}
use Rattle.mdp_drn.proofs.TextWritten.Appending.{Appending}
use Rattle.mdp_gen.specs.{Draws.{draw}, Layered.{of_states, layer_states}}
use Rattle.mdp_gen.proofs.writing.push_layers.Given as goal

abbrev pub invariant-loop-s : goal.invariant-loop-s
invariant-loop-s l =
    (l.x ≡ draw l.number (4 * l.s)) × (l.x < 65537)
    × Appending l.fn.out.items l.out.items (states_text (of_states []) l.s (drop l.s (layer_states l.number l.layers l.width))) (states_text (of_states []) 0 (layer_states l.number l.layers l.width))
