use Rattle.std.proofs.Common.{drop}
use Rattle.mdp_drn.specs.Writing.{states_text}
use Rattle.mdp_drn.proofs.TextWritten.Appending.{Appending}
use Rattle.mdp_drn.proofs.state_text.push_states.Given as goal

abbrev pub invariant-loop-s : goal.invariant-loop-s
invariant-loop-s l = Appending l.fn.out.items l.out.items (states_text l.model l.s (drop l.s l.model.states)) (states_text l.model 0 l.model.states)
