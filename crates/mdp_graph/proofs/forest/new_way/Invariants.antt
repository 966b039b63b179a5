use Rattle.std.proofs.Common.{◌≡◌, ◌<◌, ℕ, true, false}
use Rattle.mdp_spec.specs.Mdp.{states_of, row_at}
use Rattle.mdp_rows.specs.Preds.{leads_to}
use Rattle.mdp_graph.specs.{Waiting.{waits}, Forest.{attached}}
use Rattle.mdp_graph.proofs.forest.new_way.Given as goal

abbrev pub invariant-loop-c : goal.invariant-loop-c
invariant-loop-c l =
    (d t : ℕ) → d < l.c → waits l.allowed l.s d ≡ true → t < states_of l.model → leads_to t (row_at l.model l.s d) ≡ true → attached l.goals l.ways t ≡ false
