-- Choices that wait, state by state in one list.
use Rattle.std.specs.Prelude.{◌≡◌, ℕ, Bool, List, length, map}
use Rattle.mdp_rows.specs.Pieces.{pieces, ArePlaces}
use Rattle.mdp_graph.specs.Waiting.{count_waiting}

-- the choices of each state stand between two places, and so many of them wait
pub record AreCounted (choices : List Bool) (starts counts : List ℕ) : Type 0 where
  pub places : ArePlaces starts (length choices)
  pub counts_are : counts ≡ map count_waiting (pieces choices starts)
