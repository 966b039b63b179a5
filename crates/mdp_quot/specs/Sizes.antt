-- What the code keeps beside the quotient.
use Rattle.std.specs.Prelude.{ℕ, ◌<◌, ◌+◌, ◌^◌, length}
use Rattle.mdp_quot.specs.Quotient.{Quotient, exits_at}

-- choices of nodes fit 32 bits: its exits, and one more
abbrev pub HasFewExits : Quotient → Type 0
HasFewExits q = (k : ℕ) → k < length q.exits → length (exits_at q k) + 1 < 2 ^ 32
