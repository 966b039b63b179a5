-- Subsystems that come to the threshold by way of states of `stay` alone: what SubMax, SubMaxWithin and SubMin say of the probability of meeting a
-- goal, said of until. `k` stands for any whole number of at least 1.
use Rattle.std.specs.Prelude.{ℕ, ◌<◌, ◌≤◌, Bool, List}
use Rattle.mdp_math.specs.Rational.{ℚ, ◌+ℚ◌, ◌*ℚ◌, ◌≤ℚ◌}
use Rattle.mdp_spec.specs.{Mdp.{Mdp, states_of}, Row.{IsMdp}, Tree.{Tree, IsStrategy}, Sub.{sub_of}, Until.{until}}
use Rattle.mdp_spec.specs.Bounds.{part, whole, SubMax, SubMaxWithin, SubMin}

-- some trees come close to the threshold
pub record SubUntilMax (m : Mdp) (stay goals kept : List Bool) (start : ℕ) (threshold : ℚ) : Type 0 where
  pub starts : start < states_of m
  pub close :
      (k : ℕ)
      → 1 ≤ k
      → (n u : ℕ) × (t : Tree) × IsStrategy (sub_of m goals kept) u n t start × (threshold ≤ℚ until (sub_of m goals kept) stay goals u n t start +ℚ part k)

-- the same at a depth of at most k times the sum of the flows, rounded up
pub record SubUntilMaxWithin (m : Mdp) (stay goals kept : List Bool) (start : ℕ) (threshold flows : ℚ) : Type 0 where
  pub starts : start < states_of m
  pub close :
      (k : ℕ)
      → 1 ≤ k
      → (n u : ℕ) × (t : Tree) × IsStrategy (sub_of m goals kept) u n t start × (threshold ≤ℚ until (sub_of m goals kept) stay goals u n t start +ℚ part k)
      × ((d : ℕ) → whole k *ℚ flows ≤ℚ whole d → n ≤ d)

-- each deep tree comes close to it
pub record SubUntilMin (m : Mdp) (stay goals kept : List Bool) (start : ℕ) (threshold : ℚ) : Type 0 where
  pub starts : start < states_of m
  pub close :
      (k : ℕ)
      → 1 ≤ k
      → (n : ℕ) × ((d u : ℕ) (t : Tree) → n ≤ d → IsStrategy (sub_of m goals kept) u d t start → threshold ≤ℚ until (sub_of m goals kept) stay goals u d t start +ℚ part k)

-- what a subsystem of the subsystem of the states that stay comes to, the subsystem of the model with the same kept states comes to for until
abbrev pub SubUntilMaxBySub : Type 0
SubUntilMaxBySub =
    (m : Mdp) (stay goals kept : List Bool) (start : ℕ) (threshold : ℚ) → IsMdp m → SubMax (sub_of m goals stay) goals kept start threshold → SubUntilMax m stay goals kept start threshold

abbrev pub SubUntilMaxWithinBySub : Type 0
SubUntilMaxWithinBySub =
    (m : Mdp) (stay goals kept : List Bool) (start : ℕ) (threshold flows : ℚ)
    → IsMdp m → SubMaxWithin (sub_of m goals stay) goals kept start threshold flows → SubUntilMaxWithin m stay goals kept start threshold flows

abbrev pub SubUntilMinBySub : Type 0
SubUntilMinBySub =
    (m : Mdp) (stay goals kept : List Bool) (start : ℕ) (threshold : ℚ) → IsMdp m → SubMin (sub_of m goals stay) goals kept start threshold → SubUntilMin m stay goals kept start threshold
