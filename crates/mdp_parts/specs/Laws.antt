-- What holds of strong components and end components of any model.
use Rattle.std.specs.Prelude.{◌≡◌, ℕ, ◌<◌, ◌≤◌, Bool, true, pos, List, Option}
use Rattle.mdp_math.specs.Rational.{of_int, ◌+ℚ◌, ◌≤ℚ◌}
use Rattle.mdp_spec.specs.{Mdp.{Mdp, states_of}, Row.{IsMdp}, Bounds.{part}, Hit.{hit}, Tree.{unfolded}}
use Rattle.mdp_graph.specs.Sets.{marked}
use Rattle.mdp_ends.specs.{Walks.{AreComponents}, Ends.{IsEnd, IsWithin, IsMaximal, in_part, is_inside, count_of, AreEnds}, Toward.{IsToward}}

-- two maximal end components that share a state have the same states and choices
abbrev pub MaximalShareNone : Type 0
MaximalShareNone =
    (m : Mdp) (set : ℕ → Bool) (chosen : ℕ → ℕ → Bool) (other : ℕ → Bool) (more : ℕ → ℕ → Bool) → IsMdp m → IsMaximal m set chosen → IsMaximal m other more
    → (s : ℕ) → s < states_of m → set s ≡ true → other s ≡ true → IsWithin m set chosen other more × IsWithin m other more set chosen

-- each end component lies in one of the parts, with its choices
abbrev pub EachWithinOne : Type 0
EachWithinOne =
    (m : Mdp) (ends : List (Option ℕ)) (set : ℕ → Bool) (chosen : ℕ → ℕ → Bool) → IsMdp m → AreEnds m ends → IsEnd m set chosen
    → (i : ℕ) × (i < count_of ends) × IsWithin m set chosen (in_part ends i) (is_inside m ends)

-- each maximal end component is one of the parts
abbrev pub MaximalAreParts : Type 0
MaximalAreParts =
    (m : Mdp) (ends : List (Option ℕ)) (set : ℕ → Bool) (chosen : ℕ → ℕ → Bool) → IsMdp m → AreEnds m ends → IsMaximal m set chosen
    → (i : ℕ) × (i < count_of ends) × IsWithin m set chosen (in_part ends i) (is_inside m ends) × IsWithin m (in_part ends i) (is_inside m ends) set chosen

-- the numbers of components, and those of maximal end components, are determined
abbrev pub ComponentsAreOne : Type 0
ComponentsAreOne = (m : Mdp) (allowed : ℕ → ℕ → Bool) (parts others : List ℕ) → AreComponents m allowed parts → AreComponents m allowed others → parts ≡ others

abbrev pub EndsAreOne : Type 0
EndsAreOne = (m : Mdp) (ends others : List (Option ℕ)) → AreEnds m ends → AreEnds m others → ends ≡ others

-- by the choices of `toward` each state of the part comes to a target with probability 1: for each k, in some number of steps with at least
-- 1 - 1/k. With one target that is: its inner choices lead from each state of a maximal end component to each
abbrev pub TowardArrives : Type 0
TowardArrives =
    (m : Mdp) (ends : List (Option ℕ)) (i : ℕ) (target marks : List Bool) (ranks policy : List ℕ) → IsMdp m → AreEnds m ends → i < count_of ends
    → (x : ℕ) → x < states_of m → in_part ends i x ≡ true → marked target x ≡ true → IsToward m ends i target marks ranks policy
    → (s k : ℕ) → s < states_of m → in_part ends i s ≡ true → 1 ≤ k → (n : ℕ) × (of_int (pos 1) ≤ℚ hit m target 1 n (unfolded m policy n s) s +ℚ part k)
