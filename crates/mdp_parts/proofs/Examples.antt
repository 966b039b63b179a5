-- Small cases, computed: what the definitions say, and what they refuse.
use Rattle.std.proofs.Common.{◌≡◌, ℕ, true, false, [], ◌∷◌, map, refl, pos, Some, None}
use Rattle.std.specs.List.{range_with_len}
use Rattle.mdp_math.specs.Rational.{of_int}
use Rattle.mdp_spec.specs.Mdp.{Choice, Mdp}
use Rattle.mdp_spec.proofs.Small.{state}
use Rattle.mdp_graph.specs.Choices.{first_passing}
use Rattle.mdp_ends.specs.{Ends.{is_inside, count_of}, Numbers.{is_numbered, count_from}, Rounds.{keeps_part}, Toward.{target_in}}
use Rattle.mdp_parts.specs.{Allowed.{each_true}, FoundEnds.{FoundEnds, inner_at}, Inner.{may_fall_inside}, Round.{key_of}}

abbrev sure_to : ℕ → Choice
sure_to t = record { row = record { target = t; prob = of_int (pos 1) } ∷ []; rewards = [] }

-- states 0 and 1 go to one another, and state 0 may go on to state 2, which stays
abbrev leaving : Mdp
leaving = record { names = []; labels = []; states = state (sure_to 1 ∷ sure_to 2 ∷ []) ∷ state (sure_to 0 ∷ []) ∷ state (sure_to 2 ∷ []) ∷ [] }

abbrev found : FoundEnds
found = record { parts = Some 0 ∷ Some 0 ∷ Some 1 ∷ []; inner = (true ∷ false ∷ []) ∷ (true ∷ []) ∷ (true ∷ []) ∷ [] }

two_found : count_of found.parts ≡ 2
two_found = refl

-- the choice that leaves is not inside, the others are
inside_is : (inner_at found 0 0 ≡ is_inside leaving found.parts 0 0) × (inner_at found 0 1 ≡ is_inside leaving found.parts 0 1) × (is_inside leaving found.parts 0 1 ≡ false)
inside_is = (refl, refl, refl)

-- at the begin each choice is allowed; the first round forbids the one that leaves
begin : map (each_true leaving) (range_with_len 0 3) ≡ (true ∷ true ∷ []) ∷ (true ∷ []) ∷ (true ∷ []) ∷ []
begin = refl

leaves : (keeps_part leaving (0 ∷ 0 ∷ 1 ∷ []) 0 0 ≡ true) × (keeps_part leaving (0 ∷ 0 ∷ 1 ∷ []) 0 1 ≡ false)
leaves = (refl, refl)

-- a state without an allowed choice has no part
keys : map (key_of leaving ((false ∷ false ∷ []) ∷ (true ∷ []) ∷ (true ∷ []) ∷ []) (4 ∷ 4 ∷ 3 ∷ [])) (range_with_len 0 3) ≡ None ∷ Some 4 ∷ Some 3 ∷ []
keys = refl

-- numbers go by the least states: not by the order of a visit, and none is left out
numbers : (is_numbered 0 (Some 0 ∷ None ∷ Some 1 ∷ Some 0 ∷ []) ≡ true) × (is_numbered 0 (Some 1 ∷ Some 0 ∷ []) ≡ false) × (is_numbered 0 (Some 0 ∷ Some 2 ∷ []) ≡ false) × (count_from 0
    (Some 0 ∷ None ∷ Some 1 ∷ Some 0 ∷ []) ≡ 2)
numbers = (refl, refl, refl, refl)

-- toward state 0 within its part: state 1 takes its choice, and state 2 is no target of the part
toward_0 : (first_passing leaving (may_fall_inside leaving found.parts (Some 0 ∷ Some 1 ∷ None ∷ [])) ≡ 0 ∷ 0 ∷ 0 ∷ []) × (may_fall_inside leaving found.parts
    (Some 0 ∷ Some 1 ∷ None ∷ []) 1 0 ≡ true) × (target_in found.parts 0 (true ∷ false ∷ true ∷ []) 2 ≡ false)
toward_0 = (refl, refl, refl)
