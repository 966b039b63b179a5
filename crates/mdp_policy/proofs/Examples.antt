-- A small model, computed.
use Rattle.std.proofs.Common.{◌≡◌, ℕ, Bool, true, false, List, [], ◌∷◌, ◌++◌, ◌^◌, Option, Some, None, Ok, Err, refl, pos}
use Rattle.std.specs.{Prelude.{codes}, Fmt.{digits}}
use Rattle.mdp_math.specs.{Gcd.{gcd, gcd_with_fuel}, Rational.{ℚ, of_int, ratio, ◌+ℚ◌, ◌*ℚ◌, neg_ℚ, inv_ℚ}}
use Rattle.mdp_math.specs.Written.{written_add, written_mul, written_compare, narrow, narrow_ℚ}
use Rattle.mdp_math.proofs.Tables.{AreEqual}
use Rattle.mdp_num.specs.{Value.{spelling}, Canonical.{canonical_of}}
use Rattle.mdp_spec.specs.{Mdp.{State, Mdp}, Unit.{unit_of}, Tree.{unfolded}, Hit.{hit}, Until.{until}, Sub.{sub_of}}
use Rattle.mdp_spec.proofs.Small.{choice, entry, labelled, number}
use Rattle.mdp_elim.specs.{Elimination.{divided_rest, plus_equation, eliminated, evaluated}, System.{equation_of}}
use Rattle.mdp_wide.specs.declared.too_wide.Kind.TheVariants.{Evaluate, Compare}
use Rattle.mdp_text.specs.{declared.error.CertKind.TheVariants.{Version, Shape, Number, Count, End}, Lines.{refused, next_line, nothing_behind}}
use Rattle.mdp_text.specs.{Words.{words_behind, whole_of, whole_at}, Heads.{states_at}}
use Rattle.mdp_policy.specs.{Way.{way_model, way_policy}, Bounds.{comes}, Written.{Answer, written_value}, Spelling.{changes_text, value_text}, Text.{policy_text, choose_at, choices_from, policy_outcome}}
use Rattle.mdp_policy.specs.declared.value.Change.{Change}

abbrev model_of : List State → Mdp
model_of states = record { names = []; labels = codes "init" ∷ codes "goal" ∷ []; states = states }

abbrev stays : ℕ → List ℕ → State
stays s labels = labelled labels (choice (entry s (number 1) ∷ []) ∷ [])

-- state 0 loops, or goes to the goal 1 with 1/3 and is lost in 2 with 2/3
abbrev goes : Mdp
goes = model_of (labelled (0 ∷ []) (choice (entry 0 (number 1) ∷ []) ∷ choice (entry 1 (ratio (pos 1) 3) ∷ entry 2 (ratio (pos 2) 3) ∷ []) ∷ []) ∷ stays 1 (1 ∷ []) ∷ stays 2 [] ∷ [])

abbrev goal : List Bool
goal = false ∷ true ∷ false ∷ []

abbrev change : ℕ → ℕ → Option Change
change s c = Some (record { state = s; choice = c })

abbrev answer : List ℚ → Option Change → Option Change → Answer
answer values up down = record { values = values; up = up; down = down }

-- to go is as good as it gets: the loop is worth as much as going on, and that isn't better
abbrev of_going : Answer
of_going = answer (ratio (pos 1) 3 ∷ number 1 ∷ number 0 ∷ []) None None

going : written_value goes goal (true ∷ true ∷ false ∷ []) (1 ∷ 0 ∷ 0 ∷ []) ≡ Ok of_going
unfolding equation_of eliminated divided_rest plus_equation evaluated written_add written_mul written_compare narrow narrow_ℚ ◌+ℚ◌ ◌*ℚ◌ neg_ℚ inv_ℚ ratio of_int gcd gcd_with_fuel
going = refl

-- to loop never comes to the goal, and to go is better
abbrev of_looping : Answer
of_looping = answer (number 0 ∷ number 1 ∷ number 0 ∷ []) (change 0 1) None

looping : written_value goes goal (false ∷ true ∷ false ∷ []) (0 ∷ 0 ∷ 0 ∷ []) ≡ Ok of_looping
unfolding equation_of eliminated divided_rest plus_equation evaluated written_add written_mul written_compare narrow narrow_ℚ ◌+ℚ◌ ◌*ℚ◌ neg_ℚ inv_ℚ ratio of_int gcd gcd_with_fuel
looping = refl

-- state 0 goes to the goal, or with 1/2, or is lost. The policy takes the middle: of the choices that lower the value the last one taken is named,
-- and state 1, a goal, has no change
abbrev three_ways : Mdp
three_ways = model_of
    (labelled (0 ∷ []) (choice (entry 1 (number 1) ∷ []) ∷ choice (entry 1 (ratio (pos 1) 2) ∷ entry 2 (ratio (pos 1) 2) ∷ []) ∷ choice
    (entry 1 (ratio (pos 1) 4) ∷ entry 2 (ratio (pos 3) 4) ∷ []) ∷ choice (entry 2 (number 1) ∷ []) ∷ [])
    ∷ labelled (1 ∷ []) (choice (entry 1 (number 1) ∷ []) ∷ choice (entry 2 (number 1) ∷ []) ∷ [])
    ∷ stays 2 []
    ∷ [])

middle : written_value three_ways goal (true ∷ true ∷ false ∷ []) (1 ∷ 0 ∷ 0 ∷ []) ≡ Ok (answer (ratio (pos 1) 2 ∷ number 1 ∷ number 0 ∷ []) (change 0 0) (change 0 3))
unfolding equation_of eliminated divided_rest plus_equation evaluated written_add written_mul written_compare narrow narrow_ℚ ◌+ℚ◌ ◌*ℚ◌ neg_ℚ inv_ℚ ratio of_int gcd gcd_with_fuel
middle = refl

-- 1/10^20 and 1/3^60 add up past width: in the evaluation where the policy takes that choice, in the comparison where it takes the other
abbrev past_width : Mdp
past_width = model_of (labelled (0 ∷ []) (choice (entry 1 (number 1) ∷ []) ∷ choice (entry 1 (ratio (pos 1) (10 ^ 20)) ∷ entry 2 (ratio (pos 1) (3 ^ 60)) ∷ []) ∷ [])
    ∷ stays 1 (1 ∷ []) ∷ stays 2 (1 ∷ []) ∷ [])

abbrev goals : List Bool
goals = false ∷ true ∷ true ∷ []

wide_value : written_value past_width goals (true ∷ true ∷ true ∷ []) (1 ∷ 0 ∷ 0 ∷ []) ≡ Err (record { kind = Evaluate; node = 0; choice = 1 })
unfolding equation_of eliminated divided_rest plus_equation evaluated written_add written_mul written_compare narrow narrow_ℚ ◌+ℚ◌ ◌*ℚ◌ neg_ℚ inv_ℚ ratio of_int gcd gcd_with_fuel
wide_value = refl

wide_comparison : written_value past_width goals (true ∷ true ∷ true ∷ []) (0 ∷ 0 ∷ 0 ∷ []) ≡ Err (record { kind = Compare; node = 0; choice = 1 })
unfolding equation_of eliminated divided_rest plus_equation evaluated written_add written_mul written_compare narrow narrow_ℚ ◌+ℚ◌ ◌*ℚ◌ neg_ℚ inv_ℚ ratio of_int gcd gcd_with_fuel
wide_comparison = refl

-- ---- by way of some states alone

-- state 0 goes to state 1, or to state 1 or the goal 2 with 1/2 each; state 1 loops, or goes to the goal
abbrev detour : Mdp
detour = model_of
    (labelled (0 ∷ []) (choice (entry 1 (number 1) ∷ []) ∷ choice (entry 1 (ratio (pos 1) 2) ∷ entry 2 (ratio (pos 1) 2) ∷ []) ∷ [])
    ∷ labelled [] (choice (entry 1 (number 1) ∷ []) ∷ choice (entry 2 (number 1) ∷ []) ∷ [])
    ∷ stays 2 (1 ∷ [])
    ∷ [])

abbrev last : List Bool
last = false ∷ false ∷ true ∷ []

-- state 0 stays, and state 1 doesn't: it is left in a loop, and there the policy has choice 0
abbrev safe : Option (List Bool)
safe = Some (true ∷ false ∷ false ∷ [])

abbrev way : Mdp
way = way_model detour safe last

read_there : AreEqual (
    (way_policy safe last (0 ∷ 1 ∷ 0 ∷ []), 0 ∷ 0 ∷ 0 ∷ []) ∷
    (way_policy safe last (1 ∷ 1 ∷ 0 ∷ []), 1 ∷ 0 ∷ 0 ∷ []) ∷
    (way_policy None last (1 ∷ 1 ∷ 0 ∷ []), 1 ∷ 1 ∷ 0 ∷ []) ∷
    []
    )
read_there = refl

-- to go by state 1 reaches the goal for certain; of coming there by way of state 0 alone it has no chance, and the other choice is better
by_any : written_value (way_model detour None last) last (true ∷ true ∷ true ∷ []) (0 ∷ 1 ∷ 0 ∷ []) ≡ Ok (answer (number 1 ∷ number 1 ∷ number 1 ∷ []) None None)
unfolding equation_of eliminated divided_rest plus_equation evaluated written_add written_mul written_compare narrow narrow_ℚ ◌+ℚ◌ ◌*ℚ◌ neg_ℚ inv_ℚ ratio of_int gcd gcd_with_fuel
by_any = refl

by_safe : written_value way last (false ∷ false ∷ true ∷ []) (way_policy safe last (0 ∷ 1 ∷ 0 ∷ [])) ≡ Ok (answer (number 0 ∷ number 0 ∷ number 1 ∷ []) (change 0 1) None)
unfolding equation_of eliminated divided_rest plus_equation evaluated written_add written_mul written_compare narrow narrow_ℚ ◌+ℚ◌ ◌*ℚ◌ neg_ℚ inv_ℚ ratio of_int gcd gcd_with_fuel sub_of
by_safe = refl

-- to toss has 1/2, and nothing is better; at state 1 no change is named, though the goal is next
abbrev of_tossing : Answer
of_tossing = answer (ratio (pos 1) 2 ∷ number 0 ∷ number 1 ∷ []) None (change 0 0)

tossing : written_value way last (true ∷ false ∷ true ∷ []) (way_policy safe last (1 ∷ 0 ∷ 0 ∷ [])) ≡ Ok of_tossing
unfolding equation_of eliminated divided_rest plus_equation evaluated written_add written_mul written_compare narrow narrow_ℚ ◌+ℚ◌ ◌*ℚ◌ neg_ℚ inv_ℚ ratio of_int gcd gcd_with_fuel sub_of
tossing = refl

-- so the policy's own tree comes to the goal, of three steps from state 0
comes_there : AreEqual (
    (comes detour None last 1 3 (unfolded detour (1 ∷ 1 ∷ 0 ∷ []) 3 0) 0, number 1) ∷
    (comes detour safe last 1 3 (unfolded detour (1 ∷ 1 ∷ 0 ∷ []) 3 0) 0, ratio (pos 1) 2) ∷
    (comes detour safe last 1 3 (unfolded detour (0 ∷ 1 ∷ 0 ∷ []) 3 0) 0, number 0) ∷
    []
    )
unfolding gcd gcd_with_fuel ratio of_int unit_of hit until
comes_there = refl

-- ---- the texts

printed : value_text None (codes "goal") goes of_going ≡ codes "mdp-value 1\npolicy reach \"goal\"\nstates 3\ninit 0 1/3\nimprove max none\nimprove min none\nstate 0 1/3\nstate 1 1\nstate 2 0\nend\n"
unfolding value_text changes_text spelling ratio of_int gcd gcd_with_fuel digits
printed = refl

printed_change : value_text None (codes "goal") goes of_looping ≡ codes "mdp-value 1\npolicy reach \"goal\"\nstates 3\ninit 0 0\nimprove max 0 1\nimprove min none\nstate 0 0\nstate 1 1\nstate 2 0\nend\n"
unfolding value_text changes_text spelling ratio of_int gcd gcd_with_fuel digits
printed_change = refl

printed_until : value_text (Some (codes "safe")) (codes "goal") detour of_tossing
    ≡ codes "mdp-value 1\npolicy until \"safe\" \"goal\"\nstates 3\ninit 0 1/2\nimprove max none\nimprove min 0 0\nstate 0 1/2\nstate 1 0\nstate 2 1\nend\n"
unfolding value_text changes_text spelling ratio of_int gcd gcd_with_fuel digits
printed_until = refl

abbrev front : List ℕ
front = codes "mdp-policy 1\nstates 3\nchoose 0 1\nchoose 1 0\n"

text : policy_text (1 ∷ 0 ∷ 0 ∷ []) ≡ front ++ codes "choose 2 0\nend\n"
unfolding policy_text digits
text = refl

reads : AreEqual (
    (policy_outcome (front ++ codes "choose 2 0\nend\n"), Ok (1 ∷ 0 ∷ 0 ∷ [])) ∷  -- whole
    (policy_outcome (front ++ codes "choose 2 0\n"), refused End 6) ∷  -- no end
    (policy_outcome (front ++ codes "choose 2 0\nend\n\n"), refused End 7) ∷  -- more
    (policy_outcome (front ++ codes "choose 2 0\nend"), refused End 6) ∷  -- cut
    (policy_outcome (front ++ codes "end\n"), refused Shape 5) ∷  -- fewer
    (policy_outcome (front ++ codes "choose 2 0\nchoose 3 0\nend\n"), refused Shape 6) ∷  -- more states
    (policy_outcome (front ++ codes "choose 1 0\nend\n"), refused Count 5) ∷  -- order
    (policy_outcome (front ++ codes "choose 2 00\nend\n"), refused Number 5) ∷  -- number
    (policy_outcome (front ++ codes "choose x 0\nend\n"), refused Number 5) ∷  -- state first
    (policy_outcome (codes "mdp-policy 2\nstates 1\nchoose 0 0\nend\n"), refused Version 1) ∷  -- version
    (policy_outcome (codes "mdp-policy 1\nstates 0\nend\n"), refused Count 2) ∷  -- none
    (policy_outcome [], refused End 1) ∷  -- empty
    []
    )
unfolding policy_outcome choose_at choices_from next_line whole_of whole_at words_behind states_at nothing_behind canonical_of ratio gcd gcd_with_fuel
reads = refl
