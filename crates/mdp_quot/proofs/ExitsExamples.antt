-- Small quotients, computed.
use Rattle.std.proofs.Common.{◌≡◌, ◌⊎◌, inl, inr, ℕ, ◌<◌, List, [], ◌∷◌, Option, Some, None, Result, Ok, Err, ◌^◌, true, false, true≢false}
use Rattle.std.proofs.{Common.{refl, sym, ap, subst, arith, pos}, lemmas.Bool.{false≢true}}
use Rattle.std.specs.{List.{Any}, Prelude.{slice_index, slice_index_or}}
use Rattle.mdp_math.specs.{Gcd.{gcd, gcd_with_fuel}, Rational.{ℚ, of_int, ratio, ◌+ℚ◌, ◌*ℚ◌, neg_ℚ, inv_ℚ, le_ℚ}}
use Rattle.mdp_math.specs.Written.{written_add, written_mul, written_compare, narrow, narrow_ℚ}
use Rattle.mdp_math.proofs.Extremes.{test_of_le}
use Rattle.mdp_spec.specs.Mdp.{Entry, Choice, Mdp}
use Rattle.mdp_spec.proofs.Small.{bare, choice, entry, half, number, state}
use Rattle.mdp_rows.specs.{Preds.{pair}, declared.dir.Dir.{Dir}, declared.dir.Dir.TheVariants.{Max, Min}}
use Rattle.mdp_elim.specs.{Elimination.{divided_rest, plus_equation, eliminated, evaluated}, System.{equation_of, is_active}}
use Rattle.mdp_wide.specs.declared.too_wide.Kind.TheVariants.{Compare}
use Rattle.mdp_ends.specs.Quotient.{exits_of}
use Rattle.mdp_policy_iteration.specs.{Iteration.{iterated}, Path.{Found, Refusal, path_step}, Laws.{first}, Problem.{choice_at}}
use Rattle.mdp_quot.specs.{Quotient.{Quotient, node_rows, loop_row}, Problem.{steps_problem, steps_start, outer_problem, outer_start}}
use Rattle.mdp_quot.specs.{Steps.{IsLongest, IsCounted}, Outer.{IsOuterPolicy, IsBestOuter, HasGains}, ExitsLaws.{LeavesWithOneValue}}

abbrev stays : ℕ → Choice
stays s = choice (entry s (number 1) ∷ [])

abbrev three_nodes : List ℕ
three_nodes = 0 ∷ 1 ∷ 2 ∷ []

-- the path of each query after so many rounds: its last round, policy and values
abbrev Ends : Option (Result Found Refusal) → ℕ → List ℕ → List ℚ → Type 0
Ends end round policy values = end ≡ Some (let r : Result Found Refusal = Ok (record { number = round; policy = policy; values = values }) in r)

abbrev steps_path : Quotient → ℕ → Option (Result Found Refusal)
steps_path q rounds = iterated (path_step (steps_problem q)) rounds (first (steps_start q))

abbrev outer_path : Dir → Quotient → List ℚ → ℕ → Option (Result Found Refusal)
outer_path dir q gains rounds = iterated (path_step (outer_problem dir q gains)) rounds (first (outer_start q))

-- ---- state 0 stays, or goes to states 1 and 2, which stay: three end components, and one exit

abbrev parts : Mdp
parts = bare (state (stays 0 ∷ choice (entry 1 half ∷ entry 2 half ∷ []) ∷ []) ∷ state (stays 1 ∷ []) ∷ state (stays 2 ∷ []) ∷ [])

abbrev of_parts : Quotient
of_parts = record {
  nodes = three_nodes;
  components = Some 0 ∷ Some 1 ∷ Some 2 ∷ [];
  exits = (pair 0 1 ∷ []) ∷ [] ∷ [] ∷ [];
  rows = ((entry 1 half ∷ entry 2 half ∷ []) ∷ []) ∷ (loop_row 1 ∷ []) ∷ (loop_row 2 ∷ []) ∷ [];
}

of_parts_is : (exits_of parts (Some 0 ∷ Some 1 ∷ Some 2 ∷ []) three_nodes 0 ≡ pair 0 1 ∷ [])
    × (node_rows parts (Some 0 ∷ Some 1 ∷ Some 2 ∷ []) three_nodes 0 ≡ (entry 1 half ∷ entry 2 half ∷ []) ∷ [])
unfolding ratio of_int ◌+ℚ◌ gcd gcd_with_fuel le_ℚ
of_parts_is = (refl, refl)

-- one exit can be taken from node 0
one_exit : Ends (steps_path of_parts 1) 0 (0 ∷ 0 ∷ 0 ∷ []) (number 1 ∷ number 0 ∷ number 0 ∷ [])
unfolding equation_of eliminated divided_rest plus_equation evaluated written_add written_mul written_compare narrow narrow_ℚ ◌+ℚ◌ ◌*ℚ◌ neg_ℚ inv_ℚ ratio of_int gcd gcd_with_fuel
one_exit = refl

-- none is too few
too_few : IsLongest of_parts (number 0 ∷ number 0 ∷ number 0 ∷ []) → ⊥
unfolding le_ℚ ◌+ℚ◌ ◌*ℚ◌ ratio of_int gcd gcd_with_fuel
too_few h = false≢true (test_of_le (number 1) (number 0) (h.each 0 0 (omega arith) (omega arith)))

-- where exit 0 is taken one exit is counted; and there is no exit 1
not_counted : IsCounted of_parts (0 ∷ 0 ∷ 0 ∷ []) (number 0 ∷ number 0 ∷ number 0 ∷ []) → ⊥
unfolding le_ℚ ◌+ℚ◌ ◌*ℚ◌ ratio of_int gcd gcd_with_fuel
not_counted c = false≢true (ap (le_ℚ (number 1)) (c.some 0 (omega arith) (omega arith)))

no_exit_1 : (x : List ℚ) → IsCounted of_parts (1 ∷ 0 ∷ 0 ∷ []) x → ⊥
no_exit_1 x c = absurd (omega (arith, c.policy.at 0 (omega arith) (omega arith)))

-- gains 1, 4 and 0: the exit comes to 2, which is better than to stop with 1
goes_on : Ends (outer_path Max of_parts (number 1 ∷ number 4 ∷ number 0 ∷ []) 2) 1 (1 ∷ 0 ∷ 0 ∷ []) (number 2 ∷ number 4 ∷ number 0 ∷ [])
unfolding equation_of eliminated divided_rest plus_equation evaluated written_add written_mul written_compare narrow narrow_ℚ ◌+ℚ◌ ◌*ℚ◌ neg_ℚ inv_ℚ ratio of_int gcd gcd_with_fuel
goes_on = refl

-- so to stop there isn't best
not_best : IsBestOuter Max of_parts (number 1 ∷ number 4 ∷ number 0 ∷ []) (record { policy = 0 ∷ 0 ∷ 0 ∷ []; values = number 1 ∷ number 4 ∷ number 0 ∷ [] }) → ⊥
unfolding le_ℚ ◌+ℚ◌ ◌*ℚ◌ ratio of_int gcd gcd_with_fuel
not_best b = false≢true (test_of_le (number 2) (number 1) (b.exit 0 0 (omega arith) (omega arith)))

-- to stop with 3 is better
stops : Ends (outer_path Max of_parts (number 3 ∷ number 4 ∷ number 0 ∷ []) 1) 0 (0 ∷ 0 ∷ 0 ∷ []) (number 3 ∷ number 4 ∷ number 0 ∷ [])
unfolding equation_of eliminated divided_rest plus_equation evaluated written_add written_mul written_compare narrow narrow_ℚ ◌+ℚ◌ ◌*ℚ◌ neg_ℚ inv_ℚ ratio of_int gcd gcd_with_fuel
stops = refl

-- where the least gain is meant it is the other way round
least_stops : Ends (outer_path Min of_parts (number 1 ∷ number 4 ∷ number 0 ∷ []) 1) 0 (0 ∷ 0 ∷ 0 ∷ []) (number 1 ∷ number 4 ∷ number 0 ∷ [])
unfolding equation_of eliminated divided_rest plus_equation evaluated written_add written_mul written_compare narrow narrow_ℚ ◌+ℚ◌ ◌*ℚ◌ neg_ℚ inv_ℚ ratio of_int gcd gcd_with_fuel
least_stops = refl

least_goes_on : Ends (outer_path Min of_parts (number 3 ∷ number 4 ∷ number 0 ∷ []) 2) 1 (1 ∷ 0 ∷ 0 ∷ []) (number 2 ∷ number 4 ∷ number 0 ∷ [])
unfolding equation_of eliminated divided_rest plus_equation evaluated written_add written_mul written_compare narrow narrow_ℚ ◌+ℚ◌ ◌*ℚ◌ neg_ℚ inv_ℚ ratio of_int gcd gcd_with_fuel
least_goes_on = refl

-- half of 2^-126 is past width: the comparison of node 0 ends at entry 1
past_width : outer_path Max of_parts (number 1 ∷ ratio (pos 1) (2 ^ 126) ∷ number 0 ∷ []) 1 ≡ Some
    (let r : Result Found Refusal = Err (record { number = 0; policy = 0 ∷ 0 ∷ 0 ∷ []; place = record { kind = Compare; node = 0; choice = 1 } }) in r)
unfolding equation_of eliminated divided_rest plus_equation evaluated written_add written_mul written_compare narrow narrow_ℚ ◌+ℚ◌ ◌*ℚ◌ neg_ℚ inv_ℚ ratio of_int gcd gcd_with_fuel
past_width = refl

-- node 0 has one exit, so it takes no second one
no_second : IsOuterPolicy of_parts (2 ∷ 0 ∷ 0 ∷ []) → ⊥
no_second o = absurd (omega (arith, o.exits 0 1 (omega arith) refl))

-- the third end component has a gain too
no_gain : HasGains of_parts (number 1 ∷ number 4 ∷ []) → ⊥
no_gain h = absurd (omega (arith, h 2 2 (omega arith) refl))

-- ---- state 0 stays, or goes to state 1, which is in no end component: it goes back or to state 2, which stays

abbrev between : Mdp
between = bare (state (stays 0 ∷ choice (entry 1 (number 1) ∷ []) ∷ []) ∷ state (choice (entry 0 half ∷ entry 2 half ∷ []) ∷ []) ∷ state (stays 2 ∷ []) ∷ [])

abbrev of_between : Quotient
of_between = record {
  nodes = three_nodes;
  components = Some 0 ∷ None ∷ Some 1 ∷ [];
  exits = (pair 0 1 ∷ []) ∷ (pair 1 0 ∷ []) ∷ [] ∷ [];
  rows = ((entry 1 (number 1) ∷ []) ∷ []) ∷ ((entry 0 half ∷ entry 2 half ∷ []) ∷ []) ∷ (loop_row 2 ∷ []) ∷ [];
}

of_between_is : (exits_of between (Some 0 ∷ None ∷ Some 1 ∷ []) three_nodes 1 ≡ pair 1 0 ∷ [])
    × (node_rows between (Some 0 ∷ None ∷ Some 1 ∷ []) three_nodes 1 ≡ (entry 0 half ∷ entry 2 half ∷ []) ∷ [])
unfolding ratio of_int ◌+ℚ◌ gcd gcd_with_fuel le_ℚ
of_between_is = (refl, refl)

-- the longest stay: from node 0 one exit, then from node 1 one, and with 1/2 all again
long_stay : Ends (steps_path of_between 1) 0 (0 ∷ 0 ∷ 0 ∷ []) (number 4 ∷ number 3 ∷ number 0 ∷ [])
unfolding equation_of eliminated divided_rest plus_equation evaluated written_add written_mul written_compare narrow narrow_ℚ ◌+ℚ◌ ◌*ℚ◌ neg_ℚ inv_ℚ ratio of_int gcd gcd_with_fuel
long_stay = refl

-- at first node 0 stops with 1, and node 1 is worth 3/2; then both come to the gain 2 of node 2
comes_through : Ends (outer_path Max of_between (number 1 ∷ number 2 ∷ []) 2) 1 (1 ∷ 1 ∷ 0 ∷ []) (number 2 ∷ number 2 ∷ number 2 ∷ [])
unfolding equation_of eliminated divided_rest plus_equation evaluated written_add written_mul written_compare narrow narrow_ℚ ◌+ℚ◌ ◌*ℚ◌ neg_ℚ inv_ℚ ratio of_int gcd gcd_with_fuel
comes_through = refl

-- at equal gains each node keeps what it does
keeps : Ends (outer_path Max of_between (number 2 ∷ number 2 ∷ []) 1) 0 (0 ∷ 1 ∷ 0 ∷ []) (number 2 ∷ number 2 ∷ number 2 ∷ [])
unfolding equation_of eliminated divided_rest plus_equation evaluated written_add written_mul written_compare narrow narrow_ℚ ◌+ℚ◌ ◌*ℚ◌ neg_ℚ inv_ℚ ratio of_int gcd gcd_with_fuel
keeps = refl

-- node 1 is no end component: it can't stop
no_stop : IsOuterPolicy of_between (0 ∷ 0 ∷ 0 ∷ []) → ⊥
no_stop o = let w = o.stops 1 (omega arith) refl in cc

no_candidate : (choice_at (outer_problem Max of_between (number 1 ∷ number 2 ∷ [])) 1 0).candidate ≡ false
no_candidate = refl

-- and starts with its first exit
first_exit : outer_start of_between ≡ 0 ∷ 1 ∷ 0 ∷ []
first_exit = refl

-- ---- a node whose one exit leads back to it is never left: it is no quotient of a model

abbrev of_loop : Quotient
of_loop = record { nodes = 0 ∷ []; components = None ∷ []; exits = (pair 0 0 ∷ []) ∷ []; rows = (loop_row 0 ∷ []) ∷ [] }

abbrev Falls : List ℕ → Entry → Type 0
Falls ranks x = (is_active (true ∷ []) x.target ≡ false) ⊎ (slice_index ranks x.target < slice_index ranks 0)

no_fall : (ranks : List ℕ) → Falls ranks (entry 0 (number 1)) → ⊥
no_fall ranks (inl e) = true≢false e
no_fall ranks (inr l) = absurd (omega (arith, l))

none_falls : (ranks : List ℕ) → Any (Falls ranks) (loop_row 0) → ⊥
none_falls ranks w =
    let first : w.0 ≡ 0 = (let l : w.0 < 1 = w.2 in omega (arith, l)) in
    let is : entry 0 (number 1) ≡ w.1 = subst (λ k. slice_index_or (loop_row 0) k w.1 ≡ w.1) first w.3 in
    no_fall ranks (subst (λ (x : Entry). Falls ranks x) (sym is) w.4)

never_left : LeavesWithOneValue (steps_problem of_loop) (0 ∷ []) → ⊥
never_left h = none_falls h.0.0 (h.0.2.falls 0 (omega arith) refl)
