-- Computations of the definitions.
use Rattle.std.proofs.Common.{◌≡◌, ℕ, zero, suc, ◌<◌, ◌-◌, ◌^◌, List, [], ◌∷◌, Bool, true, false, Some, Ok, Err, refl, subst, pos, arith}
use Rattle.std.specs.List.{All}
use Rattle.mdp_math.specs.{Gcd.{gcd, gcd_with_fuel}, Rational.{ℚ, of_int, ratio, ◌+ℚ◌, ◌*ℚ◌, neg_ℚ, inv_ℚ, ◌-ℚ◌, ◌<ℚ◌}}
use Rattle.mdp_math.specs.Written.{written_add, written_mul, narrow, narrow_ℚ}
use Rattle.mdp_math.proofs.Order.{<ℚ_irrefl}
use Rattle.mdp_spec.specs.Mdp.{Entry}
use Rattle.mdp_spec.proofs.Small.{entry, half, quarter}
use Rattle.mdp_elim.specs.{Equation.{Equation}, Entries.{Between, without}}
use Rattle.mdp_elim.specs.{Elimination.{divided_rest, plus_equation, eliminated, evaluated, solution, DividesByPositive}, Predecessors.{at}}
use Rattle.mdp_elim.specs.{Kept.{Kept, IsKept, HasValue, DifferAt, solved_at}, System.{equation_of}, Solve.{written_solution}}
use Rattle.mdp_elim.specs.Visits.{transposed, written_visits}
use Rattle.mdp_elim.proofs.Targets.{from_targets}
use Rattle.mdp_rows.specs.Preds.{is_among}

-- three states: 0 stays with 1/2 and goes to 1 and 2 with 1/4 each, 1 goes to 0 with 1/3 and to 2 with 2/3, and 2 stays
abbrev three : List (List Entry)
three =
    (entry 0 (ratio (pos 1) 2) ∷ entry 1 (ratio (pos 1) 4) ∷ entry 2 (ratio (pos 1) 4) ∷ [])
    ∷ (entry 0 (ratio (pos 1) 3) ∷ entry 2 (ratio (pos 2) 3) ∷ [])
    ∷ (entry 2 (of_int (pos 1)) ∷ [])
    ∷ []

abbrev first_two : List Bool
first_two = true ∷ true ∷ false ∷ []

row_without : without 1 (entry 0 (ratio (pos 1) 2) ∷ entry 1 (ratio (pos 1) 4) ∷ []) ≡ entry 0 (ratio (pos 1) 2) ∷ []
row_without = refl

transposed_row : transposed three ≡ (entry 0 (ratio (pos 1) 2) ∷ entry 1 (ratio (pos 1) 3) ∷ [])
    ∷ (entry 0 (ratio (pos 1) 4) ∷ []) ∷ (entry 0 (ratio (pos 1) 4) ∷ entry 1 (ratio (pos 2) 3) ∷ entry 2 (of_int (pos 1)) ∷ []) ∷ []
transposed_row = refl

-- the column 0, 1, 0 gives 3/5, 6/5, 0
one_column : written_solution three first_two ((of_int (pos 0) ∷ of_int (pos 1) ∷ of_int (pos 0) ∷ []) ∷ []) ≡ Ok ((ratio (pos 3) 5 ∷ ratio (pos 6) 5 ∷ of_int (pos 0) ∷ []) ∷ [])
unfolding equation_of eliminated divided_rest plus_equation evaluated written_add written_mul narrow narrow_ℚ ◌+ℚ◌ ◌*ℚ◌ neg_ℚ inv_ℚ ratio of_int gcd gcd_with_fuel
one_column = refl

-- and the column 1/4, 2/3, 0 beside it gives 1, 1, 0
two_columns : written_solution three first_two ((of_int (pos 0) ∷ of_int (pos 1) ∷ of_int (pos 0) ∷ []) ∷ (ratio (pos 1) 4 ∷ ratio (pos 2) 3 ∷ of_int (pos 0) ∷ []) ∷ [])
    ≡ Ok ((ratio (pos 3) 5 ∷ ratio (pos 6) 5 ∷ of_int (pos 0) ∷ []) ∷ (of_int (pos 1) ∷ of_int (pos 1) ∷ of_int (pos 0) ∷ []) ∷ [])
unfolding equation_of eliminated divided_rest plus_equation evaluated written_add written_mul narrow narrow_ℚ ◌+ℚ◌ ◌*ℚ◌ neg_ℚ inv_ℚ ratio of_int gcd gcd_with_fuel
two_columns = refl

-- from state 0, state 0 is visited 12/5 times and state 1 3/5 times
three_visits : written_visits three first_two 0 ≡ Ok (ratio (pos 12) 5 ∷ ratio (pos 3) 5 ∷ of_int (pos 0) ∷ [])
unfolding equation_of eliminated divided_rest plus_equation evaluated written_add written_mul narrow narrow_ℚ ◌+ℚ◌ ◌*ℚ◌ neg_ℚ inv_ℚ ratio of_int gcd gcd_with_fuel
three_visits = refl

-- state 0 goes to 1 with 1/10^36 and otherwise to 2
abbrev small_step : List (List Entry)
small_step =
    (entry 1 (ratio (pos 1) (10 ^ 36)) ∷ entry 2 (ratio (pos (10 ^ 36 - 1)) (10 ^ 36)) ∷ [])
    ∷ (entry 2 (of_int (pos 1)) ∷ [])
    ∷ (entry 2 (of_int (pos 1)) ∷ [])
    ∷ []

-- with 1/10 at state 1 the product 1/10^37 is in width
in_width_still : written_solution small_step first_two ((of_int (pos 0) ∷ ratio (pos 1) 10 ∷ of_int (pos 0) ∷ []) ∷ []) ≡ Ok ((ratio (pos 1) (10 ^ 37) ∷ ratio (pos 1) 10 ∷ of_int (pos 0) ∷ []) ∷ [])
unfolding equation_of eliminated divided_rest plus_equation evaluated written_add written_mul narrow narrow_ℚ ◌+ℚ◌ ◌*ℚ◌ neg_ℚ inv_ℚ ratio of_int gcd gcd_with_fuel
in_width_still = refl

-- with 1/1000 it has the denominator 10^39, past width, at the elimination of state 1
past_width : written_solution small_step first_two ((of_int (pos 0) ∷ ratio (pos 1) 1000 ∷ of_int (pos 0) ∷ []) ∷ []) ≡ Err 1
unfolding equation_of eliminated divided_rest plus_equation evaluated written_add written_mul narrow narrow_ℚ ◌+ℚ◌ ◌*ℚ◌ neg_ℚ inv_ℚ ratio of_int gcd gcd_with_fuel
past_width = refl

-- columns of zeros give zeros
no_constants : written_solution three first_two ((of_int (pos 0) ∷ of_int (pos 0) ∷ of_int (pos 0) ∷ []) ∷ (of_int (pos 0) ∷ of_int (pos 0) ∷ of_int (pos 0) ∷ []) ∷ [])
    ≡ Ok ((of_int (pos 0) ∷ of_int (pos 0) ∷ of_int (pos 0) ∷ []) ∷ (of_int (pos 0) ∷ of_int (pos 0) ∷ of_int (pos 0) ∷ []) ∷ [])
unfolding equation_of eliminated divided_rest plus_equation evaluated written_add written_mul narrow narrow_ℚ ◌+ℚ◌ ◌*ℚ◌ neg_ℚ inv_ℚ ratio of_int gcd gcd_with_fuel
no_constants = refl

-- a ring: 0 goes to 1, 1 to 2 and 2 to 0 with 1/2 each, and otherwise to 3
abbrev ring : List (List Entry)
ring =
    (entry 1 (ratio (pos 1) 2) ∷ entry 3 (ratio (pos 1) 2) ∷ [])
    ∷ (entry 2 (ratio (pos 1) 2) ∷ entry 3 (ratio (pos 1) 2) ∷ [])
    ∷ (entry 0 (ratio (pos 1) 2) ∷ entry 3 (ratio (pos 1) 2) ∷ [])
    ∷ (entry 3 (of_int (pos 1)) ∷ [])
    ∷ []

abbrev first_three : List Bool
first_three = true ∷ true ∷ true ∷ false ∷ []

-- x0 = 1 + x1/2, x1 = x2/2, x2 = x0/2
ring_values : written_solution ring first_three ((of_int (pos 1) ∷ of_int (pos 0) ∷ of_int (pos 0) ∷ of_int (pos 0) ∷ []) ∷ [])
    ≡ Ok ((ratio (pos 8) 7 ∷ ratio (pos 2) 7 ∷ ratio (pos 4) 7 ∷ of_int (pos 0) ∷ []) ∷ [])
unfolding equation_of eliminated divided_rest plus_equation evaluated written_add written_mul narrow narrow_ℚ ◌+ℚ◌ ◌*ℚ◌ neg_ℚ inv_ℚ ratio of_int gcd gcd_with_fuel
ring_values = refl

-- y0 = 1 + y2/2, y1 = y0/2, y2 = y1/2
ring_visits : written_visits ring first_three 0 ≡ Ok (ratio (pos 8) 7 ∷ ratio (pos 4) 7 ∷ ratio (pos 2) 7 ∷ of_int (pos 0) ∷ [])
unfolding equation_of eliminated divided_rest plus_equation evaluated written_add written_mul narrow narrow_ℚ ◌+ℚ◌ ◌*ℚ◌ neg_ℚ inv_ℚ ratio of_int gcd gcd_with_fuel
ring_visits = refl

-- state 0 stays with 2/3, and otherwise goes to 1
abbrev one_loop : List (List Entry)
one_loop = (entry 0 (ratio (pos 2) 3) ∷ entry 1 (ratio (pos 1) 3) ∷ []) ∷ (entry 1 (of_int (pos 1)) ∷ []) ∷ []

loop_value : written_solution one_loop (true ∷ false ∷ []) ((of_int (pos 1) ∷ of_int (pos 0) ∷ []) ∷ []) ≡ Ok ((of_int (pos 3) ∷ of_int (pos 0) ∷ []) ∷ [])
unfolding equation_of eliminated divided_rest plus_equation evaluated written_add written_mul narrow narrow_ℚ ◌+ℚ◌ ◌*ℚ◌ neg_ℚ inv_ℚ ratio of_int gcd gcd_with_fuel
loop_value = refl

loop_visits : written_visits one_loop (true ∷ false ∷ []) 0 ≡ Ok (of_int (pos 3) ∷ of_int (pos 0) ∷ [])
unfolding equation_of eliminated divided_rest plus_equation evaluated written_add written_mul narrow narrow_ℚ ◌+ℚ◌ ◌*ℚ◌ neg_ℚ inv_ℚ ratio of_int gcd gcd_with_fuel
loop_visits = refl

-- state 1 stays with all but 1/10^36, so its constant is divided by 1/10^36
abbrev long_stay : List (List Entry)
long_stay =
    (entry 0 (ratio (pos 1) 2) ∷ entry 2 (ratio (pos 1) 2) ∷ [])
    ∷ (entry 1 (ratio (pos (10 ^ 36 - 1)) (10 ^ 36)) ∷ entry 2 (ratio (pos 1) (10 ^ 36)) ∷ [])
    ∷ (entry 2 (of_int (pos 1)) ∷ [])
    ∷ []

quotient_in_width : written_solution long_stay first_two ((of_int (pos 1) ∷ of_int (pos 100) ∷ of_int (pos 0) ∷ []) ∷ []) ≡ Ok ((of_int (pos 2) ∷ of_int (pos (10 ^ 38)) ∷ of_int (pos 0) ∷ []) ∷ [])
unfolding equation_of eliminated divided_rest plus_equation evaluated written_add written_mul narrow narrow_ℚ ◌+ℚ◌ ◌*ℚ◌ neg_ℚ inv_ℚ ratio of_int gcd gcd_with_fuel
quotient_in_width = refl

quotient_past_width : written_solution long_stay first_two ((of_int (pos 1) ∷ of_int (pos 1000) ∷ of_int (pos 0) ∷ []) ∷ []) ≡ Err 1
unfolding equation_of eliminated divided_rest plus_equation evaluated written_add written_mul narrow narrow_ℚ ◌+ℚ◌ ◌*ℚ◌ neg_ℚ inv_ℚ ratio of_int gcd gcd_with_fuel
quotient_past_width = refl

-- a state that only stays would be divided by 0
stays : List Equation
stays = record { entries = entry 0 (of_int (pos 1)) ∷ []; first = of_int (pos 0); second = of_int (pos 0) } ∷ []

difference : of_int (pos 1) -ℚ of_int (pos 1) ≡ of_int (pos 0)
unfolding ◌+ℚ◌ neg_ℚ ratio of_int gcd gcd_with_fuel
difference = refl

stays_refused : DividesByPositive 1 stays → ⊥
unfolding stays
stays_refused h = <ℚ_irrefl (of_int (pos 0)) (subst (λ (x : ℚ). of_int (pos 0) <ℚ x) difference (h.0 (of_int (pos 1)) refl))

-- ---- kept equations and values

abbrev equal_to : List Entry → ℚ → ℚ → Equation
equal_to entries first second = record { entries = entries; first = first; second = second }

-- x0 = 1 + x2/2, x1 = 1 + x0/2, x2 = 1 + x0/2, and with the constants 0, 0, 3 in their place
abbrev before : List Equation
before = equal_to (entry 2 half ∷ []) (of_int (pos 1)) (of_int (pos 0)) ∷ equal_to (entry 0 half ∷ []) (of_int (pos 1)) (of_int (pos 0)) ∷ equal_to (entry 0 half ∷ []) (of_int (pos 1)) (of_int (pos 3)) ∷ []

-- now x1 = 1 + x1/2 + x2/4
abbrev after : List Equation
after =
    equal_to (entry 2 half ∷ []) (of_int (pos 1)) (of_int (pos 0))
    ∷ equal_to (entry 1 half ∷ entry 2 quarter ∷ []) (of_int (pos 1)) (of_int (pos 0))
    ∷ equal_to (entry 0 half ∷ []) (of_int (pos 1)) (of_int (pos 3))
    ∷ []

-- x0 = 2, x1 = 1 + x0/2, x2 = 1 + x0/2
abbrev kept_before : Kept
kept_before = record {
  solved = equal_to [] (of_int (pos 2)) (of_int (pos 2)) ∷ equal_to (entry 0 half ∷ []) (of_int (pos 1)) (of_int (pos 0)) ∷ equal_to (entry 0 half ∷ []) (of_int (pos 1)) (of_int (pos 3)) ∷ [];
  first = of_int (pos 2) ∷ of_int (pos 2) ∷ of_int (pos 2) ∷ [];
  second = of_int (pos 2) ∷ of_int (pos 1) ∷ of_int (pos 4) ∷ [];
}

-- x1 = 5/2 + x0/4; the others stay
abbrev kept_after : Kept
kept_after = record {
  solved = equal_to [] (of_int (pos 2)) (of_int (pos 2)) ∷ equal_to (entry 0 quarter ∷ []) (ratio (pos 5) 2) (ratio (pos 3) 2) ∷ equal_to (entry 0 half ∷ []) (of_int (pos 1)) (of_int (pos 3)) ∷ [];
  first = of_int (pos 2) ∷ of_int (pos 3) ∷ of_int (pos 2) ∷ [];
  second = of_int (pos 2) ∷ of_int (pos 2) ∷ of_int (pos 4) ∷ [];
}

-- what holds of the three states
each_of_three : (P : ℕ → Type 0) → P 0 → P 1 → P 2 → (s : ℕ) → s < 3 → P s
each_of_three P a b c zero l = a
each_of_three P a b c (suc zero) l = b
each_of_three P a b c (suc (suc zero)) l = c
each_of_three P a b c (suc (suc (suc s))) l = absurd (omega arith)

is_kept_before : IsKept before kept_before
unfolding divided_rest plus_equation eliminated evaluated written_add written_mul narrow narrow_ℚ ◌+ℚ◌ ◌*ℚ◌ neg_ℚ inv_ℚ ratio of_int gcd gcd_with_fuel
is_kept_before = record {
  solved = record {
    count = refl;
    each = each_of_three (λ s. solved_at kept_before.solved 3 s (at before s) ≡ Some (at kept_before.solved s)) refl refl refl;
    down = each_of_three (λ s. Between 0 s (at kept_before.solved s).entries) tt (omega arith, omega arith, tt) (omega arith, omega arith, tt);
  };
  first = record { count = refl; each = each_of_three (HasValue Equation.first kept_before.solved kept_before.first) refl refl refl };
  second = record { count = refl; each = each_of_three (HasValue Equation.second kept_before.solved kept_before.second) refl refl refl };
}

is_kept_after : IsKept after kept_after
unfolding divided_rest plus_equation eliminated evaluated written_add written_mul narrow narrow_ℚ ◌+ℚ◌ ◌*ℚ◌ neg_ℚ inv_ℚ ratio of_int gcd gcd_with_fuel
is_kept_after = record {
  solved = record {
    count = refl;
    each = each_of_three (λ s. solved_at kept_after.solved 3 s (at after s) ≡ Some (at kept_after.solved s)) refl refl refl;
    down = each_of_three (λ s. Between 0 s (at kept_after.solved s).entries) tt (omega arith, omega arith, tt) (omega arith, omega arith, tt);
  };
  first = record { count = refl; each = each_of_three (HasValue Equation.first kept_after.solved kept_after.first) refl refl refl };
  second = record { count = refl; each = each_of_three (HasValue Equation.second kept_after.solved kept_after.second) refl refl refl };
}

-- elimination gives the same values
eliminated_after : solution 3 after ≡ Ok (record { first = kept_after.first; second = kept_after.second })
unfolding divided_rest plus_equation eliminated evaluated written_add written_mul narrow narrow_ℚ ◌+ℚ◌ ◌*ℚ◌ neg_ℚ inv_ℚ ratio of_int gcd gcd_with_fuel
eliminated_after = refl

-- they differ at state 1 alone, and no other state leads to it
differ_at_one : DifferAt (1 ∷ []) before after
differ_at_one = record {
  count = refl;
  same = each_of_three (λ t. is_among t (1 ∷ []) ≡ false → at after t ≡ at before t) (λ h. refl) (λ h. cc) (λ h. refl);
  closed = each_of_three (λ t. is_among t (1 ∷ []) ≡ false → All (λ x. is_among x.target (1 ∷ []) ≡ false) (at after t).entries)
      (λ h. from_targets (λ u. is_among u (1 ∷ []) ≡ false) (entry 2 half ∷ []) (refl, tt)) (λ h. cc) (λ h. from_targets (λ u. is_among u (1 ∷ []) ≡ false) (entry 0 half ∷ []) (refl, tt));
}

-- they don't differ at state 1 alone where state 0 leads to it
abbrev leads_to_one : List Equation
leads_to_one = equal_to (entry 1 half ∷ []) (of_int (pos 1)) (of_int (pos 0)) ∷ equal_to (entry 0 half ∷ []) (of_int (pos 1)) (of_int (pos 0)) ∷ equal_to [] (of_int (pos 1)) (of_int (pos 3)) ∷ []

not_closed : DifferAt (1 ∷ []) leads_to_one leads_to_one → ⊥
not_closed h = let k : true ≡ false = h.closed 0 (omega arith) refl 0 (entry 0 half) (omega arith) in cc
