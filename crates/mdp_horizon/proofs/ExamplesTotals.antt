-- Total rewards of a small model, and values that are missing, computed.
use Rattle.std.proofs.Common.{◌≡◌, ℕ, List, [], ◌∷◌, Option, Some, None, refl, subst, arith, pos, negsuc}
use Rattle.std.specs.{Prelude.{codes}, Fmt.{digits}}
use Rattle.mdp_math.specs.{Gcd.{gcd, gcd_with_fuel}, Rational.{ℚ, of_int, ratio, ◌+ℚ◌, ◌*ℚ◌, neg_ℚ, le_ℚ, ◌≤ℚ◌}}
use Rattle.mdp_math.specs.Written.{written_add, written_mul, written_compare, narrow, narrow_ℚ}
use Rattle.mdp_num.specs.Value.{spelling}
use Rattle.mdp_spec.specs.{Mdp.{Entry, Choice, Mdp}, Unit.{unit_of, scale_of}, Pay.{total as total_of}, Tree.{Fits}}
use Rattle.mdp_spec.proofs.Small.{entry, labelled, number}
use Rattle.mdp_rows.specs.declared.dir.Dir.TheVariants.{Max, Min}
use Rattle.mdp_horizon.specs.{Table.{unfolded_steps}, Objective.{stops, ending, earns, value_of}, Objective.Objective.{until, total}, Bounds.{TotalMax}}
use Rattle.mdp_horizon.specs.{Between.{Claimed, MaxBetween}, Written.{written_total}, Spelling.{total_text}}
use Rattle.mdp_horizon.proofs.Examples.{tries, all, lost_stays, goal, answer}

-- ---- total rewards, of both signs

abbrev earning : List Entry → List ℚ → Choice
earning row rewards = record { row = row; rewards = rewards }

abbrev minus_two : ℚ
minus_two = of_int (negsuc 1)

-- state 0 rests and earns 1, or pays 2 to come to state 1; that earns 5, and goes back with 1/2. By the second name each choice takes a day
abbrev deal : Mdp
deal = record {
  names = codes "money" ∷ codes "days" ∷ [];
  labels = [];
  states =
      labelled [] (earning (entry 0 (number 1) ∷ []) (number 1 ∷ number 1 ∷ []) ∷ earning (entry 1 (number 1) ∷ []) (minus_two ∷ number 1 ∷ []) ∷ [])
      ∷ labelled [] (earning (entry 0 (ratio (pos 1) 2) ∷ entry 1 (ratio (pos 1) 2) ∷ []) (number 5 ∷ number 1 ∷ []) ∷ [])
      ∷ [];
}

-- first it pays, then it earns
abbrev pays_first : List (List ℕ)
pays_first = (1 ∷ 0 ∷ []) ∷ (0 ∷ 0 ∷ []) ∷ []

money : value_of deal (total 0) 1 2 (unfolded_steps deal pays_first 0) 0 ≡ number 3
unfolding gcd gcd_with_fuel of_int ratio unit_of scale_of total_of
money = refl

days : value_of deal (total 1) 1 2 (unfolded_steps deal pays_first 0) 0 ≡ number 2
unfolding gcd gcd_with_fuel of_int ratio unit_of scale_of total_of
days = refl

-- from state 1 it earns 5, and then with 1/2 each pays 2 or earns 5 again
money-from_one : value_of deal (total 0) 1 2 (unfolded_steps deal ((1 ∷ 0 ∷ []) ∷ (1 ∷ 0 ∷ []) ∷ []) 1) 1 ≡ ratio (pos 13) 2
unfolding gcd gcd_with_fuel of_int ratio unit_of scale_of total_of
money-from_one = refl

-- ---- backward induction

abbrev minus_one : ℚ
minus_one = of_int (negsuc 0)

-- with two steps left it is best to pay, and with one to rest: 3 from state 0, and from state 1 5 and then 1 or 5
greatest : written_total Max deal 0 2 ≡ answer (number 3 ∷ number 8 ∷ []) pays_first
unfolding written_add written_mul written_compare narrow narrow_ℚ ◌+ℚ◌ ◌*ℚ◌ neg_ℚ ratio of_int gcd gcd_with_fuel
greatest = refl

-- the least: to rest and then to pay loses 1
least : written_total Min deal 0 2 ≡ answer (minus_one ∷ ratio (pos 13) 2 ∷ []) ((0 ∷ 0 ∷ []) ∷ (1 ∷ 0 ∷ []) ∷ [])
unfolding written_add written_mul written_compare narrow narrow_ℚ ◌+ℚ◌ ◌*ℚ◌ neg_ℚ ratio of_int gcd gcd_with_fuel
least = refl

-- without a step nothing is earned
no_step : written_total Max deal 0 0 ≡ answer (number 0 ∷ number 0 ∷ []) []
unfolding of_int
no_step = refl

-- the model has two reward names, so none of place 2
not_named : (z : List ℚ) (table : List (List ℕ)) → TotalMax deal 2 1 z table → ⊥
not_named z table b = let l = b.named in absurd (omega (arith, l))

-- what a choice earns; a total reward stops nowhere, and is 0 with no step left
earned : (earns deal (total 0) 0 1 ≡ minus_two) × (stops deal (total 0) 0 ≡ None) × (ending deal (total 0) 1 ≡ number 0)
earned = (refl, refl, refl)

-- a bounded until stops at goals and where a state doesn't stay
stopped : (stops tries (until lost_stays goal) 1 ≡ Some (number 1)) × (stops tries (until lost_stays goal) 0 ≡ Some (number 0)) × (stops tries (until all goal) 0 ≡ None)
stopped = (refl, refl, refl)

-- ---- values that are missing

-- they claim nothing, not even what is false
nothing_claimed : Claimed None (λ x. ⊥)
nothing_claimed = tt

-- so a value of state 0 may stand alone; 2 is no upper one, since paying first earns 3
pays_first_fits : Fits deal 1 2 (unfolded_steps deal pays_first 0) 0
pays_first_fits = (refl, (((refl, ((tt, tt), ((tt, tt), tt))), tt), (((refl, ((tt, (tt, tt)), tt)), tt), tt)))

two_no_upper : (lower : List (Option ℚ)) (table : List (List ℕ)) → MaxBetween deal (total 0) 2 lower (Some (number 2) ∷ None ∷ []) table → ⊥
unfolding le_ℚ of_int
two_no_upper lower table b =
    let h = subst (λ (x : ℚ). x ≤ℚ number 2) money (b.above 1 (unfolded_steps deal pays_first 0) 0 (omega arith) (record { mixes = omega arith; fits = pays_first_fits })) in h.le

-- a list that is too short is no list of values
not_for_each : (upper : List (Option ℚ)) (table : List (List ℕ)) → MaxBetween deal (total 0) 2 (None ∷ []) upper table → ⊥
not_for_each upper table b = let e = b.one_each in cc

-- ---- the text

printed :
    total_text Min (codes "money") deal (record { values = minus_one ∷ ratio (pos 13) 2 ∷ []; steps = (0 ∷ 0 ∷ []) ∷ (1 ∷ 0 ∷ []) ∷ [] })
    ≡ codes "mdp-horizon 1\nclaim min reward \"money\" 2\nstates 2\ninit -\nstate 0 -1\nstate 1 13/2\nstep 2 0 0\nstep 1 1 0\nend\n"
unfolding total_text spelling ratio of_int gcd gcd_with_fuel digits
printed = refl
