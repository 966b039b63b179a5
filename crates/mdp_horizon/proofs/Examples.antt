-- A small model, computed.
use Rattle.std.proofs.Common.{◌≡◌, ℕ, Bool, true, false, List, [], ◌∷◌, Result, Ok, Err, refl, subst, arith, pos}
use Rattle.std.specs.{Prelude.{codes}, Fmt.{digits}}
use Rattle.mdp_math.specs.{Gcd.{gcd, gcd_with_fuel}, Rational.{ℚ, of_int, ratio, ◌+ℚ◌, ◌*ℚ◌, neg_ℚ, le_ℚ, ◌≤ℚ◌}}
use Rattle.mdp_math.specs.Written.{written_add, written_mul, written_compare, narrow, narrow_ℚ}
use Rattle.mdp_num.specs.Value.{spelling}
use Rattle.mdp_spec.specs.{Mdp.{State, Mdp}, Unit.{unit_of}, Tree.{Fits, unfolded}}
use Rattle.mdp_spec.proofs.Small.{choice, entry, labelled, number}
use Rattle.mdp_rows.specs.declared.dir.Dir.TheVariants.{Max, Min}
use Rattle.mdp_spec.specs.Until.{until}
use Rattle.mdp_horizon.specs.{Table.{unfolded_steps, IsTable}, Bounds.{BoundedMax}, Written.{Place, Answer, written_until}, Spelling.{until_text}}

abbrev model_of : List State → Mdp
model_of states = record { names = []; labels = codes "init" ∷ codes "goal" ∷ []; states = states }

-- state 0 goes to the goal 1 with 1/3 and is lost in 2 with 2/3, or tries: it stays with 1/2, comes to the goal with 1/4 and is lost with 1/4
abbrev pub tries : Mdp
tries = model_of
    (labelled (0 ∷ []) (choice (entry 1 (ratio (pos 1) 3) ∷ entry 2 (ratio (pos 2) 3) ∷ []) ∷ choice (entry 0 (ratio (pos 1) 2) ∷ entry 1 (ratio (pos 1) 4) ∷ entry 2 (ratio (pos 1) 4) ∷ []) ∷ [])
    ∷ labelled (1 ∷ []) (choice (entry 1 (number 1) ∷ []) ∷ [])
    ∷ labelled [] (choice (entry 2 (number 1) ∷ []) ∷ [])
    ∷ [])

abbrev pub all : List Bool
all = true ∷ true ∷ true ∷ []

abbrev pub lost_stays : List Bool
lost_stays = false ∷ false ∷ true ∷ []

abbrev pub goal : List Bool
goal = false ∷ true ∷ false ∷ []

abbrev pub answer : List ℚ → List (List ℕ) → Result Answer Place
answer values steps = Ok (record { values = values; steps = steps })

-- ---- backward induction

-- with two steps left it is best to try, and with one to go: 5/12
tries_then_goes : written_until Max tries all goal 2 ≡ answer (ratio (pos 5) 12 ∷ number 1 ∷ number 0 ∷ []) ((1 ∷ 0 ∷ 0 ∷ []) ∷ (0 ∷ 0 ∷ 0 ∷ []) ∷ [])
unfolding written_add written_mul written_compare narrow narrow_ℚ ◌+ℚ◌ ◌*ℚ◌ neg_ℚ ratio of_int gcd gcd_with_fuel
tries_then_goes = refl

-- without a step only the goal is at a goal
no_step : written_until Max tries all goal 0 ≡ answer (number 0 ∷ number 1 ∷ number 0 ∷ []) []
unfolding of_int
no_step = refl

-- the least probability: to go at first, 1/3. With one step left to try is less, 1/4
least : written_until Min tries all goal 2 ≡ answer (ratio (pos 1) 3 ∷ number 1 ∷ number 0 ∷ []) ((0 ∷ 0 ∷ 0 ∷ []) ∷ (1 ∷ 0 ∷ 0 ∷ []) ∷ [])
unfolding written_add written_mul written_compare narrow narrow_ℚ ◌+ℚ◌ ◌*ℚ◌ neg_ℚ ratio of_int gcd gcd_with_fuel
least = refl

-- a state that doesn't stay comes to no other state; the goal 1 needn't stay
away : written_until Max tries lost_stays goal 1 ≡ answer (number 0 ∷ number 1 ∷ number 0 ∷ []) ((0 ∷ 0 ∷ 0 ∷ []) ∷ [])
unfolding written_add written_mul written_compare narrow narrow_ℚ ◌+ℚ◌ ◌*ℚ◌ neg_ℚ ratio of_int gcd gcd_with_fuel
away = refl

-- of two choices that are equally good the first is taken
abbrev same_twice : Mdp
same_twice = model_of (labelled [] (choice (entry 1 (number 1) ∷ []) ∷ choice (entry 1 (number 1) ∷ []) ∷ []) ∷ labelled [] (choice (entry 1 (number 1) ∷ []) ∷ []) ∷ [])

first_of_equals : written_until Max same_twice (true ∷ true ∷ []) (false ∷ true ∷ []) 1 ≡ answer (number 1 ∷ number 1 ∷ []) ((0 ∷ 0 ∷ []) ∷ [])
unfolding written_add written_mul written_compare narrow narrow_ℚ ◌+ℚ◌ ◌*ℚ◌ neg_ℚ ratio of_int gcd gcd_with_fuel
first_of_equals = refl

-- state 0 stays with 1/2^80, or comes to the goal: with two steps left the product of 1/2^80 and 1 - 1/2^80 is past width
abbrev rarely_stays : Mdp
rarely_stays =
    model_of
    (labelled [] (choice (entry 0 (ratio (pos 1) 1208925819614629174706176) ∷ entry 1 (ratio (pos 1208925819614629174706175) 1208925819614629174706176) ∷ []) ∷ [])
    ∷ labelled [] (choice (entry 1 (number 1) ∷ []) ∷ []) ∷ [])

past_width : written_until Max rarely_stays (true ∷ true ∷ []) (false ∷ true ∷ []) 3 ≡ (let r : Result Answer Place = Err (record { depth = 2; state = 0; choice = 0 }) in r)
unfolding written_add written_mul written_compare narrow narrow_ℚ ◌+ℚ◌ ◌*ℚ◌ neg_ℚ ratio of_int gcd gcd_with_fuel
past_width = refl

-- ---- what the trees come to

abbrev two_steps : List (List ℕ)
two_steps = (1 ∷ 0 ∷ 0 ∷ []) ∷ (0 ∷ 0 ∷ 0 ∷ []) ∷ []

until-two_steps : until tries all goal 1 2 (unfolded_steps tries two_steps 0) 0 ≡ ratio (pos 5) 12
unfolding gcd gcd_with_fuel of_int ratio unit_of until
until-two_steps = refl

-- one choice for all steps comes to less: 1/3 where it goes, 3/8 where it tries
until-one_policy : (until tries all goal 1 2 (unfolded tries (0 ∷ 0 ∷ 0 ∷ []) 2 0) 0 ≡ ratio (pos 1) 3) × (until tries all goal 1 2 (unfolded tries (1 ∷ 0 ∷ 0 ∷ []) 2 0) 0 ≡ ratio (pos 3) 8)
unfolding gcd gcd_with_fuel of_int ratio unit_of until
until-one_policy = (refl, refl)

until-away : (until tries lost_stays goal 1 2 (unfolded_steps tries two_steps 0) 0 ≡ number 0) × (until tries lost_stays goal 1 2 (unfolded_steps tries two_steps 1) 1 ≡ number 1)
unfolding gcd gcd_with_fuel of_int ratio unit_of until
until-away = (refl, refl)

-- so no table makes 3/8 the greatest probability
two_steps_fit : Fits tries 1 2 (unfolded_steps tries two_steps 0) 0
two_steps_fit =
    (refl, (((refl, ((tt, tt), tt)), ((refl, ((tt, tt), tt)), tt)), (((refl, ((tt, (tt, tt)), ((tt, (tt, (tt, tt))), tt))), ((refl, ((tt, tt), tt)), ((refl, ((tt, tt), tt)), tt))), tt)))

not_three_eighths : (table : List (List ℕ)) → BoundedMax tries all goal 2 (ratio (pos 3) 8 ∷ number 1 ∷ number 0 ∷ []) table → ⊥
unfolding le_ℚ gcd gcd_with_fuel ratio
not_three_eighths table b =
    let h = subst (λ (x : ℚ). x ≤ℚ ratio (pos 3) 8) until-two_steps (b.above 1 (unfolded_steps tries two_steps 0) 0 (omega arith) (record { mixes = omega arith; fits = two_steps_fit })) in
    h.le

-- and a table of one list is none of two steps
not_short : (z : List ℚ) → BoundedMax tries all goal 2 z ((1 ∷ 0 ∷ 0 ∷ []) ∷ []) → ⊥
not_short z b = let e = IsTable.one_each b.takes in cc

-- ---- the text

printed :
    until_text Max (codes "-") (codes "goal") tries (record { values = ratio (pos 5) 12 ∷ number 1 ∷ number 0 ∷ []; steps = two_steps })
    ≡ codes "mdp-horizon 1\nclaim max until \"-\" \"goal\" 2\nstates 3\ninit 0 5/12\nstate 0 5/12\nstate 1 1\nstate 2 0\nstep 2 1 0 0\nstep 1 0 0 0\nend\n"
unfolding until_text spelling ratio of_int gcd gcd_with_fuel digits
printed = refl

-- without an initial state, and without a step
printed_short :
    until_text Min (codes "a b") (codes "goal") same_twice (record { values = number 0 ∷ number 1 ∷ []; steps = [] })
    ≡ codes "mdp-horizon 1\nclaim min until \"a b\" \"goal\" 0\nstates 2\ninit -\nstate 0 0\nstate 1 1\nend\n"
unfolding until_text spelling ratio of_int gcd gcd_with_fuel digits
printed_short = refl
