-- Joins, computed, on models whose every state is an end component: `gamble` stays at 0 for 1 in each step, or moves to 1, which earns 4 in each step, or
-- to 2, which earns nothing, with 1/2 each; `leave` earns 1 in each step, and 5 once on the way from 0 to 1; `pay` loses 1 in each step at 0, or 5 once
-- on the way to 1, which loses 1/2 in each step; `free` earns 1 in each step, and nothing on the way from 0 to 1.
use Rattle.std.proofs.Common.{◌≡◌, ℕ, ◌^◌, ◌-◌, List, [], ◌∷◌, refl, map, Option, Some, Result, Ok, Err}
use Rattle.mdp_math.specs.{Gcd.{gcd, gcd_with_fuel}, Rational.{ℚ, of_int, ratio, neg_ℚ, inv_ℚ, ◌+ℚ◌, ◌*ℚ◌}}
use Rattle.mdp_math.specs.Written.{narrow, narrow_ℚ, written_add, written_mul, written_compare}
use Rattle.mdp_spec.specs.Mdp.{Mdp}
use Rattle.mdp_spec.proofs.Small.{gamble, leave, minus, model, number, over, pay, state, to}
use Rattle.mdp_elim.specs.{Elimination.{divided_rest, plus_equation, eliminated, evaluated}, System.{equation_of}}
use Rattle.mdp_wide.specs.declared.too_wide.Kind.TheVariants.{Evaluate, Compare}
use Rattle.mdp_rows.specs.{declared.dir.Dir.{Dir}, declared.dir.Dir.TheVariants.{Max, Min}}
use Rattle.mdp_ends.specs.{Quotient.{exits_of}, Toward.{first_below}}
use Rattle.mdp_quot.specs.Quotient.{Quotient, node_rows}
use Rattle.mdp_claims.specs.declared.verdict.Verdict.TheVariants.{Wide}
use Rattle.mdp_mean.specs.{Terms.{Joining}, Join.{Joined, Place, place, written_join}, Query.{joining, answer_of, checked}}

abbrev free : Mdp
free = model (state (to 0 (number 1) ∷ to 1 (number 0) ∷ []) ∷ state (to 1 (number 1) ∷ []) ∷ [])

-- gains at 0 and 1 of -2^126, and a reward of 2^126 on the way from 0 to 1
abbrev far : Mdp
far = model (state (to 0 (minus (2 ^ 126) 1) ∷ to 1 (number (2 ^ 126)) ∷ []) ∷ state (to 1 (minus (2 ^ 126) 1) ∷ []) ∷ [])

-- the quotient where each state is an end component
abbrev quotient : Mdp → List ℕ → List (Option ℕ) → Quotient
quotient m nodes parts =
    record { nodes = nodes; components = parts; exits = map (exits_of m parts nodes) nodes; rows = map (node_rows m parts nodes) nodes }

abbrev two : ℚ → ℚ → List ℚ
two x y = x ∷ y ∷ []

-- what is joined of a model with two such states, from their gains, what their nodes take, and the gains there; each has the bias 0 and the choice 0
abbrev of_two : Dir → Mdp → List ℚ → List ℕ → List ℚ → Result Joined Place
of_two dir m gains exits values =
    let parts = Some 0 ∷ Some 1 ∷ [] in
    written_join
    (joining dir m 0 parts (quotient m (0 ∷ 1 ∷ []) parts) (record { gains = gains; bias = two (number 0) (number 0); choices = 0 ∷ 0 ∷ [] }) (record { policy = exits; values = values })
    (two (number 1) (number 0)))

abbrev joins : List ℚ → List ℚ → ℚ → Result Joined Place
joins bound bias spread = Ok (record { bound = bound; bias = bias; spread = spread })

-- state 0 gambles, and its bias is that it has 2 less than the mean of what comes then
gambles :
    (let parts = Some 0 ∷ Some 1 ∷ Some 2 ∷ [] in
    written_join
    (joining Max gamble 0 parts (quotient gamble (0 ∷ 1 ∷ 2 ∷ []) parts)
    (record { gains = number 1 ∷ number 4 ∷ number 0 ∷ []; bias = number 0 ∷ number 0 ∷ number 0 ∷ []; choices = 0 ∷ 0 ∷ 0 ∷ [] })
    (record { policy = 1 ∷ 0 ∷ 0 ∷ []; values = number 2 ∷ number 4 ∷ number 0 ∷ [] }) (number 1 ∷ number 0 ∷ number 0 ∷ [])))
    ≡ joins (number 0 ∷ number 0 ∷ number 0 ∷ []) (minus 2 1 ∷ number 0 ∷ number 0 ∷ []) (number 2)
unfolding equation_of eliminated divided_rest plus_equation evaluated written_add written_mul written_compare narrow narrow_ℚ ◌+ℚ◌ ◌*ℚ◌ neg_ℚ inv_ℚ ratio of_int gcd gcd_with_fuel first_below
gambles = refl

-- to leave earns 4 more once, which the bound takes up
leaves : of_two Max leave (two (number 1) (number 1)) (0 ∷ 0 ∷ []) (two (number 1) (number 1)) ≡ joins (two (number 4) (number 0)) (two (number 0) (number 0)) (number 4)
unfolding equation_of eliminated divided_rest plus_equation evaluated written_add written_mul written_compare narrow narrow_ℚ ◌+ℚ◌ ◌*ℚ◌ neg_ℚ inv_ℚ ratio of_int gcd gcd_with_fuel first_below
leaves = refl

-- rewards below 0: to leave is better in the long run, and costs 9/2 more than a step at 1
pays : of_two Max pay (two (minus 1 1) (minus 1 2)) (1 ∷ 0 ∷ []) (two (minus 1 2) (minus 1 2)) ≡ joins (two (number 0) (number 0)) (two (minus 9 2) (number 0)) (over 9 2)
unfolding equation_of eliminated divided_rest plus_equation evaluated written_add written_mul written_compare narrow narrow_ℚ ◌+ℚ◌ ◌*ℚ◌ neg_ℚ inv_ℚ ratio of_int gcd gcd_with_fuel first_below
pays = refl

-- the least mean payoff: to leave costs nothing once, 1 less than the gain, and the bound is 1 below
frees : of_two Min free (two (number 1) (number 1)) (0 ∷ 0 ∷ []) (two (number 1) (number 1)) ≡ joins (two (minus 1 1) (number 0)) (two (number 0) (number 0)) (number 1)
unfolding equation_of eliminated divided_rest plus_equation evaluated written_add written_mul written_compare narrow narrow_ℚ ◌+ℚ◌ ◌*ℚ◌ neg_ℚ inv_ℚ ratio of_int gcd gcd_with_fuel first_below
frees = refl

-- 2^126 less -2^126 is past width: in the excess of the exit, where state 0 stays, and in the bias of state 0, where it leaves
wide_excess : of_two Max far (two (minus (2 ^ 126) 1) (minus (2 ^ 126) 1)) (0 ∷ 0 ∷ []) (two (minus (2 ^ 126) 1) (minus (2 ^ 126) 1)) ≡ (let r : Result Joined Place = Err (place Compare 0 1) in r)
unfolding equation_of eliminated divided_rest plus_equation evaluated written_add written_mul written_compare narrow narrow_ℚ ◌+ℚ◌ ◌*ℚ◌ neg_ℚ inv_ℚ ratio of_int gcd gcd_with_fuel first_below
wide_excess = refl

wide_bias : of_two Max far (two (minus (2 ^ 126) 1) (minus (2 ^ 126) 1)) (1 ∷ 0 ∷ []) (two (minus (2 ^ 126) 1) (minus (2 ^ 126) 1)) ≡ (let r : Result Joined Place = Err (place Evaluate 0 1) in r)
unfolding equation_of eliminated divided_rest plus_equation evaluated written_add written_mul written_compare narrow narrow_ℚ ◌+ℚ◌ ◌*ℚ◌ neg_ℚ inv_ℚ ratio of_int gcd gcd_with_fuel first_below
wide_bias = refl

-- ---- a join in width whose check is too wide: three states with the gain 2^126, and on the way to the next one 2^126 - 1 more

abbrev row_of_three : Mdp
row_of_three = model
    (state (to 0 (number (2 ^ 126)) ∷ to 1 (number (2 ^ 127 - 1)) ∷ [])
    ∷ state (to 1 (number (2 ^ 126)) ∷ to 2 (number (2 ^ 127 - 1)) ∷ [])
    ∷ state (to 2 (number (2 ^ 126)) ∷ [])
    ∷ [])

abbrev three : ℚ → ℚ → ℚ → List ℚ
three x y z = x ∷ y ∷ z ∷ []

abbrev of_three : Joining
of_three =
    let parts = Some 0 ∷ Some 1 ∷ Some 2 ∷ [] in
    let gains = three (number (2 ^ 126)) (number (2 ^ 126)) (number (2 ^ 126)) in
    joining Max row_of_three 0 parts (quotient row_of_three (0 ∷ 1 ∷ 2 ∷ []) parts)
    (record { gains = gains; bias = three (number 0) (number 0) (number 0); choices = 0 ∷ 0 ∷ 0 ∷ [] }) (record { policy = 0 ∷ 0 ∷ 0 ∷ []; values = gains })
    (three (number 2) (number 1) (number 0))

abbrev joined_three : Joined
joined_three = record {
  bound = three (number (2 ^ 127 - 2)) (number (2 ^ 126 - 1)) (number 0);
  bias = three (number 0) (number 0) (number 0);
  spread = number (2 ^ 127 - 2);
}

in_width : written_join of_three ≡ Ok joined_three
unfolding equation_of eliminated divided_rest plus_equation evaluated written_add written_mul written_compare narrow narrow_ℚ ◌+ℚ◌ ◌*ℚ◌ neg_ℚ inv_ℚ ratio of_int gcd gcd_with_fuel
in_width = refl

-- gain and bound together
wide_check : checked Max row_of_three 0 (answer_of of_three joined_three) ≡ Wide (Some 0) (Some 0)
unfolding written_add written_mul written_compare narrow narrow_ℚ ◌+ℚ◌ ◌*ℚ◌ neg_ℚ inv_ℚ ratio of_int gcd gcd_with_fuel
wide_check = refl
