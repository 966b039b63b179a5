-- Paths, computed.
use Rattle.std.proofs.Common.{◌≡◌, ◌^◌, List, [], ◌∷◌, true, Some, None, Result, Ok, Err, refl, pos}
use Rattle.mdp_math.specs.{Gcd.{gcd, gcd_with_fuel}, Rational.{of_int, ratio, ◌+ℚ◌, ◌*ℚ◌, neg_ℚ, inv_ℚ}}
use Rattle.mdp_math.specs.Written.{written_add, written_mul, written_compare, narrow, narrow_ℚ}
use Rattle.mdp_spec.proofs.Small.{entry, number}
use Rattle.mdp_elim.specs.{Elimination.{divided_rest, plus_equation, eliminated, evaluated}, System.{equation_of}}
use Rattle.mdp_wide.specs.declared.too_wide.Kind.TheVariants.{Evaluate}
use Rattle.mdp_rows.specs.{declared.dir.Dir.TheVariants.{Max, Min}, declared.preds.Pred.{Pred}}
use Rattle.mdp_policy_iteration.specs.{Iteration.{Step, iterated, next, done}, Problem.{Problem, given, decision, Move, stop, go, Choice, plain}}
use Rattle.mdp_policy_iteration.specs.{Path.{Round, Found, Refusal, path_step}, Changes.{change_at, spread, nodes_of, step_by}, Laws.{first}}

abbrev pub may : Move → Choice
may m = plain true m

-- node 0 stops with 1/2, or goes to 1 with 3/4 and to 2 with 1/4; node 1 is worth 1, and node 2 is worth 0
abbrev stop_or_go : Problem
stop_or_go = record {
  dir = Max;
  nodes = decision (may (stop (ratio (pos 1) 2)) ∷ may (go (number 0) (entry 1 (ratio (pos 3) 4) ∷ entry 2 (ratio (pos 1) 4) ∷ [])) ∷ []) ∷ given (number 1) ∷ given (number 0) ∷ [];
}

-- it goes in round 1, and that is the end
goes : iterated (path_step stop_or_go) 2 (first (0 ∷ 0 ∷ 0 ∷ [])) ≡ Some
    (let r : Result Found Refusal = Ok (record { number = 1; policy = 1 ∷ 0 ∷ 0 ∷ []; values = ratio (pos 3) 4 ∷ number 1 ∷ number 0 ∷ [] }) in r)
unfolding equation_of eliminated divided_rest plus_equation evaluated written_add written_mul written_compare narrow narrow_ℚ ◌+ℚ◌ ◌*ℚ◌ neg_ℚ inv_ℚ ratio of_int gcd gcd_with_fuel
goes = refl

-- node 0 pays 1 and stays with 1/2, or pays 3 and goes to node 1, which is worth 0
abbrev pay_or_wait : Problem
pay_or_wait = record {
  dir = Min;
  nodes = decision (may (go (number 1) (entry 0 (ratio (pos 1) 2) ∷ entry 1 (ratio (pos 1) 2) ∷ [])) ∷ may (go (number 3) (entry 1 (number 1) ∷ [])) ∷ []) ∷ given (number 0) ∷ [];
}

-- to pay 3 at once is worse than 1 + 3/2, and in the end node 0 pays 2
waits : iterated (path_step pay_or_wait) 2 (first (1 ∷ 0 ∷ [])) ≡ Some (let r : Result Found Refusal = Ok (record { number = 1; policy = 0 ∷ 0 ∷ []; values = number 2 ∷ number 0 ∷ [] }) in r)
unfolding equation_of eliminated divided_rest plus_equation evaluated written_add written_mul written_compare narrow narrow_ℚ ◌+ℚ◌ ◌*ℚ◌ neg_ℚ inv_ℚ ratio of_int gcd gcd_with_fuel
waits = refl

-- 2^126 and 2^126 are past width together
abbrev too_much : Problem
too_much = record { dir = Max; nodes = decision (may (go (number (2 ^ 126)) (entry 1 (number 1) ∷ [])) ∷ []) ∷ given (number (2 ^ 126)) ∷ [] }

refuses : iterated (path_step too_much) 1 (first (0 ∷ 0 ∷ [])) ≡ Some
    (let r : Result Found Refusal = Err (record { number = 0; policy = 0 ∷ 0 ∷ []; place = record { kind = Evaluate; node = 0; choice = 0 } }) in r)
unfolding equation_of eliminated divided_rest plus_equation evaluated written_add written_mul written_compare narrow narrow_ℚ ◌+ℚ◌ ◌*ℚ◌ neg_ℚ inv_ℚ ratio of_int gcd gcd_with_fuel
refuses = refl

-- ---- changes

-- node 0 takes choice 4, and node 2 takes choice 1
abbrev two_changes : List Pred
two_changes = record { state = 0; choice = 4 } ∷ record { state = 2; choice = 1 } ∷ []

spread_of_three : spread 3 two_changes ≡ Some 4 ∷ None ∷ Some 1 ∷ []
spread_of_three = refl

has_a_change : change_at two_changes 2 ≡ Some 1
has_a_change = refl

has_no_change : change_at two_changes 1 ≡ None
has_no_change = refl

where_they_are : nodes_of two_changes ≡ 0 ∷ 2 ∷ []
where_they_are = refl

-- with no change the path ends
no_change_ends : step_by 5 (3 ∷ 3 ∷ 3 ∷ []) (number 1 ∷ number 0 ∷ number 2 ∷ []) [] ≡
    (let s : Step Round Found Refusal = done (record { number = 5; policy = 3 ∷ 3 ∷ 3 ∷ []; values = number 1 ∷ number 0 ∷ number 2 ∷ [] }) in s)
no_change_ends = refl

-- else the next round's policy has them
changes_go_on : step_by 5 (3 ∷ 3 ∷ 3 ∷ []) [] two_changes ≡ (let s : Step Round Found Refusal = next (record { number = 6; policy = 4 ∷ 3 ∷ 1 ∷ [] }) in s)
changes_go_on = refl
