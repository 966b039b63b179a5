-- Small models, trees and policies, computed.
use Rattle.std.proofs.Common.{◌≡◌, ℕ, Bool, true, false, List, [], ◌∷◌, refl, pos, inl, inr, arith, Some}
use Rattle.mdp_math.specs.{Gcd.{gcd, gcd_with_fuel}, Rational.{ℚ, of_int, ratio, ◌+ℚ◌, ◌*ℚ◌}, Written.{narrow, narrow_ℚ, written_add, written_mul}}
use Rattle.mdp_math.proofs.Tables.{AreEqual}
use Rattle.mdp_spec.specs.{Mdp.{Entry, Choice, State, Mdp, row_at}, Row.{row_sum}, Labels.{initial_of, marks_of}, Unit.{unit_of, weight_of, scale_of}}
use Rattle.mdp_spec.specs.{Tree.{Tree, Fits, unfolded}, Tree.Tree.{leaf, node}, Hit.{hit}, Pay.{pay, total, Enters}, Sub.{sub_of, policy_on}}
use Rattle.mdp_spec.specs.Written.{written_sum}
use Rattle.mdp_spec.proofs.Small.{entry, one, third, two_thirds}

-- ---- a model of three states: state 0 has a loop, and a choice that goes on to 1 with 1/3 and to 2 with 2/3; 1 and 2 are left nowhere

abbrev pub choice : List Entry → List ℚ → Choice
choice row rewards = record { row = row; rewards = rewards }

-- the label of place 0 is `init`, that of place 1 is `goal`
abbrev pub three : Mdp
three = record {
  names = (99 ∷ []) ∷ [];
  labels = (105 ∷ 110 ∷ 105 ∷ 116 ∷ []) ∷ (103 ∷ 111 ∷ 97 ∷ 108 ∷ []) ∷ [];
  states =
      record { labels = 0 ∷ []; choices = choice (entry 0 one ∷ []) (one ∷ []) ∷ choice (entry 1 third ∷ entry 2 two_thirds ∷ []) (third ∷ []) ∷ [] }
      ∷ record { labels = 1 ∷ []; choices = choice (entry 1 one ∷ []) (one ∷ []) ∷ [] }
      ∷ record { labels = []; choices = choice (entry 2 one ∷ []) (two_thirds ∷ []) ∷ [] }
      ∷ [];
}

abbrev pub goals : List Bool
goals = false ∷ true ∷ false ∷ []

-- the unit is 3, and the weights of the mixed row are 1 and 2
unit_of-three : unit_of three ≡ 3
unfolding gcd gcd_with_fuel unit_of ratio of_int
unit_of-three = refl

weights-three : (weight_of three (entry 1 third) ≡ 1) × (weight_of three (entry 2 two_thirds) ≡ 2)
unfolding gcd gcd_with_fuel unit_of ratio of_int
weights-three = (refl, refl)

-- the rewards' scale is 9: their denominators are 1, 3, 1 and 3
scale_of-three : scale_of three 0 ≡ 9
unfolding scale_of gcd gcd_with_fuel ratio of_int
scale_of-three = refl

initial_of-three : initial_of three ≡ Some 0
initial_of-three = refl

marks_of-three : marks_of three 1 ≡ goals
marks_of-three = refl

row_sum-three : row_sum (row_at three 0 1) (one ∷ third ∷ one ∷ []) ≡ ratio (pos 7) 9
unfolding gcd gcd_with_fuel ratio ◌+ℚ◌ ◌*ℚ◌ of_int
row_sum-three = refl

-- ---- trees

-- the tree of depth 1 that takes both choices of state 0, each with weight 1 of 2
abbrev mixes : Tree
mixes = node (λ c. 1) (λ c e. leaf)

mixes_fits : Fits three 2 1 mixes 0
mixes_fits = (refl, ((tt, tt), ((tt, (tt, tt)), tt)))

hits : AreEqual (
    -- half of the mixture goes on, and a third of that meets the goal
    (hit three goals 2 1 mixes 0, ratio (pos 1) 6) ∷
    -- at the goal a tree has met it; at the state that is left nowhere it never does
    (hit three goals 2 1 mixes 1, one) ∷
    (hit three goals 1 3 (unfolded three (0 ∷ 0 ∷ 0 ∷ []) 3 2) 2, of_int (pos 0)) ∷  -- hit lost
    -- a policy that loops never meets the goal, one that goes on meets it with 1/3
    (hit three goals 1 4 (unfolded three (0 ∷ 0 ∷ 0 ∷ []) 4 0) 0, of_int (pos 0)) ∷
    (hit three goals 1 2 (unfolded three (1 ∷ 0 ∷ 0 ∷ []) 2 0) 0, third) ∷  -- hit goes on
    []
    )
unfolding gcd gcd_with_fuel ratio of_int unit_of hit
hits = refl

-- what that policy earns in two steps: 1/3 for the first, and 2/3 more where it comes to state 2, with 2/3; nothing from the goal on
pay-goes_on : pay three 0 goals 1 2 (unfolded three (1 ∷ 0 ∷ 0 ∷ []) 2 0) 0 ≡ ratio (pos 7) 9
unfolding gcd gcd_with_fuel ratio of_int unit_of scale_of pay
pay-goes_on = refl

-- goals or not: state 1 earns 1 with 1/3 besides
total-goes_on : total three 0 1 2 (unfolded three (1 ∷ 0 ∷ 0 ∷ []) 2 0) 0 ≡ ratio (pos 10) 9
unfolding gcd gcd_with_fuel ratio of_int unit_of scale_of total
total-goes_on = refl

-- the mixture enters state 2 by its second choice
enters-mixes : Enters three goals (false ∷ false ∷ true ∷ []) 1 mixes 0
enters-mixes = inr (refl, inr (inl (omega arith, inr (inl refl))))

-- ---- a die with six sides as a row: each side with 1/6, the goals are the sides 0 and 5

abbrev sixth : ℚ
sixth = ratio (pos 1) 6

abbrev stays : ℕ → State
stays s = record { labels = []; choices = choice (entry s one ∷ []) [] ∷ [] }

abbrev die : Mdp
die = record {
  names = [];
  labels = [];
  states =
      stays 0 ∷ stays 1 ∷ stays 2 ∷ stays 3 ∷ stays 4 ∷ stays 5
      ∷ record { labels = []; choices = choice (entry 0 sixth ∷ entry 1 sixth ∷ entry 2 sixth ∷ entry 3 sixth ∷ entry 4 sixth ∷ entry 5 sixth ∷ []) [] ∷ [] }
      ∷ [];
}

hit-die : hit die (true ∷ false ∷ false ∷ false ∷ false ∷ true ∷ false ∷ []) 1 1 (unfolded die (0 ∷ 0 ∷ 0 ∷ 0 ∷ 0 ∷ 0 ∷ 0 ∷ []) 1 6) 6 ≡ third
unfolding gcd gcd_with_fuel ratio of_int unit_of hit
hit-die = refl

-- ---- subsystems

-- with state 0 alone kept, the goal stays as it is, and state 2 is left with a loop that earns nothing
sub_of-three : sub_of three goals (true ∷ false ∷ false ∷ []) ≡ record three {
  states =
      record { labels = 0 ∷ []; choices = choice (entry 0 one ∷ []) (one ∷ []) ∷ choice (entry 1 third ∷ entry 2 two_thirds ∷ []) (third ∷ []) ∷ [] }
      ∷ record { labels = 1 ∷ []; choices = choice (entry 1 one ∷ []) (one ∷ []) ∷ [] }
      ∷ record { labels = []; choices = choice (entry 2 one ∷ []) (of_int (pos 0) ∷ []) ∷ [] }
      ∷ [];
}
unfolding sub_of of_int gcd gcd_with_fuel ratio
sub_of-three = refl

-- with none kept, state 0 loops, and no tree meets the goal from there
hit-none_kept : hit (sub_of three goals []) goals 1 2 (unfolded (sub_of three goals []) (0 ∷ 0 ∷ 0 ∷ []) 2 0) 0 ≡ of_int (pos 0)
unfolding gcd gcd_with_fuel ratio of_int unit_of hit sub_of
hit-none_kept = refl

-- the policy that goes on at state 0, read where state 0 isn't kept: choice 0, the loop, is the one that is left
policy_on-three : policy_on goals [] (1 ∷ 0 ∷ 0 ∷ []) ≡ 0 ∷ 0 ∷ 0 ∷ []
policy_on-three = refl

policy_on-kept : policy_on goals (true ∷ false ∷ false ∷ []) (1 ∷ 0 ∷ 0 ∷ []) ≡ 1 ∷ 0 ∷ 0 ∷ []
policy_on-kept = refl

-- ---- written sums

written_sum-three : written_sum (one ∷ third ∷ one ∷ []) (of_int (pos 0)) (row_at three 0 1) ≡ Some (ratio (pos 7) 9)
unfolding gcd gcd_with_fuel ratio of_int ◌+ℚ◌ ◌*ℚ◌ narrow narrow_ℚ written_add written_mul
written_sum-three = refl
