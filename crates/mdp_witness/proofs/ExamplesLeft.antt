-- The small model of the other examples: its values meet the rules, so the laws speak of its first sets and of what its trials leave.
use Rattle.std.proofs.Common.{◌≡◌, ℕ, zero, suc, ◌+◌, ◌<◌, ◌⊎◌, inl, inr, Bool, true, false, true≢false, ◌&&◌}
use Rattle.std.proofs.{Common.{nat_le, le-leb, ◌∙◌, List, [], ◌∷◌, length, get_or, refl, sym, ap, subst, arith}, lemmas.List.Elements.{All-from_recursion}}
use Rattle.std.specs.List.{Any}
use Rattle.mdp_math.specs.{Gcd.{gcd, gcd_with_fuel}, Rational.{ℚ, of_int, ratio, le_ℚ, lt_ℚ, ◌+ℚ◌, ◌*ℚ◌, ◌≤ℚ◌, ◌<ℚ◌}}
use Rattle.mdp_math.proofs.{Extremes.{lt_of_test}, Order.{≤ℚ_refl, <ℚ_irrefl}}
use Rattle.mdp_spec.specs.{Mdp.{choices_at, row_at, value_at}, Row.{IsRow, IsMdp, row_sum}, Rules.{AreProbabilities, MeetsReachMax, MeetsReachMin}}
use Rattle.mdp_spec.specs.{Sub.{policy_on}, Tree.{IsPolicy, is_marked}}
use Rattle.mdp_spec.proofs.{Subsystem.{loop_is_row}, Small.{entry, half, nought, one, three_quarters}}
use Rattle.mdp_subsystem_rules.specs.{Flow.{flow_value}, Policy.{FallsShort}, Visits.{visit_flows}}
use Rattle.mdp_reach.specs.{Laws.{AnswersAreLeast}, Query.{Answer}}
use Rattle.mdp_witness.specs.{Evaluation.{Visited}, TrialLaws.{CanBeFirst, CanBeLeastFirst, IsKeptFlow, IsKeptFloor}, Trial.{without}}
use Rattle.mdp_witness.proofs.{FirstMin.{floor, can_be_least_first}, Kept.{kept_flow}, Needed.{max_needed}, Values.{can_be_first}}
use Rattle.mdp_witness.proofs.TrialExamples.{five, goals, greatest, least, best, worst, two_states, three_states, start_alone, no_states, first_max, first_min, left}

below_5 : (P : ℕ → Type 0) → P 0 → P 1 → P 2 → P 3 → P 4 → (s : ℕ) → s < 5 → P s
below_5 P a b c d e zero h = a
below_5 P a b c d e (suc zero) h = b
below_5 P a b c d e (suc (suc zero)) h = c
below_5 P a b c d e (suc (suc (suc zero))) h = d
below_5 P a b c d e (suc (suc (suc (suc zero)))) h = e
below_5 P a b c d e (suc (suc (suc (suc (suc s))))) h = absurd (omega arith)

-- what is said of each choice of each state: two at 0, and one at any other
each_choice : (P : ℕ → ℕ → Type 0) → P 0 0 → P 0 1 → P 1 0 → P 2 0 → P 3 0 → P 4 0 → (s c : ℕ) → s < 5 → c < length (choices_at five s) → P s c
each_choice P a b c d e f zero zero h l = a
each_choice P a b c d e f zero (suc zero) h l = b
each_choice P a b c d e f zero (suc (suc k)) h l = absurd (omega arith)
each_choice P a b c d e f (suc zero) zero h l = c
each_choice P a b c d e f (suc zero) (suc k) h l = absurd (omega arith)
each_choice P a b c d e f (suc (suc zero)) zero h l = d
each_choice P a b c d e f (suc (suc zero)) (suc k) h l = absurd (omega arith)
each_choice P a b c d e f (suc (suc (suc zero))) zero h l = e
each_choice P a b c d e f (suc (suc (suc zero))) (suc k) h l = absurd (omega arith)
each_choice P a b c d e f (suc (suc (suc (suc zero)))) zero h l = f
each_choice P a b c d e f (suc (suc (suc (suc zero)))) (suc k) h l = absurd (omega arith)
each_choice P a b c d e f (suc (suc (suc (suc (suc s))))) k h l = absurd (omega arith)

-- ---- it is a model

two_ways : (s t : ℕ) → s < t → t < 5 → IsRow 5 (entry s half ∷ entry t half ∷ [])
unfolding gcd gcd_with_fuel ratio of_int ◌+ℚ◌ lt_ℚ
two_ways s t l h = record {
  distribution = record {
    ascending = ap (λ (b : Bool). b && (nat_le (s + 1) t && true)) (le-leb 0 s (omega arith)) ∙ ap (λ (b : Bool). b && true) (le-leb (s + 1) t (omega arith));
    positive = All-from_recursion (λ x. nought <ℚ x.prob) (entry s half ∷ entry t half ∷ []) (record { lt = tt }, (record { lt = tt }, tt));
    total = refl;
  };
  in_range = All-from_recursion (λ x. x.target < 5) (entry s half ∷ entry t half ∷ []) (omega arith, (omega arith, tt));
}

five_model : IsMdp five
five_model = record {
  some = omega arith;
  few = omega arith;
  choice = below_5 (λ s. 0 < length (choices_at five s)) (omega arith) (omega arith) (omega arith) (omega arith) (omega arith);
  row = each_choice (λ s c. IsRow 5 (row_at five s c)) (two_ways 1 3 (omega arith) (omega arith)) (loop_is_row 5 2 (omega arith)) (two_ways 3 4 (omega arith) (omega arith))
      (two_ways 3 4 (omega arith) (omega arith)) (loop_is_row 5 3 (omega arith)) (loop_is_row 5 4 (omega arith));
}

-- ---- the greatest probabilities, and the least: they meet the rules

abbrev max_ranks : List ℕ
max_ranks = 1 ∷ 1 ∷ 1 ∷ 0 ∷ 0 ∷ []

abbrev min_ranks : List ℕ
min_ranks = 2 ∷ 1 ∷ 1 ∷ 0 ∷ 0 ∷ []

best_policy : IsPolicy five best
best_policy = record { one_each = refl; in_range = below_5 (λ s. get_or best s 0 < length (choices_at five s)) (omega arith) (omega arith) (omega arith) (omega arith) (omega arith) }

worst_policy : IsPolicy five worst
worst_policy = record { one_each = refl; in_range = below_5 (λ s. get_or worst s 0 < length (choices_at five s)) (omega arith) (omega arith) (omega arith) (omega arith) (omega arith) }

-- the goal is 3
goal_is : (P : ℕ → Type 0) → P 3 → (s : ℕ) → s < 5 → is_marked goals s ≡ true → P s
goal_is P p = below_5 (λ s. is_marked goals s ≡ true → P s) (λ g. absurd (true≢false (sym g))) (λ g. absurd (true≢false (sym g))) (λ g. absurd (true≢false (sym g))) (λ g. p)
    (λ g. absurd (true≢false (sym g)))

greatest_probabilities : AreProbabilities five goals greatest
unfolding gcd gcd_with_fuel ratio of_int le_ℚ
greatest_probabilities = record {
  at_least_zero = below_5 (λ s. nought ≤ℚ value_at greatest s) (record { le = tt }) (record { le = tt }) (record { le = tt }) (record { le = tt }) (record { le = tt });
  at_most_one = below_5 (λ s. value_at greatest s ≤ℚ one) (record { le = tt }) (record { le = tt }) (record { le = tt }) (record { le = tt }) (record { le = tt });
  at_goal = goal_is (λ s. value_at greatest s ≡ one) refl;
}

least_probabilities : AreProbabilities five goals least
unfolding gcd gcd_with_fuel ratio of_int le_ℚ
least_probabilities = record {
  at_least_zero = below_5 (λ s. nought ≤ℚ value_at least s) (record { le = tt }) (record { le = tt }) (record { le = tt }) (record { le = tt }) (record { le = tt });
  at_most_one = below_5 (λ s. value_at least s ≤ℚ one) (record { le = tt }) (record { le = tt }) (record { le = tt }) (record { le = tt }) (record { le = tt });
  at_goal = goal_is (λ s. value_at least s ≡ one) refl;
}

-- a goal, or a value of 0
ends_at : (z : ℚ) (rank : ℕ) (b : Bool) → lt_ℚ nought z ≡ true → b ≡ false → (b ≡ true) ⊎ (z ≡ nought) → rank ≡ 0
ends_at z rank b p e (inl g) = absurd (true≢false (sym g ∙ e))
ends_at z rank b p e (inr i) = absurd (<ℚ_irrefl nought (subst (λ (v : ℚ). nought <ℚ v) i (lt_of_test nought z p)))

max_rules : MeetsReachMax five goals greatest best max_ranks
unfolding gcd gcd_with_fuel ratio of_int ◌+ℚ◌ ◌*ℚ◌ le_ℚ lt_ℚ
max_rules = record {
  choices = best_policy;
  probabilities = greatest_probabilities;
  covers = λ s c h g l.
      each_choice (λ s c. is_marked goals s ≡ false → row_sum (row_at five s c) greatest ≤ℚ value_at greatest s) (λ g. record { le = tt }) (λ g. record { le = tt }) (λ g. record { le = tt })
      (λ g. record { le = tt }) (λ g. record { le = tt }) (λ g. record { le = tt }) s c h l g;
  reached =
      below_5 (λ s. is_marked goals s ≡ false → value_at greatest s ≤ℚ row_sum (row_at five s (get_or best s 0)) greatest) (λ g. record { le = tt }) (λ g. record { le = tt }) (λ g. record { le = tt })
      (λ g. record { le = tt }) (λ g. record { le = tt });
  ends =
      below_5 (λ s. (is_marked goals s ≡ true) ⊎ (value_at greatest s ≡ nought) → get_or max_ranks s 0 ≡ 0) (ends_at three_quarters 1 false refl refl) (ends_at half 1 false refl refl)
      (ends_at half 1 false refl refl) (λ w. refl) (λ w. refl);
  falls =
      below_5 (λ s. is_marked goals s ≡ false → nought <ℚ value_at greatest s
      → Any (λ y. (nought <ℚ value_at greatest y.target) × (get_or max_ranks y.target 0 < get_or max_ranks s 0)) (row_at five s (get_or best s 0)))
      (λ g p. (1, entry 3 half, omega arith, refl, (record { lt = tt }, omega arith))) (λ g p. (0, entry 3 half, omega arith, refl, (record { lt = tt }, omega arith)))
      (λ g p. (0, entry 3 half, omega arith, refl, (record { lt = tt }, omega arith))) (λ g p. absurd (true≢false g)) (λ g p. absurd p.lt);
}

min_rules : MeetsReachMin five goals least worst min_ranks
unfolding gcd gcd_with_fuel ratio of_int ◌+ℚ◌ ◌*ℚ◌ le_ℚ lt_ℚ
min_rules = record {
  choices = worst_policy;
  probabilities = least_probabilities;
  covered = λ s c h g l.
      each_choice (λ s c. is_marked goals s ≡ false → value_at least s ≤ℚ row_sum (row_at five s c) least) (λ g. record { le = tt }) (λ g. record { le = tt }) (λ g. record { le = tt })
      (λ g. record { le = tt }) (λ g. record { le = tt }) (λ g. record { le = tt }) s c h l g;
  reached =
      below_5 (λ s. is_marked goals s ≡ false → row_sum (row_at five s (get_or worst s 0)) least ≤ℚ value_at least s) (λ g. record { le = tt }) (λ g. record { le = tt }) (λ g. record { le = tt })
      (λ g. record { le = tt }) (λ g. record { le = tt });
  ends =
      below_5 (λ s. (is_marked goals s ≡ true) ⊎ (value_at least s ≡ nought) → get_or min_ranks s 0 ≡ 0) (ends_at half 2 false refl refl) (ends_at half 1 false refl refl)
      (ends_at half 1 false refl refl) (λ w. refl) (λ w. refl);
  falls = λ s c h g p l.
      each_choice (λ s c. is_marked goals s ≡ false → nought <ℚ value_at least s → Any (λ y. get_or min_ranks y.target 0 < get_or min_ranks s 0) (row_at five s c))
      (λ g p. (0, entry 1 half, omega arith, refl, omega arith)) (λ g p. (0, entry 2 one, omega arith, refl, omega arith)) (λ g p. (0, entry 3 half, omega arith, refl, omega arith))
      (λ g p. (0, entry 3 half, omega arith, refl, omega arith)) (λ g p. absurd (true≢false g)) (λ g p. absurd p.lt) s c h l g p;
}

-- ---- the first sets can be tried, at the values from 0

first_max_can : CanBeFirst five goals best max_ranks 0 three_quarters two_states
first_max_can = can_be_first five goals greatest best max_ranks 0 three_quarters two_states five_model max_rules first_max (omega arith) (≤ℚ_refl three_quarters)

first_min_can : AnswersAreLeast → CanBeLeastFirst five goals 0 half three_states
first_min_can answers = can_be_least_first five goals least worst min_ranks 0 half three_states five_model min_rules first_min (omega arith) (≤ℚ_refl half) answers

-- a set with the goal can't be tried
with_goal : (threshold : ℚ) → CanBeLeastFirst five goals 0 threshold goals → ⊥
with_goal threshold can = let e : true ≡ false = can.no_goal 3 (omega arith) refl in cc

-- ---- what is left at the threshold 1/2: the start alone, and its flow of 1

abbrev start_visits : Visited
start_visits = record { visits = one ∷ nought ∷ nought ∷ nought ∷ nought ∷ []; value = half }

half_reached : half ≤ℚ three_quarters
unfolding gcd gcd_with_fuel ratio of_int le_ℚ
half_reached = record { le = tt }

kept_start : IsKeptFlow five goals best 0 half two_states start_alone start_visits
kept_start = kept_flow five goals greatest best max_ranks 0 half two_states start_alone no_states start_visits five_model max_rules first_max (omega arith) half_reached left

-- its flow brings no more than 1/2
flow_is : flow_value five goals (visit_flows 5 best start_visits.visits) 0 ≡ half
unfolding gcd gcd_with_fuel ratio of_int lt_ℚ ◌+ℚ◌ ◌*ℚ◌
flow_is = refl

not_more : IsKeptFlow five goals best 0 three_quarters two_states start_alone start_visits → ⊥
unfolding gcd gcd_with_fuel ratio of_int le_ℚ
not_more is = let h : three_quarters ≤ℚ half = subst (λ (v : ℚ). three_quarters ≤ℚ v) flow_is is.flow.reached in h.le

-- what is left is of the first set
not_within : (last : Visited) → IsKeptFlow five goals best 0 half start_alone two_states last → ⊥
not_within last is = let e : false ≡ true = is.included 1 (omega arith) refl in cc

-- without the start the policy falls short of 1/2
start_needed : FallsShort five goals (without start_alone 0) 0 half (policy_on goals (without start_alone 0) best)
start_needed = max_needed five goals greatest best max_ranks 0 half two_states start_alone no_states start_visits 0 five_model max_rules first_max (omega arith) left refl refl

-- ---- a floor: the first set of the least probability at 1/2, and not at 3/4

abbrev least_answer : Answer
least_answer = record { values = least; choices = worst; ranks = min_ranks }

kept_three : IsKeptFloor five goals 0 half three_states three_states least_answer
kept_three = record {
  one_each = refl;
  included = λ s l k. k;
  floor = floor five goals least worst min_ranks 0 half three_states five_model min_rules first_min (omega arith) (≤ℚ_refl half);
}

not_so_much : (first : List Bool) → IsKeptFloor five goals 0 three_quarters first three_states least_answer → ⊥
unfolding gcd gcd_with_fuel ratio of_int le_ℚ
not_so_much first is = let h : three_quarters ≤ℚ half = is.floor.reached in h.le
