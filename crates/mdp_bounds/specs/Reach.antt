-- The rules for a lower and an upper value for each state, a policy and ranks of reachability, with exact comparisons. The half on each choice
-- is asked of the upper values where they are the greatest probabilities, and of the lower ones where they are the least; the half on the
-- policy's choice of the other values; the ranks belong to the lower values.
--     rule 2   the policy takes a choice that the state has
-- of the values of the half on each choice, and then of the others:
--     rule 3   the value is from 0 to 1
--     rule 4   at a goal it is 1
--     rule 5   at any other state, on each choice: a lower value is at most the sum over the choice's row, an upper one at least
--     rule 6   the same on the policy's choice
-- and of the lower values:
--     rule 7   goals and states of value 0 have rank 0
--     rule 8   at any other state an entry of the policy's row leads to a value above 0 and a smaller rank; for the least probability an
--              entry of each row leads to a smaller rank
-- A lower value of 0 and an upper value of 1 meet rules 5 and 6 on any row: there no sum is made.
use Rattle.std.specs.Prelude.{◌≡◌, ℕ, ◌<◌, Bool, List, [], ◌∷◌, ◌++◌, slice_index, Option, Some, true, option_map, if◌then◌else◌}
use Rattle.std.specs.List.{All, flat_map, range_with_len}
use Rattle.mdp_math.specs.Rational.{ℚ, le_ℚ}
use Rattle.mdp_num.specs.Equal.{eq_ℚ}
use Rattle.mdp_spec.specs.{Mdp.{Entry, Mdp, states_of, row_at, value_at}, Tree.{IsPolicy, is_marked}, BetweenRules.{MeetsReachMaxBetween, MeetsReachMinBetween}}
use Rattle.mdp_farkas.specs.{Compare.{0ℚ, 1ℚ}, Verdict.{Check, InWidth, at_state, at_choice, at_choices}, Reach.{other, choice_exists, rank_checks}}
use Rattle.mdp_rows.specs.{declared.dir.Dir.{Dir}, declared.dir.Dir.TheVariants.{Max, Min}}
use Rattle.mdp_bounds.specs.Sum.{stands, told_sum}
use Rattle.mdp_claims.specs.declared.rule.Rule.TheVariants.{GoalValue, Probability, ValueOnEachChoice, ValueOnPolicy}

-- the values that the half on each choice is asked of
abbrev pub covering : Dir → List ℚ → List ℚ → List ℚ
covering Max lower upper = upper
covering Min lower upper = lower

-- the values that the half on the policy's choice is asked of
abbrev pub followed : Dir → List ℚ → List ℚ → List ℚ
followed dir lower upper = covering (other dir) lower upper

-- rule 3
abbrev pub probability_checks : List ℚ → ℕ → List Check
probability_checks z s = at_state Probability s (Some (le_ℚ 0ℚ (value_at z s))) ∷ at_state Probability s (Some (le_ℚ (value_at z s) 1ℚ)) ∷ []

-- rule 4
abbrev pub goal_check : List ℚ → ℕ → Check
goal_check z s = at_state GoalValue s (Some (eq_ℚ (value_at z s) 1ℚ))

-- rule 3, at a goal rule 4, and elsewhere the rest
abbrev pub values_at : List Bool → List ℚ → ℕ → List Check → List Check
values_at goals z s rest = probability_checks z s ++ (if is_marked goals s then goal_check z s ∷ [] else rest)

-- the upper value, and the lower one, that stands to the sum over any row
abbrev pub outermost : Dir → ℚ
outermost Max = 1ℚ
outermost Min = 0ℚ

-- how a value stands to the sum over a row: the outermost stands to any
abbrev pub stands_to_row : Dir → ℚ → List ℚ → List Entry → Option Bool
stands_to_row dir value z row = if eq_ℚ value (outermost dir) then Some true else option_map (stands dir value) (told_sum z 0ℚ row)

abbrev pub stands_at : Dir → Mdp → List ℚ → ℕ → ℕ → Option Bool
stands_at dir m z s c = stands_to_row dir (value_at z s) z (row_at m s c)

-- rule 5
abbrev pub bound_check : Dir → Mdp → List ℚ → ℕ → ℕ → Check
bound_check dir m z s c = at_choice ValueOnEachChoice s c (stands_at dir m z s c)

-- rule 6
abbrev pub policy_check : Dir → Mdp → List ℚ → ℕ → ℕ → Check
policy_check dir m z s choice = at_choice ValueOnPolicy s choice (stands_at (other dir) m z s choice)

-- the half on each choice
abbrev pub cover_at : Dir → Mdp → List Bool → List ℚ → ℕ → List Check
cover_at dir m goals z s = values_at goals z s (at_choices m s (bound_check dir m z s))

-- the half on the policy's choice
abbrev pub follow_at : Dir → Mdp → List Bool → List ℚ → ℕ → ℕ → List Check
follow_at dir m goals z s choice = values_at goals z s (policy_check dir m z s choice ∷ [])

-- all rules at state s, where the policy takes this choice
abbrev pub bounds_at : Dir → Mdp → List Bool → List ℚ → List ℚ → List ℕ → ℕ → ℕ → List Check
bounds_at dir m goals lower upper ranks s choice =
    choice_exists m s choice
    ∷ (cover_at dir m goals (covering dir lower upper) s ++ (follow_at dir m goals (followed dir lower upper) s choice ++ rank_checks dir m goals lower ranks s choice))

-- the states ascend, at a state the rules, in a rule the choices
abbrev pub bounds_checks : Dir → Mdp → List Bool → List ℚ → List ℚ → List ℕ → List ℕ → List Check
bounds_checks dir m goals lower upper policy ranks = flat_map (λ s. bounds_at dir m goals lower upper ranks s (slice_index policy s)) (range_with_len 0 (states_of m))

-- the rules in exact numbers
abbrev pub MeetsReachBetween : Dir → Mdp → List Bool → List ℚ → List ℚ → List ℕ → List ℕ → Type 0
MeetsReachBetween Max m goals lower upper policy ranks = MeetsReachMaxBetween m goals lower upper policy ranks
MeetsReachBetween Min m goals lower upper policy ranks = MeetsReachMinBetween m goals lower upper policy ranks

-- what yes means: the rules hold in exact numbers, and no sum that a check makes is past width
pub record IsReachBounds (dir : Dir) (m : Mdp) (goals : List Bool) (lower upper : List ℚ) (policy ranks : List ℕ) : Type 0 where
  pub rules : MeetsReachBetween dir m goals lower upper policy ranks
  pub in_width : All InWidth (bounds_checks dir m goals lower upper policy ranks)

-- the bounds that say nothing: 0 and 1, and 1 at a goal, with any policy
pub record IsTrivialReach (m : Mdp) (goals : List Bool) (lower upper : List ℚ) (policy ranks : List ℕ) : Type 0 where
  pub takes : IsPolicy m policy
  pub lower_values : (s : ℕ) → s < states_of m → value_at lower s ≡ (if is_marked goals s then 1ℚ else 0ℚ)
  pub upper_values : (s : ℕ) → s < states_of m → value_at upper s ≡ 1ℚ
  pub no_ranks : (s : ℕ) → s < states_of m → slice_index ranks s ≡ 0
