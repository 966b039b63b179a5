-- The rules for values and a policy of the reward of name r until a goal (a stochastic shortest path problem: Bertsekas and Tsitsiklis
-- 1991). A value is a fraction, or infinite. What a choice earns is its reward and the sum over its row. Rules 11 and 12 are Bellman's
-- equation in two inequalities.
--     rule 2   the policy takes a choice that the state has
--     rule 9   a finite value is at least 0; a goal has the value 0 and rank 0
-- at a state of finite value that is no goal:
--     rule 10  each entry of each choice's row (for the least reward: of the policy's) leads to a finite value
--     rule 11  the value is at least what each choice earns (for the least reward: at most what each choice earns whose row leads to
--              finite values only)
--     rule 12  and at most (at least) what the policy's choice earns
--     rule 13  an entry of each choice's row (of the policy's) leads to a smaller rank
-- at a state of infinite value:
--     rule 14  for the greatest reward: an entry of the policy's row leads to an infinite value of smaller rank, or the rank is 0 and each
--              entry leads to an infinite value of rank 0
--     rule 15  for the least reward: an entry of each choice's row leads to an infinite value of smaller rank, or each entry leads to one
--              of this rank
-- and at each state, goals as well:
--     rule 25  no choice's reward is below 0
use Rattle.std.specs.Prelude.{ℕ, ◌<◌, Bool, true, false, ◌==◌, ◌&&◌, ◌||◌, not, nat_lt, List, [], ◌∷◌, ◌++◌, length, slice_index, Option, Some, None, if◌then◌else◌}
use Rattle.std.specs.List.{All, flat_map, list_all, list_any, range_with_len}
use Rattle.mdp_math.specs.Rational.{ℚ, ◌≤ℚ◌}
use Rattle.mdp_spec.specs.{Mdp.{Mdp, states_of, choices_at, choice_at, row_at, value_at}, Unit.{reward_of}, Tree.{is_marked}}
use Rattle.mdp_spec.specs.{Bounds.{reward_at, finite_part, infinite}, RewardRules.{MeetsRewardMax, MeetsRewardMin}}
use Rattle.mdp_farkas.specs.{Compare.{0ℚ, is_at_least, is_equal}, Verdict.{Check, InWidth, at_state, at_choice, at_choices}, Bellman.{sum_stands}}
use Rattle.mdp_farkas.specs.Reach.{choice_exists, other}
use Rattle.mdp_rows.specs.{declared.dir.Dir.{Dir}, declared.dir.Dir.TheVariants.{Max, Min}}
use Rattle.mdp_claims.specs.declared.rule.Rule.TheVariants.{EachChoiceMisses, FiniteRankFalls, FiniteTargets, PolicyMisses, RewardNotNegative, RewardOnEachChoice}
use Rattle.mdp_claims.specs.declared.rule.Rule.TheVariants.{RewardOnPolicy, RewardValue}

-- ---- rule 9

abbrev pub is_nonneg : Option ℚ → Option Bool
is_nonneg None = Some true
is_nonneg (Some x) = is_at_least x 0ℚ

abbrev pub is_zero : Option ℚ → Option Bool
is_zero None = Some false
is_zero (Some x) = is_equal x 0ℚ

abbrev pub nonneg_check : List (Option ℚ) → ℕ → Check
nonneg_check v s = at_state RewardValue s (is_nonneg (reward_at v s))

abbrev pub goal_checks : List (Option ℚ) → List ℕ → ℕ → List Check
goal_checks v ranks s = at_state RewardValue s (is_zero (reward_at v s)) ∷ at_state RewardValue s (Some (slice_index ranks s == 0)) ∷ []

-- ---- a state of finite value that is no goal

-- rule 10
abbrev pub stays_finite : Mdp → List (Option ℚ) → ℕ → ℕ → Bool
stays_finite m v s c = list_all (λ y. not (is_marked (infinite v) y.target)) (row_at m s c)

abbrev pub stay_check : Mdp → List (Option ℚ) → ℕ → ℕ → Check
stay_check m v s c = at_choice FiniteTargets s c (Some (stays_finite m v s c))

abbrev pub stay_checks : Dir → Mdp → List (Option ℚ) → ℕ → ℕ → List Check
stay_checks Max m v s choice = at_choices m s (stay_check m v s)
stay_checks Min m v s choice = stay_check m v s choice ∷ []

-- how the value stands to what a choice earns
abbrev pub earning_stands : Dir → Mdp → ℕ → List (Option ℚ) → ℕ → ℕ → Option Bool
earning_stands dir m r v s c = sum_stands dir (value_at (finite_part v) s) (finite_part v) (reward_of (choice_at m s c) r) (row_at m s c)

-- which choices rule 11 looks at
abbrev pub is_looked_at : Dir → Mdp → List (Option ℚ) → ℕ → ℕ → Bool
is_looked_at Max m v s c = true
is_looked_at Min m v s c = stays_finite m v s c

-- rule 11
abbrev pub earning_check : Dir → Mdp → ℕ → List (Option ℚ) → ℕ → ℕ → Check
earning_check dir m r v s c = at_choice RewardOnEachChoice s c (earning_stands dir m r v s c)

abbrev pub earning_checks : Dir → Mdp → ℕ → List (Option ℚ) → ℕ → List Check
earning_checks dir m r v s = flat_map (λ c. if is_looked_at dir m v s c then earning_check dir m r v s c ∷ [] else []) (range_with_len 0 (length (choices_at m s)))

-- rule 12
abbrev pub policy_earning_check : Dir → Mdp → ℕ → List (Option ℚ) → ℕ → ℕ → Check
policy_earning_check dir m r v s choice = at_choice RewardOnPolicy s choice (earning_stands (other dir) m r v s choice)

-- rule 13
abbrev pub falls : Mdp → List ℕ → ℕ → ℕ → Bool
falls m ranks s c = list_any (λ y. nat_lt (slice_index ranks y.target) (slice_index ranks s)) (row_at m s c)

abbrev pub rank_fall_check : Mdp → List ℕ → ℕ → ℕ → Check
rank_fall_check m ranks s c = at_choice FiniteRankFalls s c (Some (falls m ranks s c))

abbrev pub rank_fall_checks : Dir → Mdp → List ℕ → ℕ → ℕ → List Check
rank_fall_checks Max m ranks s choice = at_choices m s (rank_fall_check m ranks s)
rank_fall_checks Min m ranks s choice = rank_fall_check m ranks s choice ∷ []

abbrev pub transient_checks : Dir → Mdp → ℕ → List (Option ℚ) → List ℕ → ℕ → ℕ → List Check
transient_checks dir m r v ranks s choice =
    stay_checks dir m v s choice ++ (earning_checks dir m r v s ++ (policy_earning_check dir m r v s choice ∷ rank_fall_checks dir m ranks s choice))

-- ---- a state of infinite value

abbrev pub falls_infinite : Mdp → List (Option ℚ) → List ℕ → ℕ → ℕ → Bool
falls_infinite m v ranks s c = list_any (λ y. is_marked (infinite v) y.target && nat_lt (slice_index ranks y.target) (slice_index ranks s)) (row_at m s c)

abbrev pub stays_infinite : Mdp → List (Option ℚ) → List ℕ → ℕ → ℕ → Bool
stays_infinite m v ranks s c = list_all (λ y. is_marked (infinite v) y.target && (slice_index ranks y.target == slice_index ranks s)) (row_at m s c)

-- rule 14
abbrev pub miss_check : Mdp → List (Option ℚ) → List ℕ → ℕ → ℕ → Check
miss_check m v ranks s c = at_choice PolicyMisses s c (Some (falls_infinite m v ranks s c || ((slice_index ranks s == 0) && stays_infinite m v ranks s c)))

-- rule 15
abbrev pub all_miss_check : Mdp → List (Option ℚ) → List ℕ → ℕ → ℕ → Check
all_miss_check m v ranks s c = at_choice EachChoiceMisses s c (Some (falls_infinite m v ranks s c || stays_infinite m v ranks s c))

abbrev pub infinite_checks : Dir → Mdp → List (Option ℚ) → List ℕ → ℕ → ℕ → List Check
infinite_checks Max m v ranks s choice = miss_check m v ranks s choice ∷ []
infinite_checks Min m v ranks s choice = at_choices m s (all_miss_check m v ranks s)

-- ---- each state

abbrev pub place_checks : Dir → Mdp → ℕ → List Bool → List (Option ℚ) → List ℕ → ℕ → ℕ → List Check
place_checks dir m r goals v ranks s choice =
    if is_marked goals s then goal_checks v ranks s
    else (if is_marked (infinite v) s then infinite_checks dir m v ranks s choice else transient_checks dir m r v ranks s choice)

-- rule 25
abbrev pub sign_check : Mdp → ℕ → ℕ → ℕ → Check
sign_check m r s c = at_choice RewardNotNegative s c (is_at_least (reward_of (choice_at m s c) r) 0ℚ)

abbrev pub sign_checks : Mdp → ℕ → ℕ → List Check
sign_checks m r s = at_choices m s (sign_check m r s)

-- all rules at state s, where the policy takes this choice
abbrev pub reward_checks_at : Dir → Mdp → ℕ → List Bool → List (Option ℚ) → List ℕ → ℕ → ℕ → List Check
reward_checks_at dir m r goals v ranks s choice = choice_exists m s choice ∷ nonneg_check v s ∷ (place_checks dir m r goals v ranks s choice ++ sign_checks m r s)

-- the states ascend, at a state the rules, in a rule the choices
abbrev pub reward_checks : Dir → Mdp → ℕ → List Bool → List (Option ℚ) → List ℕ → List ℕ → List Check
reward_checks dir m r goals v policy ranks = flat_map (λ s. reward_checks_at dir m r goals v ranks s (slice_index policy s)) (range_with_len 0 (states_of m))

-- the rules in exact numbers
abbrev pub MeetsReward : Dir → Mdp → ℕ → List Bool → List (Option ℚ) → List ℕ → List ℕ → Type 0
MeetsReward Max m r goals v policy ranks = MeetsRewardMax m r goals v policy ranks
MeetsReward Min m r goals v policy ranks = MeetsRewardMin m r goals v policy ranks

-- what yes means: the rules hold in exact numbers, rule 25 as well, and no written term of a check is past width
pub record IsReward (dir : Dir) (m : Mdp) (r : ℕ) (goals : List Bool) (v : List (Option ℚ)) (policy ranks : List ℕ) : Type 0 where
  pub rules : MeetsReward dir m r goals v policy ranks
  -- no reward of name r is below 0
  pub nonneg : (s c : ℕ) → s < states_of m → c < length (choices_at m s) → 0ℚ ≤ℚ reward_of (choice_at m s c) r
  pub in_width : All InWidth (reward_checks dir m r goals v policy ranks)
