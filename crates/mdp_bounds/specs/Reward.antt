-- The rules for a lower and an upper value for each state, a policy and ranks of the reward of name r until a goal, with exact comparisons. The
-- half on each choice (rule 11) is asked of the upper values where they are the greatest rewards, and of the lower ones where they are the
-- least; the half on the policy's choice (rule 12) of the other values; the ranks and the infinite values (rules 13 to 15) belong to the lower
-- values. What a choice earns is its reward and the sum over its row.
--     rule 2   the policy takes a choice that the state has
--     rule 9   the upper value is infinite where the lower one is; a finite value is at least 0; a goal has the value 0 and rank 0
-- of the lower value, by its kind: rules 10, 11 or 12, and 13; or 14 or 15
-- of the upper value, where it is finite and the state no goal: rules 10, and 11 or 12
-- and at each state, goals as well:
--     rule 25  no choice's reward is below 0
-- A lower value of 0 meets rules 11 and 12 on any row, since no reward is below 0: there no sum is made.
use Rattle.std.specs.Prelude.{◌≡◌, ℕ, ◌<◌, Bool, true, false, ◌==◌, ◌||◌, not, List, [], ◌∷◌, ◌++◌, length, slice_index, Option, Some, None, option_map, ◌⊎◌, if◌then◌else◌}
use Rattle.std.specs.List.{All, flat_map, range_with_len}
use Rattle.mdp_math.specs.Rational.{ℚ, le_ℚ, ◌≤ℚ◌}
use Rattle.mdp_num.specs.Equal.{eq_ℚ}
use Rattle.mdp_spec.specs.{Mdp.{Mdp, states_of, choices_at, choice_at, row_at, value_at}, Unit.{reward_of}, Tree.{IsPolicy, is_marked}}
use Rattle.mdp_spec.specs.{Bounds.{reward_at, finite_part, infinite}, BetweenRules.{MeetsRewardMaxBetween, MeetsRewardMinBetween}}
use Rattle.mdp_spec.specs.RewardRules.{IsInfinite, IsTransient, StaysFinite, Falls, FallsInfinite, StaysInfinite}
use Rattle.mdp_farkas.specs.{Compare.{0ℚ}, Verdict.{Check, InWidth, at_state, at_choice, at_choices}, Reach.{choice_exists, other}}
use Rattle.mdp_farkas.specs.Reward.{stay_checks, is_looked_at, rank_fall_checks, infinite_checks}
use Rattle.mdp_rows.specs.{declared.dir.Dir.{Dir}, declared.dir.Dir.TheVariants.{Max, Min}}
use Rattle.mdp_bounds.specs.Sum.{stands, told_sum}
use Rattle.mdp_claims.specs.declared.rule.Rule.TheVariants.{RewardNotNegative, RewardOnEachChoice, RewardOnPolicy, RewardValue}

-- ---- rule 9

-- of both values
abbrev pub order_check : List (Option ℚ) → List (Option ℚ) → ℕ → Check
order_check lower upper s = at_state RewardValue s (Some (not (is_marked (infinite lower) s) || is_marked (infinite upper) s))

-- of one
abbrev pub is_nonneg : Option ℚ → Bool
is_nonneg None = true
is_nonneg (Some x) = le_ℚ 0ℚ x

abbrev pub is_zero : Option ℚ → Bool
is_zero None = false
is_zero (Some x) = eq_ℚ x 0ℚ

abbrev pub nonneg_check : List (Option ℚ) → ℕ → Check
nonneg_check v s = at_state RewardValue s (Some (is_nonneg (reward_at v s)))

abbrev pub goal_checks : List (Option ℚ) → List ℕ → ℕ → List Check
goal_checks v ranks s = at_state RewardValue s (Some (is_zero (reward_at v s))) ∷ at_state RewardValue s (Some (slice_index ranks s == 0)) ∷ []

-- ---- what a choice earns

-- whether a lower value is 0: then it is at most what any choice earns
abbrev pub is_least : Dir → ℚ → Bool
is_least Max x = false
is_least Min x = eq_ℚ x 0ℚ

-- how the value stands to what a choice earns: a lower value of 0 stands to any
abbrev pub earning_stands : Dir → Mdp → ℕ → List (Option ℚ) → ℕ → ℕ → Option Bool
earning_stands dir m r v s c =
    if is_least dir (value_at (finite_part v) s) then Some true else option_map (stands dir (value_at (finite_part v) s)) (told_sum (finite_part v) (reward_of (choice_at m s c) r) (row_at m s c))

-- rule 11
abbrev pub earning_check : Dir → Mdp → ℕ → List (Option ℚ) → ℕ → ℕ → Check
earning_check dir m r v s c = at_choice RewardOnEachChoice s c (earning_stands dir m r v s c)

abbrev pub earning_checks : Dir → Mdp → ℕ → List (Option ℚ) → ℕ → List Check
earning_checks dir m r v s = flat_map (λ c. if is_looked_at dir m v s c then earning_check dir m r v s c ∷ [] else []) (range_with_len 0 (length (choices_at m s)))

-- rule 12
abbrev pub policy_earning_check : Dir → Mdp → ℕ → List (Option ℚ) → ℕ → ℕ → Check
policy_earning_check dir m r v s choice = at_choice RewardOnPolicy s choice (earning_stands (other dir) m r v s choice)

-- ---- the two values of a state

-- whether the half on each choice is asked of the lower values, or of the upper ones
abbrev pub lower_on_each : Dir → Bool
lower_on_each Max = false
lower_on_each Min = true

-- rule 11, or rule 12
abbrev pub half_checks : Bool → Dir → Mdp → ℕ → List (Option ℚ) → ℕ → ℕ → List Check
half_checks true dir m r v s choice = earning_checks dir m r v s
half_checks false dir m r v s choice = policy_earning_check dir m r v s choice ∷ []

-- rules 10, and 11 or 12
abbrev pub finite_checks : Bool → Dir → Mdp → ℕ → List (Option ℚ) → ℕ → ℕ → List Check
finite_checks each dir m r v s choice = stay_checks dir m v s choice ++ half_checks each dir m r v s choice

-- what belongs to the kind of a value: that of a goal, an infinite or a finite one
abbrev pub kind_checks : List Bool → List (Option ℚ) → List ℕ → ℕ → List Check → List Check → List Check
kind_checks goals v ranks s without within = if is_marked goals s then goal_checks v ranks s else (if is_marked (infinite v) s then without else within)

abbrev pub lower_place_checks : Dir → Mdp → ℕ → List Bool → List (Option ℚ) → List ℕ → ℕ → ℕ → List Check
lower_place_checks dir m r goals v ranks s choice =
    kind_checks goals v ranks s (infinite_checks dir m v ranks s choice) (finite_checks (lower_on_each dir) dir m r v s choice ++ rank_fall_checks dir m ranks s choice)

abbrev pub upper_place_checks : Dir → Mdp → ℕ → List Bool → List (Option ℚ) → List ℕ → ℕ → ℕ → List Check
upper_place_checks dir m r goals v ranks s choice = kind_checks goals v ranks s [] (finite_checks (not (lower_on_each dir)) dir m r v s choice)

-- and rule 9 of one value
abbrev pub lower_checks : Dir → Mdp → ℕ → List Bool → List (Option ℚ) → List ℕ → ℕ → ℕ → List Check
lower_checks dir m r goals v ranks s choice = nonneg_check v s ∷ lower_place_checks dir m r goals v ranks s choice

abbrev pub upper_value_checks : Dir → Mdp → ℕ → List Bool → List (Option ℚ) → List ℕ → ℕ → ℕ → List Check
upper_value_checks dir m r goals v ranks s choice = nonneg_check v s ∷ upper_place_checks dir m r goals v ranks s choice

-- rule 25
abbrev pub sign_check : Mdp → ℕ → ℕ → ℕ → Check
sign_check m r s c = at_choice RewardNotNegative s c (Some (le_ℚ 0ℚ (reward_of (choice_at m s c) r)))

abbrev pub sign_checks : Mdp → ℕ → ℕ → List Check
sign_checks m r s = at_choices m s (sign_check m r s)

-- ---- all rules

-- at state s, where the policy takes this choice
abbrev pub reward_bounds_at : Dir → Mdp → ℕ → List Bool → List (Option ℚ) → List (Option ℚ) → List ℕ → ℕ → ℕ → List Check
reward_bounds_at dir m r goals lower upper ranks s choice =
    choice_exists m s choice
    ∷ order_check lower upper s
    ∷ (lower_checks dir m r goals lower ranks s choice ++ (upper_value_checks dir m r goals upper ranks s choice ++ sign_checks m r s))

-- the states ascend, at a state the rules, in a rule the choices
abbrev pub reward_bounds_checks : Dir → Mdp → ℕ → List Bool → List (Option ℚ) → List (Option ℚ) → List ℕ → List ℕ → List Check
reward_bounds_checks dir m r goals lower upper policy ranks = flat_map (λ s. reward_bounds_at dir m r goals lower upper ranks s (slice_index policy s)) (range_with_len 0 (states_of m))

-- no reward of name r is below 0
abbrev pub NoneNegative : Mdp → ℕ → Type 0
NoneNegative m r = (s c : ℕ) → s < states_of m → c < length (choices_at m s) → 0ℚ ≤ℚ reward_of (choice_at m s c) r

-- the rules in exact numbers
abbrev pub MeetsRewardBetween : Dir → Mdp → ℕ → List Bool → List (Option ℚ) → List (Option ℚ) → List ℕ → List ℕ → Type 0
MeetsRewardBetween Max m r goals lower upper policy ranks = MeetsRewardMaxBetween m r goals lower upper policy ranks
MeetsRewardBetween Min m r goals lower upper policy ranks = MeetsRewardMinBetween m r goals lower upper policy ranks

-- what yes means: the rules hold in exact numbers, rule 25 as well, and no sum that a check makes is past width
pub record IsRewardBounds (dir : Dir) (m : Mdp) (r : ℕ) (goals : List Bool) (lower upper : List (Option ℚ)) (policy ranks : List ℕ) : Type 0 where
  pub rules : MeetsRewardBetween dir m r goals lower upper policy ranks
  pub nonneg : NoneNegative m r
  pub in_width : All InWidth (reward_bounds_checks dir m r goals lower upper policy ranks)

-- ---- the bounds that say nothing of numbers: 0 and infinite, and 0 at a goal. What they say is where the reward is finite, by the ranks

-- at a state of finite lower value that is no goal: each choice, or for the least reward the policy's, leads to finite lower values only, and to
-- a smaller rank
abbrev pub Arrives : Dir → Mdp → List Bool → List (Option ℚ) → List ℕ → List ℕ → Type 0
Arrives Max m goals v policy ranks = (s c : ℕ) → IsTransient m goals v s → c < length (choices_at m s) → StaysFinite m v s c × Falls m ranks s c
Arrives Min m goals v policy ranks = (s : ℕ) → IsTransient m goals v s → StaysFinite m v s (slice_index policy s) × Falls m ranks s (slice_index policy s)

-- at a state of infinite lower value the policy's choice, or for the least reward each choice, misses the goals
abbrev pub Misses : Dir → Mdp → List (Option ℚ) → List ℕ → List ℕ → Type 0
Misses Max m v policy ranks = (s : ℕ) → IsInfinite m v s → ((slice_index ranks s ≡ 0) × StaysInfinite m v ranks 0 s (slice_index policy s)) ⊎ FallsInfinite m v ranks s (slice_index policy s)
Misses Min m v policy ranks =
    (s c : ℕ) → IsInfinite m v s → c < length (choices_at m s) → FallsInfinite m v ranks s c ⊎ StaysInfinite m v ranks (slice_index ranks s) s c

pub record IsTrivialReward (dir : Dir) (m : Mdp) (r : ℕ) (goals : List Bool) (lower upper : List (Option ℚ)) (policy ranks : List ℕ) : Type 0 where
  pub takes : IsPolicy m policy
  pub nonneg : NoneNegative m r
  pub at_goal : (s : ℕ) → s < states_of m → is_marked goals s ≡ true → (reward_at lower s ≡ Some 0ℚ) × (reward_at upper s ≡ Some 0ℚ) × (slice_index ranks s ≡ 0)
  pub zero : (s : ℕ) (x : ℚ) → s < states_of m → reward_at lower s ≡ Some x → x ≡ 0ℚ
  pub above : (s : ℕ) → s < states_of m → is_marked goals s ≡ false → reward_at upper s ≡ None
  pub arrives : Arrives dir m goals lower policy ranks
  pub misses : Misses dir m lower policy ranks
