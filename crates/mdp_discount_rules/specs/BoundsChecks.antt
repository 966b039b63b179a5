-- The checks of the rules for a lower and an upper value for each state, a policy and a remainder of the discounted reward of name r, with exact
-- comparisons.
--     rule 2   the policy takes a choice that the state has
--     rule 26  on each choice, of the upper value for the greatest rewards, of the lower one for the least: each target has such a value, and the
--              value less f times the sum over the row is at least (at most) the reward
--     rule 27  of the other value, on the policy's choice: the same the other way round
-- and at the end, at no state:
--     rule 28  the remainder is the greatest magnitude of the values
-- A value that is missing is asked nothing, and where a target has none no sum is made.
use Rattle.std.specs.Prelude.{◌≡◌, ℕ, Bool, true, false, List, [], ◌∷◌, ◌++◌, slice_index, Option, Some, None, option_map, if◌then◌else◌}
use Rattle.std.specs.List.{All, flat_map, range_with_len}
use Rattle.mdp_math.specs.{Rational.{ℚ, neg_ℚ}, Written.{written_mul, ◌>>=◌}}
use Rattle.mdp_num.specs.Equal.{eq_ℚ}
use Rattle.mdp_spec.specs.{Mdp.{Mdp, states_of, choice_at, row_at}, Unit.{reward_of}, Tree.{IsPolicy}, Bounds.{reward_at, finite_part}}
use Rattle.mdp_farkas.specs.{Compare.{0ℚ}, Reach.{other, choice_exists}, Reward.{stays_finite}, Verdict.{Check, InWidth, at_choice, at_choices}}
use Rattle.mdp_rows.specs.declared.dir.Dir.{Dir}
use Rattle.mdp_bounds.specs.{Says.{covering_rewards}, Sum.{stands, plain_add, told_sum}}
use Rattle.mdp_discount_rules.specs.BoundsRules.{greatest_magnitude, MeetsDiscountBetween}
use Rattle.mdp_claims.specs.declared.rule.Rule.TheVariants.{DiscountedOnEachChoice, DiscountedOnPolicy, RemainderIsGreatest}

-- what the value x leaves to the reward, by written terms
abbrev pub told_left : Mdp → ℚ → ℕ → ℕ → List (Option ℚ) → ℚ → Option ℚ
told_left m f s c v x = do
  sum ← told_sum (finite_part v) 0ℚ (row_at m s c)
  later ← written_mul f sum
  plain_add x (neg_ℚ later)

-- whether the value x of state s is as good as what choice c earns
abbrev pub number_allows : Dir → Mdp → ℕ → ℚ → List (Option ℚ) → ℕ → ℕ → ℚ → Option Bool
number_allows dir m r f v s c x =
    if stays_finite m v s c then option_map (λ left. stands dir left (reward_of (choice_at m s c) r)) (told_left m f s c v x) else Some false

-- the same of a value that may be missing
abbrev pub value_allows : Dir → Mdp → ℕ → ℚ → List (Option ℚ) → ℕ → ℕ → Option ℚ → Option Bool
value_allows dir m r f v s c None = Some true
value_allows dir m r f v s c (Some x) = number_allows dir m r f v s c x

abbrev pub allows : Dir → Mdp → ℕ → ℚ → List (Option ℚ) → ℕ → ℕ → Option Bool
allows dir m r f v s c = value_allows dir m r f v s c (reward_at v s)

-- rule 26
abbrev pub each_check : Dir → Mdp → ℕ → ℚ → List (Option ℚ) → ℕ → ℕ → Check
each_check dir m r f v s c = at_choice DiscountedOnEachChoice s c (allows dir m r f v s c)

-- rule 27
abbrev pub policy_check : Dir → Mdp → ℕ → ℚ → List (Option ℚ) → ℕ → ℕ → Check
policy_check dir m r f v s choice = at_choice DiscountedOnPolicy s choice (allows dir m r f v s choice)

-- rule 28
abbrev pub remainder_check : List (Option ℚ) → List (Option ℚ) → ℚ → Check
remainder_check lower upper remainder =
    record { rule = RemainderIsGreatest; state = None; choice = None; holds = Some (eq_ℚ remainder (greatest_magnitude lower upper)) }

-- all rules at state s, where the policy takes this choice
abbrev pub bounds_at : Dir → Mdp → ℕ → ℚ → List (Option ℚ) → List (Option ℚ) → ℕ → ℕ → List Check
bounds_at dir m r f lower upper s choice =
    choice_exists m s choice
    ∷ (at_choices m s (each_check dir m r f (covering_rewards dir lower upper) s) ++ policy_check (other dir) m r f (covering_rewards (other dir) lower upper) s choice ∷ [])

-- the states ascend, at a state the rules, in a rule the choices
abbrev pub state_checks : Dir → Mdp → ℕ → ℚ → List (Option ℚ) → List (Option ℚ) → List ℕ → List Check
state_checks dir m r f lower upper policy = flat_map (λ s. bounds_at dir m r f lower upper s (slice_index policy s)) (range_with_len 0 (states_of m))

-- and the remainder comes last
abbrev pub discount_bounds_checks : Dir → Mdp → ℕ → ℚ → List (Option ℚ) → List (Option ℚ) → ℚ → List ℕ → List Check
discount_bounds_checks dir m r f lower upper remainder policy = state_checks dir m r f lower upper policy ++ remainder_check lower upper remainder ∷ []

-- what yes means: the rules hold in exact numbers, and no written term of a check is past width
pub record IsDiscountBounds (dir : Dir) (m : Mdp) (r : ℕ) (f : ℚ) (lower upper : List (Option ℚ)) (remainder : ℚ) (policy : List ℕ) : Type 0 where
  pub rules : MeetsDiscountBetween dir m r f lower upper remainder policy
  pub in_width : All InWidth (discount_bounds_checks dir m r f lower upper remainder policy)

-- the bounds that say nothing: each value is missing and the remainder is 0, with any policy
pub record IsTrivialDiscount (m : Mdp) (lower upper : List (Option ℚ)) (remainder : ℚ) (policy : List ℕ) : Type 0 where
  pub takes : IsPolicy m policy
  pub no_lower : All (λ x. x ≡ None) lower
  pub no_upper : All (λ x. x ≡ None) upper
  pub no_remainder : remainder ≡ 0ℚ
