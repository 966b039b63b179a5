-- The checks of the rules for values, a policy and a remainder of the discounted reward of name r, by written operations.
--     rule 2   the policy takes a choice that the state has
--     rule 26  the value is at least (for the least reward: at most) what each choice earns: its reward, and f times the sum over its row
--     rule 27  the value is what the policy's choice earns
-- and at the end, at no state:
--     rule 28  the remainder is the greatest magnitude of the values
use Rattle.std.specs.{Prelude.{ℕ, List, [], ◌∷◌, ◌++◌, map, slice_index, Option, None}, List.{All, flat_map, range_with_len}}
use Rattle.mdp_math.specs.{Rational.{ℚ}, Written.{written_add, written_mul, ◌>>=◌}}
use Rattle.mdp_spec.specs.{Mdp.{Mdp, states_of, choice_at, row_at, value_at}, Unit.{reward_of}, Written.{written_sum}}
use Rattle.mdp_farkas.specs.{Compare.{0ℚ, is_equal}, Verdict.{Check, InWidth, at_choice, at_choices}, Bellman.{stands}, Reach.{choice_exists}}
use Rattle.mdp_farkas.specs.Spread.{written_extreme}
use Rattle.mdp_rows.specs.{declared.dir.Dir.{Dir}, declared.dir.Dir.TheVariants.{Max}}
use Rattle.mdp_discount_rules.specs.Rules.{magnitude, MeetsDiscount}
use Rattle.mdp_claims.specs.declared.rule.Rule.TheVariants.{DiscountedOnEachChoice, DiscountedOnPolicy, RemainderIsGreatest}

-- what choice c at s earns under the values v
abbrev pub written_discounted : Mdp → ℕ → ℚ → ℕ → ℕ → List ℚ → Option ℚ
written_discounted m r f s c v = do
  sum ← written_sum v 0ℚ (row_at m s c)
  later ← written_mul f sum
  written_add (reward_of (choice_at m s c) r) later

-- rule 26
abbrev pub covers_check : Dir → Mdp → ℕ → ℚ → List ℚ → ℕ → ℕ → Check
covers_check dir m r f v s c = at_choice DiscountedOnEachChoice s c (written_discounted m r f s c v >>= stands dir (value_at v s))

-- rule 27
abbrev pub reached_check : Mdp → ℕ → ℚ → List ℚ → ℕ → ℕ → Check
reached_check m r f v s choice = at_choice DiscountedOnPolicy s choice (written_discounted m r f s choice v >>= is_equal (value_at v s))

-- the rules on values at state s, where the policy takes this choice
abbrev pub values_checks : Dir → Mdp → ℕ → ℚ → List ℚ → ℕ → ℕ → List Check
values_checks dir m r f v s choice = at_choices m s (covers_check dir m r f v s) ++ reached_check m r f v s choice ∷ []

-- all rules at state s
abbrev pub checks_at : Dir → Mdp → ℕ → ℚ → List ℚ → ℕ → ℕ → List Check
checks_at dir m r f v s choice = choice_exists m s choice ∷ values_checks dir m r f v s choice

-- the greatest magnitude: that of each value, in ascending order, is compared with the greatest before it
abbrev pub written_greatest : List ℚ → Option ℚ
written_greatest v = written_extreme Max (map magnitude v)

-- rule 28
abbrev pub remainder_check : List ℚ → ℚ → Check
remainder_check v remainder = record { rule = RemainderIsGreatest; state = None; choice = None; holds = written_greatest v >>= is_equal remainder }

-- the states ascend, at a state the rules, in a rule the choices
abbrev pub state_checks : Dir → Mdp → ℕ → ℚ → List ℚ → List ℕ → List Check
state_checks dir m r f v policy = flat_map (λ s. checks_at dir m r f v s (slice_index policy s)) (range_with_len 0 (states_of m))

-- and the remainder comes last
abbrev pub discount_checks : Dir → Mdp → ℕ → ℚ → List ℚ → ℚ → List ℕ → List Check
discount_checks dir m r f v remainder policy = state_checks dir m r f v policy ++ remainder_check v remainder ∷ []

-- what yes means: the rules hold in exact numbers, and no written term of a check is past width
pub record IsDiscount (dir : Dir) (m : Mdp) (r : ℕ) (f : ℚ) (v : List ℚ) (remainder : ℚ) (policy : List ℕ) : Type 0 where
  pub rules : MeetsDiscount dir m r f v remainder policy
  pub in_width : All InWidth (discount_checks dir m r f v remainder policy)
