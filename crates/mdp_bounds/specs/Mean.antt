-- The rules for a lower and an upper gain for each state and a policy of the mean payoff of the reward of name r, with exact comparisons. The
-- half on each choice is asked of the upper gains and the bound where they are the greatest mean payoffs, and of the lower ones where they are
-- the least; the half on the policy's choice of the other gains and the bias. What a choice earns by one of them is its reward and the sum over
-- its row.
--     rule 2   the policy takes a choice that the state has
--     rule 16  on each choice: an upper gain is at least the sum of the gains over the choice's row, a lower one at most
--     rule 17  and the gain and the bound together are at least (at most) what the choice earns by the bound
--     rule 18  rule 16 of the other gains on the policy's choice
--     rule 19  rule 17 of the other gains and the bias on the policy's choice
-- and at the end, at no state:
--     rule 20  the spread is the greater of two ranges, from the least to the greatest bound and from the least to the greatest bias
use Rattle.std.specs.Prelude.{◌≡◌, ℕ, ◌<◌, Bool, List, [], ◌∷◌, ◌++◌, length, slice_index, Option, Some, None, option_map, if◌then◌else◌}
use Rattle.std.specs.List.{All, flat_map, range_with_len}
use Rattle.mdp_math.specs.{Rational.{ℚ, neg_ℚ, ◌≤ℚ◌}, Written.{cmp_ℚ, ◌>>=◌}}
use Rattle.mdp_num.specs.Equal.{eq_ℚ}
use Rattle.mdp_spec.specs.{Mdp.{Mdp, states_of, choices_at, choice_at, row_at, value_at}, Unit.{reward_of}, Tree.{IsPolicy}}
use Rattle.mdp_spec.specs.BetweenRules.{MeetsMeanMaxBetween, MeetsMeanMinBetween}
use Rattle.mdp_farkas.specs.{Compare.{0ℚ}, Verdict.{Check, InWidth, at_choice, at_choices}, Reach.{choice_exists, other}}
use Rattle.mdp_rows.specs.{Better.{is_better}, declared.dir.Dir.{Dir}, declared.dir.Dir.TheVariants.{Max, Min}}
use Rattle.mdp_bounds.specs.{Sum.{stands, plain_add, told_sum}, Reach.{covering, followed}}
use Rattle.mdp_claims.specs.declared.rule.Rule.TheVariants.{BiasOnPolicy, BoundOnEachChoice, GainOnEachChoice, GainOnPolicy, SpreadIsGreatest}

-- ---- gains and what choices earn

-- all are the first one
abbrev pub AreOne : List ℚ → Type 0
AreOne g = (s : ℕ) → s < length g → value_at g s ≡ value_at g 0

abbrev pub gain_stands : Dir → Mdp → List ℚ → ℕ → ℕ → Option Bool
gain_stands dir m g s c = option_map (stands dir (value_at g s)) (told_sum g 0ℚ (row_at m s c))

-- rule 16
abbrev pub gain_check : Dir → Mdp → List ℚ → ℕ → ℕ → Check
gain_check dir m g s c = at_choice GainOnEachChoice s c (gain_stands dir m g s c)

-- the gain and a relative value of state s together
abbrev pub told_step : List ℚ → List ℚ → ℕ → Option ℚ
told_step g z s = plain_add (value_at g s) (value_at z s)

abbrev pub bound_stands : Dir → Mdp → ℕ → List ℚ → List ℚ → ℕ → ℕ → Option Bool
bound_stands dir m r g a s c = told_step g a s >>= λ step. option_map (stands dir step) (told_sum a (reward_of (choice_at m s c) r) (row_at m s c))

-- rule 17
abbrev pub relative_check : Dir → Mdp → ℕ → List ℚ → List ℚ → ℕ → ℕ → Check
relative_check dir m r g a s c = at_choice BoundOnEachChoice s c (bound_stands dir m r g a s c)

-- rule 18
abbrev pub follow_gain_check : Dir → Mdp → List ℚ → ℕ → ℕ → Check
follow_gain_check dir m g s choice = at_choice GainOnPolicy s choice (gain_stands (other dir) m g s choice)

-- rule 19
abbrev pub follow_bias_check : Dir → Mdp → ℕ → List ℚ → List ℚ → ℕ → ℕ → Check
follow_bias_check dir m r g b s choice = at_choice BiasOnPolicy s choice (bound_stands (other dir) m r g b s choice)

-- ---- the spread

-- the best of these, from a first one on: each is compared with the best before it
abbrev pub exact_best : Dir → ℚ → List ℚ → ℚ
exact_best dir best [] = best
exact_best dir best (x ∷ xs) = exact_best dir (if is_better dir (cmp_ℚ x best) then x else best) xs

-- the greatest or the least of a list; 0 of none
abbrev pub exact_extreme : Dir → List ℚ → ℚ
exact_extreme dir [] = 0ℚ
exact_extreme dir (x ∷ xs) = exact_best dir x xs

-- the greatest value less the least
abbrev pub told_width : List ℚ → Option ℚ
told_width z = plain_add (exact_extreme Max z) (neg_ℚ (exact_extreme Min z))

abbrev pub told_spread : List ℚ → List ℚ → Option ℚ
told_spread a b = do
  first ← told_width a
  second ← told_width b
  Some (exact_best Max first (second ∷ []))

-- rule 20
abbrev pub spread_check : List ℚ → List ℚ → ℚ → Check
spread_check a b spread = record { rule = SpreadIsGreatest; state = None; choice = None; holds = option_map (eq_ℚ spread) (told_spread a b) }

-- ---- all rules

-- rules 16 and 17
abbrev pub gains_cover : Dir → Mdp → ℕ → List ℚ → List ℚ → ℕ → List Check
gains_cover dir m r g a s = at_choices m s (gain_check dir m g s) ++ at_choices m s (relative_check dir m r g a s)

-- rules 18 and 19
abbrev pub gains_follow : Dir → Mdp → ℕ → List ℚ → List ℚ → ℕ → ℕ → List Check
gains_follow dir m r g b s choice = follow_gain_check dir m g s choice ∷ follow_bias_check dir m r g b s choice ∷ []

-- at state s, where the policy takes this choice
abbrev pub mean_bounds_at : Dir → Mdp → ℕ → List ℚ → List ℚ → List ℚ → List ℚ → ℕ → ℕ → List Check
mean_bounds_at dir m r lower upper a b s choice =
    choice_exists m s choice ∷ (gains_cover dir m r (covering dir lower upper) a s ++ gains_follow dir m r (followed dir lower upper) b s choice)

-- the states ascend, at a state the rules, in a rule the choices
abbrev pub state_bounds_checks : Dir → Mdp → ℕ → List ℚ → List ℚ → List ℚ → List ℚ → List ℕ → List Check
state_bounds_checks dir m r lower upper a b policy = flat_map (λ s. mean_bounds_at dir m r lower upper a b s (slice_index policy s)) (range_with_len 0 (states_of m))

-- and the spread comes last
abbrev pub mean_bounds_checks : Dir → Mdp → ℕ → List ℚ → List ℚ → List ℚ → List ℚ → ℚ → List ℕ → List Check
mean_bounds_checks dir m r lower upper a b spread policy = state_bounds_checks dir m r lower upper a b policy ++ spread_check a b spread ∷ []

-- the rules in exact numbers
abbrev pub MeetsMeanBetween : Dir → Mdp → ℕ → List ℚ → List ℚ → List ℚ → List ℚ → ℚ → List ℕ → Type 0
MeetsMeanBetween Max m r lower upper a b spread policy = MeetsMeanMaxBetween m r lower upper a b spread policy
MeetsMeanBetween Min m r lower upper a b spread policy = MeetsMeanMinBetween m r lower upper a b spread policy

-- what yes means: the rules hold in exact numbers, and no sum that a check makes is past width
pub record IsMeanBounds (dir : Dir) (m : Mdp) (r : ℕ) (lower upper a b : List ℚ) (spread : ℚ) (policy : List ℕ) : Type 0 where
  pub rules : MeetsMeanBetween dir m r lower upper a b spread policy
  pub in_width : All InWidth (mean_bounds_checks dir m r lower upper a b spread policy)

-- the bounds that say nothing: a number that no reward is below and one that none is above, with bound, bias and spread 0 and any policy
pub record IsTrivialMean (m : Mdp) (r : ℕ) (lower upper a b : List ℚ) (spread : ℚ) (policy : List ℕ) : Type 0 where
  pub takes : IsPolicy m policy
  pub low : ℚ
  pub high : ℚ
  pub lower_values : (s : ℕ) → s < states_of m → value_at lower s ≡ low
  pub upper_values : (s : ℕ) → s < states_of m → value_at upper s ≡ high
  pub rewards : (s c : ℕ) → s < states_of m → c < length (choices_at m s) → (low ≤ℚ reward_of (choice_at m s c) r) × (reward_of (choice_at m s c) r ≤ℚ high)
  pub bounds : All (λ x. x ≡ 0ℚ) a
  pub biases : All (λ x. x ≡ 0ℚ) b
  pub no_spread : spread ≡ 0ℚ
