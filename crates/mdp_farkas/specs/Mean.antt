-- The rules for gains and a policy of the mean payoff of the reward of name r (Puterman 1994, section 9.1: the multichain optimality
-- equations). The bound and the bias are two relative values. What a choice earns by one of them is its reward and the sum over its row.
--     rule 2   the policy takes a choice that the state has
--     rule 16  the gain is at least (for the least mean payoff: at most) the sum of the gains over each choice's row
--     rule 17  the gain and the bound together are at least (at most) what each choice earns by the bound
--     rule 18  the gain is the sum of the gains over the row of the policy's choice
--     rule 19  the gain and the bias together are what the policy's choice earns by the bias
-- and at the end, at no state:
--     rule 20  the spread is the greater of two ranges, from the least to the greatest bound and from the least to the greatest bias
use Rattle.std.specs.{Prelude.{ℕ, Bool, List, [], ◌∷◌, ◌++◌, slice_index, Option, None}, List.{All, flat_map, range_with_len}}
use Rattle.mdp_math.specs.{Rational.{ℚ}, Written.{written_add, ◌>>=◌}}
use Rattle.mdp_spec.specs.{Mdp.{Mdp, states_of, choice_at, row_at, value_at}, Unit.{reward_of}, Written.{written_sum}, MeanRules.{MeetsMeanMax, MeetsMeanMin}}
use Rattle.mdp_farkas.specs.{Compare.{0ℚ, is_equal}, Verdict.{Check, InWidth, at_choice, at_choices}, Bellman.{sum_stands, stands_at}, Reach.{choice_exists}}
use Rattle.mdp_farkas.specs.Spread.{written_spread}
use Rattle.mdp_rows.specs.{declared.dir.Dir.{Dir}, declared.dir.Dir.TheVariants.{Max, Min}}
use Rattle.mdp_claims.specs.declared.rule.Rule.TheVariants.{BiasOnPolicy, BoundOnEachChoice, GainOnEachChoice, GainOnPolicy, SpreadIsGreatest}

-- rule 16
abbrev pub gain_check : Dir → Mdp → List ℚ → ℕ → ℕ → Check
gain_check dir m g s c = at_choice GainOnEachChoice s c (stands_at dir m g s c)

-- the gain and a relative value of state s together
abbrev pub written_step : List ℚ → List ℚ → ℕ → Option ℚ
written_step g z s = written_add (value_at g s) (value_at z s)

-- rule 17
abbrev pub bound_stands : Dir → Mdp → ℕ → List ℚ → List ℚ → ℕ → ℕ → Option Bool
bound_stands dir m r g a s c = written_step g a s >>= λ step. sum_stands dir step a (reward_of (choice_at m s c) r) (row_at m s c)

abbrev pub relative_check : Dir → Mdp → ℕ → List ℚ → List ℚ → ℕ → ℕ → Check
relative_check dir m r g a s c = at_choice BoundOnEachChoice s c (bound_stands dir m r g a s c)

-- rule 18
abbrev pub keeps_gain : Mdp → List ℚ → ℕ → ℕ → Option Bool
keeps_gain m g s c = written_sum g 0ℚ (row_at m s c) >>= is_equal (value_at g s)

abbrev pub policy_gain_check : Mdp → List ℚ → ℕ → ℕ → Check
policy_gain_check m g s choice = at_choice GainOnPolicy s choice (keeps_gain m g s choice)

-- rule 19
abbrev pub earns_gain : Mdp → ℕ → List ℚ → List ℚ → ℕ → ℕ → Option Bool
earns_gain m r g b s c = written_step g b s >>= λ step. written_sum b (reward_of (choice_at m s c) r) (row_at m s c) >>= is_equal step

abbrev pub policy_bias_check : Mdp → ℕ → List ℚ → List ℚ → ℕ → ℕ → Check
policy_bias_check m r g b s choice = at_choice BiasOnPolicy s choice (earns_gain m r g b s choice)

-- rule 20
abbrev pub spread_check : List ℚ → List ℚ → ℚ → Check
spread_check a b spread = record { rule = SpreadIsGreatest; state = None; choice = None; holds = written_spread a b >>= is_equal spread }

-- all rules at state s, where the policy takes this choice
abbrev pub mean_checks_at : Dir → Mdp → ℕ → List ℚ → List ℚ → List ℚ → ℕ → ℕ → List Check
mean_checks_at dir m r g a b s choice =
    choice_exists m s choice
    ∷ (at_choices m s (gain_check dir m g s) ++ (at_choices m s (relative_check dir m r g a s) ++ policy_gain_check m g s choice ∷ policy_bias_check m r g b s choice ∷ []))

-- the states ascend, at a state the rules, in a rule the choices
abbrev pub state_checks : Dir → Mdp → ℕ → List ℚ → List ℚ → List ℚ → List ℕ → List Check
state_checks dir m r g a b policy = flat_map (λ s. mean_checks_at dir m r g a b s (slice_index policy s)) (range_with_len 0 (states_of m))

-- and the spread comes last
abbrev pub mean_checks : Dir → Mdp → ℕ → List ℚ → List ℚ → List ℚ → ℚ → List ℕ → List Check
mean_checks dir m r g a b spread policy = state_checks dir m r g a b policy ++ spread_check a b spread ∷ []

-- the rules in exact numbers
abbrev pub MeetsMean : Dir → Mdp → ℕ → List ℚ → List ℚ → List ℚ → ℚ → List ℕ → Type 0
MeetsMean Max m r g a b spread policy = MeetsMeanMax m r g a b spread policy
MeetsMean Min m r g a b spread policy = MeetsMeanMin m r g a b spread policy

-- what yes means: the rules hold in exact numbers, and no written term of a check is past width
pub record IsMean (dir : Dir) (m : Mdp) (r : ℕ) (g a b : List ℚ) (spread : ℚ) (policy : List ℕ) : Type 0 where
  pub rules : MeetsMean dir m r g a b spread policy
  pub in_width : All InWidth (mean_checks dir m r g a b spread policy)
