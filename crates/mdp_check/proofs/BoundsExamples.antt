-- Answers to certificates of bounds, computed, on the models of Examples.
use Rattle.std.proofs.Common.{◌≡◌, ℕ, ◌+◌, ◌^◌, List, [], ◌∷◌, refl, pos, Option, Some, None}
use Rattle.std.specs.Prelude.{codes}
use Rattle.mdp_math.specs.{Gcd.{gcd, gcd_with_fuel}, Rational.{ℚ, of_int, ratio, le_ℚ, lt_ℚ, neg_ℚ, ◌+ℚ◌, ◌*ℚ◌}}
use Rattle.mdp_math.specs.Written.{narrow, narrow_ℚ, written_add, written_mul}
use Rattle.mdp_spec.proofs.Small.{half, nought, one}
use Rattle.mdp_rows.specs.declared.dir.Dir.TheVariants.{Max, Min}
use Rattle.mdp_claims.specs.declared.rule.Rule.{Rule}
use Rattle.mdp_claims.specs.declared.rule.Rule.TheVariants.{BiasOnPolicy, InitialState, RewardOnPolicy, ValueOnEachChoice, ValueOnPolicy}
use Rattle.mdp_cert.specs.{Cert.{reach, reward, mean}, BoundsCert.{probabilities, rewards, gains, Certificate}, declared.init.BoundsInit.{BoundsInit}}
use Rattle.mdp_cert.specs.declared.init.BoundsInit.TheVariants.{Missing, Between}
use Rattle.mdp_check.proofs.Examples.{three, two, turns}
use Rattle.mdp_check.specs.{Bounds.{bounds_answer_to}, declared.answer.Answer.{Answer}}
use Rattle.mdp_check.specs.declared.answer.Answer.TheVariants.{Yes, No, Wide, NoReward, NoLabel, Size}

abbrev quarter : ℚ
quarter = ratio (pos 1) 4

abbrev at_init : ℚ → ℚ → BoundsInit
at_init low high = Between 0 (Some low) (Some high)

abbrev fault : Rule → Option ℕ → Option ℕ → Answer
fault rule state choice = No (record { rule = rule; state = state; choice = choice })

-- ---- reaching a goal: the greatest probability is 1/3 at state 0

abbrev reaches : List ℕ → BoundsInit → ℚ → ℚ → ℚ → Certificate
reaches label init low high last = record {
  claim = reach Max label;
  states = 3;
  init = init;
  body = probabilities (low ∷ one ∷ nought ∷ []) (high ∷ one ∷ last ∷ []) (1 ∷ 0 ∷ 0 ∷ []) (1 ∷ 0 ∷ 0 ∷ []);
}

between : bounds_answer_to three (reaches (codes "goal") (at_init quarter half) quarter half nought) ≡ Yes
unfolding gcd gcd_with_fuel ratio of_int le_ℚ lt_ℚ ◌+ℚ◌ ◌*ℚ◌ narrow narrow_ℚ written_add written_mul
between = refl

lower_too_great : bounds_answer_to three (reaches (codes "goal") (at_init half one) half one nought) ≡ fault ValueOnPolicy (Some 0) (Some 1)
unfolding gcd gcd_with_fuel ratio of_int le_ℚ lt_ℚ ◌+ℚ◌ ◌*ℚ◌ narrow narrow_ℚ written_add written_mul
lower_too_great = refl

upper_too_small : bounds_answer_to three (reaches (codes "goal") (at_init nought quarter) nought quarter nought) ≡ fault ValueOnEachChoice (Some 0) (Some 1)
unfolding gcd gcd_with_fuel ratio of_int le_ℚ lt_ℚ ◌+ℚ◌ ◌*ℚ◌ narrow narrow_ℚ written_add written_mul
upper_too_small = refl

-- a third of the last upper value has a denominator past width
wide : bounds_answer_to three (reaches (codes "goal") (at_init quarter half) quarter half (ratio (pos 1) (2 ^ 126 + 1))) ≡ Wide (Some 0) (Some 1)
unfolding gcd gcd_with_fuel ratio of_int le_ℚ lt_ℚ ◌+ℚ◌ ◌*ℚ◌ narrow narrow_ℚ written_add written_mul
wide = refl

-- rule 1: both values stand in the line `init`, and the state
other_lower : bounds_answer_to three (reaches (codes "goal") (at_init nought half) quarter half nought) ≡ fault InitialState (Some 0) None
unfolding gcd gcd_with_fuel ratio of_int
other_lower = refl

other_upper : bounds_answer_to three (reaches (codes "goal") (at_init quarter one) quarter half nought) ≡ fault InitialState (Some 0) None
unfolding gcd gcd_with_fuel ratio of_int
other_upper = refl

other_state : bounds_answer_to three (reaches (codes "goal") (Between 1 (Some one) (Some one)) quarter half nought) ≡ fault InitialState (Some 1) None
unfolding gcd gcd_with_fuel ratio of_int
other_state = refl

no_init : bounds_answer_to three (reaches (codes "goal") Missing quarter half nought) ≡ fault InitialState None None
no_init = refl

no_label : bounds_answer_to three (reaches (codes "done") (at_init quarter half) quarter half nought) ≡ NoLabel
no_label = refl

-- ---- rewards until a goal

-- the least reward is 3 at state 0: the loop pays nothing and doesn't arrive
abbrev earns : Option ℚ → Option ℚ → Certificate
earns low high = record {
  claim = reward Min (codes "-") (codes "goal");
  states = 2;
  init = Between 0 low high;
  body = rewards (low ∷ Some nought ∷ []) (high ∷ Some nought ∷ []) (1 ∷ 0 ∷ []) (1 ∷ 0 ∷ []);
}

-- an infinite upper value claims no upper bound
earns_something : bounds_answer_to two (earns (Some one) None) ≡ Yes
unfolding gcd gcd_with_fuel ratio of_int le_ℚ ◌+ℚ◌ ◌*ℚ◌ narrow narrow_ℚ written_add written_mul
earns_something = refl

earns_less : bounds_answer_to two (earns (Some one) (Some one)) ≡ fault RewardOnPolicy (Some 0) (Some 1)
unfolding gcd gcd_with_fuel ratio of_int le_ℚ ◌+ℚ◌ ◌*ℚ◌ narrow narrow_ℚ written_add written_mul
earns_less = refl

-- the numbers of states come before the label, and that before the reward model
other_size : bounds_answer_to two (record { claim = reward Min (codes "costs") (codes "done"); states = 3; init = Missing; body = rewards [] [] [] [] }) ≡ Size
other_size = refl

no_goal : bounds_answer_to two (record { claim = reward Min (codes "costs") (codes "done"); states = 2; init = Missing; body = rewards [] [] [] [] }) ≡ NoLabel
no_goal = refl

no_reward : bounds_answer_to two (record { claim = reward Min (codes "costs") (codes "goal"); states = 2; init = Missing; body = rewards [] [] [] [] }) ≡ NoReward
no_reward = refl

-- another claim's body stands in no certificate
other_body :
    bounds_answer_to two (record {
      claim = reward Min (codes "-") (codes "goal");
      states = 2;
      init = at_init one one;
      body = probabilities (one ∷ one ∷ []) (one ∷ one ∷ []) (0 ∷ 0 ∷ []) (0 ∷ 0 ∷ []);
    }) ≡ fault InitialState None None
unfolding of_int
other_body = refl

-- ---- mean payoffs: the states lead to each other, and only the step from 0 pays, 1; so the mean payoff is 1/2

abbrev turning : ℚ → ℚ → Certificate
turning low high = record {
  claim = mean Max (codes "-");
  states = 2;
  init = at_init low high;
  body = gains (low ∷ low ∷ []) (high ∷ high ∷ []) (nought ∷ nought ∷ []) (nought ∷ nought ∷ []) (0 ∷ 0 ∷ []) nought;
}

-- the least and the greatest reward are always bounds
turning_trivially : bounds_answer_to turns (turning nought one) ≡ Yes
unfolding gcd gcd_with_fuel ratio of_int le_ℚ neg_ℚ ◌+ℚ◌ ◌*ℚ◌ narrow narrow_ℚ written_add written_mul
turning_trivially = refl

turning_more : bounds_answer_to turns (turning half one) ≡ fault BiasOnPolicy (Some 1) (Some 0)
unfolding gcd gcd_with_fuel ratio of_int le_ℚ neg_ℚ ◌+ℚ◌ ◌*ℚ◌ narrow narrow_ℚ written_add written_mul
turning_more = refl
