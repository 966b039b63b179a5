-- What is due to `bounds`, computed. `draw` stays at 0, or moves to 1 with 1/3 and to 2 with 2/3; 1 is the goal. Each step costs 1, which is a loss of 1.
-- `both` has two initial states. `risky` moves from 0, its one safe state, to 1, or to 1 and to the goal 2 with 1/2 each; from 1 the goal is next.
use Rattle.std.proofs.Common.{◌≡◌, ℕ, zero, suc, List, [], ◌∷◌, Ok, Err, refl, pos, Some, None, inl, arith}
use Rattle.std.specs.Prelude.{codes}
use Rattle.mdp_math.specs.{Gcd.{gcd, gcd_with_fuel}, Rational.{ℚ, of_int, ratio, neg_ℚ, le_ℚ, lt_ℚ, ◌+ℚ◌, ◌*ℚ◌}}
use Rattle.mdp_math.specs.Written.{narrow, narrow_ℚ, written_add, written_mul}
use Rattle.mdp_math.proofs.Extremes.{le_of_test}
use Rattle.mdp_spec.specs.{Mdp.{Entry, Choice, Mdp, value_at}, Sub.{sub_of}}
use Rattle.mdp_spec.proofs.Small.{entry, labelled, number, half, quarter}
use Rattle.mdp_rows.specs.declared.dir.Dir.TheVariants.{Max, Min}
use Rattle.mdp_claims.specs.declared.rule.Rule.TheVariants.{ChoiceExists, ValueOnEachChoice}
use Rattle.mdp_cert.specs.Cert as claim
use Rattle.mdp_cert.specs.Cert.{PlainClaim}
use Rattle.mdp_cert.specs.{BoundsCert.{probabilities, rewards, gains, Certificate}, declared.init.BoundsInit.TheVariants.{Missing, Between}}
use Rattle.mdp_check.specs.{Bounds.{bounds_answer_to}, declared.answer.Answer.TheVariants.{Yes, No}}
use Rattle.mdp_job.specs.{Job.{reach, until, reward, mean}, Refusal.{PlainRefusal, query_label, query_reward, query_negative, query_size}}
use Rattle.mdp_search_bounds.specs.Near.{IsNear, AreNear}
use Rattle.mdp_command_bounds_search.specs.{Certificate.{certificate_of}, Due.{claim_of, fault_of, IsBoundsDue}, Laws.{LieBetween}, Near.{IsNearOrWide}}

abbrev choice : List Entry → Choice
choice row = record { row = row; rewards = number 1 ∷ neg_ℚ (number 1) ∷ [] }

abbrev drawn : List ℕ → Mdp
drawn last = record {
  names = codes "cost" ∷ codes "gain" ∷ [];
  labels = codes "init" ∷ codes "goal" ∷ [];
  states =
      labelled (0 ∷ []) (choice (entry 0 (number 1) ∷ []) ∷ choice (entry 1 (ratio (pos 1) 3) ∷ entry 2 (ratio (pos 2) 3) ∷ []) ∷ [])
      ∷ labelled (1 ∷ []) (choice (entry 1 (number 1) ∷ []) ∷ [])
      ∷ labelled last (choice (entry 2 (number 1) ∷ []) ∷ [])
      ∷ [];
}

abbrev draw : Mdp
draw = drawn []

abbrev both : Mdp
both = drawn (0 ∷ [])

abbrev bounds : Mdp → ℚ → ℚ → Certificate
bounds m low high =
    certificate_of (claim.reach Max (codes "goal")) m
    (probabilities (low ∷ number 1 ∷ number 0 ∷ []) (high ∷ number 1 ∷ number 0 ∷ []) (1 ∷ 0 ∷ 0 ∷ []) (1 ∷ 0 ∷ 0 ∷ []))

-- the line `init` has both values of the one initial state; there is none where two states have the label
line_init : (bounds draw (ratio (pos 1) 4) (ratio (pos 1) 2)).init ≡ Between 0 (Some (ratio (pos 1) 4)) (Some (ratio (pos 1) 2))
line_init = refl

no_line_init : (bounds both (ratio (pos 1) 4) (ratio (pos 1) 2)).init ≡ Missing
no_line_init = refl

-- the greatest probability of reaching the goal from 0, 1/3, lies between 1/4 and 1/2
holds : bounds_answer_to draw (bounds draw (ratio (pos 1) 4) (ratio (pos 1) 2)) ≡ Yes
unfolding gcd gcd_with_fuel of_int ratio le_ℚ lt_ℚ ◌+ℚ◌ ◌*ℚ◌ narrow narrow_ℚ written_add written_mul
holds = refl

holds_without_init : bounds_answer_to both (bounds both (ratio (pos 1) 3) (ratio (pos 1) 3)) ≡ Yes
unfolding gcd gcd_with_fuel of_int ratio le_ℚ lt_ℚ ◌+ℚ◌ ◌*ℚ◌ narrow narrow_ℚ written_add written_mul
holds_without_init = refl

-- 0 and 1 hold of any model
says_nothing :
    bounds_answer_to draw
    (certificate_of (claim.reach Min (codes "goal")) draw
    (probabilities (number 0 ∷ number 1 ∷ number 0 ∷ []) (number 1 ∷ number 1 ∷ number 1 ∷ []) (0 ∷ 0 ∷ 0 ∷ []) (0 ∷ 0 ∷ 0 ∷ [])))
    ≡ Yes
unfolding gcd gcd_with_fuel of_int ratio le_ℚ lt_ℚ ◌+ℚ◌ ◌*ℚ◌ narrow narrow_ℚ written_add written_mul
says_nothing = refl

-- 1/4 is below the greatest probability
upper_too_small : bounds_answer_to draw (bounds draw (ratio (pos 1) 4) (ratio (pos 1) 4)) ≡ No (record { rule = ValueOnEachChoice; state = Some 0; choice = Some 1 })
unfolding gcd gcd_with_fuel of_int ratio le_ℚ lt_ℚ ◌+ℚ◌ ◌*ℚ◌ narrow narrow_ℚ written_add written_mul
upper_too_small = refl

-- the greatest cost until the goal is infinite at 0, where the policy stays, and at 2
abbrev infinite_cost : Certificate
infinite_cost =
    certificate_of (claim.reward Max (codes "cost") (codes "goal")) draw
    (rewards (None ∷ Some (number 0) ∷ None ∷ []) (None ∷ Some (number 0) ∷ None ∷ []) (0 ∷ 0 ∷ 0 ∷ []) (0 ∷ 0 ∷ 0 ∷ []))

infinite_line : infinite_cost.init ≡ Between 0 None None
infinite_line = refl

infinite_holds : bounds_answer_to draw infinite_cost ≡ Yes
unfolding gcd gcd_with_fuel of_int ratio le_ℚ lt_ℚ ◌+ℚ◌ ◌*ℚ◌ narrow narrow_ℚ written_add written_mul
infinite_holds = refl

-- each step gains -1 in the mean
loss_holds :
    bounds_answer_to draw
    (certificate_of (claim.mean Min (codes "gain")) draw
    (gains (neg_ℚ (number 1) ∷ neg_ℚ (number 1) ∷ neg_ℚ (number 1) ∷ []) (neg_ℚ (number 1) ∷ neg_ℚ (number 1) ∷ neg_ℚ (number 1) ∷ []) (number 0 ∷ number 0 ∷ number 0 ∷ [])
    (number 0 ∷ number 0 ∷ number 0 ∷ []) (0 ∷ 0 ∷ 0 ∷ []) (number 0)))
    ≡ Yes
unfolding gcd gcd_with_fuel of_int ratio neg_ℚ le_ℚ lt_ℚ ◌+ℚ◌ ◌*ℚ◌ narrow narrow_ℚ written_add written_mul
loss_holds = refl

-- ---- by way of safe states alone

abbrev moves : List Entry → Choice
moves row = record { row = row; rewards = [] }

abbrev risky : Mdp
risky = record {
  names = [];
  labels = codes "init" ∷ codes "safe" ∷ codes "goal" ∷ [];
  states =
      labelled (0 ∷ 1 ∷ []) (moves (entry 1 (number 1) ∷ []) ∷ moves (entry 1 half ∷ entry 2 half ∷ []) ∷ [])
      ∷ labelled [] (moves (entry 2 (number 1) ∷ []) ∷ [])
      ∷ labelled (2 ∷ []) (moves (entry 2 (number 1) ∷ []) ∷ [])
      ∷ [];
}

abbrev chances : PlainClaim → ℚ → ℚ → Certificate
chances claimed low high =
    certificate_of claimed risky (probabilities (low ∷ number 0 ∷ number 1 ∷ []) (high ∷ number 0 ∷ number 1 ∷ []) (1 ∷ 0 ∷ 0 ∷ []) (1 ∷ 0 ∷ 0 ∷ []))

-- the claim has both labels
safe_claim : claim_of Max (until (codes "safe") (codes "goal")) ≡ claim.until Max (codes "safe") (codes "goal")
safe_claim = refl

not_reach : claim_of Max (until (codes "safe") (codes "goal")) ≡ claim.reach Max (codes "goal") → ⊥
not_reach e = cc e

-- the line `init` is that of the model
safe_line : (chances (claim.until Max (codes "safe") (codes "goal")) quarter half).init ≡ Between 0 (Some quarter) (Some half)
safe_line = refl

-- the greatest probability of reaching the goal by way of safe states alone, 1/2, lies between 1/4 and 1/2
safe_holds : bounds_answer_to risky (chances (claim.until Max (codes "safe") (codes "goal")) quarter half) ≡ Yes
unfolding gcd gcd_with_fuel of_int ratio le_ℚ lt_ℚ ◌+ℚ◌ ◌*ℚ◌ narrow narrow_ℚ written_add written_mul sub_of
safe_holds = refl

safe_too_small : bounds_answer_to risky (chances (claim.until Max (codes "safe") (codes "goal")) quarter quarter) ≡ No (record { rule = ValueOnEachChoice; state = Some 0; choice = Some 1 })
unfolding gcd gcd_with_fuel of_int ratio le_ℚ lt_ℚ ◌+ℚ◌ ◌*ℚ◌ narrow narrow_ℚ written_add written_mul sub_of
safe_too_small = refl

-- they are no bounds of reaching the goal by any way, nor by way of states that have the goal's label
any_way : bounds_answer_to risky (chances (claim.reach Max (codes "goal")) quarter half) ≡ No (record { rule = ValueOnEachChoice; state = Some 1; choice = Some 0 })
unfolding gcd gcd_with_fuel of_int ratio le_ℚ lt_ℚ ◌+ℚ◌ ◌*ℚ◌ narrow narrow_ℚ written_add written_mul
any_way = refl

goal_way : bounds_answer_to risky (chances (claim.until Max (codes "goal") (codes "goal")) quarter half) ≡ No (record { rule = ChoiceExists; state = Some 0; choice = Some 1 })
unfolding gcd gcd_with_fuel of_int ratio le_ℚ lt_ℚ ◌+ℚ◌ ◌*ℚ◌ narrow narrow_ℚ written_add written_mul sub_of
goal_way = refl

no_rewards_between : LieBetween Max (until (codes "safe") (codes "goal")) risky (rewards [] [] [] []) → ⊥
no_rewards_between h = h

-- ---- how near the values come

-- at each of the three states
each_of_three : (low high : List ℚ) → IsNear 3 (value_at low 0) (value_at high 0) → IsNear 3 (value_at low 1) (value_at high 1) → IsNear 3 (value_at low 2) (value_at high 2) → AreNear 3 draw low high
each_of_three low high x y z zero lt = x
each_of_three low high x y z (suc zero) lt = y
each_of_three low high x y z (suc (suc zero)) lt = z
each_of_three low high x y z (suc (suc (suc s))) lt = absurd (omega (arith, lt))

-- 333/1000 and 334/1000 are three digits near
chance : IsNear 3 (ratio (pos 333) 1000) (ratio (pos 334) 1000)
unfolding gcd gcd_with_fuel ratio of_int le_ℚ neg_ℚ ◌+ℚ◌ ◌*ℚ◌
chance = le_of_test _ _ refl

certain : IsNear 3 (number 1) (number 1)
unfolding gcd gcd_with_fuel ratio of_int le_ℚ neg_ℚ ◌+ℚ◌ ◌*ℚ◌
certain = le_of_test _ _ refl

never : IsNear 3 (number 0) (number 0)
unfolding gcd gcd_with_fuel ratio of_int le_ℚ neg_ℚ ◌+ℚ◌ ◌*ℚ◌
never = le_of_test _ _ refl

abbrev lows : List ℚ
lows = ratio (pos 333) 1000 ∷ number 1 ∷ number 0 ∷ []

abbrev highs : List ℚ
highs = ratio (pos 334) 1000 ∷ number 1 ∷ number 0 ∷ []

near_goal : IsNearOrWide 3 Max (reach (codes "goal")) draw (probabilities lows highs (1 ∷ 0 ∷ 0 ∷ []) (1 ∷ 0 ∷ 0 ∷ []))
near_goal = (1, refl, inl (each_of_three lows highs chance certain never))

-- of a label that isn't there nothing is near
near_unknown : IsNearOrWide 3 Max (reach (codes "done")) draw (probabilities lows highs (1 ∷ 0 ∷ 0 ∷ []) (1 ∷ 0 ∷ 0 ∷ [])) → ⊥
near_unknown near = cc (near.1)

-- nor are rewards near where probabilities are asked for
near_rewards : IsNearOrWide 3 Max (reach (codes "goal")) draw (rewards [] [] [] []) → ⊥
near_rewards near = near

-- ---- what is due

unknown : IsBoundsDue Max (reach (codes "done")) draw (Err query_label)
unknown = refl

unknown_alone : IsBoundsDue Max (reach (codes "done")) draw (Err query_size) → ⊥
unknown_alone d = cc d

-- either label may be missing, also where the other one is there
unknown_stay : IsBoundsDue Max (until (codes "calm") (codes "goal")) risky (Err query_label)
unknown_stay = refl

unknown_goal : IsBoundsDue Min (until (codes "safe") (codes "done")) risky (Err query_label)
unknown_goal = refl

unknown_both : IsBoundsDue Max (until (codes "calm") (codes "done")) risky (Err query_label)
unknown_both = refl

unknown_stay_alone : IsBoundsDue Max (until (codes "calm") (codes "goal")) risky (Err query_size) → ⊥
unknown_stay_alone d = cc d

-- `-` is no word for any way here: it is the name of a label, which isn't there
no_dash : IsBoundsDue Max (until (codes "-") (codes "goal")) risky (Err query_label)
no_dash = refl

-- the reward's name is looked up before the label
unknown_name : IsBoundsDue Max (reward (codes "time") (codes "done")) draw (Err query_reward)
unknown_name = refl

unknown_end : IsBoundsDue Max (reward (codes "gain") (codes "done")) draw (Err query_label)
unknown_end = refl

-- a reward until a label is at least 0, one of a mean payoff may be below
below_zero : IsBoundsDue Min (reward (codes "gain") (codes "goal")) draw (Err query_negative)
unfolding of_int neg_ℚ lt_ℚ ratio gcd gcd_with_fuel
below_zero = refl

unknown_mean : IsBoundsDue Max (mean (codes "time")) draw (Err query_reward)
unknown_mean = refl

-- no refusal is due to a query that fits the model
no_refusal : (refusal : PlainRefusal) → IsBoundsDue Max (reach (codes "goal")) draw (Err refusal) → ⊥
no_refusal refusal d = cc (d.spelled)

no_until_refusal : (refusal : PlainRefusal) → IsBoundsDue Max (until (codes "safe") (codes "goal")) risky (Err refusal) → ⊥
no_until_refusal refusal d = cc (d.spelled)

no_mean_refusal : (refusal : PlainRefusal) → IsBoundsDue Max (mean (codes "gain")) draw (Err refusal) → ⊥
no_mean_refusal refusal d = cc (d.spelled)

-- ---- to which queries some text is due

-- to each that fits, as these do
fits_goal : fault_of (reach (codes "goal")) draw ≡ None
fits_goal = refl

fits_way : fault_of (until (codes "safe") (codes "goal")) risky ≡ None
fits_way = refl

fits_gain : fault_of (mean (codes "gain")) draw ≡ None
fits_gain = refl

-- and to no other
no_text : (text : List ℕ) → IsBoundsDue Max (reach (codes "done")) draw (Ok text) → ⊥
no_text text d = cc d

no_text_of_time : (text : List ℕ) → IsBoundsDue Max (mean (codes "time")) draw (Ok text) → ⊥
no_text_of_time text d = cc d

no_text_below_zero : (text : List ℕ) → IsBoundsDue Min (reward (codes "gain") (codes "goal")) draw (Ok text) → ⊥
unfolding of_int neg_ℚ lt_ℚ ratio gcd gcd_with_fuel
no_text_below_zero text d = cc d
