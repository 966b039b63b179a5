-- Answers, computed, on a model of three states: state 0, with the label `init`, has a loop, and a choice that goes on to 1 with 1/3 and to 2 with
-- 2/3; 1 has the label `goal`, and 2 is left nowhere.
use Rattle.std.proofs.Common.{◌≡◌, ℕ, false, List, [], ◌∷◌, refl, pos, negsuc, Option, Some, None}
use Rattle.std.specs.Prelude.{codes}
use Rattle.mdp_math.specs.{Gcd.{gcd, gcd_with_fuel}, Rational.{ℚ, of_int, ratio, lt_ℚ, neg_ℚ, ◌+ℚ◌, ◌*ℚ◌}}
use Rattle.mdp_math.specs.Written.{narrow, narrow_ℚ, written_add, written_mul, written_compare}
use Rattle.mdp_math.proofs.Tables.{AreEqual}
use Rattle.mdp_spec.specs.{Mdp.{Entry, Choice, Mdp}, Sub.{sub_of}}
use Rattle.mdp_spec.proofs.Small.{entry, half, nought, one, third}
use Rattle.mdp_rows.specs.{declared.dir.Dir.{Dir}, declared.dir.Dir.TheVariants.{Max, Min}}
use Rattle.mdp_text.specs.{declared.init.Init.{Init}, declared.init.Init.TheVariants.{Missing, Finite, Infinite, Start}}
use Rattle.mdp_cert.specs.Cert.{PlainClaim, upper, reach, until, reward, mean, witness, bounds, policy, rewards, gains, flow, floor, Certificate}
use Rattle.mdp_check.specs.{Check.{answer_to}, declared.answer.Answer.TheVariants.{Yes, No, NoReward, NoLabel, Size}}
use Rattle.mdp_claims.specs.declared.rule.Rule.TheVariants.{BoundOnEachChoice, ChoiceExists, FiniteRankFalls, FlowsReachGoals, InitialState, RankFalls}
use Rattle.mdp_claims.specs.declared.rule.Rule.TheVariants.{StartReachesThreshold}

abbrev row : List Entry → Choice
row entries = record { row = entries; rewards = [] }

abbrev pub three : Mdp
three = record {
  names = [];
  labels = codes "init" ∷ codes "goal" ∷ [];
  states =
      record { labels = 0 ∷ []; choices = row (entry 0 one ∷ []) ∷ row (entry 1 (ratio (pos 1) 3) ∷ entry 2 (ratio (pos 2) 3) ∷ []) ∷ [] }
      ∷ record { labels = 1 ∷ []; choices = row (entry 1 one ∷ []) ∷ [] }
      ∷ record { labels = []; choices = row (entry 2 one ∷ []) ∷ [] }
      ∷ [];
}

abbrev upper_of : List ℕ → Init → List ℚ → Certificate
upper_of label init values = record { claim = upper label; states = 3; init = init; body = bounds values }

upper_answers : AreEqual (
    -- 1 bounds state 0
    (answer_to three (upper_of (codes "goal") (Finite 0 one) (one ∷ one ∷ nought ∷ [])), Yes) ∷
    -- the loop alone carries the value 1 at state 0, so its rank doesn't fall
    (
      answer_to three (record { claim = reach Max (codes "goal"); states = 3; init = Finite 0 one; body = policy (one ∷ one ∷ nought ∷ []) (0 ∷ 0 ∷ 0 ∷ []) (1 ∷ 0 ∷ 0 ∷ []) }),
      No (record { rule = RankFalls; state = Some 0; choice = Some 0 }),
    ) ∷
    -- rule 1 comes before the others
    (answer_to three (upper_of (codes "goal") Missing (nought ∷ nought ∷ nought ∷ [])), No (record { rule = InitialState; state = None; choice = None })) ∷
    (answer_to three (upper_of (codes "goal") (Finite 0 nought) (one ∷ one ∷ nought ∷ [])), No (record { rule = InitialState; state = Some 0; choice = None })) ∷  -- other value
    (answer_to three (upper_of (codes "done") (Finite 0 one) (one ∷ one ∷ nought ∷ [])), NoLabel) ∷  -- no label
    -- the numbers of states come before the label
    (answer_to three (record { claim = upper (codes "done"); states = 2; init = Missing; body = bounds (one ∷ one ∷ []) }), Size) ∷
    -- a body without an entry per state stands in no certificate
    (answer_to three (upper_of (codes "goal") (Finite 0 one) (one ∷ one ∷ [])), No (record { rule = InitialState; state = None; choice = None })) ∷
    []
    )
unfolding gcd gcd_with_fuel ratio of_int ◌+ℚ◌ ◌*ℚ◌ narrow narrow_ℚ written_add written_mul written_compare lt_ℚ
upper_answers = refl

-- ---- until: by way of state 0, which has the label `init`, the goal is reached with 1/3; by way of the goal alone it isn't reached from there

abbrev way_to : List ℕ → ℚ → ℕ → Certificate
way_to stay value step =
    record { claim = until Max stay (codes "goal"); states = 3; init = Finite 0 value; body = policy (value ∷ one ∷ nought ∷ []) (step ∷ 0 ∷ 0 ∷ []) (step ∷ 0 ∷ 0 ∷ []) }

until_answers : AreEqual (
    (answer_to three (way_to (codes "init") third 1), Yes) ∷  -- by way of state 0
    -- there state 0 is left with a loop: it has no choice 1, and reaches nothing
    (answer_to three (way_to (codes "goal") third 1), No (record { rule = ChoiceExists; state = Some 0; choice = Some 1 })) ∷
    (answer_to three (way_to (codes "goal") nought 0), Yes) ∷  -- left with its loop
    (answer_to three (way_to (codes "safe") third 1), NoLabel) ∷  -- no label on the way
    []
    )
unfolding gcd gcd_with_fuel ratio of_int ◌+ℚ◌ ◌*ℚ◌ narrow narrow_ℚ written_add written_mul written_compare lt_ℚ sub_of
until_answers = refl

-- ---- rewards until a goal

-- state 0, with the label `init`, has a loop, and a choice that pays 3 and goes on to 1, the goal
abbrev paid : List Entry → ℚ → Choice
paid entries r = record { row = entries; rewards = r ∷ [] }

abbrev three_ : ℚ
three_ = of_int (pos 3)

abbrev pub two : Mdp
two = record {
  names = codes "-" ∷ [];
  labels = codes "init" ∷ codes "goal" ∷ [];
  states =
      record { labels = 0 ∷ []; choices = paid (entry 0 one ∷ []) nought ∷ paid (entry 1 one ∷ []) three_ ∷ [] }
      ∷ record { labels = 1 ∷ []; choices = paid (entry 1 one ∷ []) nought ∷ [] }
      ∷ [];
}

abbrev reward_of_two : Dir → List ℕ → Init → List (Option ℚ) → List ℕ → List ℕ → Certificate
reward_of_two dir name init values choices ranks =
    record { claim = reward dir name (codes "goal"); states = 2; init = init; body = rewards values choices ranks }

-- the least reward is 3: the loop pays nothing and doesn't arrive
least : answer_to two (reward_of_two Min (codes "-") (Finite 0 three_) (Some three_ ∷ Some nought ∷ []) (1 ∷ 0 ∷ []) (1 ∷ 0 ∷ [])) ≡ Yes
unfolding gcd gcd_with_fuel ratio of_int ◌+ℚ◌ ◌*ℚ◌ narrow narrow_ℚ written_add written_mul written_compare
least = refl

-- the greatest is infinite: the loop misses the goal
greatest : answer_to two (reward_of_two Max (codes "-") (Infinite 0) (None ∷ Some nought ∷ []) (0 ∷ 0 ∷ []) (0 ∷ 0 ∷ [])) ≡ Yes
unfolding gcd gcd_with_fuel ratio of_int ◌+ℚ◌ ◌*ℚ◌ narrow narrow_ℚ written_add written_mul written_compare
greatest = refl

reward_answers : AreEqual (
    -- and not 3
    (
      answer_to two (reward_of_two Max (codes "-") (Finite 0 three_) (Some three_ ∷ Some nought ∷ []) (1 ∷ 0 ∷ []) (1 ∷ 0 ∷ [])),
      No (record { rule = FiniteRankFalls; state = Some 0; choice = Some 0 }),
    ) ∷
    -- rule 1: an infinite value stands in the line `init` where the state's value is infinite, and only there
    (answer_to two (reward_of_two Min (codes "-") (Infinite 0) (Some three_ ∷ Some nought ∷ []) (1 ∷ 0 ∷ []) (1 ∷ 0 ∷ [])), No (record { rule = InitialState; state = Some 0; choice = None })) ∷
    -- finite init
    (answer_to two (reward_of_two Max (codes "-") (Finite 0 three_) (None ∷ Some nought ∷ []) (0 ∷ 0 ∷ []) (0 ∷ 0 ∷ [])), No (record { rule = InitialState; state = Some 0; choice = None })) ∷
    -- the reward model comes before the label, and the numbers of states before both
    (answer_to two (record { claim = reward Min (codes "costs") (codes "done"); states = 2; init = Missing; body = rewards [] [] [] }), NoReward) ∷
    (answer_to two (record { claim = reward Min (codes "-") (codes "done"); states = 2; init = Missing; body = rewards [] [] [] }), NoLabel) ∷  -- no goal
    (answer_to two (record { claim = reward Min (codes "costs") (codes "done"); states = 3; init = Missing; body = rewards [] [] [] }), Size) ∷  -- other size
    -- another claim's body stands in no certificate
    (
      answer_to two (record { claim = reward Min (codes "-") (codes "goal"); states = 2; init = Finite 0 one; body = bounds (one ∷ one ∷ []) }),
      No (record { rule = InitialState; state = None; choice = None }),
    ) ∷
    []
    )
unfolding gcd gcd_with_fuel ratio of_int ◌+ℚ◌ ◌*ℚ◌ narrow narrow_ℚ written_add written_mul written_compare
reward_answers = refl

-- ---- mean payoffs

abbrev below_half : ℚ
below_half = ratio (negsuc 0) 2

-- the states 0 and 1 lead to each other, and only the step from 0 pays: 1
abbrev pub turns : Mdp
turns = record {
  names = codes "-" ∷ [];
  labels = codes "init" ∷ [];
  states = record { labels = 0 ∷ []; choices = paid (entry 1 one ∷ []) one ∷ [] } ∷ record { labels = []; choices = paid (entry 0 one ∷ []) nought ∷ [] } ∷ [];
}

abbrev mean_of_two : List ℕ → Init → List ℚ → List ℚ → List ℚ → List ℕ → ℚ → Certificate
mean_of_two name init gain bound bias choices spread =
    record { claim = mean Max name; states = 2; init = init; body = gains gain bound bias choices spread }

mean_answers : AreEqual (
    -- so the mean payoff is 1/2; no label is asked for
    (answer_to turns (mean_of_two (codes "-") (Finite 0 half) (half ∷ half ∷ []) (nought ∷ below_half ∷ []) (nought ∷ below_half ∷ []) (0 ∷ 0 ∷ []) half), Yes) ∷
    -- another gain in the line `init`
    (
      answer_to turns (mean_of_two (codes "-") (Finite 0 one) (half ∷ half ∷ []) (nought ∷ below_half ∷ []) (nought ∷ below_half ∷ []) (0 ∷ 0 ∷ []) half),
      No (record { rule = InitialState; state = Some 0; choice = None }),
    ) ∷
    (answer_to turns (mean_of_two (codes "costs") (Finite 0 half) (half ∷ half ∷ []) (nought ∷ below_half ∷ []) (nought ∷ below_half ∷ []) (0 ∷ 0 ∷ []) half), NoReward) ∷  -- mean of none
    []
    )
unfolding gcd gcd_with_fuel ratio of_int neg_ℚ ◌+ℚ◌ ◌*ℚ◌ narrow narrow_ℚ written_add written_mul written_compare
mean_answers = refl

-- a step from 0 to 1 pays 5, and the loops pay 1: without it in the bound, the gain 1 is refused
abbrev once : Mdp
once = record {
  names = codes "-" ∷ [];
  labels = codes "init" ∷ [];
  states =
      record { labels = 0 ∷ []; choices = paid (entry 0 one ∷ []) one ∷ paid (entry 1 one ∷ []) (of_int (pos 5)) ∷ [] }
      ∷ record { labels = []; choices = paid (entry 1 one ∷ []) one ∷ [] }
      ∷ [];
}

bound_answers : AreEqual (
    (answer_to once (mean_of_two (codes "-") (Finite 0 one) (one ∷ one ∷ []) (of_int (pos 4) ∷ nought ∷ []) (nought ∷ nought ∷ []) (0 ∷ 0 ∷ []) (of_int (pos 4))), Yes) ∷  -- mean once
    -- mean without bound
    (
      answer_to once (mean_of_two (codes "-") (Finite 0 one) (one ∷ one ∷ []) (nought ∷ nought ∷ []) (nought ∷ nought ∷ []) (0 ∷ 0 ∷ []) nought),
      No (record { rule = BoundOnEachChoice; state = Some 0; choice = Some 1 }),
    ) ∷
    []
    )
unfolding gcd gcd_with_fuel ratio of_int neg_ℚ ◌+ℚ◌ ◌*ℚ◌ narrow narrow_ℚ written_add written_mul written_compare
bound_answers = refl

-- ---- subsystems of the model of three states: state 0 alone is kept

-- all that comes to state 0 takes this choice of it
abbrev one_flow : ℕ → List ℕ → Init → ℕ → ℚ → Certificate
one_flow states label init choice t =
    record { claim = witness Max None label t; states = states; init = init; body = flow (0 ∷ []) (false ∷ []) (record { state = 0; choice = choice; amount = one } ∷ []) }

flow_answers : AreEqual (
    -- choice 1 brings a third of it to the goal
    (answer_to three (one_flow 3 (codes "goal") (Start 0) 1 third), Yes) ∷
    -- and no half
    (answer_to three (one_flow 3 (codes "goal") (Start 0) 1 half), No (record { rule = FlowsReachGoals; state = None; choice = None })) ∷
    -- a choice that state 0 hasn't
    (answer_to three (one_flow 3 (codes "goal") (Start 0) 2 third), No (record { rule = ChoiceExists; state = Some 0; choice = Some 2 })) ∷
    -- the line `init` names another state
    (answer_to three (one_flow 3 (codes "goal") (Start 1) 1 third), No (record { rule = InitialState; state = Some 1; choice = None })) ∷
    (answer_to three (one_flow 2 (codes "goal") (Start 0) 1 third), Size) ∷  -- flow size
    (answer_to three (one_flow 3 (codes "done") (Start 0) 1 third), NoLabel) ∷  -- flow label
    []
    )
unfolding gcd gcd_with_fuel ratio of_int lt_ℚ ◌+ℚ◌ ◌*ℚ◌ narrow narrow_ℚ written_add written_mul written_compare
flow_answers = refl

-- a model without an initial state has no subsystem
abbrev without_init : Mdp
without_init = record three { labels = codes "start" ∷ codes "goal" ∷ [] }

flow_without_init : answer_to without_init (one_flow 3 (codes "goal") (Start 0) 1 third) ≡ No (record { rule = InitialState; state = Some 0; choice = None })
flow_without_init = refl

-- the loop at state 0 keeps a policy from the goal, so no floor above 0 falls in rank there
abbrev one_floor : ℚ → ℕ → ℚ → Certificate
one_floor value rank t =
    record { claim = witness Min None (codes "goal") t; states = 3; init = Start 0; body = floor (0 ∷ []) (false ∷ []) (value ∷ []) (rank ∷ []) }

floor_answers : AreEqual (
    (answer_to three (one_floor nought 0 nought), Yes) ∷  -- floor zero
    (answer_to three (one_floor third 1 third), No (record { rule = RankFalls; state = Some 0; choice = Some 0 })) ∷  -- floor third
    (answer_to three (one_floor nought 0 third), No (record { rule = StartReachesThreshold; state = None; choice = None })) ∷  -- floor below
    []
    )
unfolding gcd gcd_with_fuel ratio of_int lt_ℚ ◌+ℚ◌ ◌*ℚ◌ narrow narrow_ℚ written_add written_mul written_compare
floor_answers = refl

-- ---- the same by way of states with a label: where state 0 hasn't it, it is left with a loop

abbrev by_way_of : List ℕ → Certificate → Certificate
by_way_of stay c = record c { claim = by c.claim }
  where
    by : PlainClaim → PlainClaim
    by (witness dir other label t) = witness dir (Some stay) label t
    by claim = claim

until_subsystems : AreEqual (
    (answer_to three (by_way_of (codes "init") (one_flow 3 (codes "goal") (Start 0) 1 third)), Yes) ∷  -- by way of state 0
    (answer_to three (by_way_of (codes "init") (one_flow 3 (codes "goal") (Start 0) 1 half)), No (record { rule = FlowsReachGoals; state = None; choice = None })) ∷  -- and no half
    -- by way of the goal alone state 0 has no choice 1
    (answer_to three (by_way_of (codes "goal") (one_flow 3 (codes "goal") (Start 0) 1 third)), No (record { rule = ChoiceExists; state = Some 0; choice = Some 1 })) ∷
    (answer_to three (by_way_of (codes "safe") (one_flow 3 (codes "goal") (Start 0) 1 third)), NoLabel) ∷  -- no label on the way
    (answer_to three (by_way_of (codes "init") (one_flow 3 (codes "done") (Start 0) 1 third)), NoLabel) ∷  -- no label at its end
    (answer_to three (by_way_of (codes "init") (one_floor nought 0 nought)), Yes) ∷  -- floor zero
    (answer_to three (by_way_of (codes "goal") (one_floor third 1 third)), No (record { rule = RankFalls; state = Some 0; choice = Some 0 })) ∷  -- floor third
    []
    )
unfolding gcd gcd_with_fuel ratio of_int lt_ℚ ◌+ℚ◌ ◌*ℚ◌ narrow narrow_ℚ written_add written_mul written_compare sub_of
until_subsystems = refl
