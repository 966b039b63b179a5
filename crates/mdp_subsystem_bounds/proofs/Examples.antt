-- Answers, computed, on a model of four states: state 0, with the label `init`, has a choice that goes on to 1 or 2 with 1/2 each, and one that goes on to 3
-- with 1/3 and to 2 with 2/3; 1 goes on to 2 or 3 with 1/2 each; 2 goes on to 3; 3 has the label `goal`. The states 0 and 1 have the label `stay`.
use Rattle.std.proofs.Common.{ℕ, ◌+◌, ◌^◌, List, [], ◌∷◌, refl, pos, Option, Some, None}
use Rattle.std.specs.Prelude.{codes}
use Rattle.mdp_math.specs.{Gcd.{gcd, gcd_with_fuel}, Rational.{ℚ, of_int, ratio, le_ℚ, lt_ℚ, ◌+ℚ◌, ◌*ℚ◌}}
use Rattle.mdp_math.specs.Written.{narrow, narrow_ℚ, written_add, written_mul}
use Rattle.mdp_math.proofs.Tables.{AreEqual}
use Rattle.mdp_spec.specs.{Mdp.{Mdp}, Sub.{sub_of}}
use Rattle.mdp_spec.proofs.Small.{entry, choice, labelled, half, third, two_thirds, quarter, three_quarters, nought, one}
use Rattle.mdp_rows.specs.{declared.dir.Dir.{Dir}, declared.dir.Dir.TheVariants.{Max, Min}}
use Rattle.mdp_claims.specs.{declared.rule.Rule.{Rule}, declared.rule.Rule.TheVariants.{ChoiceExists, InitialState, RankFalls, StartReachesThreshold, ValueOnEachChoice, ValueOnPolicy}}
use Rattle.mdp_check.specs.{declared.answer.Answer.{Answer}, declared.answer.Answer.TheVariants.{Yes, No, Wide, NoLabel, Size}}
use Rattle.mdp_subsystem_bounds.specs.{declared.mark.Mark.{Mark}, declared.mark.Mark.TheVariants.{Out, Kept, Open}}
use Rattle.mdp_subsystem_bounds.specs.{Cert.{SubsystemClaim, Lists, Certificate}, Check.{answer_to}}

abbrev pub four : Mdp
four = record {
  names = [];
  labels = codes "init" ∷ codes "goal" ∷ codes "stay" ∷ [];
  states =
      labelled (0 ∷ 2 ∷ []) (choice (entry 1 half ∷ entry 2 half ∷ []) ∷ choice (entry 2 two_thirds ∷ entry 3 third ∷ []) ∷ [])
      ∷ labelled (2 ∷ []) (choice (entry 2 half ∷ entry 3 half ∷ []) ∷ [])
      ∷ labelled [] (choice (entry 3 one ∷ []) ∷ [])
      ∷ labelled (1 ∷ []) (choice (entry 3 one ∷ []) ∷ [])
      ∷ [];
}

abbrev pub claim_of : Dir → ℚ → SubsystemClaim
claim_of dir threshold = record { dir = dir; stay = None; label = codes "goal"; threshold = threshold }

-- the states 0 and 1 are kept: from 0 the choice 0 comes to the goal with 1/4
abbrev pub kept_lists : Lists
kept_lists = record {
  lower = quarter ∷ half ∷ nought ∷ one ∷ [];
  choices = 0 ∷ 0 ∷ 0 ∷ 0 ∷ [];
  ranks = 2 ∷ 1 ∷ 0 ∷ 0 ∷ [];
  marks = Kept ∷ Open ∷ Out ∷ Out ∷ [];
}

abbrev pub quarter_kept : Certificate
quarter_kept = record { claim = claim_of Max quarter; start = 0; lists = kept_lists }

-- the same with another claim, and with other lower values, choices, ranks and marks
abbrev claimed : SubsystemClaim → Certificate
claimed claim = record quarter_kept { claim = claim }

abbrev with_lower : Dir → ℚ → ℚ → ℚ → Certificate
with_lower dir first second third_one = record {
  claim = claim_of dir quarter;
  start = 0;
  lists = record kept_lists { lower = first ∷ second ∷ third_one ∷ one ∷ [] };
}

abbrev with_choice : ℕ → Certificate
with_choice first = record quarter_kept { lists = record kept_lists { choices = first ∷ 0 ∷ 0 ∷ 0 ∷ [] } }

abbrev with_marks : Mark → Mark → Certificate
with_marks first second = record quarter_kept { lists = record kept_lists { marks = first ∷ second ∷ Out ∷ Out ∷ [] } }

abbrev by_way : List ℕ → Certificate
by_way stay = claimed (record { dir = Max; stay = Some stay; label = codes "goal"; threshold = quarter })

abbrev fault : Rule → Option ℕ → Option ℕ → Answer
fault rule state c = No (record { rule = rule; state = state; choice = c })

answers : AreEqual (
    (answer_to four quarter_kept, Yes) ∷
    (answer_to four (claimed (claim_of Min quarter)), Yes) ∷  -- each choice at 0 comes to 1/4
    (answer_to four (claimed (claim_of Max nought)), Yes) ∷
    -- the values don't come to 1/3, and values that do are none
    (answer_to four (claimed (claim_of Max third)), fault StartReachesThreshold None None) ∷
    (answer_to four (with_lower Max quarter three_quarters nought), fault ValueOnPolicy (Some 1) (Some 0)) ∷
    (answer_to four (with_lower Min third half nought), fault ValueOnEachChoice (Some 0) (Some 0)) ∷
    -- state 2 isn't kept: its loop carries any value, but no rank falls on it
    (answer_to four (with_lower Max quarter half one), fault RankFalls (Some 2) (Some 0)) ∷
    -- nor is state 1, where its mark says so; and where 0 isn't, it has one choice alone
    (answer_to four (with_marks Kept Out), fault RankFalls (Some 1) (Some 0)) ∷
    (answer_to four (with_marks Out Kept), fault RankFalls (Some 0) (Some 0)) ∷
    (answer_to four (with_choice 2), fault ChoiceExists (Some 0) (Some 2)) ∷
    -- a half of the value at 2 has a denominator past width
    (answer_to four (with_lower Max quarter half (ratio (pos 1) (2 ^ 126 + 1))), Wide (Some 0) (Some 0)) ∷
    -- by way of the states that are kept, and by way of the goal alone
    (answer_to four (by_way (codes "stay")), Yes) ∷
    (answer_to four (by_way (codes "goal")), fault RankFalls (Some 0) (Some 0)) ∷
    -- a label that the model hasn't, another initial state, another number of states
    (answer_to four (by_way (codes "safe")), NoLabel) ∷
    (answer_to four (claimed (record { dir = Max; stay = None; label = codes "end"; threshold = quarter })), NoLabel) ∷
    (answer_to four (record quarter_kept { start = 1 }), fault InitialState (Some 1) None) ∷
    (answer_to four (record quarter_kept { lists = record kept_lists { lower = quarter ∷ half ∷ one ∷ [] } }), Size) ∷
    []
    )
unfolding sub_of gcd gcd_with_fuel ratio of_int le_ℚ lt_ℚ ◌+ℚ◌ ◌*ℚ◌ narrow narrow_ℚ written_add written_mul
answers = refl
