-- Worked texts, by computation.
use Rattle.std.proofs.Common.{◌≡◌, ℕ, true, false, List, [], ◌∷◌, ◌++◌, Some, None, Ok, refl, pos, negsuc}
use Rattle.std.specs.{Prelude.{codes}, Fmt.{digits}}
use Rattle.mdp_math.specs.{Gcd.{gcd, gcd_with_fuel}, Rational.{ℚ, ratio}}
use Rattle.mdp_math.proofs.Tables.{AreEqual}
use Rattle.mdp_rows.specs.{declared.dir.Dir.{Dir}, declared.dir.Dir.TheVariants.{Max, Min}}
use Rattle.mdp_claims.specs.declared.subsystem.Flow.{Flow}
use Rattle.mdp_num.specs.{Value.{spelling}, Canonical.{canonical_of}}
use Rattle.mdp_spec.proofs.Small.{half, quarter}
use Rattle.mdp_text.specs.{declared.init.Init.{Init}, declared.init.Init.TheVariants.{Missing, Finite, Infinite, Start}}
use Rattle.mdp_text.specs.{declared.error.CertKind.TheVariants.{Claim, Number, Shape, Count, End, Run}, Lines.{refused, next_line, nothing_behind}}
use Rattle.mdp_text.specs.{Words.{words_behind, whole_of, whole_at, frac_at}, Spelling.{line}, Heads.{states_at, given_at, valued_at, start_at}}
use Rattle.mdp_text.specs.declared.error.CertKind.TheVariants as kind
use Rattle.mdp_cert.specs.{declared.version.Version.{Version}, declared.version.Version.TheVariants.{One, Two}}
use Rattle.mdp_cert.specs.{Cert.{Certificate, upper, reach, until, reward, mean, witness, PlainBody, bounds, policy, rewards, gains, flow, floor}, Runs.{longest_runs}}
use Rattle.mdp_cert.specs.Witness.{keep_at, flow_at, flow_line_at, floor_line_at}
use Rattle.mdp_cert.specs.Spelling.{version_text, text_of, old_text_of, text_in, run_text, run_lines, listed_lines}
use Rattle.mdp_cert.specs.Reading.{outcome, version_at, claim_to, claim_of, claim_at, init_at, head_from, listed_at, listed_from, listed_to_end}
use Rattle.mdp_cert.specs.Reading.{entry_at, state_at, run_at, longest_at, runs_from, entries_from, entries_to_end, spread_at, body_from}

-- ---- an upper bound of 1 at the states 0 and 1, of 0 at state 2

abbrev one : ℚ
one = ratio (pos 1) 1

abbrev none : ℚ
none = ratio (pos 0) 1

abbrev upper_of : Init → ℕ → List ℚ → Certificate
upper_of init states values = record { claim = upper (codes "goal"); states = states; init = init; body = bounds values }

abbrev bounds-of-three : Certificate
bounds-of-three = upper_of (Finite 0 one) 3 (one ∷ one ∷ none ∷ [])

-- its text, with these first line and lines of states
abbrev bounds-with : List ℕ → List ℕ → List ℕ
bounds-with version states = line version ++ line (codes "claim upper reach \"goal\"") ++ line (codes "states 3") ++ line (codes "init 0 1") ++ states ++ line (codes "end")

abbrev in-two : List ℕ → List ℕ
in-two states = bounds-with (codes "mdp-certificate 2") states

abbrev in-one : List ℕ → List ℕ
in-one states = bounds-with (codes "mdp-certificate 1") states

abbrev one-by-one : List ℕ
one-by-one = line (codes "state 0 1") ++ line (codes "state 1 1") ++ line (codes "state 2 0")

abbrev with-run : List ℕ
with-run = line (codes "run 0 1 1") ++ line (codes "state 2 0")

bounds-written : text_of bounds-of-three ≡ in-two with-run
unfolding text_in run_text run_lines longest_runs spelling ratio gcd gcd_with_fuel digits
bounds-written = refl

bounds-written_old : old_text_of bounds-of-three ≡ in-one one-by-one
unfolding text_in run_text run_lines longest_runs spelling ratio gcd gcd_with_fuel digits
bounds-written_old = refl

-- ---- one state only

abbrev one-state : List ℕ → List ℕ
one-state version = line version ++ line (codes "claim upper reach \"goal\"") ++ line (codes "states 1") ++ line (codes "init -") ++ line (codes "state 0 1") ++ line (codes "end")

one-written : text_of (upper_of Missing 1 (one ∷ [])) ≡ one-state (codes "mdp-certificate 2")
unfolding text_in run_text run_lines longest_runs spelling ratio gcd gcd_with_fuel digits
one-written = refl

-- ---- the greatest probabilities of reaching the goal, and a policy

abbrev half-of-four : Certificate
half-of-four = record {
  claim = reach Max (codes "goal");
  states = 4;
  init = Finite 0 half;
  body = policy (half ∷ one ∷ none ∷ none ∷ []) (0 ∷ 0 ∷ 0 ∷ 0 ∷ []) (1 ∷ 0 ∷ 0 ∷ 0 ∷ []);
}

-- its text in version 2, with these first line, line of state 0 and end
abbrev half-with : List ℕ → List ℕ → List ℕ → List ℕ
half-with version state-0 end =
    line version ++ line (codes "claim max reach \"goal\"") ++ line (codes "states 4") ++ line (codes "init 0 1/2") ++ line state-0 ++ line (codes "state 1 1 0 0") ++ line
    (codes "run 2 3 0 0 0") ++ end

abbrev half-two : List ℕ → List ℕ → List ℕ
half-two state-0 end = half-with (codes "mdp-certificate 2") state-0 end

half-written : text_of half-of-four ≡ half-two (codes "state 0 1/2 0 1") (line (codes "end"))
unfolding text_in run_text run_lines longest_runs spelling ratio gcd gcd_with_fuel digits
half-written = refl

-- ---- what the texts are read as

-- read as these certificates
texts-read : AreEqual (
    (outcome (in-two with-run), Ok bounds-of-three) ∷  -- bounds read
    (outcome (in-one one-by-one), Ok bounds-of-three) ∷  -- bounds read old
    -- all states in one line
    (outcome (in-two (line (codes "run 0 2 1"))), Ok (upper_of (Finite 0 one) 3 (one ∷ one ∷ one ∷ []))) ∷  -- run of all
    (outcome (one-state (codes "mdp-certificate 2")), Ok (upper_of Missing 1 (one ∷ []))) ∷  -- one read
    (outcome (half-two (codes "state 0 1/2 0 1") (line (codes "end"))), Ok half-of-four) ∷  -- half read
    -- equal values alone are not equal words
    -- other rank
    (
      outcome (line (codes "mdp-certificate 2") ++ line (codes "claim max reach \"goal\"") ++ codes "states 2\ninit -\nstate 0 0 0 1\nstate 1 0 0 0\nend\n"),
      Ok (record { claim = reach Max (codes "goal"); states = 2; init = Missing; body = policy (none ∷ none ∷ []) (0 ∷ 0 ∷ []) (1 ∷ 0 ∷ []) }),
    ) ∷
    []
    )
unfolding outcome next_line version_at whole_of whole_at claim_to claim_of claim_at words_behind states_at given_at valued_at head_from entry_at state_at run_at longest_at
    runs_from entries_from entries_to_end body_from nothing_behind canonical_of ratio gcd gcd_with_fuel
texts-read = refl

-- refused
texts-refused : AreEqual (
    -- the lines of the states 0 and 1 could be one
    (outcome (in-two one-by-one), refused Run 6) ∷  -- shorter runs
    (outcome (in-two (line (codes "run 0 1 1") ++ line (codes "state 2 1"))), refused Run 6) ∷  -- run too short
    (outcome (in-two (line (codes "run 0 0 1") ++ line (codes "state 1 1") ++ line (codes "state 2 0"))), refused Count 5) ∷  -- run of one
    (outcome (in-two (line (codes "state 0 1") ++ line (codes "run 1 0 0"))), refused Count 6) ∷  -- run backwards
    (outcome (in-two (line (codes "run 0 3 1"))), refused Count 5) ∷  -- run past end
    (outcome (in-two (line (codes "run 1 2 1"))), refused Count 5) ∷  -- run of other state
    -- in one line a count comes before a run
    (outcome (in-two (line (codes "run 0 1 1") ++ line (codes "run 2 2 1"))), refused Count 6) ∷  -- count before run
    (outcome (in-two (line (codes "run 0 0 01"))), refused Number 5) ∷  -- number before count
    (outcome (in-two (line (codes "run 0 01"))), refused Shape 5) ∷  -- shape before number
    -- version 1 has no runs
    (outcome (in-one with-run), refused Shape 5) ∷  -- run in one
    (outcome (in-two (with-run ++ line (codes "run 3 4 0"))), refused Shape 7) ∷  -- run at end
    (outcome (half-two (codes "state 0 2/4 0 1") (line (codes "end"))), refused Number 5) ∷  -- not lowest
    (outcome (half-two (codes "state 0 1/2 0 1") []), refused End 8) ∷  -- without end
    (outcome (half-two (codes "state 0 1/2 0 1") (codes "ended")), refused End 8) ∷  -- without line feed
    (outcome (half-two (codes "state 0 1/2 0 1") (line (codes "ended"))), refused Shape 8) ∷  -- another end
    (outcome (half-two (codes "state 0 1/2 0 1") (line (codes "end") ++ 32 ∷ [])), refused End 9) ∷  -- bytes behind
    (outcome (half-with (codes "mdp-certificate 9") (codes "state 0 1/2 0 1") (line (codes "end"))), refused kind.Version 1) ∷  -- another version
    (outcome (half-two (codes "state 1 1/2 0 1") (line (codes "end"))), refused Count 5) ∷  -- another state
    []
    )
unfolding outcome next_line version_at whole_of whole_at claim_to claim_of claim_at words_behind states_at given_at valued_at head_from entry_at state_at run_at longest_at
    runs_from entries_from entries_to_end body_from nothing_behind canonical_of ratio gcd gcd_with_fuel
texts-refused = refl

-- ---- the line `init`, for 3 states

init-alone : init_at (upper (codes "goal")) 3 4 (codes "init 0") ≡ refused Shape 4
unfolding valued_at given_at words_behind
init-alone = refl

init-unnamed : init_at (upper (codes "goal")) 3 4 (codes "init - 1/2") ≡ refused Number 4
unfolding valued_at given_at words_behind whole_at whole_of canonical_of ratio gcd gcd_with_fuel
init-unnamed = refl

init-outside : init_at (upper (codes "goal")) 3 4 (codes "init 3 1/2") ≡ refused Count 4
unfolding valued_at given_at words_behind whole_at whole_of canonical_of ratio gcd gcd_with_fuel
init-outside = refl

-- ---- rewards until a goal, from the reward model `-` until the label `goal`

abbrev three : ℚ
three = ratio (pos 3) 1

abbrev four : ℚ
four = ratio (pos 4) 1

-- a text of this version and direction, with this number of states, this line `init` and these lines of states
abbrev reward-text : Version → List ℕ → List ℕ → List ℕ → List ℕ → List ℕ
reward-text v dir states init rest =
    line (version_text v) ++ line (codes "claim " ++ dir ++ codes " reward \"-\" \"goal\"") ++ line (codes "states " ++ states) ++ line (codes "init " ++ init) ++ rest ++ line (codes "end")

-- state 0 pays 3 on its way to the goal 1
abbrev least-of-two : Certificate
least-of-two = record {
  claim = reward Min (codes "-") (codes "goal");
  states = 2;
  init = Finite 0 three;
  body = rewards (Some three ∷ Some none ∷ []) (1 ∷ 0 ∷ []) (1 ∷ 0 ∷ []);
}

abbrev least-lines : Version → List ℕ
least-lines v = reward-text v (codes "min") (codes "2") (codes "0 3") (line (codes "state 0 3 1 1") ++ line (codes "state 1 0 0 0"))

-- and its greatest reward is infinite
abbrev greatest-of-two : Certificate
greatest-of-two = record {
  claim = reward Max (codes "-") (codes "goal");
  states = 2;
  init = Infinite 0;
  body = rewards (None ∷ Some none ∷ []) (0 ∷ 0 ∷ []) (0 ∷ 0 ∷ []);
}

abbrev greatest-lines : Version → List ℕ
greatest-lines v = reward-text v (codes "max") (codes "2") (codes "0 inf") (line (codes "state 0 inf 0 0") ++ line (codes "state 1 0 0 0"))

-- a state of infinite value behind a finite one
abbrev least-of-three : Certificate
least-of-three = record {
  claim = reward Min (codes "-") (codes "goal");
  states = 3;
  init = Finite 0 four;
  body = rewards (Some four ∷ None ∷ Some none ∷ []) (1 ∷ 0 ∷ 0 ∷ []) (1 ∷ 1 ∷ 0 ∷ []);
}

abbrev least-three-lines : Version → List ℕ
least-three-lines v = reward-text v (codes "min") (codes "3") (codes "0 4") (line (codes "state 0 4 1 1") ++ line (codes "state 1 inf 0 1") ++ line (codes "state 2 0 0 0"))

-- states of infinite value that say the same are one run
abbrev infinite-of-three : Certificate
infinite-of-three = record {
  claim = reward Max (codes "-") (codes "goal");
  states = 3;
  init = Infinite 1;
  body = rewards (None ∷ None ∷ Some none ∷ []) (0 ∷ 0 ∷ 0 ∷ []) (0 ∷ 0 ∷ 0 ∷ []);
}

abbrev infinite-three : Version → List ℕ → List ℕ
infinite-three v rest = reward-text v (codes "max") (codes "3") (codes "1 inf") (rest ++ line (codes "state 2 0 0 0"))

abbrev infinite-run : List ℕ
infinite-run = line (codes "run 0 1 inf 0 0")

abbrev infinite-states : List ℕ
infinite-states = line (codes "state 0 inf 0 0") ++ line (codes "state 1 inf 0 0")

rewards-written : AreEqual (
    (text_of least-of-two, least-lines Two) ∷  -- least two
    (old_text_of least-of-two, least-lines One) ∷  -- least two old
    (text_of greatest-of-two, greatest-lines Two) ∷  -- greatest two
    (old_text_of greatest-of-two, greatest-lines One) ∷  -- greatest two old
    (text_of least-of-three, least-three-lines Two) ∷  -- least three
    (old_text_of least-of-three, least-three-lines One) ∷  -- least three old
    (text_of infinite-of-three, infinite-three Two infinite-run) ∷  -- infinite
    (old_text_of infinite-of-three, infinite-three One infinite-states) ∷  -- infinite old
    []
    )
unfolding text_in run_text run_lines longest_runs spelling ratio gcd gcd_with_fuel digits
rewards-written = refl

-- a text of two states with these lines `init` and of state 0
abbrev greatest-with : List ℕ → List ℕ → List ℕ
greatest-with init state-0 = reward-text Two (codes "max") (codes "2") init (line state-0 ++ line (codes "state 1 0 0 0"))

-- and one for the claim `max reach`
abbrev reach-with : List ℕ → List ℕ → List ℕ
reach-with init state-0 =
    line (codes "mdp-certificate 2") ++ line (codes "claim max reach \"goal\"") ++ line (codes "states 2") ++ line (codes "init " ++ init) ++ line state-0 ++ line (codes "state 1 1 0 0")
    ++ line (codes "end")

rewards-read : AreEqual (
    (outcome (least-lines Two), Ok least-of-two) ∷  -- least two
    (outcome (least-lines One), Ok least-of-two) ∷  -- least two old
    (outcome (greatest-lines Two), Ok greatest-of-two) ∷  -- greatest two
    (outcome (greatest-lines One), Ok greatest-of-two) ∷  -- greatest two old
    (outcome (least-three-lines Two), Ok least-of-three) ∷  -- least three
    (outcome (least-three-lines One), Ok least-of-three) ∷  -- least three old
    (outcome (infinite-three Two infinite-run), Ok infinite-of-three) ∷  -- infinite
    (outcome (infinite-three One infinite-states), Ok infinite-of-three) ∷  -- infinite old
    -- no init
    (
      outcome (greatest-with (codes "-") (codes "state 0 inf 0 0")),
      Ok (record { claim = reward Max (codes "-") (codes "goal"); states = 2; init = Missing; body = rewards (None ∷ Some none ∷ []) (0 ∷ 0 ∷ []) (0 ∷ 0 ∷ []) }),
    ) ∷
    -- refused
    (outcome (infinite-three Two infinite-states), refused Run 6) ∷  -- run of infinite
    (outcome (infinite-three One infinite-run), refused Shape 5) ∷  -- run in one
    (outcome (greatest-with (codes "0 inf") (codes "state 0 Inf 0 0")), refused Number 5) ∷  -- another word
    (outcome (greatest-with (codes "0 inf") (codes "state 0 -inf 0 0")), refused Number 5) ∷  -- below zero
    (outcome (greatest-with (codes "0 inf") (codes "state 0 inf 0")), refused Shape 5) ∷  -- without rank
    (outcome (greatest-with (codes "0 inf") (codes "state 0 inf inf 0")), refused Number 5) ∷  -- infinite choice
    (outcome (greatest-with (codes "0 infinite") (codes "state 0 inf 0 0")), refused Number 4) ∷  -- another init
    (outcome (greatest-with (codes "2 inf") (codes "state 0 inf 0 0")), refused Count 4) ∷  -- init outside
    (outcome (greatest-with (codes "inf") (codes "state 0 inf 0 0")), refused Shape 4) ∷  -- init alone
    (outcome (greatest-with (codes "- inf") (codes "state 0 inf 0 0")), refused Number 4) ∷  -- init unnamed
    -- a probability isn't infinite
    (outcome (reach-with (codes "0 inf") (codes "state 0 1 0 1")), refused Number 4) ∷  -- reach init
    (outcome (reach-with (codes "0 1") (codes "state 0 inf 0 1")), refused Number 5) ∷  -- reach state
    []
    )
unfolding outcome next_line version_at whole_of whole_at claim_to claim_of claim_at words_behind states_at given_at valued_at head_from entry_at state_at run_at longest_at
    runs_from entries_from entries_to_end body_from nothing_behind canonical_of ratio gcd gcd_with_fuel
rewards-read = refl

-- ---- mean payoffs of the reward model `-`

abbrev five : ℚ
five = ratio (pos 5) 1

abbrev below-half : ℚ
below-half = ratio (negsuc 0) 2

abbrev below-two : ℚ
below-two = ratio (negsuc 1) 1

abbrev twice : ℚ
twice = ratio (pos 2) 1

abbrev means-of : ℕ → ℚ → List ℚ → List ℚ → List ℚ → List ℕ → ℚ → Certificate
means-of states value gain bound bias choices spread =
    record { claim = mean Max (codes "-"); states = states; init = Finite 0 value; body = gains gain bound bias choices spread }

-- a text of this version, with this number of states, these words of the line `init`, and these lines behind it
abbrev mean-text : Version → List ℕ → List ℕ → List ℕ → List ℕ
mean-text v states init rest =
    line (version_text v) ++ line (codes "claim max mean \"-\"") ++ line (codes "states " ++ states) ++ line (codes "init " ++ init) ++ rest ++ line (codes "end")

-- two states that lead to each other, of which one pays 1
abbrev turns : Certificate
turns = means-of 2 half (half ∷ half ∷ []) (none ∷ below-half ∷ []) (none ∷ below-half ∷ []) (0 ∷ 0 ∷ []) half

abbrev turn-lines : Version → List ℕ
turn-lines v = mean-text v (codes "2") (codes "0 1/2") (line (codes "spread 1/2") ++ line (codes "state 0 1/2 0 0 0") ++ line (codes "state 1 1/2 -1/2 -1/2 0"))

-- three states of different gains
abbrev ends : Certificate
ends = means-of 3 twice (twice ∷ four ∷ none ∷ []) (none ∷ none ∷ none ∷ []) (below-two ∷ none ∷ none ∷ []) (1 ∷ 0 ∷ 0 ∷ []) twice

abbrev end-lines : Version → List ℕ
end-lines v = mean-text v (codes "3") (codes "0 2") (line (codes "spread 2") ++ line (codes "state 0 2 0 -2 1") ++ line (codes "state 1 4 0 0 0") ++ line (codes "state 2 0 0 0 0"))

-- a step that pays more, once
abbrev once : Certificate
once = means-of 2 one (one ∷ one ∷ []) (four ∷ none ∷ []) (none ∷ none ∷ []) (0 ∷ 0 ∷ []) four

abbrev once-lines : Version → List ℕ
once-lines v = mean-text v (codes "2") (codes "0 1") (line (codes "spread 4") ++ line (codes "state 0 1 4 0 0") ++ line (codes "state 1 1 0 0 0"))

-- states that say the same
abbrev alike : Certificate
alike = means-of 3 five (five ∷ five ∷ five ∷ []) (none ∷ none ∷ none ∷ []) (none ∷ none ∷ none ∷ []) (0 ∷ 0 ∷ 0 ∷ []) none

abbrev alike-lines : Version → List ℕ → List ℕ
alike-lines v rest = mean-text v (codes "3") (codes "0 5") (line (codes "spread 0") ++ rest)

abbrev alike-states : List ℕ
alike-states = line (codes "state 0 5 0 0 0") ++ line (codes "state 1 5 0 0 0") ++ line (codes "state 2 5 0 0 0")

means-written : AreEqual (
    (text_of turns, turn-lines Two) ∷  -- turns two
    (old_text_of turns, turn-lines One) ∷  -- turns one
    (text_of ends, end-lines Two) ∷  -- ends two
    (old_text_of ends, end-lines One) ∷  -- ends one
    (text_of once, once-lines Two) ∷  -- once two
    (old_text_of once, once-lines One) ∷  -- once one
    (text_of alike, alike-lines Two (line (codes "run 0 2 5 0 0 0"))) ∷  -- alike two
    (old_text_of alike, alike-lines One alike-states) ∷  -- alike one
    []
    )
unfolding text_in run_text run_lines longest_runs spelling ratio gcd gcd_with_fuel digits
means-written = refl

-- a text of one state, with these lines behind the line `states`
abbrev one-mean : List ℕ → List ℕ
one-mean rest = line (version_text Two) ++ line (codes "claim max mean \"-\"") ++ line (codes "states 1") ++ rest

means-read : AreEqual (
    (outcome (turn-lines Two), Ok turns) ∷  -- turns two
    (outcome (turn-lines One), Ok turns) ∷  -- turns one
    (outcome (end-lines Two), Ok ends) ∷  -- ends two
    (outcome (end-lines One), Ok ends) ∷  -- ends one
    (outcome (once-lines Two), Ok once) ∷  -- once two
    (outcome (once-lines One), Ok once) ∷  -- once one
    (outcome (alike-lines Two (line (codes "run 0 2 5 0 0 0"))), Ok alike) ∷  -- alike two
    (outcome (alike-lines One alike-states), Ok alike) ∷  -- alike one
    -- refused
    (outcome (alike-lines Two alike-states), refused Run 7) ∷  -- equal states
    (outcome (one-mean (line (codes "init 0 1") ++ line (codes "state 0 1 0 0 0") ++ line (codes "end"))), refused Shape 5) ∷  -- no spread
    (outcome (one-mean (line (codes "init 0 1") ++ line (codes "spread") ++ line (codes "state 0 1 0 0 0") ++ line (codes "end"))), refused Shape 5) ∷  -- spread alone
    (outcome (one-mean (line (codes "init 0 1") ++ line (codes "spread 0/1") ++ line (codes "state 0 1 0 0 0") ++ line (codes "end"))), refused Number 5) ∷  -- spread unreduced
    (outcome (one-mean (line (codes "init 0 1") ++ line (codes "spread inf") ++ line (codes "state 0 1 0 0 0") ++ line (codes "end"))), refused Number 5) ∷  -- spread infinite
    (outcome (one-mean (line (codes "init 0 1") ++ line (codes "spread 0") ++ line (codes "spread 0") ++ line (codes "state 0 1 0 0 0") ++ line (codes "end"))), refused Shape 6) ∷  -- spread twice
    (outcome (one-mean (line (codes "init 0 1") ++ codes "spread 0")), refused End 5) ∷  -- spread last
    (outcome (one-mean (line (codes "init 0 1") ++ line (codes "spread 0") ++ line (codes "state 0 1 0 0") ++ line (codes "end"))), refused Shape 6) ∷  -- no bias
    (outcome (one-mean (line (codes "init 0 1") ++ line (codes "spread 0") ++ line (codes "state 0 inf 0 0 0") ++ line (codes "end"))), refused Number 6) ∷  -- infinite gain
    (outcome (one-mean (line (codes "init 0 inf") ++ line (codes "spread 0") ++ line (codes "state 0 1 0 0 0") ++ line (codes "end"))), refused Number 4) ∷  -- infinite init
    -- a line that is due to mean payoffs alone
    (outcome (reward-text Two (codes "min") (codes "1") (codes "0 0") (line (codes "spread 0") ++ line (codes "state 0 0 0 0"))), refused Shape 5) ∷  -- spread of reward
    []
    )
unfolding outcome next_line version_at whole_of whole_at frac_at claim_to claim_of claim_at words_behind states_at given_at valued_at head_from entry_at state_at run_at longest_at
    runs_from entries_from entries_to_end spread_at body_from nothing_behind canonical_of ratio gcd gcd_with_fuel
means-read = refl

-- ---- the line of a claim

claims-read : AreEqual (
    (claim_at 2 (codes "claim min mean \"my costs\""), Ok (mean Min (codes "my costs"))) ∷  -- one name
    (claim_at 2 (codes "claim min reward \"my costs\" \"is done\""), Ok (reward Min (codes "my costs") (codes "is done"))) ∷  -- both names
    (claim_at 2 (codes "claim max until \"is safe\" \"is done\""), Ok (until Max (codes "is safe") (codes "is done"))) ∷  -- both labels
    -- refused
    (claim_at 2 (codes "claim max reward \"-\""), refused Claim 2) ∷  -- label missing
    (claim_at 2 (codes "claim max until \"safe\""), refused Claim 2) ∷  -- one label
    (claim_at 2 (codes "claim max until \"safe\" \"done\" 3"), refused Claim 2) ∷  -- steps
    (claim_at 2 (codes "claim upper until \"safe\" \"done\""), refused Claim 2) ∷  -- upper until
    (claim_at 2 (codes "claim max reward \"-\"\"goal\""), refused Claim 2) ∷  -- no blank
    (claim_at 2 (codes "claim max reward \"-\"  \"goal\""), refused Claim 2) ∷  -- two blanks
    (claim_at 2 (codes "claim max reward \"\" \"goal\""), refused Claim 2) ∷  -- no name
    (claim_at 2 (codes "claim max reward \"a\"b\" \"goal\""), refused Claim 2) ∷  -- quote in name
    (claim_at 2 (codes "claim max reward \"a\" \"b\" \"goal\""), refused Claim 2) ∷  -- three names
    (claim_at 2 (codes "claim max reward \"-\" \"goal"), refused Claim 2) ∷  -- open label
    (claim_at 2 (codes "claim upper reward \"-\" \"goal\""), refused Claim 2) ∷  -- upper reward
    (claim_at 2 (codes "claim max mean \"-\" \"goal\""), refused Claim 2) ∷  -- label of mean
    (claim_at 2 (codes "claim upper mean \"-\""), refused Claim 2) ∷  -- upper mean
    -- a claim that isn't known
    (claim_at 2 (codes "claim max survival \"goal\""), refused Claim 2) ∷  -- unknown
    -- a subsystem by way of states with a label, and one for the label `until`
    (claim_at 2 (codes "claim max witness until \"safe\" \"goal\" 1/4"), Ok (witness Max (Some (codes "safe")) (codes "goal") quarter)) ∷  -- until max
    (claim_at 2 (codes "claim min witness until \"safe\" \"goal\" 1/4"), Ok (witness Min (Some (codes "safe")) (codes "goal") quarter)) ∷  -- until min
    (claim_at 2 (codes "claim max witness \"until\" 1/4"), Ok (witness Max None (codes "until") quarter)) ∷  -- label until
    (claim_at 2 (codes "claim max witness until \"safe\" 1/4"), refused Claim 2) ∷  -- one name
    (claim_at 2 (codes "claim max witness until \"safe\" \"goal\""), refused Claim 2) ∷  -- no threshold behind two
    (claim_at 2 (codes "claim max witness \"safe\" \"goal\" 1/4"), refused Claim 2) ∷  -- two names without until
    (claim_at 2 (codes "claim max witness until \"safe\" \"goal\" -1/4"), refused Claim 2) ∷  -- below zero behind two
    (claim_at 2 (codes "claim max witness until \"\" \"goal\" 1/4"), refused Claim 2) ∷  -- no name first
    []
    )
unfolding claim_at claim_of claim_to canonical_of ratio gcd gcd_with_fuel
claims-read = refl

-- ---- subsystems: of four states 0 and 2 are kept

abbrev witness-of : Dir → ℚ → PlainBody → Certificate
witness-of dir t body = record { claim = witness dir None (codes "goal") t; states = 4; init = Start 0; body = body }

abbrev sent : ℕ → ℕ → ℚ → Flow
sent state choice amount = record { state = state; choice = choice; amount = amount }

abbrev two-kept : Certificate
two-kept = witness-of Max quarter (flow (0 ∷ 2 ∷ []) (false ∷ true ∷ []) (sent 0 0 half ∷ sent 0 1 half ∷ sent 2 0 one ∷ []))

abbrev two-floors : Certificate
two-floors = witness-of Min quarter (floor (0 ∷ 2 ∷ []) (false ∷ true ∷ []) (half ∷ one ∷ []) (2 ∷ 1 ∷ []))

-- the same by way of states with the label `safe`
abbrev two-safe : Certificate
two-safe = record two-kept { claim = witness Max (Some (codes "safe")) (codes "goal") quarter }

-- a text with this line of the claim, this line `init` and these lines behind it
abbrev witness-text : Version → List ℕ → List ℕ → List ℕ → List ℕ
witness-text v claim init lines = line (version_text v) ++ line (codes "claim " ++ claim) ++ line (codes "states 4") ++ line (codes "init " ++ init) ++ lines

abbrev kept-lines : List ℕ
kept-lines = line (codes "keep 0 kept") ++ line (codes "keep 2 wide")

abbrev flows-lines : List ℕ
flows-lines = line (codes "flow 0 0 1/2") ++ line (codes "flow 0 1 1/2") ++ line (codes "flow 2 0 1")

abbrev end-line : List ℕ
end-line = line (codes "end")

abbrev for-max : List ℕ → List ℕ
for-max lines = witness-text Two (codes "max witness \"goal\" 1/4") (codes "0") lines

abbrev floors-lines : List ℕ
floors-lines = line (codes "keep 0 1/2 2 kept") ++ line (codes "keep 2 1 1 wide")

abbrev for-min : List ℕ → List ℕ
for-min lines = witness-text Two (codes "min witness \"goal\" 1/4") (codes "0") lines

-- both versions differ in the first line alone
record WitnessesWritten : Type 0 where
  flows-two : text_of two-kept ≡ for-max (kept-lines ++ flows-lines ++ end-line)
  flows-one : old_text_of two-kept ≡ witness-text One (codes "max witness \"goal\" 1/4") (codes "0") (kept-lines ++ flows-lines ++ end-line)
  floors-two : text_of two-floors ≡ for-min (floors-lines ++ end-line)
  -- and by way of some states in the line of the claim
  safe-two : text_of two-safe ≡ witness-text Two (codes "max witness until \"safe\" \"goal\" 1/4") (codes "0") (kept-lines ++ flows-lines ++ end-line)

witnesses-written : WitnessesWritten
unfolding text_in listed_lines spelling ratio gcd gcd_with_fuel digits
witnesses-written = record { flows-two = refl; flows-one = refl; floors-two = refl; safe-two = refl }

witnesses-read : AreEqual (
    (outcome (for-max (kept-lines ++ flows-lines ++ end-line)), Ok two-kept) ∷  -- flows two
    (outcome (witness-text One (codes "max witness \"goal\" 1/4") (codes "0") (kept-lines ++ flows-lines ++ end-line)), Ok two-kept) ∷  -- flows one
    (outcome (for-min (floors-lines ++ end-line)), Ok two-floors) ∷  -- floors two
    (outcome (witness-text Two (codes "max witness until \"safe\" \"goal\" 1/4") (codes "0") (kept-lines ++ flows-lines ++ end-line)), Ok two-safe) ∷  -- safe two
    -- no state is kept
    (outcome (witness-text Two (codes "max witness \"goal\" 0") (codes "0") end-line), Ok (witness-of Max none (flow [] [] []))) ∷  -- none kept
    -- refused: the line of the claim
    (outcome (witness-text Two (codes "max witness \"goal\" -1/4") (codes "0") end-line), refused Claim 2) ∷  -- below zero
    (outcome (witness-text Two (codes "max witness \"goal\"") (codes "0") end-line), refused Claim 2) ∷  -- no threshold
    (outcome (witness-text Two (codes "min witness \"goal\" 2/4") (codes "0") end-line), refused Claim 2) ∷  -- threshold unreduced
    -- the line `init`
    (outcome (witness-text Two (codes "max witness \"goal\" 1/4") (codes "0 1/4") end-line), refused Shape 4) ∷  -- init with value
    (outcome (witness-text Two (codes "max witness \"goal\" 1/4") (codes "-") end-line), refused Number 4) ∷  -- init missing
    (outcome (witness-text Two (codes "max witness \"goal\" 1/4") (codes "4") end-line), refused Count 4) ∷  -- init past end
    (outcome (witness-text Two (codes "max reach \"goal\"") (codes "0") end-line), refused Shape 4) ∷  -- init of reach
    -- kept states
    (outcome (for-max (line (codes "keep 2 kept") ++ line (codes "keep 2 kept") ++ end-line)), refused Count 6) ∷  -- kept twice
    (outcome (for-max (line (codes "keep 4 kept") ++ end-line)), refused Count 5) ∷  -- kept past end
    (outcome (for-max (line (codes "keep 04 held") ++ end-line)), refused Shape 5) ∷  -- wrong mark
    (outcome (for-max (line (codes "keep 04 kept") ++ end-line)), refused Number 5) ∷  -- kept not number
    (outcome (for-max (line (codes "keep 0 kept") ++ line (codes "flow 0 0 1") ++ line (codes "keep 2 kept") ++ end-line)), refused Shape 7) ∷  -- kept behind flow
    -- flows; whether the flow's state is kept is a rule for the checker
    (outcome (for-max (line (codes "flow 0 1 1") ++ line (codes "flow 0 1 1") ++ end-line)), refused Count 6) ∷  -- flow twice
    (outcome (for-max (line (codes "flow 2 0 1") ++ line (codes "flow 0 1 1") ++ end-line)), refused Count 6) ∷  -- flow back
    (outcome (for-max (line (codes "flow 4 0 1") ++ end-line)), refused Count 5) ∷  -- flow past end
    (outcome (for-max (line (codes "flow 4 0 2/4") ++ end-line)), refused Number 5) ∷  -- flow unreduced
    (outcome (for-min (line (codes "flow 0 0 1") ++ end-line)), refused Shape 5) ∷  -- flow of min
    -- lines of other claims
    (outcome (for-max (line (codes "state 0 1") ++ end-line)), refused Shape 5) ∷  -- state line
    (outcome (for-min (line (codes "run 0 1 1") ++ end-line)), refused Shape 5) ∷  -- run line
    -- the line `end`
    (outcome (for-max kept-lines), refused End 7) ∷  -- end missing
    (outcome (for-max (line (codes "end 0"))), refused Shape 5) ∷  -- end with word
    (outcome (for-min (floors-lines ++ end-line ++ end-line)), refused End 8) ∷  -- bytes behind
    -- floors
    (outcome (for-min (line (codes "keep 0 kept") ++ end-line)), refused Shape 5) ∷  -- floor without value
    (outcome (for-min (line (codes "keep 0 2/4 0 kept") ++ end-line)), refused Number 5) ∷  -- floor unreduced
    (outcome (for-min (line (codes "keep 2 1 0 kept") ++ line (codes "keep 0 1 0 kept") ++ end-line)), refused Count 6) ∷  -- floor back
    []
    )
unfolding outcome next_line version_at whole_of whole_at frac_at claim_to claim_of claim_at words_behind states_at start_at given_at valued_at head_from keep_at flow_at flow_line_at
    floor_line_at listed_at listed_from listed_to_end body_from nothing_behind canonical_of ratio gcd gcd_with_fuel
witnesses-read = refl
