-- Worked texts, by computation.
use Rattle.std.proofs.Common.{◌≡◌, List, ℕ, [], ◌∷◌, ◌++◌, Some, None, Ok, refl, pos}
use Rattle.std.specs.{Prelude.{codes}, Fmt.{digits}}
use Rattle.mdp_math.specs.{Gcd.{gcd, gcd_with_fuel}, Rational.{ℚ, ratio}}
use Rattle.mdp_math.proofs.Tables.{AreEqual}
use Rattle.mdp_rows.specs.declared.dir.Dir.TheVariants.{Max, Min}
use Rattle.mdp_num.specs.{Value.{spelling}, Canonical.{canonical_of}}
use Rattle.mdp_spec.proofs.Small.{half}
use Rattle.mdp_text.specs.{declared.error.CertKind.TheVariants.{Version, Claim, Number, Shape, Count, End, Run}, Heads.{states_at}}
use Rattle.mdp_text.specs.{Lines.{refused, next_line, nothing_behind}, Spelling.{line}, Words.{words_behind, whole_of, whole_at, frac_at}}
use Rattle.mdp_cert.specs.{Cert.{reach, reward, mean}, Runs.{longest_runs}, Spelling.{run_text, run_lines}}
use Rattle.mdp_cert.specs.Reading.{claim_to, claim_of, claim_at, entry_at, state_at, run_at, longest_at, runs_from, entries_from, entries_to_end, spread_at}
use Rattle.mdp_cert.specs.{declared.init.BoundsInit.TheVariants.{Missing, Between}, BoundsCert.{Certificate, probabilities, rewards, gains}}
use Rattle.mdp_cert.specs.{BoundsSpelling.{text_of}, BoundsReading.{bounds_claim_at, between_at, init_at, head_from, body_from, outcome}}

abbrev one : ℚ
one = ratio (pos 1) 1

abbrev none : ℚ
none = ratio (pos 0) 1

abbrev two : ℚ
two = ratio (pos 2) 1

-- ---- a probability from 1/2 to 1 at state 0, of 1 at state 1, of 0 at the states 2 and 3

abbrev reached : Certificate
reached = record {
  claim = reach Max (codes "goal");
  states = 4;
  init = Between 0 (Some half) (Some one);
  body = probabilities (half ∷ one ∷ none ∷ none ∷ []) (one ∷ one ∷ none ∷ none ∷ []) (0 ∷ 0 ∷ 0 ∷ 0 ∷ []) (1 ∷ 0 ∷ 0 ∷ 0 ∷ []);
}

-- its text, with these lines of version, claim, init and states
abbrev reached-with : List ℕ → List ℕ → List ℕ → List ℕ → List ℕ
reached-with version claim init states = line version ++ line claim ++ line (codes "states 4") ++ line init ++ states ++ line (codes "end")

abbrev reached-states : List ℕ
reached-states = line (codes "state 0 1/2 1 0 1") ++ line (codes "state 1 1 1 0 0") ++ line (codes "run 2 3 0 0 0 0")

abbrev reached-text : List ℕ
reached-text = reached-with (codes "mdp-bounds 1") (codes "claim max reach \"goal\"") (codes "init 0 1/2 1") reached-states

reached-written : text_of reached ≡ reached-text
unfolding text_of run_text run_lines longest_runs spelling ratio gcd gcd_with_fuel digits
reached-written = refl

-- ---- a reward of 1 or more at state 0, of 0 at state 1

abbrev earned : Certificate
earned = record {
  claim = reward Min (codes "steps") (codes "goal");
  states = 2;
  init = Between 0 (Some one) None;
  body = rewards (Some one ∷ Some none ∷ []) (None ∷ Some none ∷ []) (3 ∷ 0 ∷ []) (1 ∷ 0 ∷ []);
}

abbrev earned-text : List ℕ
earned-text =
    line (codes "mdp-bounds 1") ++ line (codes "claim min reward \"steps\" \"goal\"") ++ line (codes "states 2") ++ line (codes "init 0 1 inf") ++ line
    (codes "state 0 1 inf 3 1") ++ line (codes "state 1 0 0 0 0") ++ line (codes "end")

earned-written : text_of earned ≡ earned-text
unfolding text_of run_text run_lines longest_runs spelling ratio gcd gcd_with_fuel digits
earned-written = refl

-- ---- a mean payoff from 1/2 to 1 at both states

abbrev paid : Certificate
paid = record {
  claim = mean Max (codes "power");
  states = 2;
  init = Missing;
  body = gains (half ∷ half ∷ []) (one ∷ one ∷ []) (none ∷ none ∷ []) (two ∷ two ∷ []) (0 ∷ 0 ∷ []) none;
}

abbrev paid-with : List ℕ → List ℕ
paid-with spread =
    line (codes "mdp-bounds 1") ++ line (codes "claim max mean \"power\"") ++ line (codes "states 2") ++ line (codes "init -") ++ line spread ++ line
    (codes "run 0 1 1/2 1 0 2 0") ++ line (codes "end")

paid-written : text_of paid ≡ paid-with (codes "spread 0")
unfolding text_of run_text run_lines longest_runs spelling ratio gcd gcd_with_fuel digits
paid-written = refl

-- ---- what texts are read as

record Read : Type 0 where
  reached-read : outcome reached-text ≡ Ok reached
  earned-read : outcome earned-text ≡ Ok earned
  paid-read : outcome (paid-with (codes "spread 0")) ≡ Ok paid

texts-read : Read
unfolding outcome next_line whole_of whole_at frac_at claim_to claim_of claim_at bounds_claim_at words_behind states_at between_at init_at head_from entry_at state_at run_at
    longest_at runs_from entries_from entries_to_end spread_at body_from nothing_behind canonical_of ratio gcd gcd_with_fuel
texts-read = record { reached-read = refl; earned-read = refl; paid-read = refl }

-- the text of the probabilities with another claim, another line `init`, or other lines of states
abbrev with-claim : List ℕ → List ℕ
with-claim claim = reached-with (codes "mdp-bounds 1") claim (codes "init 0 1/2 1") reached-states

abbrev with-init : List ℕ → List ℕ
with-init init = reached-with (codes "mdp-bounds 1") (codes "claim max reach \"goal\"") init reached-states

abbrev with-states : List ℕ → List ℕ
with-states states = reached-with (codes "mdp-bounds 1") (codes "claim max reach \"goal\"") (codes "init 0 1/2 1") states

texts-refused : AreEqual (
    (outcome (reached-with (codes "mdp-bounds 2") (codes "claim max reach \"goal\"") (codes "init 0 1/2 1") reached-states), refused Version 1) ∷  -- another version
    -- claims of certificates that are none of bounds
    (outcome (with-claim (codes "claim max witness \"goal\" 1/2")), refused Claim 2) ∷  -- witness claim
    (outcome (with-claim (codes "claim upper reach \"goal\"")), refused Claim 2) ∷  -- upper claim
    (outcome (with-init (codes "init 4 1/2 1")), refused Count 4) ∷  -- start past end
    (outcome (with-init (codes "init 0 1/2")), refused Shape 4) ∷  -- start alone
    (outcome (with-init (codes "init - 1/2")), refused Shape 4) ∷  -- none with value
    (outcome (with-init (codes "init - 1/2 1")), refused Number 4) ∷  -- none with values
    (outcome (with-init (codes "init 0 1/2 inf")), refused Number 4) ∷  -- start infinite
    -- a number comes before what it counts
    (outcome (with-init (codes "init 4 1/2 2/2")), refused Number 4) ∷  -- number before count
    (outcome (with-states (line (codes "state 0 1/2 inf 0 1"))), refused Number 5) ∷  -- state infinite
    (outcome (with-states (line (codes "state 0 1/2 0 1"))), refused Shape 5) ∷  -- one value
    (outcome (with-states (line (codes "state 1 1/2 1 0 1"))), refused Count 5) ∷  -- another state
    -- the lines of the states 0 and 1 could be one
    (outcome (with-states (line (codes "state 0 0 1 0 0") ++ line (codes "run 1 3 0 1 0 0"))), refused Run 6) ∷  -- shorter runs
    (outcome (paid-with (codes "spread inf")), refused Number 5) ∷  -- spread infinite
    (outcome (paid-with (codes "run 0 1 1/2 1 0 2 0")), refused Shape 5) ∷  -- spread missing
    (outcome (reached-text ++ 10 ∷ []), refused End 9) ∷  -- bytes behind
    []
    )
unfolding outcome next_line whole_of whole_at frac_at claim_to claim_of claim_at bounds_claim_at words_behind states_at between_at init_at head_from entry_at state_at run_at
    longest_at runs_from entries_from entries_to_end spread_at body_from nothing_behind canonical_of ratio gcd gcd_with_fuel
texts-refused = refl
