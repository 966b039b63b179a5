-- Worked texts, by computation: what is written, and what is read or refused.
use Rattle.std.proofs.Common.{◌≡◌, List, ℕ, [], ◌∷◌, ◌++◌, Option, Some, None, Ok, refl, pos, true, false}
use Rattle.std.specs.{Prelude.{codes}, Fmt.{digits}}
use Rattle.mdp_math.specs.{Gcd.{gcd, gcd_with_fuel}, Rational.{ℚ, of_int, ratio, le_ℚ, lt_ℚ}}
use Rattle.mdp_math.proofs.Tables.{AreEqual}
use Rattle.mdp_rows.specs.declared.dir.Dir.TheVariants.{Max}
use Rattle.mdp_num.specs.{Value.{spelling}, Canonical.{canonical_of}}
use Rattle.mdp_spec.proofs.Small.{half}
use Rattle.mdp_text.specs.{declared.error.CertKind.TheVariants.{Version, Claim, Number, Shape, Count, End, Run}, Heads.{states_at}}
use Rattle.mdp_text.specs.{Lines.{refused, next_line, nothing_behind}, Spelling.{line}, Words.{words_behind, whole_of, whole_at, frac_at}}
use Rattle.mdp_cert.specs.{Runs.{longest_runs}, Spelling.{run_text, run_lines}}
use Rattle.mdp_cert.specs.Reading.{entry_at, state_at, run_at, longest_at, runs_from, entries_from, entries_to_end}
use Rattle.mdp_discount_text.specs.{Text.{claim_to, claim_of, claim_at, remainder_at}, BoundsSpelling.{text_of}}
use Rattle.mdp_discount_text.specs.Reading.{between_at, init_at, head_from, outcome, is_discount_claim}
use Rattle.mdp_discount_rules.specs.BoundsCert.{Certificate}

abbrev some : ℕ → Option ℚ
some n = Some (ratio (pos n) 1)

-- to wait at 0 for 1 in each step, or to move to 1, which earns 3 in each step, by factor 1/2; at 2 and 3 nothing is claimed
abbrev wait : Certificate
wait = record {
  dir = Max;
  name = codes "-";
  factor = half;
  init = Some (record { state = 0; lower = some 2; upper = None });
  remainder = ratio (pos 7) 1;
  lower = some 2 ∷ some 5 ∷ None ∷ None ∷ [];
  upper = None ∷ some 7 ∷ None ∷ None ∷ [];
  choices = 1 ∷ 0 ∷ 0 ∷ 0 ∷ [];
}

-- its text, with these lines of version, claim, init, remainder and states
abbrev wait-with : List ℕ → List ℕ → List ℕ → List ℕ → List ℕ → List ℕ
wait-with version claim init remainder states = line version ++ line claim ++ line (codes "states 4") ++ line init ++ line remainder ++ states ++ line (codes "end")

abbrev wait-states : List ℕ
wait-states = line (codes "state 0 2 inf 1") ++ line (codes "state 1 5 7 0") ++ line (codes "run 2 3 -inf inf 0")

abbrev wait-text : List ℕ
wait-text = wait-with (codes "mdp-bounds 1") (codes "claim max discount \"-\" 1/2") (codes "init 0 2 inf") (codes "remainder 7") wait-states

wait-written : text_of wait ≡ wait-text
unfolding text_of run_text run_lines longest_runs spelling ratio gcd gcd_with_fuel digits
wait-written = refl

wait-read : outcome wait-text ≡ Ok wait
unfolding outcome next_line whole_of whole_at frac_at claim_to claim_of claim_at words_behind states_at between_at init_at remainder_at head_from entry_at state_at run_at longest_at runs_from
    entries_from entries_to_end nothing_behind canonical_of of_int ratio gcd gcd_with_fuel le_ℚ lt_ℚ
wait-read = refl

-- the text with another claim, another line `init`, or other lines of states
abbrev with-claim : List ℕ → List ℕ
with-claim claim = wait-with (codes "mdp-bounds 1") claim (codes "init 0 2 inf") (codes "remainder 7") wait-states

abbrev with-init : List ℕ → List ℕ
with-init init = wait-with (codes "mdp-bounds 1") (codes "claim max discount \"-\" 1/2") init (codes "remainder 7") wait-states

abbrev with-states : List ℕ → List ℕ
with-states states = wait-with (codes "mdp-bounds 1") (codes "claim max discount \"-\" 1/2") (codes "init 0 2 inf") (codes "remainder 7") states

texts-refused : AreEqual (
    (outcome (wait-with (codes "mdp-bounds 2") (codes "claim max discount \"-\" 1/2") (codes "init 0 2 inf") (codes "remainder 7") wait-states), refused Version 1) ∷  -- another version
    -- a factor is below 1
    (outcome (with-claim (codes "claim max discount \"-\" 1")), refused Claim 2) ∷  -- factor one
    (outcome (with-init (codes "init 4 2 inf")), refused Count 4) ∷  -- start past end
    (outcome (with-init (codes "init 0 2")), refused Shape 4) ∷  -- start alone
    -- a lower value that is missing is `-inf`, an upper one `inf`
    (outcome (with-init (codes "init 0 inf inf")), refused Number 4) ∷  -- lower infinite
    (outcome (with-init (codes "init 0 2 -inf")), refused Number 4) ∷  -- upper infinite
    (outcome (wait-with (codes "mdp-bounds 1") (codes "claim max discount \"-\" 1/2") (codes "init 0 2 inf") (codes "remainder inf") wait-states), refused Number 5) ∷  -- remainder infinite
    (outcome (with-states (line (codes "state 0 2 1"))), refused Shape 6) ∷  -- one value
    (outcome (with-states (line (codes "state 1 2 inf 1"))), refused Count 6) ∷  -- another state
    -- the lines of the states 2 and 3 could be one
    -- shorter runs
    (outcome (with-states (line (codes "state 0 2 inf 1") ++ line (codes "state 1 5 7 0") ++ line (codes "state 2 -inf inf 0") ++ line (codes "state 3 -inf inf 0"))), refused Run 9) ∷
    (outcome (wait-text ++ 10 ∷ []), refused End 10) ∷  -- bytes behind
    []
    )
unfolding outcome next_line whole_of whole_at frac_at claim_to claim_of claim_at words_behind states_at between_at init_at remainder_at head_from entry_at state_at run_at longest_at runs_from
    entries_from entries_to_end nothing_behind canonical_of of_int ratio gcd gcd_with_fuel le_ℚ lt_ℚ
texts-refused = refl

-- ---- which certificates of bounds are of this kind

discount-kind : is_discount_claim wait-text ≡ true
unfolding next_line
discount-kind = refl

reach-kind : is_discount_claim (line (codes "mdp-bounds 1") ++ line (codes "claim max reach \"discount\"")) ≡ false
unfolding next_line
reach-kind = refl

no-kind : is_discount_claim (codes "claim max discount") ≡ false
unfolding next_line
no-kind = refl
