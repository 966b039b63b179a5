-- Worked texts, by computation: what is written, and what is read or refused.
use Rattle.std.proofs.Common.{◌≡◌, ℕ, List, [], ◌∷◌, ◌++◌, Option, Some, None, Ok, refl, pos, true, false}
use Rattle.std.specs.{Prelude.{codes}, Fmt.{digits}}
use Rattle.mdp_math.specs.{Gcd.{gcd, gcd_with_fuel}, Rational.{ℚ, ratio}}
use Rattle.mdp_math.proofs.Tables.{AreEqual}
use Rattle.mdp_rows.specs.{declared.dir.Dir.{Dir}, declared.dir.Dir.TheVariants.{Max, Min}}
use Rattle.mdp_num.specs.{Value.{spelling}, Canonical.{canonical_of}}
use Rattle.mdp_text.specs.{declared.error.CertKind.TheVariants.{Version, Claim, Number, Shape, Count, End, Run}, Heads.{states_at, start_at}}
use Rattle.mdp_text.specs.{Lines.{refused, next_line, nothing_behind}, Spelling.{line}, Words.{words_behind, whole_of, whole_at}}
use Rattle.mdp_cert.specs.{Runs.{longest_runs}, Spelling.{run_text, run_lines}}
use Rattle.mdp_cert.specs.Reading.{claim_to, claim_of, claim_at, entry_at, state_at, run_at, longest_at, runs_from, entries_from, entries_to_end}
use Rattle.mdp_subsystem_bounds.specs.{declared.mark.Mark.TheVariants.{Out, Kept, Open}, Cert.{Certificate}, Spelling.{text_of}}
use Rattle.mdp_subsystem_bounds.specs.Reading.{subsystem_at, head_from, lists_from, outcome, is_subsystem_claim}

abbrev over_one : ℕ → ℚ
over_one n = ratio (pos n) 1

-- of four states, whose goal is state 3, the states 0 and 1 are kept; without 1 the threshold wasn't shown to be missed
abbrev kept-of : Dir → Option (List ℕ) → Certificate
kept-of dir stay = record {
  claim = record { dir = dir; stay = stay; label = codes "goal"; threshold = ratio (pos 1) 4 };
  start = 0;
  lists = record {
    lower = ratio (pos 1) 4 ∷ ratio (pos 1) 2 ∷ over_one 0 ∷ over_one 1 ∷ [];
    choices = 0 ∷ 0 ∷ 0 ∷ 0 ∷ [];
    ranks = 2 ∷ 1 ∷ 0 ∷ 0 ∷ [];
    marks = Kept ∷ Open ∷ Out ∷ Out ∷ [];
  };
}

-- a text with these lines of version, claim, init and states
abbrev text-with : List ℕ → List ℕ → List ℕ → List ℕ → List ℕ
text-with version claim init states = line version ++ line claim ++ line (codes "states 4") ++ line init ++ states ++ line (codes "end")

abbrev led-states : List ℕ
led-states = line (codes "state 0 1/4 0 2 kept") ++ line (codes "state 1 1/2 0 1 open") ++ line (codes "state 2 0 0 0 -") ++ line (codes "state 3 1 0 0 -")

abbrev ranked-states : List ℕ
ranked-states = line (codes "state 0 1/4 2 kept") ++ line (codes "state 1 1/2 1 open") ++ line (codes "state 2 0 0 -") ++ line (codes "state 3 1 0 -")

abbrev with-claim : List ℕ → List ℕ → List ℕ
with-claim claim states = text-with (codes "mdp-bounds 1") claim (codes "init 0") states

abbrev max-text : List ℕ
max-text = with-claim (codes "claim max witness \"goal\" 1/4") led-states

abbrev min-text : List ℕ
min-text = with-claim (codes "claim min witness \"goal\" 1/4") ranked-states

abbrev until-text : List ℕ
until-text = with-claim (codes "claim max witness until \"stay\" \"goal\" 1/4") led-states

max-written : text_of (kept-of Max None) ≡ max-text
unfolding text_of run_text run_lines longest_runs spelling ratio gcd gcd_with_fuel digits
max-written = refl

min-written : text_of (kept-of Min None) ≡ min-text
unfolding text_of run_text run_lines longest_runs spelling ratio gcd gcd_with_fuel digits
min-written = refl

until-written : text_of (kept-of Max (Some (codes "stay"))) ≡ until-text
unfolding text_of run_text run_lines longest_runs spelling ratio gcd gcd_with_fuel digits
until-written = refl

abbrev with-init : List ℕ → List ℕ
with-init init = text-with (codes "mdp-bounds 1") (codes "claim max witness \"goal\" 1/4") init led-states

abbrev with-states : List ℕ → List ℕ
with-states states = with-claim (codes "claim max witness \"goal\" 1/4") states

texts-read : AreEqual (
    (outcome max-text, Ok (kept-of Max None)) ∷
    (outcome min-text, Ok (kept-of Min None)) ∷
    (outcome until-text, Ok (kept-of Max (Some (codes "stay")))) ∷
    (outcome (text-with (codes "mdp-bounds 2") (codes "claim max witness \"goal\" 1/4") (codes "init 0") led-states), refused Version 1) ∷  -- another version
    (outcome (with-claim (codes "claim max reach \"goal\"") led-states), refused Claim 2) ∷  -- another claim
    (outcome (with-claim (codes "claim max witness \"goal\" -1/4") led-states), refused Claim 2) ∷  -- threshold below zero
    -- the line `init` has a state and no value
    (outcome (with-init (codes "init 0 1/4")), refused Shape 4) ∷
    (outcome (with-init (codes "init -")), refused Number 4) ∷
    (outcome (with-init (codes "init 4")), refused Count 4) ∷
    -- for the greatest probability a line has a choice, for the least none
    (outcome (with-claim (codes "claim min witness \"goal\" 1/4") led-states), refused Shape 5) ∷
    (outcome (with-states ranked-states), refused Shape 5) ∷
    (outcome (with-states (line (codes "state 0 1/4 0 2 wide"))), refused Number 5) ∷  -- no such mark
    (outcome (with-states (line (codes "state 0 -1/0 0 2 kept"))), refused Number 5) ∷  -- no such value
    (outcome (with-states (line (codes "state 1 1/4 0 2 kept"))), refused Count 5) ∷  -- another state
    -- the lines of the states 0 and 1 could be one, and those of other marks couldn't
    (outcome (with-states (line (codes "state 0 0 0 0 -") ++ line (codes "state 1 0 0 0 -"))), refused Run 6) ∷
    (outcome (with-states (line (codes "state 0 0 0 0 -") ++ line (codes "state 1 0 0 0 kept"))), refused Shape 7) ∷
    (outcome (max-text ++ 10 ∷ []), refused End 10) ∷  -- bytes behind
    []
    )
unfolding outcome next_line whole_of whole_at claim_to claim_of claim_at words_behind states_at start_at subsystem_at head_from lists_from entry_at state_at run_at longest_at runs_from entries_from
    entries_to_end nothing_behind canonical_of ratio gcd gcd_with_fuel
texts-read = refl

-- ---- which certificates of bounds are of this kind

kinds : AreEqual (
    (is_subsystem_claim max-text, true) ∷
    (is_subsystem_claim min-text, true) ∷
    (is_subsystem_claim until-text, true) ∷
    (is_subsystem_claim (line (codes "mdp-bounds 1") ++ line (codes "claim max reach \"witness\"")), false) ∷
    (is_subsystem_claim (codes "claim max witness \"goal\" 1/4"), false) ∷
    []
    )
unfolding next_line
kinds = refl
