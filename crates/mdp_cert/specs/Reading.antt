-- Reading a certificate's text line by line: the certificate, or the first line that breaks a rule. Each line is judged by its shape first, then
-- by its numbers from left to right, then by what they count, and in version 2 by whether it could be one line with the line before it.
use Rattle.std.specs.Prelude.{ℕ, zero, suc, ◌+◌, ◌-◌, Bool, false, not, ◌||◌, ◌&&◌, List, [], ◌∷◌}
use Rattle.std.specs.Prelude.{length, map, take, drop, Option, Some, None, option_and_then, option_map, Result, Ok, nat_lt, ◌==◌, if◌then◌else◌, codes}
use Rattle.std.specs.{List.{position_or_len, before_first}, Option.{option_or}, Str.{bytes_eq}}
use Rattle.mdp_math.specs.Rational.{ℚ}
use Rattle.mdp_num.specs.Canonical.{canonical_of}
use Rattle.mdp_rows.specs.{declared.dir.Dir.{Dir}, declared.dir.Dir.TheVariants.{Max, Min}, Name.{is_name}}
use Rattle.mdp_text.specs.declared.error.CertKind.TheVariants as kind
use Rattle.mdp_text.specs.{declared.error.Refusal.{Refusal}, declared.init.Init.{Init}}
use Rattle.mdp_text.specs.Lines.{◌>>=◌, refused, refuse_if, or_refused, is_line, Place, place, line_by, nothing_behind}
use Rattle.mdp_text.specs.Heads.{valued_at, start_at, Head, head_by}
use Rattle.mdp_text.specs.{Words.{words, first_of, begins_with, words_behind, whole_at, frac_at, behind, is_quote, name_and_rest}, Spelling.{end_text}}
use Rattle.mdp_cert.specs.{declared.version.Version.{Version}, declared.version.Version.TheVariants.{One, Two}}
use Rattle.mdp_cert.specs.Cert.{PlainClaim, upper, reach, until, reward, mean, witness, may_be_infinite, is_witness, is_at_least_zero, PlainBody, bounds, policy, rewards, gains, Certificate}
use Rattle.mdp_cert.specs.{Runs.{Columns, Run, run, single, entries_of}, Claims.{fraction_value, reward_value}, Entries.{bound_columns, Policy, policy_columns, Mean, mean_columns}}
use Rattle.mdp_cert.specs.{Listed.{Listed}, Witness.{flow_listed, flow_body, floor_listed, floor_body}, Spelling.{version_text}}

-- ---- the version

unfoldable pub version_at : ℕ → List ℕ → Result Version Refusal
version_at n text = if bytes_eq text (version_text One) then Ok One else (if bytes_eq text (version_text Two) then Ok Two else refused kind.Version n)

-- ---- the claim

-- a name, and `"` at the end
abbrev pub closed_name : List ℕ → Option (List ℕ)
closed_name text =
    let name = take (length text - 1) text in
    if bytes_eq (drop (length text - 1) text) (34 ∷ []) && is_name name then Some name else None

abbrev pub name_behind : List ℕ → List ℕ → Option (List ℕ)
name_behind front text = option_and_then closed_name (behind front text)

-- a name, `" "`, and a name with `"` at the end; the first name ends at the first `"`
abbrev pub two_names : List ℕ → Option (List ℕ × List ℕ)
two_names text =
    if is_name (before_first is_quote text)
    then option_map (λ label. (before_first is_quote text, label)) (name_behind (codes "\" \"") (drop (position_or_len is_quote text) text))
    else None

abbrev pub upper_claim : List ℕ → Option PlainClaim
upper_claim text = option_map upper (name_behind (codes "claim upper reach \"") text)

abbrev pub reach_front : Dir → List ℕ
reach_front Max = codes "claim max reach \""
reach_front Min = codes "claim min reach \""

abbrev pub reach_claim : Dir → List ℕ → Option PlainClaim
reach_claim dir text = option_map (reach dir) (name_behind (reach_front dir) text)

abbrev pub until_front : Dir → List ℕ
until_front Max = codes "claim max until \""
until_front Min = codes "claim min until \""

abbrev pub until_claim : Dir → List ℕ → Option PlainClaim
until_claim dir text = option_map (λ names. until dir names.0 names.1) (option_and_then two_names (behind (until_front dir) text))

abbrev pub reward_front : Dir → List ℕ
reward_front Max = codes "claim max reward \""
reward_front Min = codes "claim min reward \""

abbrev pub reward_claim : Dir → List ℕ → Option PlainClaim
reward_claim dir text = option_map (λ names. reward dir names.0 names.1) (option_and_then two_names (behind (reward_front dir) text))

abbrev pub mean_front : Dir → List ℕ
mean_front Max = codes "claim max mean \""
mean_front Min = codes "claim min mean \""

abbrev pub mean_claim : Dir → List ℕ → Option PlainClaim
mean_claim dir text = option_map (mean dir) (name_behind (mean_front dir) text)

-- a fraction from 0 on
abbrev pub threshold_of : List ℕ → Option ℚ
threshold_of word = option_and_then (λ t. if is_at_least_zero t then Some t else None) (canonical_of word)

-- a name, `" `, and a threshold; the name ends at the first `"`
abbrev pub name_and_threshold : List ℕ → Option (List ℕ × ℚ)
name_and_threshold text = option_and_then (λ p. option_map (λ t. (p.0, t)) (threshold_of p.1)) (name_and_rest text)

abbrev pub witness_front : Dir → List ℕ
witness_front Max = codes "claim max witness \""
witness_front Min = codes "claim min witness \""

abbrev pub witness_claim : Dir → List ℕ → Option PlainClaim
witness_claim dir text = option_map (λ said. witness dir None said.0 said.1) (option_and_then name_and_threshold (behind (witness_front dir) text))

-- a name, `" "`, and a name with its threshold; the first name ends at the first `"`
abbrev pub names_and_threshold : List ℕ → Option (List ℕ × List ℕ × ℚ)
names_and_threshold text =
    if is_name (before_first is_quote text)
    then option_map (λ said. (before_first is_quote text, said.0, said.1)) (option_and_then name_and_threshold (behind (codes "\" \"") (drop (position_or_len is_quote text) text)))
    else None

abbrev pub witness_until_front : Dir → List ℕ
witness_until_front Max = codes "claim max witness until \""
witness_until_front Min = codes "claim min witness until \""

abbrev pub witness_until_claim : Dir → List ℕ → Option PlainClaim
witness_until_claim dir text = option_map (λ said. witness dir (Some said.0) said.1 said.2) (option_and_then names_and_threshold (behind (witness_until_front dir) text))

-- the claims of a subsystem in a direction
abbrev pub subsystem_claim : Dir → List ℕ → Option PlainClaim
subsystem_claim dir text = option_or (witness_claim dir text) (witness_until_claim dir text)

-- the claims of a direction
unfoldable pub claim_to : Dir → List ℕ → Option PlainClaim
claim_to dir text = option_or (reach_claim dir text) (option_or (until_claim dir text) (option_or (reward_claim dir text) (option_or (mean_claim dir text) (subsystem_claim dir text))))

unfoldable pub claim_of : List ℕ → Option PlainClaim
claim_of text = option_or (upper_claim text) (option_or (claim_to Max text) (claim_to Min text))

unfoldable pub claim_at : ℕ → List ℕ → Result PlainClaim Refusal
claim_at n text = or_refused kind.Claim n (claim_of text)

-- ---- the lines of claim, states and init

-- the form of the line `init` is the claim's
abbrev pub init_at : PlainClaim → ℕ → ℕ → List ℕ → Result Init Refusal
init_at claim states n text = if is_witness claim then start_at states n text else valued_at (may_be_infinite claim) states n text

abbrev pub CertHead : Type 0
CertHead = Head PlainClaim Init

-- these three lines
unfoldable pub head_from : Place → Result (CertHead × Place) Refusal
head_from p = head_by claim_at init_at p

-- ---- the lines of the states

-- what the words behind the numbers say
unfoldable pub entry_at : {A : Type 0} → Columns A → ℕ → List (List ℕ) → Result A Refusal
entry_at k n ws = or_refused kind.Number n (k.parse ws)

-- the line of one state, which is the one that is due
unfoldable pub state_at : {A : Type 0} → Columns A → ℕ → ℕ → List ℕ → Result (Run A) Refusal
state_at k due n text = do
  behind ← words_behind (codes "state") (1 + k.width) n text
  state ← whole_at n (first_of behind)
  entry ← entry_at k n (drop 1 behind)
  order ← refuse_if kind.Count n (not (state == due))
  Ok (single entry)

-- the line of two or more states, from the one that is due to a later one
unfoldable pub run_at : {A : Type 0} → Columns A → ℕ → ℕ → ℕ → List ℕ → Result (Run A) Refusal
run_at k states due n text = do
  behind ← words_behind (codes "run") (2 + k.width) n text
  first ← whole_at n (first_of behind)
  last ← whole_at n (first_of (drop 1 behind))
  entry ← entry_at k n (drop 1 (drop 1 behind))
  order ← refuse_if kind.Count n (not (first == due) || not (nat_lt first last) || not (nat_lt last states))
  Ok (run entry (last - first))

-- whether the line before, if there was one, says the same
abbrev pub is_same : {A : Type 0} → Columns A → Option A → A → Bool
is_same k None x = false
is_same k (Some before) x = k.same before x

abbrev pub line_of_states : {A : Type 0} → Columns A → ℕ → ℕ → ℕ → List ℕ → Result (Run A) Refusal
line_of_states k states due n text = if begins_with (codes "run") (words text) then run_at k states due n text else state_at k due n text

-- a line in version 2, behind a line of this entry
unfoldable pub longest_at : {A : Type 0} → Columns A → ℕ → ℕ → Option A → ℕ → List ℕ → Result (Run A) Refusal
longest_at k states due before n text = do
  said ← line_of_states k states due n text
  longest ← refuse_if kind.Run n (is_same k before said.entry)
  Ok said

abbrev pub run_in : {A : Type 0} → Version → Columns A → ℕ → ℕ → Option A → ℕ → List ℕ → Result (Run A) Refusal
run_in One k states due before n text = state_at k due n text
run_in Two k states due before n text = longest_at k states due before n text

abbrev pub onto_run : {A : Type 0} → Run A → Result (List (Run A) × Place) Refusal → Result (List (Run A) × Place) Refusal
onto_run r others = others >>= λ p. Ok (r ∷ p.0, p.1)

-- the lines of the states from the one that is due on, and no more than `most` of them; each tells the next one what it says
unfoldable pub runs_from : {A : Type 0} → ℕ → Version → Columns A → ℕ → ℕ → Option A → Place → Result (List (Run A) × Place) Refusal
runs_from zero v k states due before p = Ok ([], p)
runs_from (suc most) v k states due before p =
    if nat_lt due states
    then (line_by (run_in v k states due before) p >>= λ said. onto_run said.0 (runs_from most v k states (due + said.0.more + 1) (Some said.0.entry) said.1))
    else Ok ([], p)

-- what the lines of the states say, state by state
unfoldable pub entries_from : {A : Type 0} → Version → Columns A → ℕ → Place → Result (List A × Place) Refusal
entries_from v k states p = do
  runs ← runs_from states v k states 0 None p
  Ok (entries_of runs.0, runs.1)

-- and the line `end` behind them
unfoldable pub entries_to_end : {A : Type 0} → Version → Columns A → ℕ → Place → Result (List A × Place) Refusal
entries_to_end v k states p = do
  entries ← entries_from v k states p
  end ← line_by (is_line kind.Shape end_text) entries.1
  Ok (entries.0, end.1)

abbrev pub policy_body : List (Policy ℚ) → PlainBody
policy_body xs = policy (map (λ x. x.first) xs) (map (λ x. x.others.first) xs) (map (λ x. x.others.others) xs)

abbrev pub reward_body : List (Policy (Option ℚ)) → PlainBody
reward_body xs = rewards (map (λ x. x.first) xs) (map (λ x. x.others.first) xs) (map (λ x. x.others.others) xs)

abbrev pub mean_body : ℚ → List Mean → PlainBody
mean_body spread xs = gains (map (λ x. x.first) xs) (map (λ x. x.others.first) xs) (map (λ x. x.others.others.first) xs) (map (λ x. x.others.others.others) xs) spread

-- the line `spread K` of a certificate of mean payoffs
unfoldable pub spread_at : ℕ → List ℕ → Result ℚ Refusal
spread_at n text = words_behind (codes "spread") 1 n text >>= λ behind. frac_at n (first_of behind)

-- ---- lines that are listed one by one

-- what a line says; nothing where it is `end`
unfoldable pub listed_at : {A : Type 0} → Listed A → ℕ → Option A → ℕ → List ℕ → Result (Option A) Refusal
listed_at k states before n text = if bytes_eq text end_text then Ok None else (k.judge states before n text >>= λ x. Ok (Some x))

-- a line before others; behind the line `end` none are read
abbrev pub before_others : {A : Type 0} → Option A → Place → (A → Result (List A × Place) Refusal) → Result (List A × Place) Refusal
before_others None p others = Ok ([], p)
before_others (Some x) p others = others x >>= λ r. Ok (x ∷ r.0, r.1)

-- the lines behind this one, and no more than `most` of them; each tells the next one what it says
unfoldable pub listed_from : {A : Type 0} → ℕ → Listed A → ℕ → Option A → Place → Result (List A × Place) Refusal
listed_from zero k states before p = refused kind.End p.line
listed_from (suc most) k states before p = line_by (listed_at k states before) p >>= λ said. before_others said.0 said.1 (λ x. listed_from most k states (Some x) said.1)

-- all lines with the line `end`; there are no more lines than bytes
unfoldable pub listed_to_end : {A : Type 0} → Listed A → ℕ → Place → Result (List A × Place) Refusal
listed_to_end k states p = listed_from (suc (length p.rest)) k states None p

-- ---- the lines behind the head, with the line `end`

-- of a mean payoff
abbrev pub mean_from : Version → ℕ → Place → Result (PlainBody × Place) Refusal
mean_from v states p = do
  spread ← line_by spread_at p
  xs ← entries_to_end v mean_columns states spread.1
  Ok (mean_body spread.0 xs.0, xs.1)

-- of a subsystem
abbrev pub kept_from : Dir → ℕ → Place → Result (PlainBody × Place) Refusal
kept_from Max states p = listed_to_end flow_listed states p >>= λ xs. Ok (flow_body xs.0, xs.1)
kept_from Min states p = listed_to_end floor_listed states p >>= λ xs. Ok (floor_body xs.0, xs.1)

-- by the claim
unfoldable pub body_from : Version → PlainClaim → ℕ → Place → Result (PlainBody × Place) Refusal
body_from v (upper label) states p = entries_to_end v bound_columns states p >>= λ xs. Ok (bounds xs.0, xs.1)
body_from v (reach dir label) states p = entries_to_end v (policy_columns fraction_value) states p >>= λ xs. Ok (policy_body xs.0, xs.1)
body_from v (until dir stay label) states p = entries_to_end v (policy_columns fraction_value) states p >>= λ xs. Ok (policy_body xs.0, xs.1)
body_from v (reward dir name label) states p = entries_to_end v (policy_columns reward_value) states p >>= λ xs. Ok (reward_body xs.0, xs.1)
body_from v (mean dir name) states p = mean_from v states p
body_from v (witness dir stay label threshold) states p = kept_from dir states p

-- ---- the whole

-- the certificate of which the bytes are one of the two texts, or the first line that breaks a rule
unfoldable pub outcome : List ℕ → Result Certificate Refusal
outcome bytes = do
  version ← line_by version_at (place 1 bytes)
  head ← head_from version.1
  body ← body_from version.0 head.0.claim head.0.states head.1
  nothing ← nothing_behind body.1
  Ok (record { claim = head.0.claim; states = head.0.states; init = head.0.init; body = body.0 })
