-- The texts of a certificate: one in each version.
use Rattle.std.specs.{Prelude.{ℕ, ◌+◌, List, [], ◌∷◌, ◌++◌, ◌==◌, decimal, codes, Some, None, if◌then◌else◌}, List.{join_with_byte}}
use Rattle.mdp_math.specs.Rational.{ℚ}
use Rattle.mdp_num.specs.Value.{spelling}
use Rattle.mdp_cert.specs.{declared.version.Version.{Version}, declared.version.Version.TheVariants.{One, Two}}
use Rattle.mdp_cert.specs.Cert.{PlainClaim, upper, reach, until, reward, mean, witness, PlainBody, bounds, policy, rewards, gains, flow, floor, Certificate}
use Rattle.mdp_cert.specs.{Runs.{Columns, Run, runs_in}, Claims.{fraction_value, reward_value}, Entries.{bound_columns, policy_columns, policies, mean_columns, means}}
use Rattle.mdp_cert.specs.{Listed.{Listed}, Witness.{flow_listed, flow_lines, floor_listed, floor_lines}}
use Rattle.mdp_text.specs.Spelling.{line, ◌␣◌, quoted, dir_text, states_text, init_text, end_text}

-- ---- the lines before those of the states

abbrev pub version_text : Version → List ℕ
version_text One = codes "mdp-certificate 1"
version_text Two = codes "mdp-certificate 2"

abbrev pub claim_text : PlainClaim → List ℕ
claim_text (upper label) = codes "claim" ␣ codes "upper" ␣ codes "reach" ␣ quoted label
claim_text (reach dir label) = codes "claim" ␣ dir_text dir ␣ codes "reach" ␣ quoted label
claim_text (until dir stay label) = codes "claim" ␣ dir_text dir ␣ codes "until" ␣ quoted stay ␣ quoted label
claim_text (reward dir name label) = codes "claim" ␣ dir_text dir ␣ codes "reward" ␣ quoted name ␣ quoted label
claim_text (mean dir name) = codes "claim" ␣ dir_text dir ␣ codes "mean" ␣ quoted name
claim_text (witness dir None label threshold) = codes "claim" ␣ dir_text dir ␣ codes "witness" ␣ quoted label ␣ spelling threshold
claim_text (witness dir (Some stay) label threshold) =
    codes "claim" ␣ dir_text dir ␣ codes "witness" ␣ codes "until" ␣ quoted stay ␣ quoted label ␣ spelling threshold

abbrev pub head_text : Certificate → List ℕ
head_text c = line (claim_text c.claim) ++ (line (states_text c.states) ++ line (init_text c.init))

-- ---- the lines of the states

-- the words behind the numbers, with one blank between each two
abbrev pub entry_text : {A : Type 0} → Columns A → A → List ℕ
entry_text k x = join_with_byte 32 (k.words x)

-- a run from this state on; one of one state is a line `state`
unfoldable pub run_text : {A : Type 0} → Columns A → ℕ → Run A → List ℕ
run_text k state r = if r.more == 0 then codes "state" ␣ decimal state ␣ entry_text k r.entry else codes "run" ␣ decimal state ␣ decimal (state + r.more) ␣ entry_text k r.entry

-- what stands before its words
abbrev pub states_front : ℕ → ℕ → List ℕ
states_front state more = if more == 0 then codes "state" ␣ decimal state ␣ [] else codes "run" ␣ decimal state ␣ decimal (state + more) ␣ []

unfoldable pub run_lines : {A : Type 0} → Columns A → ℕ → List (Run A) → List ℕ
run_lines k state [] = []
run_lines k state (r ∷ rs) = line (run_text k state r) ++ run_lines k (state + r.more + 1) rs

abbrev pub state_lines : {A : Type 0} → Version → Columns A → List A → List ℕ
state_lines v k xs = run_lines k 0 (runs_in v k xs)

-- the lines of all states, and the line `end`
abbrev pub closed_lines : {A : Type 0} → Version → Columns A → List A → List ℕ
closed_lines v k xs = state_lines v k xs ++ line end_text

-- lines that are listed one by one, and the line `end`
unfoldable pub listed_lines : {A : Type 0} → Listed A → List A → List ℕ
listed_lines k [] = line end_text
listed_lines k (x ∷ xs) = line (join_with_byte 32 (k.words x)) ++ listed_lines k xs

-- the spread of a certificate of mean payoffs
abbrev pub spread_text : ℚ → List ℕ
spread_text spread = codes "spread" ␣ spelling spread

-- a body ends with the line `end`; that of a subsystem is the same in both versions
abbrev pub body_text : Version → PlainBody → List ℕ
body_text v (bounds values) = closed_lines v bound_columns values
body_text v (policy values choices ranks) = closed_lines v (policy_columns fraction_value) (policies values choices ranks)
body_text v (rewards values choices ranks) = closed_lines v (policy_columns reward_value) (policies values choices ranks)
body_text v (gains gain bound bias choices spread) = line (spread_text spread) ++ closed_lines v mean_columns (means gain bound bias choices)
body_text v (flow kept wide flows) = listed_lines flow_listed (flow_lines kept wide flows)
body_text v (floor kept wide values ranks) = listed_lines floor_listed (floor_lines kept wide values ranks)

-- ---- the whole

unfoldable pub text_in : Version → Certificate → List ℕ
text_in v c = line (version_text v) ++ (head_text c ++ body_text v c.body)

-- the text of version 2
abbrev pub text_of : Certificate → List ℕ
text_of c = text_in Two c

-- the text of version 1
abbrev pub old_text_of : Certificate → List ℕ
old_text_of c = text_in One c
