-- The words of the command line, and the job that they are:
--     solve MODEL ROWS DIR reach LABEL
--     solve MODEL ROWS DIR until A B
--     solve MODEL ROWS DIR reward NAME LABEL
--     solve MODEL ROWS DIR mean NAME
--     witness MODEL ROWS DIR LABEL THRESHOLD
--     witness MODEL ROWS DIR until A B THRESHOLD
--     check MODEL ROWS CERT
--     drill NUMBER LAYERS WIDTH
--     horizon MODEL ROWS DIR A B STEPS
--     total MODEL ROWS DIR NAME STEPS
--     curve MODEL ROWS DIR until A B STEPS DIGITS
--     curve MODEL ROWS DIR total NAME STEPS DIGITS
--     policy MODEL ROWS POLICY reach LABEL
--     policy MODEL ROWS POLICY until A B
--     chain MODEL ROWS POLICY
--     discount MODEL ROWS DIR NAME FACTOR
--     discount-check MODEL ROWS CERT
--     bounds MODEL ROWS DIR reach LABEL DIGITS
--     bounds MODEL ROWS DIR until A B DIGITS
--     bounds MODEL ROWS DIR reward NAME LABEL DIGITS
--     bounds MODEL ROWS DIR mean NAME DIGITS
--     bounds MODEL ROWS DIR until A B STEPS DIGITS
--     bounds MODEL ROWS DIR total NAME STEPS DIGITS
--     bounds MODEL ROWS DIR discount NAME FACTOR DIGITS
--     bounds MODEL ROWS DIR witness LABEL THRESHOLD
--     bounds MODEL ROWS DIR witness until A B THRESHOLD
--     bounds-check MODEL ROWS CERT
-- ROWS is `exact` or `scaled`, DIR `max` or `min`.
use Rattle.std.specs.Prelude.{ℕ, ◌*◌, ◌-◌, ◌^◌, Bool, false, ◌&&◌, not, List, [], ◌∷◌, length, take, slice_index_or, map, Option, Some, None}
use Rattle.std.specs.{Prelude.{Result, Ok, Err, pos, ◌==◌, nat_lt, if◌then◌else◌, codes}, declared.string.String.{String}, Option.{ok_or}, Str.{bytes_eq}}
use Rattle.std.specs.{String.{string_bytes}, Global.{Global}}
use Rattle.mdp_math.specs.{Rational.{ℚ, of_int, lt_ℚ}, Result.{◌>>=◌}}
use Rattle.mdp_num.specs.{Digits.{is_digits, number}, Numeral.{numeral_of}, declared.errors.NumeralError.{NumeralError}}
use Rattle.mdp_rows.specs.{declared.dir.Dir.{Dir}, declared.dir.Dir.TheVariants.{Max, Min}, declared.rule.RowRule.{RowRule}}
use Rattle.mdp_rows.specs.declared.rule.RowRule.TheVariants.{Exact, Scaled}
use Rattle.mdp_job.specs.Job.{PlainQuery, reach, until, reward, mean, PlainTask, solve, witness, horizon, total, discount, bounds, bounds_until, bounds_total}
use Rattle.mdp_job.specs.Job.{bounds_discount, bounds_witness, curve_until, curve_total, PlainPairTask, check, policy, chain, discount_check, bounds_check}
use Rattle.mdp_job.specs.Job.{on_model, on_pair, drill, Asked, files_of}
use Rattle.mdp_job.specs.declared.words_error.WordsError.{WordsError}
use Rattle.mdp_job.specs.declared.words_error.WordsError.TheVariants.{Command, Number, Rows, Direction, Objective, Threshold, Drill, Steps, Factor, Digits}

abbrev pub word_at : List (List ℕ) → ℕ → List ℕ
word_at words i = slice_index_or words i []

-- the row rule that a word names
abbrev pub rule_of : List ℕ → Result RowRule WordsError
rule_of word = if bytes_eq word (codes "exact") then Ok Exact else (if bytes_eq word (codes "scaled") then Ok Scaled else Err Rows)

-- the direction
abbrev pub dir_of : List ℕ → Result Dir WordsError
dir_of word = if bytes_eq word (codes "max") then Ok Max else (if bytes_eq word (codes "min") then Ok Min else Err Direction)

-- ---- what the words of several commands begin with

-- the row rule, then the direction
abbrev pub head_of : List ℕ → List ℕ → Result (RowRule × Dir) WordsError
head_of rows dir = rule_of rows >>= (λ rule. dir_of dir >>= (λ best. Ok (record { 0 = rule; 1 = best })))

-- MODEL ROWS DIR, then the words of a task
abbrev pub on_model_of : List (List ℕ) → (Dir → Result PlainTask WordsError) → Asked
on_model_of words task_of = head_of (word_at words 1) (word_at words 2) >>= (λ head. task_of head.1 >>= (λ task. Ok (on_model head.0 task)))

-- the row rule of the words MODEL ROWS CERT
abbrev pub rows_of : List (List ℕ) → Result RowRule WordsError
rows_of words = if length words == 3 then rule_of (word_at words 1) else Err Number

-- MODEL ROWS and a second file, where the task has no words of its own
abbrev pub pair_of : PlainPairTask → List (List ℕ) → Asked
pair_of task words = rows_of words >>= λ rule. Ok (on_pair rule task)

-- ---- the commands

-- the words behind `solve`: how many there are at least, the row rule, the direction, the objective, and how many words that has
abbrev pub reach_of : List (List ℕ) → Result PlainQuery WordsError
reach_of words = if length words == 5 then Ok (reach (word_at words 4)) else Err Number

abbrev pub until_of : List (List ℕ) → Result PlainQuery WordsError
until_of words = if length words == 6 then Ok (until (word_at words 4) (word_at words 5)) else Err Number

abbrev pub reward_of : List (List ℕ) → Result PlainQuery WordsError
reward_of words = if length words == 6 then Ok (reward (word_at words 4) (word_at words 5)) else Err Number

abbrev pub mean_of : List (List ℕ) → Result PlainQuery WordsError
mean_of words = if length words == 5 then Ok (mean (word_at words 4)) else Err Number

abbrev pub query_of : List (List ℕ) → Result PlainQuery WordsError
query_of words =
    if bytes_eq (word_at words 3) (codes "reach") then reach_of words
    else (if bytes_eq (word_at words 3) (codes "until") then until_of words
    else (if bytes_eq (word_at words 3) (codes "reward") then reward_of words
    else (if bytes_eq (word_at words 3) (codes "mean") then mean_of words else Err Objective)))

abbrev pub solve_of : List (List ℕ) → Asked
solve_of words =
    if nat_lt (length words) 4 then Err Number
    else on_model_of words (λ dir. query_of words >>= (λ query. Ok (solve dir query)))

-- a numeral, as a value of a model's row is spelled
abbrev pub threshold_by : Result ℚ NumeralError → Result ℚ WordsError
threshold_by (Ok t) = Ok t
threshold_by (Err e) = Err Threshold

abbrev pub threshold_of : List ℕ → Result ℚ WordsError
threshold_of word = threshold_by (numeral_of word)

-- the words behind `witness`: the row rule, the direction, then the threshold
abbrev pub witness_reach_of : List (List ℕ) → Asked
witness_reach_of words =
    if length words == 5
    then on_model_of words (λ dir. threshold_of (word_at words 4) >>= (λ threshold. Ok (witness dir None (word_at words 3) threshold)))
    else Err Number

-- the same of seven words, with two labels
abbrev pub witness_until_of : List (List ℕ) → Asked
witness_until_of words =
    if length words == 7
    then on_model_of words (λ dir. threshold_of (word_at words 6) >>= (λ threshold. Ok (witness dir (Some (word_at words 4)) (word_at words 5) threshold)))
    else Err Number

-- seven words of which the fourth is `until` name two labels
abbrev pub witness_of : List (List ℕ) → Asked
witness_of words = if (length words == 7) && bytes_eq (word_at words 3) (codes "until") then witness_until_of words else witness_reach_of words

-- digits, at least one and at most so many: the number that they write
abbrev pub whole_word : ℕ → List ℕ → Option ℕ
whole_word most word = if is_digits word && not (nat_lt most (length word)) then Some (number word) else None

-- the number is below 2^64, there are 1 to 100 layers, and at most 2^20 - 2 states in them
abbrev pub can_draw : ℕ → ℕ → ℕ → Bool
can_draw number layers width = nat_lt number (2 ^ 64) && (nat_lt 0 layers && (not (nat_lt 100 layers) && (nat_lt 0 width && not (nat_lt (2 ^ 20 - 2) (layers * width)))))

abbrev pub drill_by : ℕ → ℕ → ℕ → Asked
drill_by number layers width = if can_draw number layers width then Ok (drill number layers width) else Err Drill

abbrev pub drill_with : Option ℕ → Option ℕ → Option ℕ → Asked
drill_with (Some number) (Some layers) (Some width) = drill_by number layers width
drill_with number layers width = Err Drill

-- the words behind `drill`: a number of at most 20 digits, and two of at most 7
abbrev pub drill_of : List (List ℕ) → Asked
drill_of words = if length words == 3 then drill_with (whole_word 20 (word_at words 0)) (whole_word 7 (word_at words 1)) (whole_word 7 (word_at words 2)) else Err Number

-- a label of states at which a way may go on; `-` for all states
abbrev pub stay_of : List ℕ → Option (List ℕ)
stay_of word = if bytes_eq word (codes "-") then None else Some word

-- 1 to 7 digits
abbrev pub steps_of : List ℕ → Result ℕ WordsError
steps_of word = ok_or (whole_word 7 word) Steps

-- the words behind `horizon`: the row rule, the direction, then the steps
abbrev pub horizon_of : List (List ℕ) → Asked
horizon_of words =
    if length words == 6
    then on_model_of words (λ dir. steps_of (word_at words 5) >>= (λ steps. Ok (horizon dir (stay_of (word_at words 3)) (word_at words 4) steps)))
    else Err Number

-- the words behind `total`: the same
abbrev pub total_of : List (List ℕ) → Asked
total_of words =
    if length words == 5
    then on_model_of words (λ dir. steps_of (word_at words 4) >>= (λ steps. Ok (total dir (word_at words 3) steps)))
    else Err Number

-- the words behind `policy`: the row rule, then the objective
abbrev pub policy_reach_of : List (List ℕ) → Asked
policy_reach_of words =
    if length words == 5
    then (rule_of (word_at words 1) >>= (λ rule. if bytes_eq (word_at words 3) (codes "reach") then Ok (on_pair rule (policy None (word_at words 4))) else Err Objective))
    else Err Number

-- the row rule of six words, with two labels
abbrev pub policy_until_of : List (List ℕ) → Asked
policy_until_of words =
    if length words == 6 then (rule_of (word_at words 1) >>= (λ rule. Ok (on_pair rule (policy (Some (word_at words 4)) (word_at words 5))))) else Err Number

-- six words of which the fourth is `until` name two labels
abbrev pub policy_of : List (List ℕ) → Asked
policy_of words = if (length words == 6) && bytes_eq (word_at words 3) (codes "until") then policy_until_of words else policy_reach_of words

-- a numeral below 1, as a value of a model's row is spelled
abbrev pub below_one : Result ℚ NumeralError → Result ℚ WordsError
below_one (Ok f) = if lt_ℚ f (of_int (pos 1)) then Ok f else Err Factor
below_one (Err e) = Err Factor

abbrev pub factor_of : List ℕ → Result ℚ WordsError
factor_of word = below_one (numeral_of word)

-- the words behind `discount`: the row rule, the direction, then the factor
abbrev pub discount_of : List (List ℕ) → Asked
discount_of words =
    if length words == 5
    then on_model_of words (λ dir. factor_of (word_at words 4) >>= (λ factor. Ok (discount dir (word_at words 3) factor)))
    else Err Number

-- whether the first byte is `0`
abbrev pub begins_with_zero : List ℕ → Bool
begins_with_zero [] = false
begins_with_zero (b ∷ bytes) = b == 48

-- at most 30
abbrev pub few_digits : Option ℕ → Result ℕ WordsError
few_digits (Some n) = if nat_lt 30 n then Err Digits else Ok n
few_digits None = Err Digits

-- a whole number from 1 to 30, without leading zeros
abbrev pub digits_of : List ℕ → Result ℕ WordsError
digits_of word = if begins_with_zero word then Err Digits else few_digits (whole_word 2 word)

-- the words behind `bounds`: how many there are at least, the row rule, the direction, the objective, how many words that has, and its own words; the
-- digits come last. Where it is none of four, or `until` without a deadline, the query is that of all but the last word, as for `solve`
abbrev pub bounds_query_of : List (List ℕ) → Result PlainQuery WordsError
bounds_query_of words = query_of (take (length words - 1) words)

abbrev pub bounds_digits_of : List (List ℕ) → Result ℕ WordsError
bounds_digits_of words = digits_of (word_at words (length words - 1))

abbrev pub bounds_best_of : Dir → List (List ℕ) → Result PlainTask WordsError
bounds_best_of dir words = bounds_query_of words >>= (λ query. bounds_digits_of words >>= (λ digits. Ok (bounds dir query digits)))

-- of `bounds` and of `curve` behind the objective `until`: two labels, the steps, then the digits
abbrev pub until_within : List (List ℕ) → (Option (List ℕ) → List ℕ → ℕ → ℕ → PlainTask) → Result PlainTask WordsError
until_within words task =
    if length words == 8
    then (steps_of (word_at words 6) >>= (λ steps. digits_of (word_at words 7) >>= (λ digits. Ok (task (stay_of (word_at words 4)) (word_at words 5) steps digits))))
    else Err Number

-- and behind the objective `total`: a name, the steps, then the digits
abbrev pub total_within : List (List ℕ) → (List ℕ → ℕ → ℕ → PlainTask) → Result PlainTask WordsError
total_within words task =
    if length words == 7
    then (steps_of (word_at words 5) >>= (λ steps. digits_of (word_at words 6) >>= (λ digits. Ok (task (word_at words 4) steps digits))))
    else Err Number

abbrev pub bounds_discount_of : Dir → List (List ℕ) → Result PlainTask WordsError
bounds_discount_of dir words =
    if length words == 7
    then (factor_of (word_at words 5) >>= (λ factor. digits_of (word_at words 6) >>= (λ digits. Ok (bounds_discount dir (word_at words 4) factor digits))))
    else Err Number

-- the words of `witness` behind the objective, without those of the row rule and the direction: eight words of which the fifth is `until` name two labels
abbrev pub bounds_witness_reach_of : Dir → List (List ℕ) → Result PlainTask WordsError
bounds_witness_reach_of dir words =
    if length words == 6 then (threshold_of (word_at words 5) >>= (λ threshold. Ok (bounds_witness dir None (word_at words 4) threshold))) else Err Number

abbrev pub bounds_witness_until_of : Dir → List (List ℕ) → Result PlainTask WordsError
bounds_witness_until_of dir words =
    if length words == 8
    then (threshold_of (word_at words 7) >>= (λ threshold. Ok (bounds_witness dir (Some (word_at words 5)) (word_at words 6) threshold)))
    else Err Number

abbrev pub bounds_witness_of : Dir → List (List ℕ) → Result PlainTask WordsError
bounds_witness_of dir words = if (length words == 8) && bytes_eq (word_at words 4) (codes "until") then bounds_witness_until_of dir words else bounds_witness_reach_of dir words

abbrev pub bounds_by : Dir → List (List ℕ) → Result PlainTask WordsError
bounds_by dir words =
    if bytes_eq (word_at words 3) (codes "until") && (length words == 8) then until_within words (bounds_until dir)
    else (if bytes_eq (word_at words 3) (codes "total") then total_within words (bounds_total dir)
    else (if bytes_eq (word_at words 3) (codes "discount") then bounds_discount_of dir words
    else (if bytes_eq (word_at words 3) (codes "witness") then bounds_witness_of dir words else bounds_best_of dir words)))

abbrev pub bounds_of : List (List ℕ) → Asked
bounds_of words = if nat_lt (length words) 6 then Err Number else on_model_of words (λ dir. bounds_by dir words)

-- the words behind `curve`: how many there are at least, the row rule, the direction, the objective, how many words that has, the steps, then the digits
abbrev pub curve_by : Dir → List (List ℕ) → Result PlainTask WordsError
curve_by dir words =
    if bytes_eq (word_at words 3) (codes "until") then until_within words (curve_until dir)
    else (if bytes_eq (word_at words 3) (codes "total") then total_within words (curve_total dir) else Err Objective)

abbrev pub curve_of : List (List ℕ) → Asked
curve_of words = if nat_lt (length words) 4 then Err Number else on_model_of words (λ dir. curve_by dir words)

-- the words behind a command on a model alone
abbrev pub on_model_by : List ℕ → List (List ℕ) → Asked
on_model_by command words =
    if bytes_eq command (codes "solve") then solve_of words
    else (if bytes_eq command (codes "witness") then witness_of words
    else (if bytes_eq command (codes "horizon") then horizon_of words
    else (if bytes_eq command (codes "total") then total_of words
    else (if bytes_eq command (codes "discount") then discount_of words
    else (if bytes_eq command (codes "bounds") then bounds_of words
    else (if bytes_eq command (codes "curve") then curve_of words else Err Command))))))

-- a command, and the words behind it
abbrev pub job_by : List ℕ → List (List ℕ) → Asked
job_by command words =
    if bytes_eq command (codes "check") then pair_of check words
    else (if bytes_eq command (codes "discount-check") then pair_of discount_check words
    else (if bytes_eq command (codes "bounds-check") then pair_of bounds_check words
    else (if bytes_eq command (codes "chain") then pair_of chain words
    else (if bytes_eq command (codes "policy") then policy_of words
    else (if bytes_eq command (codes "drill") then drill_of words else on_model_by command words)))))

-- the words, as texts
abbrev pub job_of_texts : List (List ℕ) → Asked
job_of_texts [] = Err Command
job_of_texts (command ∷ words) = job_by command words

abbrev pub job_of : List (String Global) → Asked
job_of words = job_of_texts (map string_bytes words)

-- ---- the files

-- the word at a place, or the empty word
abbrev pub path_at : List (List ℕ) → Option ℕ → List ℕ
path_at words None = []
path_at words (Some i) = word_at words i

-- the names of the model's file and of the second one, of the words that ask for this; the empty name where the job reads no such file
abbrev pub model_path : Asked → List (String Global) → List ℕ
model_path asked words = path_at (map string_bytes words) (files_of asked).model

abbrev pub second_path : Asked → List (String Global) → List ℕ
second_path asked words = path_at (map string_bytes words) (files_of asked).second
