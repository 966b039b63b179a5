-- Worked words, and what they ask for.
use Rattle.std.proofs.Common.{◌≡◌, ℕ, List, [], ◌∷◌, ◌++◌, Some, None, Ok, Err, refl}
use Rattle.std.specs.{Fmt.{digits}, List.{slice_split}, Prelude.{◌==◌, codes, map, pos}}
use Rattle.mdp_math.specs.{Gcd.{gcd, gcd_with_fuel}, Rational.{of_int, ratio, lt_ℚ}}
use Rattle.mdp_num.specs.{Numeral.{parts_of, numeral_of}, Value.{spelling}}
use Rattle.mdp_rows.specs.{declared.rule.RowRule.TheVariants.{Exact, Scaled}, declared.dir.Dir.TheVariants.{Max, Min}}
use Rattle.mdp_job.specs.Job.{Asked, reach, until, reward, mean, solve, witness, check, drill, horizon, total, policy, chain, discount, discount_check, on_model, on_pair, files_of}
use Rattle.mdp_job.specs.{Job.{bounds, bounds_until, bounds_total, bounds_discount, bounds_witness, bounds_check, curve_until, curve_total}, Refusal.{no_job, query_init, below, undecided}}
use Rattle.mdp_job.specs.{Status.{code_of, status_of}, Text.{text_of}, Words.{job_of_texts, path_at}}
use Rattle.mdp_job.specs.declared.words_error.WordsError.TheVariants.{Command, Number, Rows, Direction, Objective, Threshold, Drill, Steps, Factor, Digits, Encoding}

-- ---- how words are written below

-- the words of a text, with a blank between two of them
abbrev words : List ℕ → List (List ℕ)
words text = slice_split (λ byte. byte == 32) text

-- what a text of words asks for
abbrev asked : List ℕ → Asked
asked text = job_of_texts (words text)

-- a text of words, and what it asks for or is refused as
abbrev Row : Type 0
Row = List ℕ × Asked

abbrev Asks : List Row → Type 0
Asks rows = map (λ row. asked row.0) rows ≡ map (λ row. row.1) rows

-- ---- the words of a check, and its files

no_words : job_of_texts [] ≡ Err Command
no_words = refl

-- the number of words is judged before the row rule
checks : Asks (
    (codes "visit m exact c", Err Command) ∷
    (codes "check m EXACT", Err Number) ∷
    (codes "check m EXACT c", Err Rows) ∷
    (codes "check m scaled c", Ok (on_pair Scaled check)) ∷
    (codes "discount-check m scaled c", Ok (on_pair Scaled discount_check)) ∷
    (codes "discount-check m exact c d", Err Number) ∷
    (codes "bounds-check m exact c", Ok (on_pair Exact bounds_check)) ∷
    (codes "bounds-check m EXACT", Err Number) ∷
    (codes "bounds-check m EXACT c", Err Rows) ∷
    []
    )
checks = refl

-- the files of a check are its first and its third word
model_of_check : path_at (words (codes "check m scaled c")) (files_of (Ok (on_pair Scaled check))).model ≡ codes "m"
model_of_check = refl

cert_of_check : path_at (words (codes "check m scaled c")) (files_of (Ok (on_pair Scaled check))).second ≡ codes "c"
cert_of_check = refl

no_second : path_at (words (codes "horizon m")) None ≡ []
no_second = refl

-- ---- `solve`: fewer than five words, the row rule, the direction, the objective, and its number of words, in this order

solves : Asks (
    (codes "solve m EXACT best", Err Number) ∷
    (codes "solve m EXACT best reach goal", Err Rows) ∷
    (codes "solve m exact best reach goal", Err Direction) ∷
    (codes "solve m exact max visit", Err Objective) ∷
    (codes "solve m exact max reach", Err Number) ∷
    (codes "solve m scaled max reach goal", Ok (on_model Scaled (solve Max (reach (codes "goal"))))) ∷
    -- until has two labels; `-` is a label's name here
    (codes "solve m exact max until safe goal", Ok (on_model Exact (solve Max (until (codes "safe") (codes "goal"))))) ∷
    (codes "solve m exact max until - goal", Ok (on_model Exact (solve Max (until (codes "-") (codes "goal"))))) ∷
    (codes "solve m exact max until goal", Err Number) ∷
    (codes "solve m exact max until safe goal 3", Err Number) ∷
    -- a reward has a name and a label
    (codes "solve m exact max reward -", Err Number) ∷
    (codes "solve m exact max reward - goal", Ok (on_model Exact (solve Max (reward (codes "-") (codes "goal"))))) ∷
    -- a mean payoff has a name alone
    (codes "solve m exact max mean -", Ok (on_model Exact (solve Max (mean (codes "-"))))) ∷
    (codes "solve m exact max mean - goal", Err Number) ∷
    (codes "solve m exact max mean", Err Number) ∷
    []
    )
solves = refl

-- a label may have a blank
blank_label : job_of_texts (codes "solve" ∷ codes "m" ∷ codes "scaled" ∷ codes "max" ∷ codes "reach" ∷ codes "is done" ∷ []) ≡ Ok (on_model Scaled (solve Max (reach (codes "is done"))))
blank_label = refl

-- ---- `drill`: numbers of at most 20 digits below 2^64, 1 to 100 layers, at most 2^20 - 2 states in them

drills : Asks (
    (codes "drill 007 40 100", Ok (drill 7 40 100)) ∷
    (codes "drill 18446744073709551615 1 1048574", Ok (drill 18446744073709551615 1 1048574)) ∷
    (codes "drill 18446744073709551616 1 1", Err Drill) ∷
    (codes "drill 000000000000000000001 1 1", Err Drill) ∷
    (codes "drill +7 1 1", Err Drill) ∷
    (codes "drill 7 0 2", Err Drill) ∷
    (codes "drill 7 101 1", Err Drill) ∷
    (codes "drill 7 2 524288", Err Drill) ∷
    (codes "drill 7 2", Err Number) ∷
    []
    )
drills = refl

-- ---- `horizon`, `total`: the row rule, the direction, then the steps

horizons : Asks (
    (codes "horizon m exact max - goal 2", Ok (on_model Exact (horizon Max None (codes "goal") 2))) ∷
    (codes "horizon m exact max safe goal 9999999", Ok (on_model Exact (horizon Max (Some (codes "safe")) (codes "goal") 9999999))) ∷
    (codes "horizon m exact best - goal x", Err Direction) ∷
    (codes "horizon m exact max - goal 00000001", Err Steps) ∷
    -- an empty word
    (codes "horizon m exact max - goal ", Err Steps) ∷
    -- `reward` is a label as any other
    (codes "horizon m exact max reward cost 30", Ok (on_model Exact (horizon Max (Some (codes "reward")) (codes "cost") 30))) ∷
    (codes "total m exact max cost 30", Ok (on_model Exact (total Max (codes "cost") 30))) ∷
    (codes "total m exact best cost x", Err Direction) ∷
    (codes "total m exact max cost 12345678", Err Steps) ∷
    (codes "total m EXACT max cost", Err Number) ∷
    []
    )
horizons = refl

-- ---- `curve`: four words at least, the row rule, the direction, the objective, its number of words, the steps, then the digits

curves : Asks (
    (codes "curve m exact max until - goal 100 9", Ok (on_model Exact (curve_until Max None (codes "goal") 100 9))) ∷
    (codes "curve m exact min until safe goal 0 30", Ok (on_model Exact (curve_until Min (Some (codes "safe")) (codes "goal") 0 30))) ∷
    (codes "curve m scaled max total cost 30 6", Ok (on_model Scaled (curve_total Max (codes "cost") 30 6))) ∷
    (codes "curve m EXACT", Err Number) ∷
    (codes "curve m EXACT best visit", Err Rows) ∷
    (codes "curve m exact best visit", Err Direction) ∷
    (codes "curve m exact max reach - goal 100 9", Err Objective) ∷
    (codes "curve m exact max until - goal 100", Err Number) ∷
    (codes "curve m exact max total cost x 9 1", Err Number) ∷
    (codes "curve m exact max total cost x 31", Err Steps) ∷
    (codes "curve m exact max total cost 30 31", Err Digits) ∷
    []
    )
curves = refl

-- ---- `policy`: the number of words, the row rule, then the objective; `chain`: the number of words, then the row rule

policies : Asks (
    (codes "policy m exact p reach goal", Ok (on_pair Exact (policy None (codes "goal")))) ∷
    (codes "policy m exact p until safe goal", Ok (on_pair Exact (policy (Some (codes "safe")) (codes "goal")))) ∷
    (codes "policy m EXACT p until safe goal", Err Rows) ∷
    -- one label, and another objective with two
    (codes "policy m exact p until goal", Err Objective) ∷
    (codes "policy m EXACT p reach safe goal", Err Number) ∷
    (codes "policy m EXACT p visit", Err Number) ∷
    (codes "policy m EXACT p visit goal", Err Rows) ∷
    (codes "policy m exact p reward goal", Err Objective) ∷
    (codes "chain m scaled p", Ok (on_pair Scaled chain)) ∷
    (codes "chain m EXACT p reach", Err Number) ∷
    (codes "chain m EXACT p", Err Rows) ∷
    []
    )
policies = refl

-- ---- `witness`: the number of words, the row rule, the direction, then the threshold, which may be above 1

witnesses : Asks (
    (codes "witness m exact min goal 0.50", Ok (on_model Exact (witness Min None (codes "goal") (ratio (pos 1) 2)))) ∷
    (codes "witness m scaled max goal 2", Ok (on_model Scaled (witness Max None (codes "goal") (ratio (pos 2) 1)))) ∷
    -- with two labels
    (codes "witness m exact max until safe goal 0.50", Ok (on_model Exact (witness Max (Some (codes "safe")) (codes "goal") (ratio (pos 1) 2)))) ∷
    (codes "witness m exact max until safe goal half", Err Threshold) ∷
    (codes "witness m EXACT max reach safe goal 1", Err Number) ∷
    -- `until` as a label
    (codes "witness m exact max until 1", Ok (on_model Exact (witness Max None (codes "until") (ratio (pos 1) 1)))) ∷
    (codes "witness m exact max goal -1/2", Err Threshold) ∷
    (codes "witness m exact best goal half", Err Direction) ∷
    (codes "witness m EXACT best goal", Err Number) ∷
    []
    )
unfolding numeral_of parts_of ratio gcd gcd_with_fuel
witnesses = refl

-- ---- `discount`: the number of words, the row rule, the direction, then the factor, at least 0 and below 1

discounts : Asks (
    (codes "discount m exact max - 0.50", Ok (on_model Exact (discount Max (codes "-") (ratio (pos 1) 2)))) ∷
    (codes "discount m exact max energy 0", Ok (on_model Exact (discount Max (codes "energy") (ratio (pos 0) 1)))) ∷
    (codes "discount m exact max - 1", Err Factor) ∷
    (codes "discount m exact max - -1/2", Err Factor) ∷
    (codes "discount m exact best - 2", Err Direction) ∷
    (codes "discount m EXACT best -", Err Number) ∷
    []
    )
unfolding numeral_of parts_of lt_ℚ ratio of_int gcd gcd_with_fuel
discounts = refl

-- ---- `bounds`: six words at least, the row rule, the direction, the objective, its number of words, then the digits, 1 to 30

bounds_asked : Asks (
    (codes "bounds m exact min reach goal 12", Ok (on_model Exact (bounds Min (reach (codes "goal")) 12))) ∷
    (codes "bounds m scaled max reach goal 30", Ok (on_model Scaled (bounds Max (reach (codes "goal")) 30))) ∷
    (codes "bounds m exact max reach goal 31", Err Digits) ∷
    (codes "bounds m exact max reach goal 0", Err Digits) ∷
    (codes "bounds m exact max reach goal 06", Err Digits) ∷
    (codes "bounds m EXACT best visit goal", Err Number) ∷
    (codes "bounds m EXACT best visit goal 0", Err Rows) ∷
    (codes "bounds m exact best visit goal 0", Err Direction) ∷
    (codes "bounds m exact max visit - goal 0", Err Objective) ∷
    (codes "bounds m exact max reach goal 0 1", Err Number) ∷
    -- until without a deadline
    (codes "bounds m exact max until safe goal 6", Ok (on_model Exact (bounds Max (until (codes "safe") (codes "goal")) 6))) ∷
    (codes "bounds m exact max until safe goal 0", Err Digits) ∷
    (codes "bounds m exact max until goal 0", Err Number) ∷
    -- a reward has a name and a label before the digits, a mean payoff a name alone
    (codes "bounds m exact max reward - goal 6", Ok (on_model Exact (bounds Max (reward (codes "-") (codes "goal")) 6))) ∷
    (codes "bounds m exact max reward goal 0", Err Number) ∷
    (codes "bounds m exact max reward - goal 0", Err Digits) ∷
    (codes "bounds m exact min mean - 6", Ok (on_model Exact (bounds Min (mean (codes "-")) 6))) ∷
    (codes "bounds m exact min mean - goal 0", Err Number) ∷
    []
    )
bounds_asked = refl

-- a deadline or a factor comes before the digits, and has its own refusal
bounds_within : Asks (
    (codes "bounds m exact max until - goal 100 9", Ok (on_model Exact (bounds_until Max None (codes "goal") 100 9))) ∷
    (codes "bounds m exact max until - goal 100 9 1", Err Number) ∷
    (codes "bounds m exact max until - goal x 0", Err Steps) ∷
    (codes "bounds m exact min total cost 7 9", Ok (on_model Exact (bounds_total Min (codes "cost") 7 9))) ∷
    (codes "bounds m exact max total - 7 0", Err Digits) ∷
    (codes "bounds m exact max discount - 0.50 9", Ok (on_model Exact (bounds_discount Max (codes "-") (ratio (pos 1) 2) 9))) ∷
    (codes "bounds m exact max discount - 1 0", Err Factor) ∷
    []
    )
unfolding numeral_of parts_of lt_ℚ ratio of_int gcd gcd_with_fuel
bounds_within = refl

-- the words of `witness` behind the objective: one label, or two behind `until`; then the threshold
bounds_of_witness : Asks (
    (codes "bounds m exact max witness goal 1/4", Ok (on_model Exact (bounds_witness Max None (codes "goal") (ratio (pos 1) 4)))) ∷
    (codes "bounds m scaled min witness until 0.5", Ok (on_model Scaled (bounds_witness Min None (codes "until") (ratio (pos 1) 2)))) ∷
    (codes "bounds m exact max witness until safe goal 1/4", Ok (on_model Exact (bounds_witness Max (Some (codes "safe")) (codes "goal") (ratio (pos 1) 4)))) ∷
    (codes "bounds m exact max witness goal 1/0", Err Threshold) ∷
    (codes "bounds m exact max witness until safe goal -1", Err Threshold) ∷
    (codes "bounds m exact max witness goal 1/4 9", Err Number) ∷
    (codes "bounds m exact max witness unless safe goal 1/4", Err Number) ∷
    (codes "bounds m exact best witness goal 1/0", Err Direction) ∷
    []
    )
unfolding numeral_of parts_of ratio gcd gcd_with_fuel
bounds_of_witness = refl

-- ---- the texts of refusals, and their statuses

encoding_text : text_of (no_job Encoding) ≡ codes "words encoding" ++ 10 ∷ []
encoding_text = refl

digits_text : text_of (no_job Digits) ≡ codes "words digits" ++ 10 ∷ []
digits_text = refl

digits_status : code_of (status_of (no_job Digits)) ≡ 2
digits_status = refl

query_init_text : text_of query_init ≡ codes "query init" ++ 10 ∷ []
query_init_text = refl

below_text_of_third : text_of (below (ratio (pos 1) 3)) ≡ codes "below 1/3" ++ 10 ∷ []
unfolding ratio gcd gcd_with_fuel spelling digits
below_text_of_third = refl

below_status : code_of (status_of (below (ratio (pos 1) 3))) ≡ 11
below_status = refl

undecided_text_of_two : text_of (undecided (ratio (pos 1) 3) (ratio (pos 1) 2)) ≡ codes "undecided 1/3 1/2" ++ 10 ∷ []
unfolding spelling digits ratio gcd gcd_with_fuel
undecided_text_of_two = refl

undecided_status : code_of (status_of (undecided (ratio (pos 1) 3) (ratio (pos 1) 2))) ≡ 12
undecided_status = refl
