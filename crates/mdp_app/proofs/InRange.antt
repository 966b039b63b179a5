-- What words that ask for a drill say of its numbers, those that ask for discounted rewards of their factor, those that ask for a witness of their
-- threshold, and those that ask for bounds or a curve of their digits.
use Rattle.std.proofs.Common.{◌≡◌, ℕ, zero, suc, ◌*◌, ◌-◌, ◌^◌, ◌≤◌, Bool, true, false, ◌&&◌, cond, not, nat_lt, List, [], ◌∷◌, length, map, Option, Some, None, Result, Ok, Err, IfOk}
use Rattle.std.proofs.{Common.{refl, subst, T, sym, ltb→lt, arith, pos}, lemmas.Bool.{and_parts, ltb-false}}
use Rattle.std.specs.{Prelude.{◌==◌, codes}, Global.{Global}, Str.{bytes_eq}, String.{string_bytes}, declared.string.String.{String}}
use Rattle.mdp_math.specs.{Rational.{ℚ, ratio, lt_ℚ, ◌≤ℚ◌}, Result.{◌>>=◌}}
use Rattle.mdp_math.proofs.{Extremes.{lt_of_test}, Order.{0ℚ, 1ℚ, ≤ℚ_refl, ratio-nonneg}}
use Rattle.mdp_num.specs.{Numeral.{parts_of, terms_of, value_of, numeral_of}, declared.errors.NumeralError.{NumeralError}}
use Rattle.mdp_discount_rules.specs.Rules.{IsFactor}
use Rattle.mdp_rows.specs.{declared.dir.Dir.{Dir}, declared.rule.RowRule.{RowRule}}
use Rattle.mdp_app.specs.InRange.{IsTaskInRange, IsInRange, asked_for}
use Rattle.mdp_job.specs.Job.{PlainTask, bounds_until, bounds_total, curve_until, curve_total, PlainPairTask, check, policy, chain, discount_check, bounds_check, PlainJob, on_model, on_pair, drill, Asked}
use Rattle.mdp_job.specs.Words.{rows_of, word_at, rule_of, head_of, on_model_of, pair_of, query_of, solve_of, whole_word, can_draw, drill_by, drill_with, drill_of}
use Rattle.mdp_job.specs.Words.{threshold_by, threshold_of, witness_reach_of, witness_until_of, witness_of, steps_of, horizon_of, total_of, policy_reach_of, policy_until_of, policy_of}
use Rattle.mdp_job.specs.Words.{below_one, factor_of, discount_of, begins_with_zero, few_digits, digits_of, until_within, total_within, bounds_query_of, bounds_digits_of, bounds_best_of}
use Rattle.mdp_job.specs.Words.{bounds_discount_of, bounds_witness_reach_of, bounds_witness_until_of, bounds_witness_of, bounds_by, bounds_of, curve_by, curve_of, on_model_by, job_of_texts, job_of}
use Rattle.mdp_job.specs.declared.words_error.WordsError.{WordsError}
use Rattle.mdp_job.specs.declared.words_error.WordsError.TheVariants.{Command, Number, Objective, Drill, Factor, Digits}

-- ---- a factor

ratio-least : (n d : ℕ) → 0ℚ ≤ℚ ratio (pos n) d
unfolding ratio
ratio-least n zero = ≤ℚ_refl 0ℚ
ratio-least n (suc d) = ratio-nonneg n (suc d) (omega arith)

-- a numeral has no sign
value-least : (terms : Result (ℕ × ℕ) NumeralError) (f : ℚ) → value_of terms ≡ Ok f → 0ℚ ≤ℚ f
value-least (Ok p) f e = let is : ratio (pos p.0) p.1 ≡ f = cc e in subst (λ (x : ℚ). 0ℚ ≤ℚ x) is (ratio-least p.0 p.1)
value-least (Err reason) f e = cc e

factor_by : (read : Result ℚ NumeralError) → ((f : ℚ) → read ≡ Ok f → 0ℚ ≤ℚ f) → (f : ℚ) → below_one read ≡ Ok f → IsFactor f
factor_by (Err reason) least f e = cc e
factor_by (Ok x) least f e = by (lt_ℚ x 1ℚ) refl e
  where
    by : (b : Bool) → lt_ℚ x 1ℚ ≡ b → cond b (Ok x) (Err Factor) ≡ Ok f → IsFactor f
    by true below same =
        let is : x ≡ f = cc same in subst IsFactor is (record { at_least_zero = least x refl; below_one = lt_of_test x 1ℚ below })
    by false below same = cc same

factor_is : (word : List ℕ) (f : ℚ) → factor_of word ≡ Ok f → IsFactor f
unfolding numeral_of
factor_is word f e = factor_by (numeral_of word) (value-least (terms_of (parts_of word))) f e

-- ---- a threshold

threshold_least : (read : Result ℚ NumeralError) → ((t : ℚ) → read ≡ Ok t → 0ℚ ≤ℚ t) → (t : ℚ) → threshold_by read ≡ Ok t → 0ℚ ≤ℚ t
threshold_least (Err reason) least t e = cc e
threshold_least (Ok x) least t e = let is : x ≡ t = cc e in subst (λ (y : ℚ). 0ℚ ≤ℚ y) is (least x refl)

threshold_is : (word : List ℕ) (t : ℚ) → threshold_of word ≡ Ok t → 0ℚ ≤ℚ t
unfolding numeral_of
threshold_is word t e = threshold_least (numeral_of word) (value-least (terms_of (parts_of word))) t e

-- ---- digits

few_by : (read : Option ℕ) (n : ℕ) → few_digits read ≡ Ok n → n ≤ 30
few_by None n e = cc e
few_by (Some k) n e = by (nat_lt 30 k) refl e
  where
    by : (b : Bool) → nat_lt 30 k ≡ b → cond b (Err Digits) (Ok k) ≡ Ok n → n ≤ 30
    by true past same = cc same
    by false few same = let is : k ≡ n = cc same in subst (λ (x : ℕ). x ≤ 30) is (ltb-false 30 k few)

few_are : (word : List ℕ) (n : ℕ) → digits_of word ≡ Ok n → n ≤ 30
few_are word n e = by (begins_with_zero word) e
  where
    by : (b : Bool) → cond b (Err Digits) (few_digits (whole_word 2 word)) ≡ Ok n → n ≤ 30
    by true same = cc same
    by false same = few_by (whole_word 2 word) n same

-- ---- words

-- what words ask of a model, if they do
abbrev IsTaskOk : Result PlainTask WordsError → Type 0
IsTaskOk asked = IfOk asked IsTaskInRange

either : (b : Bool) (x y : Asked) → IsInRange x → IsInRange y → IsInRange (cond b x y)
either true x y p q = p
either false x y p q = q

either_task : (b : Bool) (x y : Result PlainTask WordsError) → IsTaskOk x → IsTaskOk y → IsTaskOk (cond b x y)
either_task true x y p q = p
either_task false x y p q = q

bind_task : {A : Type 0} (r : Result A WordsError) (f : A → Result PlainTask WordsError) → ((x : A) → r ≡ Ok x → IsTaskOk (f x)) → IsTaskOk (r >>= f)
bind_task (Ok x) f h = h x refl
bind_task (Err e) f h = tt

task_of : (rule : RowRule) (asked : Result PlainTask WordsError) → IsTaskOk asked → IsInRange (asked >>= (λ task. Ok (on_model rule task)))
task_of rule (Ok task) ok = ok
task_of rule (Err e) ok = tt

head_by : (head : Result (RowRule × Dir) WordsError) (f : Dir → Result PlainTask WordsError) → ((dir : Dir) → IsTaskOk (f dir))
    → IsInRange (head >>= (λ h. f h.1 >>= (λ task. Ok (on_model h.0 task))))
head_by (Ok h) f ok = task_of h.0 (f h.1) (ok h.1)
head_by (Err e) f ok = tt

-- words that ask for a task whose numbers are in range
model_in_range : (words : List (List ℕ)) (f : Dir → Result PlainTask WordsError) → ((dir : Dir) → IsTaskOk (f dir)) → IsInRange (on_model_of words f)
model_in_range words f ok = head_by (head_of (word_at words 1) (word_at words 2)) f ok

bind_pair : (r : Result RowRule WordsError) (f : RowRule → Asked) → ((x : RowRule) → IsInRange (f x)) → IsInRange (r >>= f)
bind_pair (Ok x) f h = h x
bind_pair (Err e) f h = tt

pair_in_range : (task : PlainPairTask) (words : List (List ℕ)) → IsInRange (pair_of task words)
pair_in_range task words = bind_pair (rows_of words) _ (λ rule. tt)

drill_by_in_range : (number layers width : ℕ) → IsInRange (drill_by number layers width)
drill_by_in_range number layers width = by (can_draw number layers width) refl
  where
    by : (b : Bool) → can_draw number layers width ≡ b → IsInRange (cond b (Ok (drill number layers width)) (Err Drill))
    by true e = e
    by false e = tt

drill_with_in_range : (number layers width : Option ℕ) → IsInRange (drill_with number layers width)
drill_with_in_range (Some number) (Some layers) (Some width) = drill_by_in_range number layers width
drill_with_in_range None layers width = tt
drill_with_in_range (Some number) None width = tt
drill_with_in_range (Some number) (Some layers) None = tt

drill_in_range : (words : List (List ℕ)) → IsInRange (drill_of words)
drill_in_range words = either (length words == 3) (drill_with (whole_word 20 (word_at words 0)) (whole_word 7 (word_at words 1)) (whole_word 7 (word_at words 2))) (Err Number)
    (drill_with_in_range (whole_word 20 (word_at words 0)) (whole_word 7 (word_at words 1)) (whole_word 7 (word_at words 2))) tt

solve_in_range : (words : List (List ℕ)) → IsInRange (solve_of words)
solve_in_range words = either (nat_lt (length words) 4) (Err Number) _ tt (model_in_range words _ (λ dir. bind_task (query_of words) _ (λ query is. tt)))

-- behind other words, a threshold is that of a witness
witness_reach_in_range : (words : List (List ℕ)) → IsInRange (witness_reach_of words)
witness_reach_in_range words =
    either (length words == 5) _ (Err Number) (model_in_range words _ (λ dir. bind_task (threshold_of (word_at words 4)) _ (λ threshold is. threshold_is (word_at words 4) threshold is))) tt

witness_until_in_range : (words : List (List ℕ)) → IsInRange (witness_until_of words)
witness_until_in_range words =
    either (length words == 7) _ (Err Number) (model_in_range words _ (λ dir. bind_task (threshold_of (word_at words 6)) _ (λ threshold is. threshold_is (word_at words 6) threshold is))) tt

witness_in_range : (words : List (List ℕ)) → IsInRange (witness_of words)
witness_in_range words =
    either ((length words == 7) && bytes_eq (word_at words 3) (codes "until")) (witness_until_of words) (witness_reach_of words) (witness_until_in_range words) (witness_reach_in_range words)

horizon_in_range : (words : List (List ℕ)) → IsInRange (horizon_of words)
horizon_in_range words = either (length words == 6) _ (Err Number) (model_in_range words _ (λ dir. bind_task (steps_of (word_at words 5)) _ (λ steps is. tt))) tt

total_in_range : (words : List (List ℕ)) → IsInRange (total_of words)
total_in_range words = either (length words == 5) _ (Err Number) (model_in_range words _ (λ dir. bind_task (steps_of (word_at words 4)) _ (λ steps is. tt))) tt

policy_reach_in_range : (words : List (List ℕ)) → IsInRange (policy_reach_of words)
policy_reach_in_range words =
    either (length words == 5) _ (Err Number)
    (bind_pair (rule_of (word_at words 1)) _ (λ rule. either (bytes_eq (word_at words 3) (codes "reach")) (Ok (on_pair rule (policy None (word_at words 4)))) (Err Objective) tt tt)) tt

policy_until_in_range : (words : List (List ℕ)) → IsInRange (policy_until_of words)
policy_until_in_range words = either (length words == 6) _ (Err Number) (bind_pair (rule_of (word_at words 1)) _ (λ rule. tt)) tt

policy_in_range : (words : List (List ℕ)) → IsInRange (policy_of words)
policy_in_range words =
    either ((length words == 6) && bytes_eq (word_at words 3) (codes "until")) (policy_until_of words) (policy_reach_of words) (policy_until_in_range words) (policy_reach_in_range words)

discount_in_range : (words : List (List ℕ)) → IsInRange (discount_of words)
discount_in_range words =
    either (length words == 5) _ (Err Number) (model_in_range words _ (λ dir. bind_task (factor_of (word_at words 4)) _ (λ factor is. factor_is (word_at words 4) factor is))) tt

bounds_best_in_range : (dir : Dir) (words : List (List ℕ)) → IsTaskOk (bounds_best_of dir words)
bounds_best_in_range dir words = bind_task (bounds_query_of words) _ (λ query is. bind_task (bounds_digits_of words) _ (λ digits are. tt))

-- steps, then digits
until_in_range : (words : List (List ℕ)) (task : Option (List ℕ) → List ℕ → ℕ → ℕ → PlainTask)
    → ((stay : Option (List ℕ)) (label : List ℕ) (steps digits : ℕ) → digits ≤ 30 → IsTaskInRange (task stay label steps digits)) → IsTaskOk (until_within words task)
until_in_range words task ok =
    either_task (length words == 8) _ (Err Number)
    (bind_task (steps_of (word_at words 6)) _ (λ steps are. bind_task (digits_of (word_at words 7)) _ (λ digits is. ok _ _ steps digits (few_are (word_at words 7) digits is)))) tt

total_within_range : (words : List (List ℕ)) (task : List ℕ → ℕ → ℕ → PlainTask)
    → ((name : List ℕ) (steps digits : ℕ) → digits ≤ 30 → IsTaskInRange (task name steps digits)) → IsTaskOk (total_within words task)
total_within_range words task ok =
    either_task (length words == 7) _ (Err Number)
    (bind_task (steps_of (word_at words 5)) _ (λ steps are. bind_task (digits_of (word_at words 6)) _ (λ digits is. ok _ steps digits (few_are (word_at words 6) digits is)))) tt

bounds_discount_in_range : (dir : Dir) (words : List (List ℕ)) → IsTaskOk (bounds_discount_of dir words)
bounds_discount_in_range dir words =
    either_task (length words == 7) _ (Err Number)
    (bind_task (factor_of (word_at words 5)) _ (λ factor is. bind_task (digits_of (word_at words 6)) _ (λ digits are. factor_is (word_at words 5) factor is))) tt

bounds_witness_in_range : (dir : Dir) (words : List (List ℕ)) → IsTaskOk (bounds_witness_of dir words)
bounds_witness_in_range dir words =
    either_task ((length words == 8) && bytes_eq (word_at words 4) (codes "until")) (bounds_witness_until_of dir words) (bounds_witness_reach_of dir words)
    (either_task (length words == 8) _ (Err Number) (bind_task (threshold_of (word_at words 7)) _ (λ threshold is. threshold_is (word_at words 7) threshold is)) tt)
    (either_task (length words == 6) _ (Err Number) (bind_task (threshold_of (word_at words 5)) _ (λ threshold is. threshold_is (word_at words 5) threshold is)) tt)

bounds_by_in_range : (dir : Dir) (words : List (List ℕ)) → IsTaskOk (bounds_by dir words)
bounds_by_in_range dir words =
    either_task (bytes_eq (word_at words 3) (codes "until") && (length words == 8)) (until_within words (bounds_until dir)) _
    (until_in_range words (bounds_until dir) (λ stay label steps digits few. few)) (
    either_task (bytes_eq (word_at words 3) (codes "total")) (total_within words (bounds_total dir)) _
    (total_within_range words (bounds_total dir) (λ name steps digits few. few)) (
    either_task (bytes_eq (word_at words 3) (codes "discount")) (bounds_discount_of dir words) _ (bounds_discount_in_range dir words) (
    either_task (bytes_eq (word_at words 3) (codes "witness")) (bounds_witness_of dir words) (bounds_best_of dir words)
    (bounds_witness_in_range dir words) (bounds_best_in_range dir words))))

bounds_in_range : (words : List (List ℕ)) → IsInRange (bounds_of words)
bounds_in_range words = either (nat_lt (length words) 6) (Err Number) _ tt (model_in_range words _ (λ dir. bounds_by_in_range dir words))

curve_by_in_range : (dir : Dir) (words : List (List ℕ)) → IsTaskOk (curve_by dir words)
curve_by_in_range dir words =
    either_task (bytes_eq (word_at words 3) (codes "until")) (until_within words (curve_until dir)) _
    (until_in_range words (curve_until dir) (λ stay label steps digits few. few))
    (either_task (bytes_eq (word_at words 3) (codes "total")) (total_within words (curve_total dir)) (Err Objective)
    (total_within_range words (curve_total dir) (λ name steps digits few. few)) tt)

curve_in_range : (words : List (List ℕ)) → IsInRange (curve_of words)
curve_in_range words = either (nat_lt (length words) 4) (Err Number) _ tt (model_in_range words _ (λ dir. curve_by_in_range dir words))

on_model_in_range : (command : List ℕ) (words : List (List ℕ)) → IsInRange (on_model_by command words)
on_model_in_range command words =
    either (bytes_eq command (codes "solve")) (solve_of words) _ (solve_in_range words) (
    either (bytes_eq command (codes "witness")) (witness_of words) _ (witness_in_range words) (
    either (bytes_eq command (codes "horizon")) (horizon_of words) _ (horizon_in_range words) (
    either (bytes_eq command (codes "total")) (total_of words) _ (total_in_range words) (
    either (bytes_eq command (codes "discount")) (discount_of words) _ (discount_in_range words) (
    either (bytes_eq command (codes "bounds")) (bounds_of words) _ (bounds_in_range words) (
    either (bytes_eq command (codes "curve")) (curve_of words) (Err Command) (curve_in_range words) tt))))))

texts_in_range : (words : List (List ℕ)) → IsInRange (job_of_texts words)
texts_in_range [] = tt
texts_in_range (command ∷ words) =
    either (bytes_eq command (codes "check")) (pair_of check words) _ (pair_in_range check words) (
    either (bytes_eq command (codes "discount-check")) (pair_of discount_check words) _ (pair_in_range discount_check words) (
    either (bytes_eq command (codes "bounds-check")) (pair_of bounds_check words) _ (pair_in_range bounds_check words) (
    either (bytes_eq command (codes "chain")) (pair_of chain words) _ (pair_in_range chain words) (
    either (bytes_eq command (codes "policy")) (policy_of words) _ (policy_in_range words) (
    either (bytes_eq command (codes "drill")) (drill_of words) (on_model_by command words) (drill_in_range words) (on_model_in_range command words))))))

-- a job that words ask for
pub in_range_of : (words : List (String Global)) (job : PlainJob) → asked_for job ≡ job_of words → IsInRange (asked_for job)
in_range_of words job is = subst IsInRange (sym is) (texts_in_range (map string_bytes words))

-- ---- the numbers of a drill

-- what that says of them
pub record CanDraw (layers width : ℕ) : Type 0 where
  pub some_layers : 1 ≤ layers
  pub few_layers : layers ≤ 100
  pub some_width : 1 ≤ width
  pub few_states : layers * width ≤ 2 ^ 20 - 2

above_zero : (n : ℕ) → nat_lt 0 n ≡ true → 1 ≤ n
above_zero n e = let l = ltb→lt 0 n (subst T (sym e) tt) in omega (arith, l)

not_past : (n m : ℕ) → not (nat_lt m n) ≡ true → n ≤ m
not_past n m e = ltb-false m n (by (nat_lt m n) e)
  where
    by : (b : Bool) → not b ≡ true → b ≡ false
    by true h = cc h
    by false h = refl

pub can_draw_of : (number layers width : ℕ) → can_draw number layers width ≡ true → CanDraw layers width
can_draw_of number layers width can =
    let a = and_parts (nat_lt number (2 ^ 64)) _ can in
    let b = and_parts (nat_lt 0 layers) _ a.1 in
    let c = and_parts (not (nat_lt 100 layers)) _ b.1 in
    let d = and_parts (nat_lt 0 width) _ c.1 in
    record { some_layers = above_zero layers b.0; few_layers = not_past layers 100 c.0; some_width = above_zero width d.0; few_states = not_past (layers * width) (2 ^ 20 - 2) d.1 }
