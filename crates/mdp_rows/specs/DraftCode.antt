-- How drafts are told apart.
use Rattle.std.specs.{Prelude.{◌≡◌, ℕ, List, Option, refl, ◌==◌, if◌then◌else◌}, Coded.{Coded, code_by, coded×, coded_ℕ, coded_list, coded_option}}
use Rattle.mdp_math.specs.Rational.{ℚ}
use Rattle.mdp_num.specs.Code.{rational_code}
use Rattle.mdp_spec.specs.Mdp.{Entry, Choice, State}
use Rattle.mdp_rows.specs.{Code.{entry_code, choice_code, state_code, names_code}, Draft.{Draft, OpenState, OpenChoice}, declared.error.RowsError.{RowsError}}
use Rattle.mdp_rows.specs.declared.error.RowsError.TheVariants.{RowSum, RowWide, Twice, NoChoice, TooMany, Target, Large, Count, Memory}
use Rattle.mdp_rows.specs.{declared.rule.RowRule.{RowRule}, declared.rule.RowRule.TheVariants.{Exact, Scaled}}

abbrev pub open_choice_code : Coded OpenChoice
open_choice_code =
    code_by (List ℚ × List Entry) (coded× (coded_list rational_code) (coded_list entry_code)) (λ c. (c.rewards, c.row)) (λ p. record { rewards = p.0; row = p.1 }) (λ _. refl)

abbrev pub open_state_code : Coded OpenState
open_state_code =
    code_by (List ℚ × (List ℕ × (ℕ × (List Choice × Option OpenChoice))))
    (coded× (coded_list rational_code) (coded× (coded_list coded_ℕ) (coded× coded_ℕ (coded× (coded_list choice_code) (coded_option open_choice_code)))))
    (λ o. (o.rewards, (o.labels, (o.label_calls, (o.choices, o.choice)))))
    (λ p. record { rewards = p.0; labels = p.1.0; label_calls = p.1.1.0; choices = p.1.1.1.0; choice = p.1.1.1.1 }) (λ _. refl)

abbrev pub rule_number : RowRule → ℕ
rule_number Exact = 0
rule_number Scaled = 1

abbrev pub rule_from : ℕ → RowRule
rule_from n = if n == 0 then Exact else Scaled

pub rule_back : (r : RowRule) → rule_from (rule_number r) ≡ r
rule_back Exact = refl
rule_back Scaled = refl

abbrev pub rule_code : Coded RowRule
rule_code = code_by ℕ coded_ℕ rule_number rule_from rule_back

-- a refusal, as its number, its state and its choice
abbrev pub error_terms : RowsError → ℕ × (ℕ × ℕ)
error_terms (RowSum s c) = (0, (s, c))
error_terms (RowWide s c) = (1, (s, c))
error_terms (NoChoice s) = (2, (s, 0))
error_terms Twice = (3, (0, 0))
error_terms TooMany = (4, (0, 0))
error_terms Target = (5, (0, 0))
error_terms Count = (6, (0, 0))
error_terms Large = (7, (0, 0))
error_terms Memory = (8, (0, 0))

abbrev pub error_from : ℕ → ℕ → ℕ → RowsError
error_from n s c =
    if n == 0 then RowSum s c
    else (if n == 1 then RowWide s c
    else (if n == 2 then NoChoice s
    else (if n == 3 then Twice
    else (if n == 4 then TooMany
    else (if n == 5 then Target
    else (if n == 6 then Count
    else (if n == 7 then Large else Memory)))))))

pub error_back : (e : RowsError) → (let t = error_terms e in error_from t.0 t.1.0 t.1.1) ≡ e
error_back (RowSum s c) = refl
error_back (RowWide s c) = refl
error_back (NoChoice s) = refl
error_back Twice = refl
error_back TooMany = refl
error_back Target = refl
error_back Count = refl
error_back Large = refl
error_back Memory = refl

abbrev pub error_code : Coded RowsError
error_code = code_by (ℕ × (ℕ × ℕ)) (coded× coded_ℕ (coded× coded_ℕ coded_ℕ)) error_terms (λ t. error_from t.0 t.1.0 t.1.1) error_back

abbrev pub draft_code : Coded Draft
draft_code =
    code_by (ℕ × (RowRule × (List (List ℕ) × (List (List ℕ) × (List State × (Option OpenState × (ℕ × Option RowsError)))))))
    (coded× coded_ℕ (coded× rule_code (coded× names_code (coded× names_code (coded× (coded_list state_code) (coded× (coded_option open_state_code) (coded× coded_ℕ (coded_option error_code))))))))
    (λ d. (d.announced, (d.rule, (d.names, (d.labels, (d.closed, (d.state, (d.entries, d.refused))))))))
    (λ p. record { announced = p.0; rule = p.1.0; names = p.1.1.0; labels = p.1.1.1.0; closed = p.1.1.1.1.0; state = p.1.1.1.1.1.0; entries = p.1.1.1.1.1.1.0; refused = p.1.1.1.1.1.1.1 }) (λ _. refl)
