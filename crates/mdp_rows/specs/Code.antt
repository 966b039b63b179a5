-- How the values that contracts see of this crate's types are told apart: each as a list or tuple that gives it back.
use Rattle.std.specs.{Prelude.{ℕ, List, refl}, Coded.{Coded, code_by, coded×, coded_ℕ, coded_list}}
use Rattle.mdp_math.specs.Rational.{ℚ}
use Rattle.mdp_num.specs.Code.{rational_code}
use Rattle.mdp_rows.specs.{ChoiceTable.{ChoiceTable}, Labelling.{Labelling}}
use Rattle.mdp_spec.specs.Mdp.{Entry, Choice, State, Mdp}

abbrev pub entry_code : Coded Entry
entry_code = code_by (ℕ × ℚ) (coded× coded_ℕ rational_code) (λ x. (x.target, x.prob)) (λ p. record { target = p.0; prob = p.1 }) (λ _. refl)

abbrev pub rows_code : Coded (List (List Entry))
rows_code = coded_list (coded_list entry_code)

abbrev pub choice_code : Coded Choice
choice_code = code_by (List Entry × List ℚ) (coded× (coded_list entry_code) (coded_list rational_code)) (λ x. (x.row, x.rewards)) (λ p. record { row = p.0; rewards = p.1 }) (λ _. refl)

abbrev pub state_code : Coded State
state_code = code_by (List ℕ × List Choice) (coded× (coded_list coded_ℕ) (coded_list choice_code)) (λ x. (x.labels, x.choices)) (λ p. record { labels = p.0; choices = p.1 }) (λ _. refl)

abbrev pub names_code : Coded (List (List ℕ))
names_code = coded_list (coded_list coded_ℕ)

abbrev pub mdp_code : Coded Mdp
mdp_code =
    code_by (List (List ℕ) × (List (List ℕ) × List State)) (coded× names_code (coded× names_code (coded_list state_code)))
    (λ m. (m.names, (m.labels, m.states))) (λ p. record { names = p.0; labels = p.1.0; states = p.1.1 }) (λ _. refl)

abbrev pub labels_code : Coded Labelling
labels_code =
    code_by (List (List ℕ) × List (List ℕ)) (coded× names_code names_code)
    (λ a. (a.names, a.of_state)) (λ p. record { names = p.0; of_state = p.1 }) (λ _. refl)

abbrev pub table_code : Coded ChoiceTable
table_code =
    code_by (List (List ℕ) × List Choice) (coded× names_code (coded_list choice_code))
    (λ t. (t.names, t.choices)) (λ p. record { names = p.0; choices = p.1 }) (λ _. refl)
