-- The pieces of a written text, each of which one function appends.
use Rattle.std.specs.Prelude.{ℕ, suc, List, [], ◌∷◌, ◌++◌, length, map, sum_by, decimal, codes, ◌==◌, if◌then◌else◌}
use Rattle.mdp_num.specs.Value.{spelling}
use Rattle.mdp_spec.specs.Mdp.{Choice, State, Mdp, states_of}
use Rattle.mdp_drn.specs.Writing.{line, names_text, bracket_text, labels_text, row_text, choices_text}

-- the header down to the line of reward names, and from there on
abbrev pub first_lines : Mdp → List ℕ
first_lines m = line (codes "@type: MDP") ++ line (codes "@parameters") ++ line [] ++ line (codes "@reward_models") ++ line (names_text m.names)

abbrev pub count_text : List ℕ → ℕ → List ℕ
count_text entry count = line entry ++ line (decimal count)

abbrev pub count_lines : Mdp → List ℕ
count_lines m = count_text (codes "@nr_states") (states_of m) ++ count_text (codes "@nr_choices") (sum_by (λ x. length x.choices) m.states) ++ line (codes "@model")

-- what stands before the text of this place in a list of texts
abbrev pub separator_text : List ℕ → ℕ → List ℕ
separator_text separator place = if place == 0 then [] else separator

-- the texts from this place on, each but the first of all behind a separator
abbrev pub separated : List ℕ → ℕ → List (List ℕ) → List ℕ
separated separator place [] = []
separated separator place (text ∷ texts) = (separator_text separator place ++ text) ++ separated separator (suc place) texts

-- a state's own rewards
abbrev pub zeros_of : Mdp → List (List ℕ)
zeros_of m = map (λ name. codes "0") m.names

abbrev pub state_line_text : Mdp → ℕ → State → List ℕ
state_line_text m s x = line (codes "state " ++ decimal s ++ bracket_text (zeros_of m) ++ labels_text m.labels x.labels)

abbrev pub state_text : Mdp → ℕ → State → List ℕ
state_text m s x = state_line_text m s x ++ choices_text 0 x.choices

abbrev pub choice_line_text : ℕ → Choice → List ℕ
choice_line_text c x = line (9 ∷ codes "action " ++ decimal c ++ bracket_text (map spelling x.rewards))

abbrev pub choice_text : ℕ → Choice → List ℕ
choice_text c x = choice_line_text c x ++ row_text x.row
