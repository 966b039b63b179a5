-- The pieces of the text, each of which one function appends.
use Rattle.std.specs.Prelude.{ℕ, min, max, List, [], ◌∷◌, ◌++◌, decimal, codes, ◌==◌, if◌then◌else◌}
use Rattle.mdp_drn.specs.{Writing.{line}, Pieces.{count_text}}
use Rattle.mdp_gen.specs.{Draws.{next}, Layered.{target}}

-- so many states and choices, and the end of the header
abbrev pub counts_text : ℕ → ℕ → List ℕ
counts_text states choices = count_text (codes "@nr_states") states ++ count_text (codes "@nr_choices") choices ++ codes "@model\n"

abbrev pub header_text : ℕ → ℕ → List ℕ
header_text states choices = codes "@type: MDP\n@parameters\n\n@reward_models\n\n" ++ counts_text states choices

-- behind two tabs, with a spelled probability
abbrev pub entry_text : ℕ → List ℕ → List ℕ
entry_text target prob = line (9 ∷ 9 ∷ decimal target ++ codes " : " ++ prob)

abbrev pub row_text : ℕ → ℕ → List ℕ
row_text a b = if a == b then entry_text a (codes "1") else (entry_text (min a b) (codes "1/2") ++ entry_text (max a b) (codes "1/2"))

-- behind a tab
abbrev pub choice_line_text : ℕ → List ℕ
choice_line_text c = line (9 ∷ codes "action " ++ decimal c ++ codes " [0]")

-- choice c, which leads to a and b
abbrev pub choice_text : ℕ → ℕ → ℕ → List ℕ
choice_text c a b = choice_line_text c ++ row_text a b

-- with labels in quotes, each behind a blank
abbrev pub state_line_text : ℕ → List ℕ → List ℕ
state_line_text s labels = line (codes "state " ++ decimal s ++ codes " [0]" ++ labels)

abbrev pub initial_text : ℕ → List ℕ
initial_text s = if s == 0 then codes " \"init\"" else []

-- choice c of state s, by two draws
abbrev pub drawn_text : ℕ → ℕ → ℕ → ℕ → ℕ → ℕ → List ℕ
drawn_text layers width s c a b = choice_text c (target layers width s a) (target layers width s b)

-- state s of a layer, where x was drawn before it
abbrev pub state_text : ℕ → ℕ → ℕ → ℕ → List ℕ
state_text layers width s x =
    state_line_text s (initial_text s) ++ drawn_text layers width s 0 (next x) (next (next x)) ++ drawn_text layers width s 1 (next (next (next x))) (next (next (next (next x))))

-- a state with a loop
abbrev pub loop_text : ℕ → List ℕ → List ℕ
loop_text s labels = state_line_text s labels ++ choice_text 0 s s
