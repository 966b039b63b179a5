-- The one text of a model that is written.
use Rattle.std.specs.{Prelude.{ℕ, suc, ◌&&◌, List, [], ◌∷◌, ◌++◌, length, map, sum_by, slice_index_or, decimal, codes, ◌==◌, if◌then◌else◌}, Str.{bytes_eq}}
use Rattle.mdp_num.specs.Value.{spelling}
use Rattle.mdp_spec.specs.Mdp.{Entry, Choice, State, Mdp, states_of}
use Rattle.mdp_rows.specs.{Limits.{IsModel}, declared.rule.RowRule.TheVariants.{Exact}}
use Rattle.mdp_drn.specs.Reading.{Reads}

-- a text and its line feed
abbrev pub line : List ℕ → List ℕ
line text = text ++ 10 ∷ []

-- texts with a separator between two
abbrev pub joined : List ℕ → List (List ℕ) → List ℕ
joined separator [] = []
joined separator (text ∷ []) = text
joined separator (text ∷ next ∷ texts) = text ++ separator ++ joined separator (next ∷ texts)

-- nothing where the one name is `-`
abbrev pub names_text : List (List ℕ) → List ℕ
names_text names = if (length names == 1) && bytes_eq (slice_index_or names 0 []) (codes "-") then [] else joined (codes " ") names

abbrev pub header_text : Mdp → List ℕ
header_text m =
    line (codes "@type: MDP") ++ line (codes "@parameters") ++ line [] ++ line (codes "@reward_models") ++ line (names_text m.names) ++ line (codes "@nr_states") ++ line (decimal (states_of m))
    ++ line (codes "@nr_choices") ++ line (decimal (sum_by (λ x. length x.choices) m.states)) ++ line (codes "@model")

-- a blank, and the rewards in brackets
abbrev pub bracket_text : List (List ℕ) → List ℕ
bracket_text values = codes " [" ++ joined (codes ", ") values ++ codes "]"

-- a blank, and a label in quotes
abbrev pub label_text : List ℕ → List ℕ
label_text name = codes " \"" ++ name ++ codes "\""

abbrev pub labels_text : List (List ℕ) → List ℕ → List ℕ
labels_text labels [] = []
labels_text labels (l ∷ places) = label_text (slice_index_or labels l []) ++ labels_text labels places

-- behind two tabs
abbrev pub entry_text : Entry → List ℕ
entry_text x = 9 ∷ 9 ∷ decimal x.target ++ codes " : " ++ spelling x.prob

abbrev pub row_text : List Entry → List ℕ
row_text [] = []
row_text (x ∷ row) = line (entry_text x) ++ row_text row

-- the choices of a state from number c on, each behind a tab
abbrev pub choices_text : ℕ → List Choice → List ℕ
choices_text c [] = []
choices_text c (x ∷ choices) = line (9 ∷ codes "action " ++ decimal c ++ bracket_text (map spelling x.rewards)) ++ row_text x.row ++ choices_text (suc c) choices

-- the states from number s on; a state's own rewards are 0, since those of its choices have them
abbrev pub states_text : Mdp → ℕ → List State → List ℕ
states_text m s [] = []
states_text m s (x ∷ states) =
    line (codes "state " ++ decimal s ++ bracket_text (map (λ name. codes "0") m.names) ++ labels_text m.labels x.labels) ++ choices_text 0 x.choices ++ states_text m (suc s) states

abbrev pub text_of : Mdp → List ℕ
text_of m = header_text m ++ states_text m 0 m.states

-- the text of a model reads as that model
abbrev pub ReadsBack : Type 0
ReadsBack = (m : Mdp) → IsModel m → Reads (text_of m) Exact m
