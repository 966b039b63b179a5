-- Labels, by the bytes of their names.
use Rattle.std.specs.{Prelude.{ℕ, Bool, false, List, [], ◌∷◌, map, filter, position, Option, Some, None, ◌==◌, codes}, List.{list_any, range_with_len}}
use Rattle.std.specs.Str.{bytes_eq}
use Rattle.mdp_spec.specs.Mdp.{Mdp, has_label, states_of}

-- the place of a name in a list of names
abbrev pub place_of : List ℕ → List (List ℕ) → Option ℕ
place_of name names = position (bytes_eq name) names

-- which states have the label of place l
abbrev pub marks_of : Mdp → ℕ → List Bool
marks_of m l = map (λ x. list_any (λ k. k == l) x.labels) m.states

abbrev pub has_at : Mdp → Option ℕ → ℕ → Bool
has_at m None s = false
has_at m (Some l) s = has_label m l s

-- the states with the label of this name, ascending
abbrev pub labelled : Mdp → List ℕ → List ℕ
labelled m name = filter (has_at m (place_of name m.labels)) (range_with_len 0 (states_of m))

-- the element of a list of one element
abbrev pub only : List ℕ → Option ℕ
only [] = None
only (x ∷ []) = Some x
only (x ∷ y ∷ xs) = None

-- the one state with the label `init`, where there is exactly one
abbrev pub initial_of : Mdp → Option ℕ
initial_of m = only (labelled m (codes "init"))
