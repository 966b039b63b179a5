-- The choices that lead to a state.
use Rattle.std.specs.{Prelude.{ℕ, Bool, ◌==◌, List, map, length}, List.{list_any, filter, flat_map, range_with_len}}
use Rattle.mdp_spec.specs.Mdp.{Entry, Mdp, states_of, choices_at, row_at}
use Rattle.mdp_rows.specs.declared.preds.Pred.{Pred}

-- whether a list of states holds t
abbrev pub is_among : ℕ → List ℕ → Bool
is_among t xs = list_any (λ x. x == t) xs

-- whether a row has an entry to state t
abbrev pub leads_to : ℕ → List Entry → Bool
leads_to t row = list_any (λ x. x.target == t) row

abbrev pub pair : ℕ → ℕ → Pred
pair s c = record { state = s; choice = c }

-- the first n choices of state s
abbrev pub first_choices : ℕ → ℕ → List Pred
first_choices s n = map (pair s) (range_with_len 0 n)

-- the choices of a state, and of the first n states
abbrev pub choices_of : Mdp → ℕ → List Pred
choices_of m s = first_choices s (length (choices_at m s))

abbrev pub choices_below : Mdp → ℕ → List Pred
choices_below m n = flat_map (choices_of m) (range_with_len 0 n)

-- those with an entry to state t
abbrev pub leading : Mdp → ℕ → List Pred → List Pred
leading m t pairs = filter (λ p. leads_to t (row_at m p.state p.choice)) pairs

-- the choices of the model with an entry to state t, ascending by state and then by choice
abbrev pub preds_to : Mdp → ℕ → List Pred
preds_to m t = leading m t (choices_below m (states_of m))
