-- A label, and the label of the states on the way to it, where there is one.
use Rattle.std.specs.{Prelude.{ℕ, Bool, List, Option, Some, None, option_map}, Borrow.{Bor}}
use Rattle.std.specs.Global.{Vec}
use Rattle.mdp_spec.specs.{Labels.{place_of, marks_of}, Mdp.{Mdp}}

-- ---- the values of the program's types

abbrev pub name_of : Option (Bor (List ℕ)) → Option (List ℕ)
name_of stay = option_map (λ name. name.now) stay

abbrev pub owned_name : Option (Vec ℕ) → Option (List ℕ)
owned_name stay = option_map (λ name. name.items) stay

-- ---- where they are

-- a place, where there is another one too
abbrev pub with_place : Option ℕ → Option ℕ → Option ℕ
with_place None place = None
with_place (Some other) place = place

-- the place of the label, where the model has it, and the label of the states on the way too
abbrev pub place_on_way : Mdp → Option (List ℕ) → List ℕ → Option ℕ
place_on_way m None label = place_of label m.labels
place_on_way m (Some stay) label = with_place (place_of stay m.labels) (place_of label m.labels)

-- the states with the label, where both are found
abbrev pub goals_by : Mdp → Option (List ℕ) → List ℕ → Option (List Bool)
goals_by m stay label = option_map (marks_of m) (place_on_way m stay label)
