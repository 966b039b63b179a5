-- The states that may reach a target, and those that reach one along given rows.
use Rattle.std.specs.Prelude.{ℕ, Bool, ◌&&◌, not, nat_lt, List, [], slice_index, slice_index_or}
use Rattle.mdp_spec.specs.Mdp.{Entry, Mdp, row_at}
use Rattle.mdp_graph.specs.Sets.{marked, can_enter, some_choice}

-- a state that isn't blocked and has a choice with a successor in the set
abbrev pub may_step : Mdp → List Bool → (ℕ → Bool) → ℕ → Bool
may_step m blocked set s = not (marked blocked s) && some_choice (can_enter set) m s

-- a state whose row has a successor in the set
abbrev pub row_step : List (List Entry) → (ℕ → Bool) → ℕ → Bool
row_step rows set s = can_enter set (slice_index_or rows s [])

-- choice c has a marked successor of smaller rank
abbrev pub falls : Mdp → List Bool → List ℕ → ℕ → ℕ → Bool
falls m marks ranks s c = can_enter (λ t. marked marks t && nat_lt (slice_index ranks t) (slice_index ranks s)) (row_at m s c)
