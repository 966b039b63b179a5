-- Sets of states, each as the truth value of every state, and the choices that lead into a set or stay in it.
use Rattle.std.specs.{Prelude.{ℕ, Bool, false, List, slice_index_or}, List.{list_any, list_all}}
use Rattle.mdp_spec.specs.Mdp.{Entry, Mdp, choices_at}

-- the states that a list marks
abbrev pub marked : List Bool → ℕ → Bool
marked marks s = slice_index_or marks s false

-- some successor is in the set
abbrev pub can_enter : (ℕ → Bool) → List Entry → Bool
can_enter set row = list_any (λ x. set x.target) row

-- all successors are in the set
abbrev pub stays_in : (ℕ → Bool) → List Entry → Bool
stays_in set row = list_all (λ x. set x.target) row

-- some choice of state s has such a row
abbrev pub some_choice : (List Entry → Bool) → Mdp → ℕ → Bool
some_choice test m s = list_any (λ x. test x.row) (choices_at m s)

-- each choice of state s has such a row
abbrev pub each_choice : (List Entry → Bool) → Mdp → ℕ → Bool
each_choice test m s = list_all (λ x. test x.row) (choices_at m s)
