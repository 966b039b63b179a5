-- Part i of the maximal end components of a model as a component: its states and its choices.
use Rattle.std.specs.{Prelude.{ℕ, ◌<◌, Bool, ◌&&◌, List, filter, Option}, List.{range_with_len}}
use Rattle.mdp_spec.specs.{Mdp.{Mdp, states_of}, Row.{IsMdp}}
use Rattle.mdp_rows.specs.declared.dir.Dir.{Dir}
use Rattle.mdp_ends.specs.Ends.{AreEnds, count_of, in_part, is_inside}
use Rattle.mdp_unichain.specs.{Component.{Component}, Model.{component_of}}

pub record IsPart (m : Mdp) (parts : List (Option ℕ)) (i : ℕ) : Type 0 where
  pub model : IsMdp m
  pub ends : AreEnds m parts
  pub below : i < count_of parts

-- the states of part i, ascending
abbrev pub members : Mdp → List (Option ℕ) → ℕ → List ℕ
members m parts i = filter (in_part parts i) (range_with_len 0 (states_of m))

-- choice c of state s is one of part i
abbrev pub is_inner : Mdp → List (Option ℕ) → ℕ → ℕ → ℕ → Bool
is_inner m parts i s c = in_part parts i s && is_inside m parts s c

-- its states are those of part i; states and choices keep their numbers
abbrev pub inner_component : Dir → Mdp → List (Option ℕ) → ℕ → ℕ → Component
inner_component dir m parts i r = component_of dir m r (is_inner m parts i)
