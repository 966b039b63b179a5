-- The states that the search for the first set has found, and those of them whose successors haven't been looked at.
use Rattle.std.specs.Prelude.{ℕ, Bool, true, ◌&&◌, not, List, [], ◌∷◌, ◌++◌, fold, slice_set, if◌then◌else◌}
use Rattle.mdp_math.specs.Rational.{ℚ}
use Rattle.mdp_spec.specs.{Mdp.{Entry, Mdp, row_at}, Tree.{is_marked}}
use Rattle.mdp_rows.specs.declared.dir.Dir.{Dir}
use Rattle.mdp_witness.specs.First.{is_open, followed}

pub record Front : Type 0 where
  pub found : List Bool
  pub waiting : List ℕ

-- one more state, where it is open and wasn't found before
abbrev pub with_state : List Bool → List ℚ → Front → ℕ → Front
with_state goals z f t = if is_open goals z t && not (is_marked f.found t) then record { found = slice_set f.found t true; waiting = f.waiting ++ t ∷ [] } else f

abbrev pub with_states : List Bool → List ℚ → Front → List ℕ → Front
with_states goals z f ts = fold (with_state goals z) f ts

-- the targets of a row, and those of a choice of state s
abbrev pub with_row : List Bool → List ℚ → Front → List Entry → Front
with_row goals z f row = fold (λ g x. with_state goals z g x.target) f row

abbrev pub with_choice : Mdp → List Bool → List ℚ → ℕ → Front → ℕ → Front
with_choice m goals z s f c = with_row goals z f (row_at m s c)

-- those of all choices that are followed
abbrev pub with_next : Dir → Mdp → List Bool → List ℚ → List ℕ → Front → ℕ → Front
with_next dir m goals z policy f s = fold (with_choice m goals z s) f (followed dir m policy s)
