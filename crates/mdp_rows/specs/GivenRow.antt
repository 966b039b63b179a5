-- The row that is open: its entries in the order in which they were given, and for each state whether one of them leads to it.
use Rattle.std.specs.Prelude.{◌≡◌, ℕ, ◌<◌, Bool, false, IsTrue, List, [], ◌∷◌, length, slice_index_or, All}
use Rattle.mdp_spec.specs.{Mdp.{Entry}, Row.{ascends_from}}
use Rattle.mdp_rows.specs.Draft.{with_entry, has_target}

-- a row with these entries put in one after the other
abbrev pub with_all : List Entry → List Entry → List Entry
with_all row [] = row
with_all row (x ∷ given) = with_all (with_entry x row) given

-- the entries by ascending targets
abbrev pub in_order : List Entry → List Entry
in_order given = with_all [] given

-- no target twice, each a state, and a mark at each
pub record IsGivenRow (states : ℕ) (given : List Entry) (marks : List Bool) : Type 0 where
  pub ascending : IsTrue (ascends_from 0 (in_order given))
  pub in_range : All (λ x. x.target < states) given
  pub as_many : length marks ≡ states
  pub marked : (t : ℕ) → t < states → slice_index_or marks t false ≡ has_target given t
