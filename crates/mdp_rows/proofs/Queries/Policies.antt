-- The rows of a policy are rows of the model.
use Rattle.std.proofs.{Common.{◌≡◌, ℕ, ◌<◌, List, [], length, map, subst, zero-add}, lemmas.List.FromFn.{length-map-range_with_len, get_or-map-range_with_len}}
use Rattle.std.specs.{Prelude.{slice_index, slice_index_or}, List.{range_with_len}}
use Rattle.mdp_spec.specs.{Mdp.{Entry, Mdp, states_of, choices_at, row_at}, Row.{IsMdp, IsRow, AreRows}, Tree.{IsPolicy}}

pub rows_known : (m : Mdp) (policy : ℕ → ℕ) → IsMdp m → ((s : ℕ) → s < states_of m → policy s < length (choices_at m s)) → AreRows (map (λ s. row_at m s (policy s)) (range_with_len 0 (states_of m)))
rows_known m policy ok choice = λ s d h.
    let f : ℕ → List Entry = λ s. row_at m s (policy s) in
    let n = length-map-range_with_len f 0 (states_of m) in
    let k : s < states_of m = subst (λ (n : ℕ). s < n) n h in
    rw (get_or-map-range_with_len f 0 (states_of m) s s d k (zero-add s), n) (ok.row s (policy s) k (choice s k))

-- the rows of a policy that is a list of choices
module _ (m : Mdp) (policy : List ℕ) where
  abbrev pub chosen_row : ℕ → List Entry
  chosen_row s = row_at m s (slice_index policy s)

  abbrev pub chosen_rows : List (List Entry)
  chosen_rows = map chosen_row (range_with_len 0 (states_of m))

  pub rows-len : length chosen_rows ≡ states_of m
  rows-len = length-map-range_with_len chosen_row 0 (states_of m)

  pub row-is : (s : ℕ) → s < states_of m → slice_index_or chosen_rows s [] ≡ chosen_row s
  row-is s l = get_or-map-range_with_len chosen_row 0 (states_of m) s s [] l (zero-add s)

  module _ (model : IsMdp m) (is : IsPolicy m policy) where
    pub row-known : (s : ℕ) → s < states_of m → IsRow (states_of m) (chosen_row s)
    row-known s l = model.row s (slice_index policy s) l (is.in_range s l)

    pub are_rows : AreRows chosen_rows
    are_rows = rows_known m (λ s. slice_index policy s) model (λ s l. is.in_range s l)
