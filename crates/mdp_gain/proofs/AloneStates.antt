-- The states of the model of one end component alone: those of the component at their places, with their choices in the same order, and the one more state.
use Rattle.std.proofs.Common.{◌≡◌, ℕ, suc, ◌<◌, Bool, true, false, List, [], length, map, Option, ◌∙◌, ap, arith, zero-add}
use Rattle.std.proofs.{lemmas.List.{length-map, get_or-map, get_or_at}, lemmas.List.FromFn.{length-map-range_with_len, get_or-map-range_with_len}}
use Rattle.std.specs.Prelude.{slice_index, slice_index_or}
use Rattle.mdp_spec.specs.{Mdp.{Choice, State, Mdp, no_state, no_choice, states_of, state_at, choices_at, choice_at, row_at}, Unit.{reward_of}}
use Rattle.mdp_ends.proofs.NumberingFound.{length-more, at_before}
use Rattle.mdp_unichain.specs.Part.{members, is_inner}
use Rattle.mdp_gain.specs.Alone.{placed_entry, to, row_alone, choice_alone, state_alone, elsewhere, alone}

module _ (m : Mdp) (parts : List (Option ℕ)) (i r : ℕ) where
  abbrev states : List ℕ
  states = members m parts i

  abbrev count : ℕ
  count = length states

  -- the number that a place has in the model
  abbrev at : ℕ → ℕ
  at j = slice_index states j

  abbrev small : Mdp
  small = alone m parts i r

  abbrev own_states : List State
  own_states = map (state_alone m parts i r states) states

  pub count-alone : states_of small ≡ suc count
  count-alone = length-more own_states (elsewhere count) ∙ ap suc (length-map states (state_alone m parts i r states))

  pub state-alone : (j : ℕ) → j < count → state_at small j ≡ state_alone m parts i r states (at j)
  state-alone j l =
      let n = length-map states (state_alone m parts i r states) in
      at_before own_states (elsewhere count) no_state j (omega (arith, l, n)) ∙ get_or-map (state_alone m parts i r states) states j 0 no_state l

  pub state-elsewhere : state_at small count ≡ elsewhere count
  state-elsewhere = get_or_at own_states (elsewhere count) [] no_state count (length-map states (state_alone m parts i r states))

  pub width-alone : (j : ℕ) → j < count → length (choices_at small j) ≡ length (choices_at m (at j))
  width-alone j l =
      ap (λ (x : State). length x.choices) (state-alone j l)
      ∙ length-map-range_with_len (choice_alone m parts i r states (at j)) 0 (length (choices_at m (at j)))

  pub width-elsewhere : length (choices_at small count) ≡ 1
  width-elsewhere = ap (λ (x : State). length x.choices) state-elsewhere

  pub row-elsewhere : row_at small count 0 ≡ to count
  row-elsewhere = ap (λ (x : State). Choice.row (slice_index_or x.choices 0 no_choice)) state-elsewhere

  module _ (j c : ℕ) (l : j < count) (h : c < length (choices_at m (at j))) where
    pub choice-alone : choice_at small j c ≡ choice_alone m parts i r states (at j) c
    choice-alone =
        ap (λ (x : State). slice_index_or x.choices c no_choice) (state-alone j l)
        ∙ get_or-map-range_with_len (choice_alone m parts i r states (at j)) 0 (length (choices_at m (at j))) c c no_choice h (zero-add c)

    pub reward-alone : reward_of (choice_at small j c) 0 ≡ reward_of (choice_at m (at j) c) r
    reward-alone = ap (λ (x : Choice). reward_of x 0) choice-alone

    row_by : (b : Bool) → is_inner m parts i (at j) c ≡ b → row_at small j c ≡ row_alone b states (row_at m (at j) c)
    row_by b e = ap (λ (x : Choice). x.row) choice-alone ∙ ap (λ (b : Bool). row_alone b states (row_at m (at j) c)) e

    pub row-inner : is_inner m parts i (at j) c ≡ true
        → row_at small j c ≡ map (placed_entry states) (row_at m (at j) c)
    row-inner e = row_by true e

    pub row-leaving : is_inner m parts i (at j) c ≡ false → row_at small j c ≡ to count
    row-leaving e = row_by false e
