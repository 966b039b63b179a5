-- Choices that wait: those none of whose successors has a rank so far.
use Rattle.std.specs.Prelude.{◌≡◌, ℕ, ◌<◌, Bool, true, ◌||◌, ◌&&◌, ◌==◌, not, List, [], length, replicate, Option, is_none, slice_index_or}
use Rattle.std.specs.List.{list_any, count_by, flat_map}
use Rattle.mdp_spec.specs.Mdp.{Mdp, states_of, choices_at, row_at}
use Rattle.mdp_rows.specs.{Preds.{is_among}, declared.preds.Pred.{Pred}}
use Rattle.mdp_graph.specs.{Sets.{marked, can_enter}, Layers.{rank_at}}

-- a truth value for each choice of each state: whether it waits; how many choices of a state do
abbrev pub waits : List (List Bool) → ℕ → ℕ → Bool
waits lists s c = marked (slice_index_or lists s []) c

abbrev pub some_waits : List (List Bool) → ℕ → Bool
some_waits lists s = list_any (λ b. b) (slice_index_or lists s [])

abbrev pub count_waiting : List Bool → ℕ
count_waiting list = count_by (λ b. b) list

-- each choice of a state waits
abbrev pub all_wait : Mdp → ℕ → List Bool
all_wait m s = replicate (length (choices_at m s)) true

-- the choices that have no successor in a set are those that wait
pub record AreWaiting (m : Mdp) (set : ℕ → Bool) (lists : List (List Bool)) : Type 0 where
  pub count : length lists ≡ states_of m
  pub width : (s : ℕ) → s < states_of m → length (slice_index_or lists s []) ≡ length (choices_at m s)
  pub at : (s c : ℕ) → s < states_of m → c < length (choices_at m s) → waits lists s c ≡ not (can_enter set (row_at m s c))

-- whether choice c of state s is one of these
abbrev pub is_one_of : List Pred → ℕ → ℕ → Bool
is_one_of pairs s c = list_any (λ p. (p.state == s) && (p.choice == c)) pairs

-- the choices are within the lists
abbrev pub AreWithin : List (List Bool) → List Pred → Type 0
AreWithin lists pairs = (s c : ℕ) → is_one_of pairs s c ≡ true → (s < length lists) × (c < length (slice_index_or lists s []))

-- these choices no longer wait
pub record AreReleased (old new : List (List Bool)) (pairs : List Pred) : Type 0 where
  pub count : length new ≡ length old
  pub width : (s : ℕ) → length (slice_index_or new s []) ≡ length (slice_index_or old s [])
  pub at : (s c : ℕ) → waits new s c ≡ (waits old s c && not (is_one_of pairs s c))

-- the states without a rank whose last waiting choice is one of these were added to a list
pub record AreMet (old new : List (List Bool)) (pairs : List Pred) (ranks : List (Option ℕ)) (old_list new_list : List ℕ) : Type 0 where
  pub released : AreReleased old new pairs
  pub listed : (s : ℕ) → is_among s new_list ≡ (is_among s old_list || (is_none (rank_at ranks s) && (some_waits old s && not (some_waits new s))))

-- the choices with an entry to one of these states
abbrev pub leading_to : List (List Pred) → List ℕ → List Pred
leading_to preds states = flat_map (λ t. slice_index_or preds t []) states
