-- One choice of a state, whose truth value stands in one vector with those of all states.
use Rattle.std.proofs.{Common.{◌≡◌, ℕ, ◌+◌, ◌<◌, Bool, List, [], length, map, get_or, set, refl, sym, subst}, lemmas.List.{length-set}}
use Rattle.mdp_rows.specs.Pieces.{pieces, ArePlaces}
use Rattle.mdp_graph.specs.{Waiting.{count_waiting}, FlatWaiting.{AreCounted}}
use Rattle.mdp_graph.proofs.FlatWaiting.{choice_there, choice_read, choice_set}
use Rattle.mdp_parts.specs.Allowed.{allowed_at}

-- choice c of state s, whose choices start at a
module _ (values : List Bool) (starts : List ℕ) (lists : List (List Bool)) (s c a : ℕ) (ok : ArePlaces starts (length values))
    (view : pieces values starts ≡ lists) (hs : s < length lists) (hc : c < length (get_or lists s [])) (is : a ≡ get_or starts s a) where
  -- so many of each state's values are true
  counted : AreCounted values starts (map count_waiting (pieces values starts))
  counted = record { places = ok; counts_are = refl }

  pub value_there : a + c < length values
  value_there = choice_there values starts (map count_waiting (pieces values starts)) lists s c a counted view hs hc is

  pub value_read : (read : Bool) → read ≡ get_or values (a + c) read → read ≡ allowed_at lists s c
  value_read = choice_read values starts (map count_waiting (pieces values starts)) lists s c a counted view hs hc is

  pub value_set : (y : Bool) → pieces (set values (a + c) y) starts ≡ set lists s (set (get_or lists s []) c y)
  value_set = choice_set values starts (map count_waiting (pieces values starts)) lists s c a counted view hs hc is

pub same_places : (values : List Bool) (starts : List ℕ) (place : ℕ) (y : Bool) → ArePlaces starts (length values)
    → ArePlaces starts (length (set values place y))
same_places values starts place y ok = subst (ArePlaces starts) (sym (length-set values place y)) ok
