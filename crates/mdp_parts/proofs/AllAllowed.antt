-- One `true` for each choice of each state.
use Rattle.std.proofs.Common.{◌≡◌, ℕ, ◌<◌, ◌≤◌, Bool, true, false, List, [], length, get_or, map, replicate, ap, ◌∙◌, arith, take, refl, sym}
use Rattle.std.proofs.{lemmas.List.{length-replicate, get_or-replicate}, lemmas.List.FromFn.{get_or-map-range_with_len, length-map-range_with_len}}
use Rattle.std.specs.List.{range_with_len}
use Rattle.mdp_spec.specs.Mdp.{Mdp, states_of, choices_at}
use Rattle.mdp_rows.specs.Pieces.{pieces}
use Rattle.mdp_graph.proofs.{FlatWaiting.{AreAll, all_there}, Releasing.{lists_by_counts}}
use Rattle.mdp_parts.specs.Allowed.{each_true, allowed_at, AreChoices}

-- how many choices each state has
abbrev pub choice_counts : Mdp → List ℕ
choice_counts m = map (λ s. length (choices_at m s)) (range_with_len 0 (states_of m))

pub length-counts : (m : Mdp) → length (choice_counts m) ≡ states_of m
length-counts m = length-map-range_with_len (λ s. length (choices_at m s)) 0 (states_of m)

pub count_at : (m : Mdp) (s n : ℕ) → s < states_of m → n ≡ length (choices_at m s) → n ≡ get_or (choice_counts m) s n
count_at m s n h e = e ∙ sym (get_or-map-range_with_len (λ s. length (choices_at m s)) 0 (states_of m) s s n h (omega arith))

-- what was allowed when each state was gone through
pub lists_are : (m : Mdp) (values : List Bool) (starts : List ℕ) (i : ℕ) → AreAll values starts (take i (choice_counts m)) → states_of m ≤ i
    → pieces values starts ≡ map (each_true m) (range_with_len 0 (states_of m))
lists_are m values starts i all h =
    lists_by_counts m (choice_counts m) _ (states_of m)
    (all_there values starts (choice_counts m) (choice_counts m) i all (omega (arith, h, length-counts m)) refl) refl

module _ (m : Mdp) (lists : List (List Bool)) (is : lists ≡ map (each_true m) (range_with_len 0 (states_of m))) where
  list_at : (s : ℕ) → s < states_of m → get_or lists s [] ≡ replicate (length (choices_at m s)) true
  list_at s h = ap (λ (xs : List (List Bool)). get_or xs s []) is ∙ get_or-map-range_with_len (each_true m) 0 (states_of m) s s [] h (omega arith)

  pub all_sizes : AreChoices m lists
  all_sizes = record {
    count = ap length is ∙ length-map-range_with_len (each_true m) 0 (states_of m);
    width = λ s h. ap (λ (xs : List Bool). length xs) (list_at s h) ∙ length-replicate (length (choices_at m s)) true;
  }

  pub all_true : (s c : ℕ) → s < states_of m → c < length (choices_at m s) → allowed_at lists s c ≡ true
  all_true s c h l = ap (λ (xs : List Bool). get_or xs c false) (list_at s h) ∙ get_or-replicate (length (choices_at m s)) c true false l
