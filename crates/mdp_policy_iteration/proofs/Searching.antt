-- A search for the nodes that come to others, and what it has found.
use Rattle.std.proofs.Common.{◌≡◌, ◌⊎◌, inl, inr, ℕ, zero, suc, ◌+◌, ◌<◌, ◌≤◌, Bool, true, ◌||◌}
use Rattle.std.proofs.{Common.{◌==◌, List, [], length, get_or, take, sym, ap, subst, ◌∙◌, arith}, lemmas.Bool.{eqb-true, or_cases, or_left, or_right}}
use Rattle.std.proofs.{lemmas.List.{take_all, take-append-le}, lemmas.List.Folds.{list_any_more}}
use Rattle.std.specs.{List.{All}, Prelude.{slice_index}}
use Rattle.mdp_rows.specs.{Preds.{is_among}, declared.preds.Pred.{Pred}}
use Rattle.mdp_policy_iteration.specs.{Dependents.{depends, Comes, AreComingTo, AreWithDependents}, Marked.{AreMarked, AreAdded, is_taker, has_one, depends_on_one}}
use Rattle.mdp_policy_iteration.proofs.{Among.{among_at, some_among, any_among, some_choice, has_choice}, Marking.{found-in_range}}

-- the search began at these nodes, and is done with the first ones of those found
pub record IsSearching (dependents : List (List Pred)) (policy start : List ℕ) (n next : ℕ) (marks : List Bool) (found : List ℕ) : Type 0 where
  pub count : length marks ≡ n
  pub marked : AreMarked marks found
  pub started : (s : ℕ) → is_among s start ≡ true → is_among s found ≡ true
  pub closed : (s t : ℕ) → is_among t (take next found) ≡ true → depends dependents s (get_or policy s 0) t ≡ true → is_among s found ≡ true
  pub only : (s : ℕ) → is_among s found ≡ true → (m : ℕ) × Comes dependents policy start m s

pub search-in_range : (dependents : List (List Pred)) (policy start : List ℕ) (n next : ℕ) (marks : List Bool) (found : List ℕ) → IsSearching dependents policy start n next marks found
    → next < length found → get_or found next 0 < n
search-in_range dependents policy start n next marks found i h = let k = found-in_range marks found i.marked (get_or found next 0) (among_at found next 0 h) in omega (arith, k, i.count)

-- one more node: those that take a choice which depends on its value are found
pub searched-one : (dependents : List (List Pred)) (policy start : List ℕ) (n next : ℕ) (marks new : List Bool) (found more : List ℕ) → IsSearching dependents policy start n next marks found
    → next < length found → AreAdded (is_taker policy (get_or dependents (get_or found next 0) [])) marks new found more → IsSearching dependents policy start n (next + 1) new more
searched-one dependents policy start n next marks new found more i l a = record {
  count = a.count ∙ i.count;
  marked = a.marked;
  started = λ s h. a.at s ∙ or_left (is_among s found) (takes s) (i.started s h);
  closed = closed;
  only = λ s h. elim (or_cases (is_among s found) (takes s) (sym (a.at s) ∙ h)) [
    | inl old ↦ i.only s old
    | inr taker ↦ (let w = i.only t (among_at found next 0 l) in (suc w.0, (t, taker, w.1)))
  ];
} where
  t : ℕ
  t = get_or found next 0

  takes : ℕ → Bool
  takes s = is_taker policy (get_or dependents (get_or found next 0) []) s

  closed : (s u : ℕ) → is_among u (take (next + 1) more) ≡ true → depends dependents s (get_or policy s 0) u ≡ true → is_among s more ≡ true
  closed s u h r =
      let kept : take (next + 1) more ≡ take (next + 1) found =
      ap (λ (xs : List ℕ). take (next + 1) xs) a.front.1 ∙ take-append-le (next + 1) found a.front.0 (omega arith) in
      let split = sym (ap (is_among u) kept ∙ list_any_more (λ x. x == u) found next 0 l) ∙ h in
      a.at s ∙ (elim (or_cases (is_among u (take next found)) (t == u) split) [
        | inl old ↦ or_left (is_among s found) (takes s) (i.closed s u old r)
        | inr new ↦ or_right (is_among s found) (takes s) (subst (λ v. depends dependents s (get_or policy s 0) v ≡ true) (sym (eqb-true t u new)) r)
      ])

-- a search that is done with all nodes has found those that come to the first ones
pub searched-all : (dependents : List (List Pred)) (policy start : List ℕ) (n next : ℕ) (marks : List Bool) (found : List ℕ) → IsSearching dependents policy start n next marks found
    → length found ≤ next → AreComingTo dependents policy start found
searched-all dependents policy start n next marks found i l = record { each = each; only = i.only } where
  each : (m s : ℕ) → Comes dependents policy start m s → is_among s found ≡ true
  each zero s h = i.started s h
  each (suc m) s h = i.closed s h.0 (ap (is_among h.0) (take_all next found l) ∙ each m h.0 h.2) h.1

-- ---- what the calls answer

-- what comes to nodes comes to the same nodes in another list
comes_to : (dependents : List (List Pred)) (policy xs ys : List ℕ) → ((s : ℕ) → is_among s xs ≡ is_among s ys) → (n s : ℕ) → Comes dependents policy xs n s → Comes dependents policy ys n s
comes_to dependents policy xs ys same zero s h = sym (same s) ∙ h
comes_to dependents policy xs ys same (suc n) s h = (h.0, h.1, comes_to dependents policy xs ys same n h.0 h.2)

pub coming_found : (dependents : List (List Pred)) (policy changed : List ℕ) (m0 m1 : List Bool) (none first found sorted : List ℕ) → none ≡ []
    → AreAdded (λ s. is_among s changed) m0 m1 none first → AreComingTo dependents policy first found → ((s : ℕ) → is_among s sorted ≡ is_among s found)
    → AreComingTo dependents policy changed sorted
coming_found dependents policy changed m0 m1 none first found sorted e a c same = record {
  each = λ n s h. same s ∙ c.each n s (comes_to dependents policy changed first (λ s. sym (begun s)) n s h);
  only = λ s k. (let w = c.only s (sym (same s) ∙ k) in (w.0, comes_to dependents policy first changed begun w.0 s w.1));
} where
  begun : (s : ℕ) → is_among s first ≡ is_among s changed
  begun s = a.at s ∙ ap (λ (xs : List ℕ). is_among s xs || is_among s changed) e

pub dependents_found : (dependents : List (List Pred)) (nodes : List ℕ) (m0 m1 m2 : List Bool) (none first found sorted : List ℕ) → none ≡ []
    → AreAdded (λ s. is_among s nodes) m0 m1 none first → AreAdded (depends_on_one dependents nodes) m1 m2 first found → ((s : ℕ) → is_among s sorted ≡ is_among s found)
    → AreWithDependents dependents nodes sorted
dependents_found dependents nodes m0 m1 m2 none first found sorted e a b same = record {
  holds_nodes = λ k d l. at (get_or nodes k d) ∙ or_left (is_among (get_or nodes k d) nodes) (depends_on_one dependents nodes (get_or nodes k d)) (among_at nodes k d l);
  holds_dependents = λ s c t k r. at s ∙ or_right (is_among s nodes) (depends_on_one dependents nodes s) (any_among (λ u. has_one (get_or dependents u []) s) t nodes k (has_choice s c (get_or dependents t []) r));
  only = λ s k. elim (or_cases (is_among s nodes) (depends_on_one dependents nodes s) (sym (at s) ∙ k)) [
    | inl h ↦ inl h
    | inr h ↦
        (let w = some_among (λ u. has_one (get_or dependents u []) s) nodes h in
        let c = some_choice s (get_or dependents w.0 []) w.2 in
        inr (c.0, w.0, w.1, c.1))
  ];
} where
  at : (s : ℕ) → is_among s sorted ≡ (is_among s nodes || depends_on_one dependents nodes s)
  at s = same s ∙ b.at s ∙ ap (λ x. x || depends_on_one dependents nodes s) (a.at s ∙ ap (λ (xs : List ℕ). is_among s xs || is_among s nodes) e)

-- ---- what they say

module _ (dependents : List (List Pred)) (policy changed found : List ℕ) (are : AreComingTo dependents policy changed found) where
  pub coming-changed : All (λ s. is_among s found ≡ true) changed
  coming-changed = λ k d l. are.each 0 (get_or changed k d) (among_at changed k d l)

  pub coming-closed : (s t : ℕ) → is_among t found ≡ true → depends dependents s (slice_index policy s) t ≡ true → is_among s found ≡ true
  coming-closed s t h r = let w = are.only t h in are.each (suc w.0) s (t, r, w.1)

  by_steps : (n s : ℕ) → Comes dependents policy changed n s → (is_among s changed ≡ true) ⊎ ((c : ℕ) × (t : ℕ) × (depends dependents s c t ≡ true))
  by_steps zero s h = inl h
  by_steps (suc n) s h = inr (slice_index policy s, h.0, h.1)

  -- beside the changed nodes they are nodes with a choice that depends on a value
  pub coming-depends : (s : ℕ) → is_among s found ≡ true → (is_among s changed ≡ true) ⊎ ((c : ℕ) × (t : ℕ) × (depends dependents s c t ≡ true))
  coming-depends s h = let w = are.only s h in by_steps w.0 s w.1
