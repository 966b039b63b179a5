-- Changes that a policy takes one after another.
use Rattle.std.proofs.Common.{◌≡◌, ◌≢◌, inl, inr, ℕ, ◌+◌, ◌<◌, List, [], ◌∷◌, ◌++◌, length, take, slice_index, get_or, Option, None, refl, sym, ◌∙◌, ap, subst, arith}
use Rattle.std.proofs.{lemmas.Bool.{cases_eq}, lemmas.List.{take_more, get_or-take, length-take-le, ext_get_or, get_or-set_same, get_or-set_other, length-set}}
use Rattle.std.proofs.lemmas.List.FromFn.{get_or-map-range_with_len, length-map-range_with_len}
use Rattle.std.specs.{List.{All}, Prelude.{slice_set, slice_index_or}}
use Rattle.mdp_rows.specs.declared.preds.Pred.{Pred}
use Rattle.mdp_policy_iteration.specs.{Path.{or_kept, improved}, Changes.{change_at, spread, Ascend, nodes_of}}
use Rattle.mdp_policy_iteration.proofs.Collected.{change_at-other, change_at-last, nodes_of-at, length-nodes_of}

module _ (before : List ℕ) where
  -- the policy after it has taken these changes
  pub record HasTaken (changes : List Pred) (now : List ℕ) : Type 0 where
    pub len : length now ≡ length before
    pub at : (s : ℕ) → s < length before → slice_index now s ≡ or_kept (change_at changes s) (slice_index before s)

  pub taken-none : HasTaken [] before
  taken-none = record { len = refl; at = λ s l. refl }

  taken-last : (changes : List Pred) (now : List ℕ) (x : Pred) → HasTaken changes now → All (λ y. y.state ≢ x.state) changes → x.state < length before
      → HasTaken (changes ++ x ∷ []) (slice_set now x.state x.choice)
  taken-last changes now x h apart below = record {
    len = length-set now x.state x.choice ∙ h.len;
    at = λ s l. elim (cases_eq s x.state) as (λ _. slice_index (slice_set now x.state x.choice) s ≡ or_kept (change_at (changes ++ x ∷ []) s) (slice_index before s)) [
      | inl same ↦
          ap (slice_index (slice_set now x.state x.choice)) same ∙ get_or-set_same now x.state x.choice 0 (let e = h.len in omega arith)
          ∙ ap (λ (o : Option ℕ). or_kept o (slice_index before s)) (sym (ap (change_at (changes ++ x ∷ [])) same ∙ change_at-last x.state changes x apart refl))
      | inr other ↦
          get_or-set_other now x.state s x.choice 0 other ∙ h.at s l
          ∙ ap (λ (o : Option ℕ). or_kept o (slice_index before s)) (sym (change_at-other s changes x (λ q. other (sym q))))
    ];
  }

  earlier_apart : (changes : List Pred) (i : ℕ) (e : Pred) → Ascend (nodes_of changes) → i < length changes → All (λ y. y.state ≢ (get_or changes i e).state) (take i changes)
  earlier_apart changes i e ascend l k d m =
      let len : length (take i changes) ≡ i = length-take-le i changes (omega arith) in
      let n = length-nodes_of changes in
      let h = ascend k i (omega arith) (omega arith) in
      let a = nodes_of-at changes k d (omega arith) in
      let b = nodes_of-at changes i e l in
      let c : (get_or (take i changes) k d).state ≡ (get_or changes k d).state = ap Pred.state (get_or-take i changes k d (omega arith)) in
      λ q. omega arith

  pub taken-more : (changes : List Pred) (now : List ℕ) (i : ℕ) (d : Pred) → Ascend (nodes_of changes) → All (λ x. x.state < length before) changes → HasTaken (take i changes) now
      → i < length changes → HasTaken (take (i + 1) changes) (slice_set now (get_or changes i d).state (get_or changes i d).choice)
  taken-more changes now i d ascend in_range h l =
      let x = get_or changes i d in
      subst (λ (cs : List Pred). HasTaken cs (slice_set now x.state x.choice)) (sym (take_more changes i d l))
      (taken-last (take i changes) now x h (earlier_apart changes i d ascend l) (in_range i d l))

  pub taken-all : (changes : List Pred) (now : List ℕ) → HasTaken changes now → now ≡ improved before (spread (length before) changes)
  taken-all changes now h =
      let n = length before in
      let step : ℕ → ℕ = λ s. or_kept (slice_index_or (spread n changes) s None) (slice_index before s) in
      ext_get_or 0 now (improved before (spread n changes)) (h.len ∙ sym (length-map-range_with_len step 0 n))
      (λ s l. (let m : s < n = (let e = h.len in omega arith) in
      h.at s m ∙ ap (λ (o : Option ℕ). or_kept o (slice_index before s)) (sym (get_or-map-range_with_len (change_at changes) 0 n s s None m (omega arith)))
      ∙ sym (get_or-map-range_with_len step 0 n s s 0 m (omega arith))))
