-- The exits of all nodes, choice by choice and state by state.
use Rattle.std.proofs.Common.{◌≡◌, inl, inr, ℕ, ◌+◌, ◌<◌, Bool, true, false, not, ◌&&◌, ◌==◌, cond, List}
use Rattle.std.proofs.Common.{[], ◌∷◌, ◌++◌, length, get_or, filter, replicate, refl, sym, ap, ◌∙◌, subst, arith, Option}
use Rattle.std.proofs.lemmas.Bool.{cases_eq, eq-eqb, ne_eqb}
use Rattle.std.proofs.lemmas.List.{get_or-set_same, get_or-set_other, length-set, append-nil, append_assoc, length-replicate, get_or-replicate}
use Rattle.std.proofs.{lemmas.List.Elements.{filter-append}, lemmas.List.FromFn.{map-range_with_len_more}, lemmas.Grind.{flat_map-append}}
use Rattle.std.specs.{List.{range_with_len, flat_map}, Prelude.{slice_set}}
use Rattle.mdp_math.proofs.Lists.{map-same}
use Rattle.mdp_spec.specs.Mdp.{Mdp}
use Rattle.mdp_rows.specs.{declared.preds.Pred.{Pred}, Preds.{pair, first_choices, choices_of, choices_below}}
use Rattle.mdp_ends.specs.Ends.{is_inside}
use Rattle.mdp_quot.specs.ExitLists.{is_exit, AreExits}

choices_more : (s n : ℕ) → first_choices s (n + 1) ≡ first_choices s n ++ pair s n ∷ []
choices_more s n = map-range_with_len_more (pair s) 0 n n (omega arith)

range_more : (n : ℕ) → range_with_len 0 (n + 1) ≡ range_with_len 0 n ++ n ∷ []
range_more n = sym (map-same (range_with_len 0 (n + 1))) ∙ map-range_with_len_more (λ k. k) 0 n n (omega arith) ∙ ap (λ (x : List ℕ). x ++ n ∷ []) (map-same (range_with_len 0 n))

states_more : (m : Mdp) (n : ℕ) → choices_below m (n + 1) ≡ choices_below m n ++ choices_of m n
states_more m n =
    ap (flat_map (choices_of m)) (range_more n) ∙ flat_map-append (choices_of m) (range_with_len 0 n) (n ∷ []) ∙ ap (λ (x : List Pred). choices_below m n ++ x) (append-nil (choices_of m n))

module _ (m : Mdp) (parts : List (Option ℕ)) (nodes : List ℕ) (n : ℕ) (choices : List Pred) (lists : List (List Pred)) (a : AreExits m parts nodes n choices lists) (x : Pred) where
  kept-more : (k : ℕ) (b : Bool) → is_exit m parts nodes k x ≡ b → filter (is_exit m parts nodes k) (choices ++ x ∷ []) ≡ filter (is_exit m parts nodes k) choices ++ cond b (x ∷ []) []
  kept-more k b is = filter-append (is_exit m parts nodes k) choices (x ∷ []) ∙ ap (λ (ys : List Pred). filter (is_exit m parts nodes k) choices ++ ys) (ap (λ (c : Bool). cond c (x ∷ []) []) is)

  -- a choice that is inside is no exit
  pub inside_more : is_inside m parts x.state x.choice ≡ true → AreExits m parts nodes n (choices ++ x ∷ []) lists
  inside_more inside = record {
    count = a.count;
    each = λ k h. a.each k h ∙ sym (append-nil (filter (is_exit m parts nodes k) choices)) ∙ sym
        (kept-more k false (ap (λ b. (get_or nodes x.state 0 == k) && not b) inside ∙ and_false (get_or nodes x.state 0 == k)));
  } where
    and_false : (b : Bool) → (b && false) ≡ false
    and_false true = refl
    and_false false = refl

  -- another one is an exit of its state's node
  pub exit_more : (new : List (List Pred)) → is_inside m parts x.state x.choice ≡ false → get_or nodes x.state 0 < n
      → new ≡ slice_set lists (get_or nodes x.state 0) (get_or lists (get_or nodes x.state 0) [] ++ x ∷ []) → AreExits m parts nodes n (choices ++ x ∷ []) new
  exit_more new out low is = record {
    count = ap length is ∙ length-set lists (get_or nodes x.state 0) (get_or lists (get_or nodes x.state 0) [] ++ x ∷ []) ∙ a.count;
    each = λ k h. ap (λ (xs : List (List Pred)). get_or xs k []) is ∙ (elim (cases_eq (get_or nodes x.state 0) k) as
        (λ _. get_or (slice_set lists (get_or nodes x.state 0) (get_or lists (get_or nodes x.state 0) [] ++ x ∷ [])) k [] ≡ filter (is_exit m parts nodes k) (choices ++ x ∷ [])) [
          | inl same ↦ subst (λ q. get_or (slice_set lists (get_or nodes x.state 0) (get_or lists (get_or nodes x.state 0) [] ++ x ∷ [])) q [] ≡ filter (is_exit m parts nodes q) (choices ++ x ∷ [])) same here
          | inr other ↦
              get_or-set_other lists (get_or nodes x.state 0) k (get_or lists (get_or nodes x.state 0) [] ++ x ∷ []) [] (λ z. other (sym z)) ∙ a.each k h
              ∙ sym (append-nil (filter (is_exit m parts nodes k) choices))
              ∙ sym (kept-more k false (ap (λ b. b && not (is_inside m parts x.state x.choice)) (ne_eqb (get_or nodes x.state 0) k other)))
        ]);
  } where
    here : get_or (slice_set lists (get_or nodes x.state 0) (get_or lists (get_or nodes x.state 0) [] ++ x ∷ []))
        (get_or nodes x.state 0) [] ≡ filter (is_exit m parts nodes (get_or nodes x.state 0)) (choices ++ x ∷ [])
    here =
        get_or-set_same lists (get_or nodes x.state 0) (get_or lists (get_or nodes x.state 0) [] ++ x ∷ []) []
        (omega (arith, low, a.count)) ∙ ap (λ (ys : List Pred). ys ++ x ∷ []) (a.each (get_or nodes x.state 0) low)
        ∙ sym (kept-more (get_or nodes x.state 0) true (ap (λ b. b && not (is_inside m parts x.state x.choice)) (eq-eqb (get_or nodes x.state 0) (get_or nodes x.state 0) refl) ∙ ap not out))

pub choice_more : (m : Mdp) (parts : List (Option ℕ)) (nodes : List ℕ) (n s c : ℕ) (choices : List Pred) (lists : List (List Pred))
    → AreExits m parts nodes n ((choices ++ first_choices s c) ++ pair s c ∷ []) lists → AreExits m parts nodes n (choices ++ first_choices s (c + 1)) lists
choice_more m parts nodes n s c choices lists a = subst (λ (xs : List Pred). AreExits m parts nodes n xs lists)
    (append_assoc choices (first_choices s c) (pair s c ∷ []) ∙ ap (λ (xs : List Pred). choices ++ xs) (sym (choices_more s c))) a

pub state_more : (m : Mdp) (parts : List (Option ℕ)) (nodes : List ℕ) (n s : ℕ) (lists : List (List Pred))
    → AreExits m parts nodes n (choices_below m s ++ choices_of m s) lists → AreExits m parts nodes n (choices_below m (s + 1)) lists
state_more m parts nodes n s lists a = subst (λ (xs : List Pred). AreExits m parts nodes n xs lists) (sym (states_more m s)) a

pub no_choices : (m : Mdp) (parts : List (Option ℕ)) (nodes : List ℕ) (n : ℕ) (lists : List (List Pred)) → lists ≡ replicate n [] → AreExits m parts nodes n [] lists
no_choices m parts nodes n lists is = record {
  count = ap length is ∙ length-replicate n [];
  each = λ k h. ap (λ (xs : List (List Pred)). get_or xs k []) is ∙ get_or-replicate n k [] [] h;
}
