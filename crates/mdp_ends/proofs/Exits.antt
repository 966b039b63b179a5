-- The exits of a node are the choices of its states that aren't inside.
use Rattle.std.proofs.Common.{◌≡◌, inl, inr, ℕ, suc, zero, ◌<◌, Bool, true, false, not, ◌&&◌, ◌==◌, List, []}
use Rattle.std.proofs.Common.{◌∷◌, length, get_or, map, filter, refl, sym, ap, ◌∙◌, subst, arith, Option, Some, None}
use Rattle.std.proofs.lemmas.Bool.{cases_Bool, and_parts, and_from, eqb-true, eq-eqb, not-true, not_from_false}
use Rattle.std.proofs.lemmas.List.Elements.{All-append, All-filter, All-map, filter_passes, Contains-append_left, Contains-append_right}
use Rattle.std.proofs.lemmas.List.FromFn.{length-range_with_len, get_or-range_with_len, length-map-range_with_len, get_or-map-range_with_len}
use Rattle.std.proofs.lemmas.List.{get_or-map, length-map}
use Rattle.std.specs.List.{range_with_len, flat_map, All, Contains}
use Rattle.mdp_spec.specs.Mdp.{Mdp, states_of, choices_at}
use Rattle.mdp_rows.specs.{declared.preds.Pred.{Pred}, Preds.{pair, choices_of, choices_below}}
use Rattle.mdp_ends.specs.{Ends.{is_inside}, Quotient.{AreNodes, nodes_in, exits_of}, Selection.{exit_at}}
use Rattle.mdp_ends.proofs.Numbering.{some-same, numbered-below, numbered-has}

-- ---- lists

All-flat_map : {A X : Type 0} (P : X → Type 0) (f : A → List X) (xs : List A) → All (λ a. All P (f a)) xs → All P (flat_map f xs)
All-flat_map P f [] h = λ k d l. absurd (omega (arith, l))
All-flat_map P f (a ∷ xs) h = All-append P (f a) (flat_map f xs) (h 0 a (omega arith)) (All-flat_map P f xs (λ k d l. h (suc k) d (omega (arith, l))))

Contains-flat_map : {A X : Type 0} (f : A → List X) (xs : List A) (a : A) (x : X) → Contains xs a → Contains (f a) x → Contains (flat_map f xs) x
Contains-flat_map f [] a x (k, l, e) h = absurd (omega (arith, l))
Contains-flat_map f (b ∷ xs) a x (zero, l, e) h = Contains-append_left (f b) (flat_map f xs) x (subst (λ c. Contains (f c) x) (sym e) h)
Contains-flat_map f (b ∷ xs) a x (suc k, l, e) h = Contains-append_right (f b) (flat_map f xs) x (Contains-flat_map f xs a x (k, omega (arith, l), e) h)

Contains-filter : {X : Type 0} (p : X → Bool) (xs : List X) (x : X) → p x ≡ true → Contains xs x → Contains (filter p xs) x
Contains-filter p [] x e (k, l, same) = absurd (omega (arith, l))
Contains-filter p (y ∷ xs) x e (zero, l, same) = let t : p y ≡ true = ap p same ∙ e in rw t (0, omega arith, same)
Contains-filter p (y ∷ xs) x e (suc k, l, same) =
    let w = Contains-filter p xs x e (k, omega (arith, l), same) in
    elim (cases_Bool (p y)) as (λ _. Contains (filter p (y ∷ xs)) x) [
      | inl t ↦ rw t (suc w.0, omega (arith, w.1), w.2)
      | inr t ↦ rw t w
    ]

-- ---- the choices of a model

abbrev pub IsChoice : Mdp → Pred → Type 0
IsChoice m x = (x.state < states_of m) × (x.choice < length (choices_at m x.state))

pub all_choices : (m : Mdp) → All (IsChoice m) (choices_below m (states_of m))
all_choices m =
    All-flat_map (IsChoice m) (choices_of m) (range_with_len 0 (states_of m))
    (λ k d l.
    (let z : k < states_of m = omega (arith, l, length-range_with_len 0 (states_of m)) in
    let s : ℕ = get_or (range_with_len 0 (states_of m)) k d in
    let hs : s < states_of m = omega (arith, z, get_or-range_with_len 0 (states_of m) k d z) in
    All-map (IsChoice m) (pair s) (range_with_len 0 (length (choices_at m s)))
    (λ c e u. (let v : c < length (choices_at m s) = omega (arith, u, length-range_with_len 0 (length (choices_at m s))) in (hs, omega (arith, v, get_or-range_with_len 0 (length (choices_at m s)) c e v))))))

each_choice : (m : Mdp) (s c : ℕ) → s < states_of m → c < length (choices_at m s) → Contains (choices_below m (states_of m)) (pair s c)
each_choice m s c h l =
    Contains-flat_map (choices_of m) (range_with_len 0 (states_of m)) s (pair s c)
    (s, omega (arith, h, length-range_with_len 0 (states_of m)), get_or-range_with_len 0 (states_of m) s s h ∙ omega arith)
    (c, omega (arith, l, length-map-range_with_len (pair s) 0 (length (choices_at m s))), get_or-map-range_with_len (pair s) 0 (length (choices_at m s)) c c (pair s c) l (omega arith))

-- ---- exits

module _ (m : Mdp) (ends : List (Option ℕ)) (nodes : List ℕ) where
  abbrev is_exit : ℕ → Pred → Bool
  is_exit q x = (get_or nodes x.state 0 == q) && not (is_inside m ends x.state x.choice)

  -- each exit of a node is a choice of one of its states that isn't inside
  pub exit_known : (q i : ℕ) → i < length (exits_of m ends nodes q) →
      (Pred.state (exit_at m ends nodes q i) < states_of m)
      × (Pred.choice (exit_at m ends nodes q i) < length (choices_at m (Pred.state (exit_at m ends nodes q i))))
      × (get_or nodes (Pred.state (exit_at m ends nodes q i)) 0 ≡ q)
      × (is_inside m ends (Pred.state (exit_at m ends nodes q i)) (Pred.choice (exit_at m ends nodes q i)) ≡ false)
  exit_known q i l =
      let x : Pred = exit_at m ends nodes q i in
      let known : IsChoice m x = All-filter (is_exit q) (IsChoice m) (choices_below m (states_of m)) (all_choices m) i (pair 0 0) l in
      let p = and_parts (get_or nodes x.state 0 == q) (not (is_inside m ends x.state x.choice)) (filter_passes (is_exit q) (choices_below m (states_of m)) i (pair 0 0) l) in
      (known.0, known.1, eqb-true (get_or nodes x.state 0) q p.0, not-true (is_inside m ends x.state x.choice) p.1)

  -- and each such choice is an exit
  pub exit_found : (s c : ℕ) → s < states_of m → c < length (choices_at m s) → is_inside m ends s c ≡ false → Contains (exits_of m ends nodes (get_or nodes s 0)) (pair s c)
  exit_found s c h l out =
      Contains-filter (is_exit (get_or nodes s 0)) (choices_below m (states_of m)) (pair s c)
      (and_from (get_or nodes s 0 == get_or nodes s 0) (not (is_inside m ends s c)) (eq-eqb (get_or nodes s 0) (get_or nodes s 0) refl) (not_from_false (is_inside m ends s c) out)) (each_choice m s c h l)

-- ---- nodes

module _ (ends : List (Option ℕ)) (nodes : List ℕ) (are : AreNodes ends nodes) where
  numbered_at : (s : ℕ) → s < length ends → get_or (map Some nodes) s None ≡ Some (get_or nodes s 0)
  numbered_at s h = get_or-map Some nodes s 0 None (omega (arith, h, are.count))

  pub node-below : (s : ℕ) → s < length ends → get_or nodes s 0 < nodes_in nodes
  node-below s h = numbered-below 0 (map Some nodes) s (get_or nodes s 0) are.numbered (numbered_at s h)

  -- each node has a state
  pub node-has : (q : ℕ) → q < nodes_in nodes → (s : ℕ) × (s < length ends) × (get_or nodes s 0 ≡ q)
  node-has q h =
      let w = numbered-has 0 (map Some nodes) q are.numbered (omega arith) h in
      let l : w.0 < length ends = omega (arith, w.1, length-map nodes Some, are.count) in
      (w.0, l, some-same (get_or nodes w.0 0) q (sym (numbered_at w.0 l) ∙ w.2))
