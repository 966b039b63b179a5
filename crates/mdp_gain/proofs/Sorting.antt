-- The pass that sorts the states of a model into its end components.
use Rattle.std.proofs.Common.{◌≡◌, ◌≢◌, ℕ, ◌+◌, ◌<◌, ◌≤◌, ◌⊎◌, inl, inr, Bool, true, false, if◌then◌else◌, List, [], ◌∷◌, ◌++◌, length, set, get_or}
use Rattle.std.proofs.{Common.{Option, Some, None, replicate, refl, sym, ap, ◌∙◌, subst, arith}, lemmas.Bool.{eqb-true, ne_eqb}}
use Rattle.std.proofs.lemmas.List.{append-nil, length-append, length-set, get_or-set_other, get_or-set_same, get_or-replicate}
use Rattle.std.proofs.{lemmas.List.{length-replicate, get_or_append_left, get_or_at}, lemmas.List.Elements.{filter-append}}
use Rattle.std.proofs.lemmas.List.FromFn.{length-range_with_len}
use Rattle.std.specs.{List.{filter, range_with_len}, Prelude.{slice_index}}
use Rattle.mdp_math.proofs.{Lists.{range_more}, Numbers.{eqb-same, last_or}}
use Rattle.mdp_spec.specs.Mdp.{Mdp, states_of}
use Rattle.mdp_rows.proofs.Flat.Kept.{filter_le}
use Rattle.mdp_ends.specs.Ends.{part_of, has_number, in_part, count_of}
use Rattle.mdp_gain.specs.{Alone.{place_in}, FoundMembers.{FoundMembers, list_of, place_next, lists_with, with_state, HasRoom, AreMembersOf}}
use Rattle.mdp_gain.proofs.Places.{place-front, place-behind, place-only, place-other}

-- the states below n that are in part i
abbrev pub below : List (Option ℕ) → ℕ → ℕ → List ℕ
below parts i n = filter (in_part parts i) (range_with_len 0 n)

-- the states below n are in the lists of k parts, and their places are known
pub record AreSorted (parts : List (Option ℕ)) (k n : ℕ) (x : FoundMembers) : Type 0 where
  pub count : length x.lists ≡ k
  pub lists : (i : ℕ) → i < k → list_of x i ≡ below parts i n
  pub one_each : length x.places ≡ n
  pub places : (i s : ℕ) → i < k → s < n → in_part parts i s ≡ true → slice_index x.places s ≡ place_in (below parts i n) s
  pub inside : (i s : ℕ) → i < k → s < n → in_part parts i s ≡ true → place_in (below parts i n) s < length (below parts i n)
  pub later : (i s : ℕ) → i < k → n ≤ s → place_in (below parts i n) s ≡ length (below parts i n)

pub none_sorted : (parts : List (Option ℕ)) (k : ℕ) → AreSorted parts k 0 (record { lists = replicate k []; places = [] })
none_sorted parts k =
    let none : List ℕ = [] in
    record {
      count = length-replicate k none;
      lists = λ i l. get_or-replicate k i none none l;
      one_each = refl;
      places = λ i s l h e. absurd (omega arith);
      inside = λ i s l h e. absurd (omega arith);
      later = λ i s l h. refl;
    }

-- ---- the next state

-- state n alone where it is in the part, else none
abbrev if_in : Bool → ℕ → List ℕ
if_in b n = if b then n ∷ [] else []

below-more : (parts : List (Option ℕ)) (i n : ℕ) → below parts i (n + 1) ≡ below parts i n ++ if_in (in_part parts i n) n
below-more parts i n = ap (filter (in_part parts i)) (range_more n) ∙ filter-append (in_part parts i) (range_with_len 0 n) (n ∷ [])

count-same : (x : FoundMembers) (n : ℕ) (part : Option ℕ) → length (lists_with x n part) ≡ length x.lists
count-same x n None = refl
count-same x n (Some j) = length-set x.lists j (list_of x j ++ n ∷ [])

list_by : (x : FoundMembers) (n i j : ℕ) → i < length x.lists → (i ≡ j) ⊎ (i ≢ j)
    → get_or (set x.lists j (list_of x j ++ n ∷ [])) i [] ≡ list_of x i ++ if_in (has_number i (Some j)) n
list_by x n i j l (inl e) = rw (sym e, eqb-same i) (get_or-set_same x.lists i (list_of x i ++ n ∷ []) [] l)
list_by x n i j l (inr o) = rw (ne_eqb j i (λ e. o (sym e))) (get_or-set_other x.lists j i (list_of x j ++ n ∷ []) [] o ∙ sym (append-nil (list_of x i)))

same_or_not : (i j : ℕ) → (i ≡ j) ⊎ (i ≢ j)
same_or_not i j = grind arith

list-next : (x : FoundMembers) (n i : ℕ) (part : Option ℕ) → i < length x.lists
    → get_or (lists_with x n part) i [] ≡ list_of x i ++ if_in (has_number i part) n
list-next x n i None l = sym (append-nil (list_of x i))
list-next x n i (Some j) l = list_by x n i j l (same_or_not i j)

place-next : (x : FoundMembers) (i : ℕ) (part : Option ℕ) → has_number i part ≡ true → place_next x part ≡ length (list_of x i)
place-next x i None e = absurd cc
place-next x i (Some j) e = ap (λ (k : ℕ). length (list_of x k)) (eqb-true j i e)

module _ (parts : List (Option ℕ)) (k n : ℕ) (x : FoundMembers) (h : AreSorted parts k n x) where
  abbrev now : ℕ → List ℕ
  now i = below parts i n

  abbrev more : ℕ → List ℕ
  more i = if_in (in_part parts i n) n

  -- a state below n keeps its place, and the place of state n is the last
  place_by : (i s : ℕ) → i < k → (s ≡ n) ⊎ (s < n) → in_part parts i s ≡ true
      → (get_or (x.places ++ place_next x (part_of parts n) ∷ []) s 0 ≡ place_in (now i ++ more i) s)
      × (place_in (now i ++ more i) s < length (now i ++ more i))
  place_by i s l (inl here) e =
      let b : in_part parts i n ≡ true = subst (λ (t : ℕ). in_part parts i t ≡ true) here e in
      let z = place-only n in
      let p : place_in (now i ++ n ∷ []) n ≡ length (now i) = place-behind (now i) (n ∷ []) n (h.later i n l (omega arith)) ∙ omega (arith, z) in
      let q : place_next x (part_of parts n) ≡ length (now i) = place-next x i (part_of parts n) b ∙ ap (λ (xs : List ℕ). length xs) (h.lists i l) in
      let a = length-append (now i) (n ∷ []) in
      rw (here, b) (get_or_at x.places (place_next x (part_of parts n)) [] 0 n h.one_each ∙ q ∙ sym p, omega (arith, p, a))
  place_by i s l (inr low) e =
      let f : place_in (now i ++ more i) s ≡ place_in (now i) s = place-front (now i) (more i) s (h.inside i s l low e) in
      let a = length-append (now i) (more i) in
      let g = h.inside i s l low e in (
        get_or_append_left x.places (place_next x (part_of parts n) ∷ []) 0 s (let o = h.one_each in omega (arith, o, low))
            ∙ h.places i s l low e
            ∙ sym f,
        omega (arith, f, a, g),
      )

  later_by : (b : Bool) (i s : ℕ) → i < k → n < s → place_in (now i ++ if_in b n) s ≡ length (now i ++ if_in b n)
  later_by true i s l g =
      let p = place-behind (now i) (n ∷ []) s (h.later i s l (omega arith)) in
      let q = place-other n s (λ e. absurd (omega arith)) in
      let a = length-append (now i) (n ∷ []) in
      omega (arith, p, q, a)
  later_by false i s l g =
      let p = place-behind (now i) [] s (h.later i s l (omega arith)) in
      let a = length-append (now i) [] in
      omega (arith, p, a)

  pub next_sorted : AreSorted parts k (n + 1) (with_state x n (part_of parts n))
  next_sorted = record {
    count = count-same x n (part_of parts n) ∙ h.count;
    lists = λ i l.
        list-next x n i (part_of parts n) (let c = h.count in omega (arith, c, l))
        ∙ ap (λ (xs : List ℕ). xs ++ more i) (h.lists i l)
        ∙ sym (below-more parts i n);
    one_each = let a = length-append x.places (place_next x (part_of parts n) ∷ []) in let o = h.one_each in omega (arith, a, o);
    places = λ i s l m e. rw (below-more parts i n) (place_by i s l (last_or n s (omega arith)) e).0;
    inside = λ i s l m e. rw (below-more parts i n) (place_by i s l (last_or n s (omega arith)) e).1;
    later = λ i s l m. rw (below-more parts i n) (later_by (in_part parts i n) i s l (omega arith));
  }

-- ---- the room for the next state, and the end of the pass

module _ (parts : List (Option ℕ)) (k n : ℕ) (x : FoundMembers) (h : AreSorted parts k n x) (few : n < 4294967296) where
  room_by : (part : Option ℕ) → ((i : ℕ) → part ≡ Some i → i < k) → HasRoom x part
  room_by None each = tt
  room_by (Some i) each =
      let l : i < k = each i refl in
      let c = h.count in
      let e : length (list_of x i) ≡ length (below parts i n) = ap (λ (xs : List ℕ). length xs) (h.lists i l) in
      let f = filter_le (in_part parts i) (range_with_len 0 n) in
      let r = length-range_with_len 0 n in
      (omega (arith, l, c), omega (arith, e, f, r))

  pub has_room : ((i : ℕ) → part_of parts n ≡ Some i → i < k) → HasRoom x (part_of parts n)
  has_room each = room_by (part_of parts n) each

pub all_sorted : (m : Mdp) (parts : List (Option ℕ)) (x : FoundMembers) → AreSorted parts (count_of parts) (states_of m) x → AreMembersOf m parts x
all_sorted m parts x h = record {
  one_each = h.count;
  lists = h.lists;
  places = λ i l. record { one_each = h.one_each; each = λ s b e. h.places i s l b e };
}
