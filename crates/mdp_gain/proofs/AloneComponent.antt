-- Part 0 of the model of one end component alone is the component, its states at their places.
use Rattle.std.proofs.Common.{◌≡◌, ◌⊎◌, inl, inr, ℕ, ◌+◌, ◌<◌, ◌≤◌, Bool, true, false, List, [], ◌∷◌, ◌++◌, length, map}
use Rattle.std.proofs.Common.{filter, cond, get_or, Option, refl, sym, ap, subst, ◌∙◌, arith, pos}
use Rattle.std.proofs.lemmas.{Bool.{false≢true, and_parts, and_from, false_from_ne_true}, List.FromFn.{length-range_with_len, get_or-range_with_len}}
use Rattle.std.proofs.lemmas.List.{append-nil, length-map, get_or-map, get_or_default, get_or_past}
use Rattle.std.proofs.lemmas.List.Elements.{All-head, All-tail, All-map, All-weaker, All-from_get_or, filter-append}
use Rattle.std.specs.{Prelude.{slice_index}, List.{All, Any, range_with_len}}
use Rattle.mdp_math.specs.Rational.{of_int}
use Rattle.mdp_math.proofs.{Lists.{range_more}, Numbers.{last_or, le_or}}
use Rattle.mdp_spec.specs.{Mdp.{Entry, Mdp, states_of, row_at}, Row.{IsDistribution, IsRow}}
use Rattle.mdp_spec.specs.Mdp as mdp
use Rattle.mdp_rows.specs.declared.dir.Dir.{Dir}
use Rattle.mdp_ends.specs.Ends.{in_part, is_inside, IsEnd, IsMaximal, AreEnds}
use Rattle.mdp_unichain.specs.{Component.{Component, Choice, no_choice, choices_at, choice_at, is_state, IsInner, CanReach, IsComponent}, Model.{choice_of}}
use Rattle.mdp_unichain.specs.Part.{IsPart, members, is_inner, inner_component}
use Rattle.mdp_unichain.proofs.{Best.{inner_of_state}, Improving.{state-of}, Members.{inside_of, inner_of, row-is}}
use Rattle.mdp_unichain.proofs.Parts.{member-below, part-component, part-state, part-count, part-choices, part-choice}
use Rattle.mdp_gain.specs.{Renumbering.{renamed, IsSameChoice, IsRenumbering}, Alone.{place_in, placed_entry, alone}}
use Rattle.mdp_gain.proofs.{AloneStates.{count-alone, width-alone, reward-alone, row-inner}, AloneRows.{inner-targets, row-alone, alone-mdp}}
use Rattle.mdp_gain.proofs.MemberPlaces.{ascend-same, members-ascend, listed-below, listed-in, place-below, at_place}
use Rattle.mdp_gain.proofs.AloneEnds.{first-below, own-in, elsewhere-out, inner-alone}

-- ---- lists

abbrev any_entry : Entry
any_entry = record { target = 0; prob = of_int (pos 0) }

any_under : {A B : Type 0} (f : A → B) (P : B → Type 0) (xs : List A) (d : A) → Any P (map f xs) → Any (λ x. P (f x)) xs
any_under f P xs d a =
    let n = length-map xs f in
    let l : a.0 < length xs = (let b = a.2 in omega (arith, b, n)) in
    (a.0, get_or xs a.0 d, l, get_or_default xs a.0 (get_or xs a.0 d) d l, subst P (sym a.3 ∙ get_or-map f xs a.0 d a.1 l) a.4)

filter-all : (p : ℕ → Bool) (xs : List ℕ) → All (λ x. p x ≡ true) xs → filter p xs ≡ xs
filter-all p [] all = refl
filter-all p (x ∷ xs) all =
    ap (λ (b : Bool). cond b (x ∷ filter p xs) (filter p xs)) (All-head (λ y. p y ≡ true) x xs all)
    ∙ ap (λ (ys : List ℕ). x ∷ ys) (filter-all p xs (All-tail (λ y. p y ≡ true) x xs all))

-- where all numbers below n pass and n doesn't
filter-range : (p : ℕ → Bool) (n : ℕ) → ((j : ℕ) → j < n → p j ≡ true) → p n ≡ false → filter p (range_with_len 0 (n + 1)) ≡ range_with_len 0 n
filter-range p n h out =
    ap (filter p) (range_more n)
    ∙ filter-append p (range_with_len 0 n) (n ∷ [])
    ∙ ap (λ (b : Bool). filter p (range_with_len 0 n) ++ cond b (n ∷ []) []) out
    ∙ append-nil (filter p (range_with_len 0 n))
    ∙ filter-all p (range_with_len 0 n) (All-from_get_or (λ x. p x ≡ true) (range_with_len 0 n) 0 (λ k l.
    let len = length-range_with_len 0 n in
    let b : k < n = omega (arith, l, len) in
    let e : slice_index (range_with_len 0 n) k ≡ k = (let g = get_or-range_with_len 0 n k 0 b in omega (arith, g)) in
    ap p e ∙ h k b))

module _ (m : Mdp) (parts : List (Option ℕ)) (i : ℕ) (k : IsPart m parts i) (r : ℕ) (ends : List (Option ℕ)) (are : AreEnds (alone m parts i r) ends) where
  abbrev states : List ℕ
  states = members m parts i

  abbrev count : ℕ
  count = length states

  abbrev at : ℕ → ℕ
  at j = slice_index states j

  abbrev small : Mdp
  small = alone m parts i r

  -- the places of the component's states
  pub members-of_alone : members small ends 0 ≡ range_with_len 0 count
  members-of_alone =
      let n : states_of small ≡ count + 1 = (let e = count-alone m parts i r in omega (arith, e)) in
      ap (λ (v : ℕ). filter (in_part ends 0) (range_with_len 0 v)) n
      ∙ filter-range (in_part ends 0) count (own-in m parts i k r ends are) (elsewhere-out m parts i k r ends are)

  -- part 0, where the component has not all states of a greatest model
  pub part-alone : count < states_of m → IsPart small ends 0
  part-alone room = record { model = alone-mdp m parts i k r room; ends = are; below = first-below m parts i k r ends are }

  -- ---- the two components

  module _ (dir : Dir) where
    abbrev p : Component
    p = inner_component dir small ends 0 0

    abbrev big : Component
    big = inner_component dir m parts i r

    place-below_count : (j : ℕ) → j < count → j < states_of small
    place-below_count j l = let n = count-alone m parts i r in omega (arith, n, l)

    -- what is inner in part 0 belongs to a place of the component
    inner-at : (j c : ℕ) → IsInner p j c → j < count
    inner-at j c e =
        let at = inside_of dir small 0 (is_inner small ends 0) j c e in
        let n = count-alone m parts i r in
        elim (last_or count j (let l = at.0 in omega (arith, l, n))) [
          | inr l ↦ l
          | inl last ↦
              (let own = (and_parts (in_part ends 0 j) (is_inside small ends j c) at.2).0 in
              absurd (false≢true (sym (ap (in_part ends 0) last ∙ elsewhere-out m parts i k r ends are) ∙ own)))
        ]

    pub state-at_place : (j : ℕ) → j < count → is_state (inner_component dir small ends 0 0) j ≡ true
    state-at_place j l =
        let e : IsEnd small (in_part ends 0) (is_inside small ends) = IsMaximal.is_end (AreEnds.maximal are 0 (first-below m parts i k r ends are)) in
        let own = own-in m parts i k r ends are j l in
        let c = IsEnd.choice e j (place-below_count j l) own in
        let inner = and_from (in_part ends 0 j) (is_inside small ends j c.0) own c.2 in
        state-of p j c.0 (inner_of dir small 0 (is_inner small ends 0) j c.0 (place-below_count j l, c.1, inner))

    state-outside : (j : ℕ) → count ≤ j → is_state p j ≡ false
    state-outside j l = false_from_ne_true (is_state p j) (λ h. let c = inner_of_state p j h in let b = inner-at j c.0 c.1 in omega (arith, l, b))

    -- ---- a choice in both

    renamed_placed : (row : List Entry) → All (λ y. in_part parts i y.target ≡ true) row → map (renamed states) (map (placed_entry states) row) ≡ row
    renamed_placed [] all = refl
    renamed_placed (x ∷ row) all =
        let own = All-head (λ y. in_part parts i y.target ≡ true) x row all in
        ap (λ (t : ℕ). (let y : Entry = record { target = t; prob = x.prob } in y) ∷ map (renamed states) (map (placed_entry states) row))
        (at_place m parts i x.target (member-below m parts i k x.target own) own)
        ∙ ap (λ (ys : List Entry). x ∷ ys) (renamed_placed row (All-tail (λ y. in_part parts i y.target ≡ true) x row all))

    same_model_choice : (j c : ℕ) → j < count → c < length (mdp.choices_at m (at j))
        → IsSameChoice states (choice_of small 0 (is_inner small ends 0) j c) (choice_of m r (is_inner m parts i) (at j) c)
    same_model_choice j c l w = record {
      inner = inner-alone m parts i k r ends are j c l w;
      reward = λ e. sym (reward-alone m parts i r j c l w);
      row = λ e. sym (ap (map (renamed states)) (row-inner m parts i r j c l w e) ∙ renamed_placed (row_at m (at j) c) (targets e));
      targets = λ e.
          subst (λ (row : List Entry). All (λ y. y.target < count) row) (sym (row-inner m parts i r j c l w e))
          (All-map (λ y. y.target < count) (placed_entry states) (row_at m (at j) c)
          (All-weaker (λ y. in_part parts i y.target ≡ true) (λ y. place_in states y.target < count)
          (λ y is. place-below m parts i y.target (member-below m parts i k y.target is) is) (row_at m (at j) c) (targets e)));
    } where
      targets : is_inner m parts i (at j) c ≡ true → All (λ y. in_part parts i y.target ≡ true) (row_at m (at j) c)
      targets e = inner-targets m parts i k (at j) c (listed-below m parts i j l) w e

    width-same : (j : ℕ) → j < count → length (choices_at p j) ≡ length (choices_at big (at j))
    width-same j l =
        part-choices dir small ends 0 0 j (place-below_count j l)
        ∙ width-alone m parts i r j l
        ∙ sym (part-choices dir m parts i r (at j) (listed-below m parts i j l))

    same_choice : (j c : ℕ) → j < count → (length (mdp.choices_at m (at j)) ≤ c) ⊎ (c < length (mdp.choices_at m (at j)))
        → IsSameChoice states (choice_at p j c) (choice_at big (at j) c)
    same_choice j c l (inr w) =
        let n = width-alone m parts i r j l in
        let a = part-choice dir small ends 0 0 j c (place-below_count j l) (omega (arith, n, w)) in
        let b = part-choice dir m parts i r (at j) c (listed-below m parts i j l) w in
        subst (λ (x : Choice). IsSameChoice states x (choice_at big (at j) c)) (sym a)
        (subst (λ (y : Choice). IsSameChoice states (choice_of small 0 (is_inner small ends 0) j c) y) (sym b) (same_model_choice j c l w))
    same_choice j c l (inl past) =
        let n = width-alone m parts i r j l in
        let a = part-choices dir small ends 0 0 j (place-below_count j l) in
        let b = part-choices dir m parts i r (at j) (listed-below m parts i j l) in
        subst (λ (x : Choice). IsSameChoice states x (choice_at big (at j) c)) (sym (get_or_past (choices_at p j) c no_choice (omega (arith, n, a, past))))
        (subst (λ (y : Choice). IsSameChoice states no_choice y) (sym (get_or_past (choices_at big (at j)) c no_choice (omega (arith, b, past)))) none)
      where
        none : IsSameChoice states no_choice no_choice
        none = record { inner = refl; reward = λ e. refl; row = λ e. refl; targets = λ e. absurd (false≢true e) }

    same_each : (j c : ℕ) → j < count → IsSameChoice states (choice_at p j c) (choice_at big (at j) c)
    same_each j c l = same_choice j c l (le_or (length (mdp.choices_at m (at j))) c)

    -- the component is part 0 under the states' numbers in the model
    pub renumbering-alone : IsRenumbering states (inner_component dir small ends 0 0) (inner_component dir m parts i r)
    renumbering-alone = record {
      dir = refl;
      ascend = members-ascend m parts i;
      below = λ j l. (let n = part-count dir m parts i r in let b = listed-below m parts i j l in omega (arith, n, b));
      few = (let n = part-count dir small ends 0 0 in let e = count-alone m parts i r in omega (arith, n, e));
      listed = λ s h.
          (let own : in_part parts i s ≡ true = sym (part-state m parts i k dir r s) ∙ h in
          let b = member-below m parts i k s own in
          (place_in states s, place-below m parts i s b own, at_place m parts i s b own));
      is_big = λ j l. part-state m parts i k dir r (at j) ∙ listed-in m parts i j l;
      is_small = state-at_place;
      outside = state-outside;
      width = width-same;
      choices = same_each;
    }

    -- ---- part 0 is a component, also where the small model has one state too many for a model

    targets_small : (j c : ℕ) → IsInner p j c → All (λ y. y.target < count) (choice_at p j c).row
    targets_small j c e = let same = same_each j c (inner-at j c e) in IsSameChoice.targets same (sym (IsSameChoice.inner same) ∙ e)

    -- ranks of the component's states are ranks of their places
    nearer : (rank : ℕ → ℕ) (j c : ℕ) → j < count → IsInner big (at j) c → Any (λ y. rank y.target < rank (at j)) (choice_at big (at j) c).row
        → (d : ℕ) × IsInner p j d × Any (λ y. rank (at y.target) < rank (at j)) (choice_at p j d).row
    nearer rank j c l e a =
        let same = same_each j c l in (
          c,
          IsSameChoice.inner same ∙ e,
          any_under (renamed states) (λ (y : Entry). rank y.target < rank (at j)) (choice_at p j c).row any_entry
              (subst (λ (row : List Entry). Any (λ y. rank y.target < rank (at j)) row) (IsSameChoice.row same e) a),
        )

    connected : (t : ℕ) → is_state p t ≡ true → CanReach p t
    connected t h =
        let c = inner_of_state p t h in
        let l = inner-at t c.0 c.1 in
        let big_state : (j : ℕ) → j < count → is_state big (at j) ≡ true = λ j l. part-state m parts i k dir r (at j) ∙ listed-in m parts i j l in
        let reach = IsComponent.connected (part-component m parts i k dir r) (at t) (big_state t l) in
        let rank = CanReach.rank reach in
        record {
          rank = λ j. rank (at j);
          falls = λ j own other.
              (let d = inner_of_state p j own in
              let b = inner-at j d.0 d.1 in
              let near = CanReach.falls reach (at j) (big_state j b) (λ e. other (ascend-same states (members-ascend m parts i) j t b l e)) in
              nearer rank j near.0 b near.1 near.2);
        }

    pub component-alone : IsComponent (inner_component dir small ends 0 0)
    component-alone = record {
      rows = λ j c e.
          (let at = inside_of dir small 0 (is_inner small ends 0) j c e in
          subst IsDistribution (sym (row-is dir small 0 (is_inner small ends 0) j c at)) (IsRow.distribution (row-alone m parts i k r j c at.0 at.1)));
      stays = λ j c e n d l. state-at_place _ (targets_small j c e n d l);
      connected = connected;
    }

-- ---- the facts

-- the component is part 0 of its model, under the states' numbers in the big one
pub alone-renumbering : (dir : Dir) (m : Mdp) (parts : List (Option ℕ)) (i r : ℕ) (ends : List (Option ℕ)) → IsPart m parts i → AreEnds (alone m parts i r) ends
    → IsRenumbering (members m parts i) (inner_component dir (alone m parts i r) ends 0 0) (inner_component dir m parts i r)
alone-renumbering dir m parts i r ends k are = renumbering-alone m parts i k r ends are dir

pub alone-component : (dir : Dir) (m : Mdp) (parts : List (Option ℕ)) (i r : ℕ) (ends : List (Option ℕ)) → IsPart m parts i → AreEnds (alone m parts i r) ends
    → IsComponent (inner_component dir (alone m parts i r) ends 0 0)
alone-component dir m parts i r ends k are = component-alone m parts i k r ends are dir

pub alone-members : (m : Mdp) (parts : List (Option ℕ)) (i r : ℕ) (ends : List (Option ℕ)) → IsPart m parts i → AreEnds (alone m parts i r) ends
    → members (alone m parts i r) ends 0 ≡ range_with_len 0 (length (members m parts i))
alone-members m parts i r ends k are = members-of_alone m parts i k r ends are

-- a model has at most 2^20 states, so where the component has that many its model would have one too many
pub alone-part : (m : Mdp) (parts : List (Option ℕ)) (i r : ℕ) (ends : List (Option ℕ)) → IsPart m parts i → length (members m parts i) < states_of m
    → AreEnds (alone m parts i r) ends → IsPart (alone m parts i r) ends 0
alone-part m parts i r ends k room are = part-alone m parts i k r ends are room
