-- The end components of the model of one end component alone: part 0 has all states but the one more, and its choices are those of the component.
use Rattle.std.proofs.Common.{◌≡◌, inl, inr, ℕ, zero, suc, ◌<◌, Bool, true, false, ◌==◌, nat_lt, List, [], ◌∷◌, length, map}
use Rattle.std.proofs.{Common.{Option, Some, None, refl, sym, ap, subst, ◌∙◌, arith}, lemmas.List.Elements.{All-head, All-tail}}
use Rattle.std.proofs.lemmas.Bool.{false≢true, eqb-true, eq-eqb, lt-ltb, ltb-true, or_cases, or_left, or_right, and_parts, and_from, false_from_ne_true}
use Rattle.std.specs.{Prelude.{slice_index}, List.{All}}
use Rattle.mdp_math.proofs.Booleans.{same_truth}
use Rattle.mdp_spec.specs.Mdp.{Entry, Mdp, states_of, choices_at, row_at}
use Rattle.mdp_rows.specs.Preds.{leads_to}
use Rattle.mdp_graph.specs.{Sets.{stays_in}, Layers.{reached}}
use Rattle.mdp_ends.specs.{Numbers.{is_numbered}, Walks.{chosen_step, comes_to, Reaches}, Ends.{count_of, part_of, in_part, is_inside, IsEnd, IsMaximal, AreEnds}}
use Rattle.mdp_ends.proofs.{Walking.{step-has, here, one_more, walk_to}, Numbering.{head_cases}, RoundLaws.{number-has, inside-stays, inside-by}}
use Rattle.mdp_unichain.specs.Part.{IsPart, members, is_inner}
use Rattle.mdp_unichain.proofs.{Entries.{all-target}, Parts.{member-below, inside_inner}}
use Rattle.mdp_gain.specs.Alone.{place_in, placed_entry, to, alone}
use Rattle.mdp_gain.proofs.MemberPlaces.{listed-below, listed-in, place-below, at_place, place_of_listed}
use Rattle.mdp_gain.proofs.{AloneStates.{count-alone, width-alone, width-elsewhere, row-inner, row-leaving, row-elsewhere}, AloneRows.{inner-targets}}

-- parts are numbered by their least states, so the part of state 0 is part 0
first_part : (ends : List (Option ℕ)) (p : ℕ) → is_numbered 0 ends ≡ true → in_part ends p 0 ≡ true → p ≡ 0
first_part [] p e h = absurd (false≢true h)
first_part (None ∷ ends) p e h = absurd (false≢true h)
first_part (Some j ∷ ends) p e h = elim (head_cases 0 j ends e) [
  | inl old ↦ absurd (let l = old.1 in omega arith)
  | inr new ↦ sym (eqb-true j p h) ∙ new.1
]

-- an entry to a state is one to the state's place
leads-placed : (states : List ℕ) (row : List Entry) (t : ℕ) → leads_to t row ≡ true → leads_to (place_in states t) (map (placed_entry states) row) ≡ true
leads-placed states [] t h = absurd (false≢true h)
leads-placed states (x ∷ row) t h =
    let rest : Bool = leads_to (place_in states t) (map (placed_entry states) row) in
    elim (or_cases (x.target == t) (leads_to t row) h) [
      | inl same ↦
          (let e : place_in states x.target ≡ place_in states t = ap (place_in states) (eqb-true x.target t same) in
          or_left (place_in states x.target == place_in states t) rest (eq-eqb (place_in states x.target) (place_in states t) e))
      | inr later ↦ or_right (place_in states x.target == place_in states t) rest (leads-placed states row t later)
    ]

module _ (m : Mdp) (parts : List (Option ℕ)) (i : ℕ) (k : IsPart m parts i) (r : ℕ) where
  abbrev states : List ℕ
  states = members m parts i

  abbrev count : ℕ
  count = length states

  abbrev at : ℕ → ℕ
  at j = slice_index states j

  abbrev place : ℕ → ℕ
  place s = place_in states s

  abbrev small : Mdp
  small = alone m parts i r

  the_end : IsEnd m (in_part parts i) (is_inside m parts)
  the_end = IsMaximal.is_end (AreEnds.maximal (IsPart.ends k) i (IsPart.below k))

  -- the component has a state
  pub some-member : 0 < count
  some-member = let s = IsEnd.some the_end in let l = place-below m parts i s.0 s.1 s.2 in omega (arith, l)

  -- ---- the component in the small model

  abbrev own : ℕ → Bool
  own j = nat_lt j count

  -- the choices that are inner in the model
  abbrev inner : ℕ → ℕ → Bool
  inner j c = is_inner m parts i (at j) c

  stays-placed : (set : ℕ → Bool) → ((t : ℕ) → in_part parts i t ≡ true → set (place t) ≡ true) → (row : List Entry)
      → All (λ y. in_part parts i y.target ≡ true) row → stays_in set (map (placed_entry states) row) ≡ true
  stays-placed set h [] all = refl
  stays-placed set h (x ∷ row) all =
      and_from (set (place x.target)) (stays_in set (map (placed_entry states) row)) (h x.target (All-head (λ y. in_part parts i y.target ≡ true) x row all))
      (stays-placed set h row (All-tail (λ y. in_part parts i y.target ≡ true) x row all))

  -- so an inner choice leads to places in each set that has the places of the part
  inner-stays : (set : ℕ → Bool) → ((j : ℕ) → j < count → set j ≡ true) → (j c : ℕ) → j < count → c < length (choices_at m (at j)) → inner j c ≡ true
      → stays_in set (row_at small j c) ≡ true
  inner-stays set h j c l w e =
      ap (stays_in set) (row-inner m parts i r j c l w e)
      ∙ stays-placed set (λ t is. h (place t) (place-below m parts i t (member-below m parts i k t is) is)) (row_at m (at j) c)
      (inner-targets m parts i k (at j) c (listed-below m parts i j l) w e)

  -- one step within the component is one of the small model, from each place of its state
  step-placed : (s c x t j : ℕ) → in_part parts i s ≡ true → c < length (choices_at m s) → is_inside m parts s c ≡ true → leads_to x (row_at m s c) ≡ true
      → j < count → at j ≡ s → Reaches small inner (place x) t → Reaches small inner j t
  step-placed s c x t j is h e leads l same way =
      let w : c < length (choices_at m (at j)) = subst (λ (v : ℕ). c < length (choices_at m v)) (sym same) h in
      let n = width-alone m parts i r j l in
      let chosen : inner j c ≡ true = ap (λ (v : ℕ). is_inner m parts i v c) same ∙ inside_inner m parts i k s c is e in
      let row : row_at small j c ≡ map (placed_entry states) (row_at m s c) =
      row-inner m parts i r j c l w chosen ∙ ap (λ (v : ℕ). map (placed_entry states) (row_at m v c)) same
      in
      one_more small inner j c (place x) t (omega (arith, w, n)) chosen (ap (leads_to (place x)) row ∙ leads-placed states (row_at m s c) x leads) way

  -- and so is a walk
  walk-placed : (t s : ℕ) → s < states_of m → Reaches m (is_inside m parts) s t → in_part parts i s ≡ true → (j : ℕ) → j < count → at j ≡ s
      → Reaches small inner j (place t)
  walk-placed t s below way is j l same =
      walk_to m (IsPart.model k) (is_inside m parts) t (λ s. in_part parts i s ≡ true → (j : ℕ) → j < count → at j ≡ s → Reaches small inner j (place t))
      (λ is j l same. subst (λ (v : ℕ). Reaches small inner j v) (sym (place_of_listed m parts i j l) ∙ ap place same) (here small inner j))
      (λ s c x below h e leads hx way known is j l same.
      let targets = inner-targets m parts i k s c below h (inside_inner m parts i k s c is e) in
      let next = all-target (row_at m s c) (λ v. in_part parts i v ≡ true) targets x leads in
      step-placed s c x (place t) j is h e leads l same (known next (place x) (place-below m parts i x hx next) (at_place m parts i x hx next)))
      s below way is j l same

  own-below : (j : ℕ) → own j ≡ true → j < count
  own-below j h = ltb-true j count h

  -- so it is an end component of the small model
  own-end : IsEnd small own inner
  own-end = record {
    some = (0, (let n = count-alone m parts i r in omega (arith, n)), lt-ltb 0 count some-member);
    choice = λ j l h.
        (let b = own-below j h in
        let c = IsEnd.choice the_end (at j) (listed-below m parts i j b) (listed-in m parts i j b) in
        let n = width-alone m parts i r j b in
        (c.0, (let w = c.1 in omega (arith, n, w)), inside_inner m parts i k (at j) c.0 (listed-in m parts i j b) c.2));
    closed = λ j c l h w e.
        (let b = own-below j h in
        let n = width-alone m parts i r j b in
        inner-stays own (λ v g. lt-ltb v count g) j c b (omega (arith, n, w)) e);
    joined = λ j v lj lv hj hv.
        (let b = own-below j hj in
        let d = own-below v hv in
        let from = listed-below m parts i j b in
        let own_from = listed-in m parts i j b in
        let way = IsEnd.joined the_end (at j) (at v) from (listed-below m parts i v d) own_from (listed-in m parts i v d) in
        subst (λ (x : ℕ). Reaches small inner j x) (place_of_listed m parts i v d) (walk-placed (at v) (at j) from way own_from j b refl));
  }

  -- ---- the one more state

  -- from it no other state is reached
  stuck : (chosen : ℕ → ℕ → Bool) (t n : ℕ) → comes_to small chosen t n count ≡ true → count ≡ t
  unfolding reached
  stuck chosen t zero e = eqb-true count t e
  stuck chosen t (suc n) e = elim (or_cases (comes_to small chosen t n count) (chosen_step small chosen (comes_to small chosen t n) count) e) [
    | inl before ↦ stuck chosen t n before
    | inr stepped ↦
        (let z = step-has small chosen (comes_to small chosen t n) count stepped in
        let w = width-elsewhere m parts i r in
        let first : z.0 ≡ 0 = (let b = z.2 in omega (arith, b, w)) in
        let row : row_at small count z.0 ≡ to count = ap (λ (c : ℕ). row_at small count c) first ∙ row-elsewhere m parts i r in
        stuck chosen t n (subst (λ (v : ℕ). comes_to small chosen t n v ≡ true) (sym (to-only count z.1 (sym (ap (leads_to z.1) row) ∙ z.4))) z.5))
  ] where
    to-only : (s t : ℕ) → leads_to t (to s) ≡ true → s ≡ t
    to-only s t h = elim (or_cases (s == t) false h) [ inl same ↦ eqb-true s t same | inr none ↦ absurd (false≢true none) ]

  -- ---- part 0

  module _ (ends : List (Option ℕ)) (are : AreEnds small ends) where
    own-part : (p : ℕ) × (p < count_of ends) × ((j : ℕ) → j < states_of small → own j ≡ true → in_part ends p j ≡ true)
    own-part = AreEnds.each are own inner own-end

    part-is : own-part.0 ≡ 0
    part-is =
        let n = count-alone m parts i r in
        first_part ends own-part.0 (AreEnds.numbered are) (own-part.2 0 (omega (arith, n)) (lt-ltb 0 count some-member))

    pub first-below : 0 < count_of ends
    first-below = let l = own-part.1 in let e = part-is in omega (arith, l, e)

    -- it has each place of the component
    pub own-in : (j : ℕ) → j < count → in_part ends 0 j ≡ true
    own-in j l = subst (λ (p : ℕ). in_part ends p j ≡ true) part-is (own-part.2 j (let n = count-alone m parts i r in omega (arith, n, l)) (lt-ltb j count l))

    -- but not the one more state, since that comes to no other
    pub elsewhere-out : in_part ends 0 count ≡ false
    elsewhere-out = false_from_ne_true (in_part ends 0 count) (λ h.
        let n = count-alone m parts i r in
        let e : IsEnd small (in_part ends 0) (is_inside small ends) = IsMaximal.is_end (AreEnds.maximal are 0 first-below) in
        let way = IsEnd.joined e count 0 (omega (arith, n)) (omega (arith, n)) h (own-in 0 some-member) in
        let same = stuck (is_inside small ends) 0 way.0 way.1 in
        let some = some-member in
        omega (arith, same, some))

    -- and its choices are those of the component
    module _ (j c : ℕ) (l : j < count) (w : c < length (choices_at m (at j))) where
      stays_back : (b : Bool) → is_inner m parts i (at j) c ≡ b → stays_in (in_part ends 0) (row_at small j c) ≡ true → b ≡ true
      stays_back true e h = refl
      stays_back false e h =
          let stays : stays_in (in_part ends 0) (to count) ≡ true = sym (ap (stays_in (in_part ends 0)) (row-leaving m parts i r j c l w e)) ∙ h in
          absurd (false≢true (sym elsewhere-out ∙ (and_parts (in_part ends 0 count) true stays).0))

      pub inner-alone : is_inner small ends 0 j c ≡ is_inner m parts i (at j) c
      inner-alone =
          let number = number-has 0 (part_of ends j) (own-in j l) in
          let stays = λ (h : is_inner small ends 0 j c ≡ true).
          inside-stays small ends j c 0 number (and_parts (in_part ends 0 j) (is_inside small ends j c) h).1
          in
          let inside = λ (h : is_inner m parts i (at j) c ≡ true). inside-by small ends j c 0 number (inner-stays (in_part ends 0) own-in j c l w h) in
          same_truth (is_inner small ends 0 j c) (is_inner m parts i (at j) c)
          (λ h. stays_back (is_inner m parts i (at j) c) refl (stays h))
          (λ h. and_from (in_part ends 0 j) (is_inside small ends j c) (own-in j l) (inside h))
