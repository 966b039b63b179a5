-- The rows of the model of one end component alone are distributions over its states.
use Rattle.std.proofs.Common.{◌≡◌, ◌⊎◌, inl, inr, ℕ, suc, ◌+◌, ◌<◌, ◌≤◌, Bool, true, false, ◌&&◌, le-leb, List, [], ◌∷◌}
use Rattle.std.proofs.{Common.{length, map, Option, refl, sym, ap, subst, ◌∙◌, arith, pos}, lemmas.Bool.{cases_Bool, leb-true, and_parts, and_from}}
use Rattle.std.proofs.lemmas.List.Elements.{All-from_recursion, All-map, All-head, All-tail, All-weaker}
use Rattle.std.specs.{Prelude.{nat_le, slice_index}, List.{All}}
use Rattle.mdp_math.specs.{Gcd.{gcd, gcd_with_fuel}, Rational.{of_int, ratio, lt_ℚ, ◌+ℚ◌, ◌<ℚ◌}, Sum.{sum_of}}
use Rattle.mdp_math.proofs.{Sums.{sum_of-map}, Numbers.{last_or}}
use Rattle.mdp_spec.specs.{Mdp.{Entry, Mdp, states_of, choices_at, row_at}, Row.{ascends_from, IsRow, IsMdp}}
use Rattle.mdp_ends.specs.Ends.{in_part}
use Rattle.mdp_unichain.specs.{Model.{IsEndComponent}, Part.{IsPart, members, is_inner}}
use Rattle.mdp_unichain.proofs.Parts.{member-below, end_component}
use Rattle.mdp_gain.specs.Alone.{place_in, placed_entry, to, alone}
use Rattle.mdp_gain.proofs.MemberPlaces.{listed-below, place-below, place-lt}
use Rattle.mdp_gain.proofs.AloneStates.{count-alone, width-alone, width-elsewhere, row-inner, row-leaving, row-elsewhere}

-- ---- the row of one entry

to_positive : of_int (pos 0) <ℚ of_int (pos 1)
unfolding of_int lt_ℚ
to_positive = record { lt = tt }

to_total : (s : ℕ) → sum_of (λ x. x.prob) (to s) ≡ of_int (pos 1)
unfolding gcd gcd_with_fuel ratio of_int ◌+ℚ◌
to_total s = refl

pub row-to : (n s : ℕ) → s < n → IsRow n (to s)
row-to n s h = record {
  distribution = record {
    ascending = ap (λ (b : Bool). b && true) (le-leb 0 s (omega arith));
    positive = All-from_recursion (λ x. of_int (pos 0) <ℚ x.prob) (to s) (to_positive, tt);
    total = to_total s;
  };
  in_range = All-from_recursion (λ x. x.target < n) (to s) (h, tt);
}

-- ---- the row of an inner choice, its states at their places

module _ (m : Mdp) (parts : List (Option ℕ)) (i : ℕ) (k : IsPart m parts i) where
  abbrev states : List ℕ
  states = members m parts i

  abbrev count : ℕ
  count = length states

  abbrev at : ℕ → ℕ
  at j = slice_index states j

  abbrev place : ℕ → ℕ
  place s = place_in states s

  abbrev Member : Entry → Type 0
  Member y = in_part parts i y.target ≡ true

  -- an inner choice leads to states of the part alone
  pub inner-targets : (s c : ℕ) → s < states_of m → c < length (choices_at m s) → is_inner m parts i s c ≡ true
      → All (λ y. in_part parts i y.target ≡ true) (row_at m s c)
  inner-targets s c l h e = IsEndComponent.stays (end_component m parts i k) s c (l, h, e)

  placed-ascends : (low from : ℕ) (row : List Entry) → All Member row → ((t : ℕ) → in_part parts i t ≡ true → low ≤ t → from ≤ place t)
      → ascends_from low row ≡ true → ascends_from from (map (placed_entry states) row) ≡ true
  placed-ascends low from [] all lower e = refl
  placed-ascends low from (x ∷ row) all lower e =
      let p = and_parts (nat_le low x.target) (ascends_from (x.target + 1) row) e in
      let own = All-head Member x row all in
      and_from (nat_le from (place x.target)) (ascends_from (place x.target + 1) (map (placed_entry states) row))
      (le-leb from (place x.target) (lower x.target own (leb-true low x.target p.0)))
      (placed-ascends (x.target + 1) (place x.target + 1) row (All-tail Member x row all)
      (λ t is l.
      let q = place-lt m parts i x.target t (member-below m parts i k x.target own) own (member-below m parts i k t is) is (omega (arith, l)) in
      omega (arith, q)) p.1)

  pub row-placed : (n : ℕ) (row : List Entry) → IsRow n row → All (λ y. in_part parts i y.target ≡ true) row → IsRow (suc count) (map (placed_entry states) row)
  row-placed n row known all = record {
    distribution = record {
      ascending = placed-ascends 0 0 row all (λ t is l. omega arith) known.distribution.ascending;
      positive = All-map (λ x. of_int (pos 0) <ℚ x.prob) (placed_entry states) row known.distribution.positive;
      total = sum_of-map (placed_entry states) (λ x. x.prob) row ∙ known.distribution.total;
    };
    in_range = All-map (λ x. x.target < suc count) (placed_entry states) row
        (All-weaker Member (λ y. place y.target < suc count)
        (λ y is. let q = place-below m parts i y.target (member-below m parts i k y.target is) is in omega (arith, q)) row all);
  }

  -- ---- all rows

  module _ (r : ℕ) where
    abbrev small : Mdp
    small = alone m parts i r

    row_by : (j c : ℕ) → j < count → c < length (choices_at m (at j)) → (is_inner m parts i (at j) c ≡ true) ⊎ (is_inner m parts i (at j) c ≡ false)
        → IsRow (suc count) (row_at small j c)
    row_by j c l h (inl inner) =
        let below = listed-below m parts i j l in
        subst (IsRow (suc count)) (sym (row-inner m parts i r j c l h inner))
        (row-placed (states_of m) (row_at m (at j) c) (IsMdp.row (IsPart.model k) (at j) c below h) (inner-targets (at j) c below h inner))
    row_by j c l h (inr leaving) = subst (IsRow (suc count)) (sym (row-leaving m parts i r j c l h leaving)) (row-to (suc count) count (omega arith))

    row_at_by : (j c : ℕ) → (j ≡ count) ⊎ (j < count) → c < length (choices_at small j) → IsRow (suc count) (row_at small j c)
    row_at_by j c (inr l) h =
        let w = width-alone m parts i r j l in
        let g : c < length (choices_at m (at j)) = omega (arith, h, w) in
        row_by j c l g (cases_Bool (is_inner m parts i (at j) c))
    row_at_by j c (inl last) h =
        let w : length (choices_at small j) ≡ 1 = ap (λ (v : ℕ). length (choices_at small v)) last ∙ width-elsewhere m parts i r in
        let z : c ≡ 0 = omega (arith, h, w) in
        subst (IsRow (suc count)) (sym (row-elsewhere m parts i r) ∙ ap (λ (v : ℕ). row_at small v 0) (sym last) ∙ ap (λ (d : ℕ). row_at small j d) (sym z))
        (row-to (suc count) count (omega arith))

    pub row-alone : (j c : ℕ) → j < states_of small → c < length (choices_at small j) → IsRow (states_of small) (row_at small j c)
    row-alone j c l h =
        let n = count-alone m parts i r in
        subst (λ (v : ℕ). IsRow v (row_at small j c)) (sym n) (row_at_by j c (last_or count j (omega (arith, l, n))) h)

    width_by : (j : ℕ) → (j ≡ count) ⊎ (j < count) → 0 < length (choices_at small j)
    width_by j (inr l) =
        let w = width-alone m parts i r j l in
        let some = IsMdp.choice (IsPart.model k) (at j) (listed-below m parts i j l) in
        omega (arith, w, some)
    width_by j (inl last) =
        let w : length (choices_at small j) ≡ 1 = ap (λ (v : ℕ). length (choices_at small v)) last ∙ width-elsewhere m parts i r in
        omega (arith, w)

    pub some-alone : (j : ℕ) → j < states_of small → 0 < length (choices_at small j)
    some-alone j l = let n = count-alone m parts i r in width_by j (last_or count j (omega (arith, l, n)))

    -- it is a model, where the component has not all states of a greatest model
    pub alone-mdp : count < states_of m → IsMdp small
    alone-mdp room =
        let n = count-alone m parts i r in
        let few = IsMdp.few (IsPart.model k) in
        record { some = omega (arith, n); few = omega (arith, n, few, room); choice = some-alone; row = row-alone }
