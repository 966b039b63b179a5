-- A chain under other numbers: which states lead to one, the reference and the closed classes are the same at the small numbers and at the big ones.
use Rattle.std.proofs.Common.{◌≡◌, ◌≢◌, ℕ, ◌<◌, ◌≤◌, ◌⊎◌, inl, inr, Bool, true, ◌&&◌, List, length, map, get_or, sym, ◌∙◌, ap, subst, arith, pos, nat_lt}
use Rattle.std.proofs.{lemmas.Bool.{and_parts, ltb-true, lt-ltb}, lemmas.List.{get_or_default, get_or-map, length-map}}
use Rattle.std.specs.{List.{All, Any}, Prelude.{slice_index}}
use Rattle.mdp_math.specs.Rational.{of_int}
use Rattle.mdp_spec.specs.Mdp.{Entry}
use Rattle.mdp_unichain.specs.Chain.{AllLeadTo, IsReference, IsClosedClass}
use Rattle.mdp_gain.specs.{Alone.{place_in}, Renumbering.{renamed, Ascend}}
use Rattle.mdp_gain.proofs.Spread.{IsUnlisted, place-unique, ascend-le, listed-or, place_in-at, place_in-past}

-- ---- claims on the targets of a row

abbrev any_entry : Entry
any_entry = record { target = 0; prob = of_int (pos 0) }

module _ (states : List ℕ) (row : List Entry) (P Q : ℕ → Type 0) (targets : All (λ e. e.target < length states) row) where
  entry-renamed : (k : ℕ) (d : Entry) → k < length row → get_or (map (renamed states) row) k d ≡ renamed states (get_or row k any_entry)
  entry-renamed k d l = get_or-map (renamed states) row k any_entry d l

  same_length : length (map (renamed states) row) ≡ length row
  same_length = length-map row (renamed states)

  -- what some small target has, some big one has, and back; and what all have
  pub any-renamed : ((t : ℕ) → t < length states → P t → Q (slice_index states t)) → Any (λ e. P e.target) row
      → Any (λ e. Q e.target) (map (renamed states) row)
  any-renamed h a = (
    a.0,
    renamed states a.1,
    omega (arith, same_length, a.2),
    get_or-map (renamed states) row a.0 a.1 (renamed states a.1) a.2 ∙ ap (renamed states) a.3,
    h (Entry.target a.1) (subst (λ (e : Entry). e.target < length states) a.3 (targets a.0 a.1 a.2)) a.4,
  )

  pub any-from_renamed : ((t : ℕ) → t < length states → Q (slice_index states t) → P t) → Any (λ e. Q e.target) (map (renamed states) row)
      → Any (λ e. P e.target) row
  any-from_renamed h a =
      let l : a.0 < length row = omega (arith, same_length, a.2) in
      let e : Entry = get_or row a.0 any_entry in (
        a.0,
        e,
        l,
        get_or_default row a.0 e any_entry l,
        h (Entry.target e) (targets a.0 any_entry l) (subst (λ (y : Entry). Q y.target) (sym a.3 ∙ entry-renamed a.0 a.1 l) a.4),
      )

  pub all-renamed : ((t : ℕ) → t < length states → P t → Q (slice_index states t)) → All (λ e. P e.target) row
      → All (λ e. Q e.target) (map (renamed states) row)
  all-renamed h a k d m =
      let l : k < length row = omega (arith, same_length, m) in
      subst (λ (y : Entry). Q y.target) (sym (entry-renamed k d l)) (h (Entry.target (get_or row k any_entry)) (targets k any_entry l) (a k any_entry l))

  pub all-from_renamed : ((t : ℕ) → t < length states → Q (slice_index states t) → P t) → All (λ e. Q e.target) (map (renamed states) row)
      → All (λ e. P e.target) row
  all-from_renamed h a k d l =
      h (Entry.target (get_or row k d)) (targets k d l)
      (subst (λ (y : Entry). Q y.target) (get_or-map (renamed states) row k d any_entry l) (a k any_entry (omega (arith, same_length, l))))

-- ---- sets and rows

-- a set of places, and the set of the numbers that stand there
pub record IsSameSet (states : List ℕ) (small big : ℕ → Bool) : Type 0 where
  pub below : (j : ℕ) → small j ≡ true → j < length states
  pub listed : (s : ℕ) → big s ≡ true → (j : ℕ) × (j < length states) × (slice_index states j ≡ s)
  pub same : (j : ℕ) → j < length states → small j ≡ big (slice_index states j)

-- the rows of a set of places are those of the numbers that stand there
pub record AreSameRows (states : List ℕ) (small : ℕ → Bool) (rows others : ℕ → List Entry) : Type 0 where
  pub row : (j : ℕ) → small j ≡ true → others (slice_index states j) ≡ map (renamed states) (rows j)
  pub targets : (j : ℕ) → small j ≡ true → All (λ e. e.target < length states) (rows j)

-- fewer places have the same rows
rows-within : (states : List ℕ) (small fewer : ℕ → Bool) (row other : ℕ → List Entry) → ((j : ℕ) → fewer j ≡ true → small j ≡ true)
    → AreSameRows states small row other → AreSameRows states fewer row other
rows-within states small fewer row other within rows =
    record { row = λ j h. rows.row j (within j h); targets = λ j h. rows.targets j (within j h) }

-- what is said of places, for the big numbers: a set, or ranks
abbrev pub raised : {A : Type 0} → List ℕ → (ℕ → A) → ℕ → A
raised states f s = f (place_in states s)

-- a set of big numbers, for the places
abbrev pub lowered : List ℕ → (ℕ → Bool) → ℕ → Bool
lowered states class j = nat_lt j (length states) && class (slice_index states j)

module _ (states : List ℕ) (ascend : Ascend states) where
  raised_by : (class : ℕ → Bool) → ((j : ℕ) → class j ≡ true → j < length states) → (s : ℕ) → raised states class s ≡ true
      → ((j : ℕ) × (j < length states) × (slice_index states j ≡ s)) ⊎ IsUnlisted states s → (j : ℕ) × (j < length states) × (slice_index states j ≡ s)
  raised_by class below s h (inl w) = w
  raised_by class below s h (inr none) =
      absurd (let l = below (length states) (subst (λ (j : ℕ). class j ≡ true) (place_in-past states s none) h) in omega arith)

  pub raised-same : (class : ℕ → Bool) → ((j : ℕ) → class j ≡ true → j < length states) → IsSameSet states class (raised states class)
  raised-same class below = record {
    below = below;
    listed = λ s h. raised_by class below s h (listed-or states s);
    same = λ j l. ap class (sym (place_in-at states ascend j l));
  }

  pub lowered-same : (class : ℕ → Bool) → ((s : ℕ) → class s ≡ true → (j : ℕ) × (j < length states) × (slice_index states j ≡ s))
      → IsSameSet states (lowered states class) class
  lowered-same class listed = record {
    below = λ j h. ltb-true j (length states) (and_parts (nat_lt j (length states)) (class (slice_index states j)) h).0;
    listed = listed;
    same = λ j l. ap (λ b. b && class (slice_index states j)) (lt-ltb j (length states) l);
  }

  -- ---- all states lead to one

  module _ (small big : ℕ → Bool) (set : IsSameSet states small big) (row other : ℕ → List Entry) (rows : AreSameRows states small row other) where
    pub to_big : (j : ℕ) → small j ≡ true → big (slice_index states j) ≡ true
    to_big j h = sym (set.same j (set.below j h)) ∙ h

    module _ (t : ℕ) (leads : AllLeadTo small row t) where
      abbrev rank : ℕ → ℕ
      rank = raised states leads.rank

      falls_at : (j : ℕ) → j < length states → big (slice_index states j) ≡ true → slice_index states j ≢ slice_index states t
          → Any (λ y. rank y.target < rank (slice_index states j)) (other (slice_index states j))
      falls_at j l h o =
          let k : small j ≡ true = set.same j l ∙ h in
          subst (λ (es : List Entry). Any (λ y. rank y.target < rank (slice_index states j)) es) (sym (rows.row j k))
          (any-renamed states (row j) (λ i. leads.rank i < leads.rank j) (λ v. rank v < rank (slice_index states j)) (rows.targets j k)
          (λ i m q. let a = ap leads.rank (place_in-at states ascend i m) in let b = ap leads.rank (place_in-at states ascend j l) in omega arith)
          (leads.falls j k (λ e. o (ap (slice_index states) e))))

      pub leads-renamed : AllLeadTo big other (slice_index states t)
      leads-renamed = record {
        state = to_big t leads.state;
        rank = rank;
        falls = λ s h o.
            let w = set.listed s h in
            subst (λ (v : ℕ). big v ≡ true → v ≢ slice_index states t → Any (λ y. rank y.target < rank v) (other v)) w.2 (falls_at w.0 w.1) h o;
      }

    pub leads-from_renamed : (t : ℕ) → t < length states → AllLeadTo big other (slice_index states t) → AllLeadTo small row t
    leads-from_renamed t l leads = record {
      state = set.same t l ∙ leads.state;
      rank = λ j. leads.rank (slice_index states j);
      falls = λ j h o.
          let m = set.below j h in
          any-from_renamed states (row j) (λ i. leads.rank (slice_index states i) < leads.rank (slice_index states j))
          (λ v. leads.rank v < leads.rank (slice_index states j)) (rows.targets j h) (λ i k q. q)
          (subst (λ (es : List Entry). Any (λ y. leads.rank y.target < leads.rank (slice_index states j)) es) (rows.row j h)
          (leads.falls (slice_index states j) (to_big j h) (λ e. o (place-unique states ascend j t m l e))));
    }

    -- the least state that all lead to
    pub reference-renamed : (t : ℕ) → IsReference small row t → IsReference big other (slice_index states t)
    reference-renamed t r = record {
      leads = leads-renamed t r.leads;
      least = λ u to.
          let w = set.listed u to.state in
          let back = leads-from_renamed w.0 w.1 (subst (λ (v : ℕ). AllLeadTo big other v) (sym w.2) to) in
          subst (λ (v : ℕ). slice_index states t ≤ v) w.2 (ascend-le states ascend t w.0 (r.least w.0 back) w.1);
    }

  -- ---- closed classes

  module _ (small big : ℕ → Bool) (set : IsSameSet states small big) (row other : ℕ → List Entry) (rows : AreSameRows states small row other)
      (class wide : ℕ → Bool) (of : IsSameSet states class wide) where
    raises : (j : ℕ) → j < length states → class j ≡ true → wide (slice_index states j) ≡ true
    raises j l h = sym (of.same j l) ∙ h

    module _ (c : IsClosedClass small row class) where
      class_rows : AreSameRows states class row other
      class_rows = rows-within states small class row other c.states rows

      closed_at : (j : ℕ) → j < length states → wide (slice_index states j) ≡ true → All (λ y. wide y.target ≡ true) (other (slice_index states j))
      closed_at j l h =
          let k = of.same j l ∙ h in
          subst (λ (es : List Entry). All (λ y. wide y.target ≡ true) es) (sym (class_rows.row j k))
          (all-renamed states (row j) (λ i. class i ≡ true) (λ v. wide v ≡ true) (class_rows.targets j k) raises (c.closed j k))

      pub class-renamed : IsClosedClass big other wide
      class-renamed = record {
        some = (slice_index states c.some.0, to_big class wide of row other class_rows c.some.0 c.some.1);
        states = λ s h.
            let w = of.listed s h in
            let k = of.same w.0 w.1 ∙ ap wide w.2 ∙ h in
            subst (λ (v : ℕ). big v ≡ true) w.2 (to_big small big set row other rows w.0 (c.states w.0 k));
        closed = λ s h. let w = of.listed s h in subst (λ (v : ℕ). wide v ≡ true → All (λ y. wide y.target ≡ true) (other v)) w.2 (closed_at w.0 w.1) h;
        connected = λ s h.
            let w = of.listed s h in
            let k = of.same w.0 w.1 ∙ ap wide w.2 ∙ h in
            subst (λ (v : ℕ). AllLeadTo wide other v) w.2 (leads-renamed class wide of row other class_rows w.0 (c.connected w.0 k));
      }

    module _ (c : IsClosedClass big other wide) where
      back_state : (j : ℕ) → class j ≡ true → small j ≡ true
      back_state j h = let l = of.below j h in set.same j l ∙ c.states (slice_index states j) (raises j l h)

      back_rows : AreSameRows states class row other
      back_rows = rows-within states small class row other back_state rows

      pub class-from_renamed : IsClosedClass small row class
      class-from_renamed = record {
        some = let w = of.listed c.some.0 c.some.1 in (w.0, of.same w.0 w.1 ∙ ap wide w.2 ∙ c.some.1);
        states = back_state;
        closed = λ j h.
            let l = of.below j h in
            all-from_renamed states (row j) (λ i. class i ≡ true) (λ v. wide v ≡ true) (back_rows.targets j h) (λ i m q. of.same i m ∙ q)
            (subst (λ (es : List Entry). All (λ y. wide y.target ≡ true) es) (back_rows.row j h) (c.closed (slice_index states j) (raises j l h)));
        connected = λ j h.
            let l = of.below j h in
            leads-from_renamed class wide of row other back_rows j l (c.connected (slice_index states j) (raises j l h));
      }
