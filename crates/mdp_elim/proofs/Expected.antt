-- The system of the transposed rows, as it is made, and that its values are the expected visits.
use Rattle.std.proofs.Common.{◌≡◌, ◌≢◌, ℕ, suc, ◌⊎◌, inl, inr, map, eq-eqb, ◌+◌, ◌<◌, Bool, true, false, List, [], ◌∷◌, ◌++◌}
use Rattle.std.proofs.Common.{length, drop, get_or, refl, sym, ◌∙◌, ap, ap₂, subst, arith, eqb, if◌then◌else◌, pos, zero-add, Result, Ok, Err}
use Rattle.std.proofs.{Math.ListN.{set}, lemmas.Bool.{ne_eqb}, lemmas.List.{append_assoc, append-nil, ext_get_or, get_or-set_same, get_or-set_other}}
use Rattle.std.proofs.lemmas.List.FromFn.{get_or-map-range_with_len}
use Rattle.std.specs.List.{flat_map, range_with_len}
use Rattle.mdp_math.specs.{Rational.{ℚ, of_int, ◌+ℚ◌}, Pivot.{active_below, entry_at, HasPivots}}
use Rattle.mdp_spec.specs.{Mdp.{Entry, value_at}, Row.{AreRows, entries}}
use Rattle.mdp_elim.specs.{Equation.{Equation, Values, no_equation}, Elimination.{solution, CanEliminate, DividesByPositive}}
use Rattle.mdp_elim.specs.{System.{is_active, row_of, inner, system, Leaves}, Solve.{kept}}
use Rattle.mdp_elim.specs.Visits.{entries_into, transposed, one_at, unit_column, row_into, with_row, start_equation, visits_below, written_visits, step, AreVisits}
use Rattle.mdp_elim.specs.{Entries.{Between}, Predecessors.{at, LeadBelow}}
use Rattle.mdp_elim.proofs.{Lists.{one_or_two}, RowSums.{over}, Law.{unit, matrix, all_below, can_eliminate, divides_by_positive, solution_solves}}
use Rattle.mdp_elim.proofs.{Chains.{entries_next}, RowsInto.{over-row_into, between-row_into, one_term, length-transposed, row_of-transposed}}
use Rattle.mdp_elim.proofs.Active.{wide_active}
use Rattle.mdp_elim.proofs.Leaving.{at_active, at_inactive, active-below, length-system, down-system, matrix-active, matrix-inactive, all_pivots, first_solves, chain_pivots_transposed, row_between}
use Rattle.mdp_math.proofs.Lists.{flat_more}

-- ---- the entries of one row

module _ (s t : ℕ) (ts : List ℕ) (ps : List ℚ) (i v : ℕ) (p : ℚ) (within : i < length ts) (same : length ts ≡ length ps) (target : v ≡ get_or ts i v) (prob : p ≡ get_or ps i p) where
  abbrev this : Entry
  this = record { target = t; prob = p }

  abbrev later : List Entry
  later = entries_into s t (entries (drop (i + 1) ts) (drop (i + 1) ps))

  pub into-next : entries_into s t (entries (drop i ts) (drop i ps)) ≡ (if eqb v s then this ∷ later else later)
  into-next =
      let e : suc i ≡ i + 1 = omega arith in
      ap (entries_into s t) (entries_next ts ps i v p within same target prob)
      ∙ ap (λ (k : ℕ). if eqb v s then this ∷ entries_into s t (entries (drop k ts) (drop k ps)) else entries_into s t (entries (drop k ts) (drop k ps))) e

-- ---- the active ones of them

module _ (active : List Bool) where
  append_by : (x : Entry) (xs ys : List Entry) (b : Bool) → inner active (xs ++ ys) ≡ inner active xs ++ inner active ys
      → (if b then x ∷ inner active (xs ++ ys) else inner active (xs ++ ys)) ≡ (if b then x ∷ inner active xs else inner active xs) ++ inner active ys
  append_by x xs ys true h = ap (λ (zs : List Entry). x ∷ zs) h
  append_by x xs ys false h = h

  inner-append : (xs ys : List Entry) → inner active (xs ++ ys) ≡ inner active xs ++ inner active ys
  inner-append [] ys = refl
  inner-append (x ∷ xs) ys = append_by x xs ys (is_active active x.target) (inner-append xs ys)

  abbrev moved : ℕ → Entry → Entry
  moved t x = record { target = t; prob = x.prob }

  all_by : (s t : ℕ) (x : Entry) (row : List Entry) (b : Bool) → is_active active t ≡ true → inner active (entries_into s t row) ≡ entries_into s t row
      → inner active (if b then moved t x ∷ entries_into s t row else entries_into s t row) ≡ (if b then moved t x ∷ entries_into s t row else entries_into s t row)
  all_by s t x row true a h = ap (λ (c : Bool). if c then moved t x ∷ inner active (entries_into s t row) else inner active (entries_into s t row)) a ∙ ap (λ (zs : List Entry). moved t x ∷ zs) h
  all_by s t x row false a h = h

  inner-into : (s t : ℕ) (row : List Entry) → is_active active t ≡ true → inner active (entries_into s t row) ≡ entries_into s t row
  inner-into s t [] a = refl
  inner-into s t (x ∷ row) a = all_by s t x row (eqb x.target s) a (inner-into s t row a)

  none_by : (s t : ℕ) (x : Entry) (row : List Entry) (b : Bool) → is_active active t ≡ false
      → inner active (entries_into s t row) ≡ [] → inner active (if b then moved t x ∷ entries_into s t row else entries_into s t row) ≡ []
  none_by s t x row true a h = ap (λ (c : Bool). if c then moved t x ∷ inner active (entries_into s t row) else inner active (entries_into s t row)) a ∙ h
  none_by s t x row false a h = h

  inner-into_none : (s t : ℕ) (row : List Entry) → is_active active t ≡ false → inner active (entries_into s t row) ≡ []
  inner-into_none s t [] a = refl
  inner-into_none s t (x ∷ row) a = none_by s t x row (eqb x.target s) a (inner-into_none s t row a)

  module _ (f : ℕ → List Entry) (s t : ℕ) (row : List Entry) (is : f t ≡ entries_into s t row) (terms : List Entry) (before : terms ≡ inner active (flat_map f (range_with_len 0 t))) where
    pub row-kept : (new : List Entry) → is_active active t ≡ true → new ≡ terms ++ entries_into s t row → new ≡ inner active (flat_map f (range_with_len 0 (t + 1)))
    row-kept new a e =
        e ∙ ap₂ (λ (xs ys : List Entry). xs ++ ys) before (sym (inner-into s t row a) ∙ ap (inner active) (sym is))
        ∙ sym (inner-append (flat_map f (range_with_len 0 t)) (f t)) ∙ ap (inner active) (sym (flat_more f t))

    pub row-left : is_active active t ≡ false → terms ≡ inner active (flat_map f (range_with_len 0 (t + 1)))
    row-left a =
        before ∙ sym (append-nil (inner active (flat_map f (range_with_len 0 t)))) ∙ ap
        (λ (ys : List Entry). inner active (flat_map f (range_with_len 0 t)) ++ ys) (sym (ap (inner active) is ∙ inner-into_none s t row a))
        ∙ sym (inner-append (flat_map f (range_with_len 0 t)) (f t)) ∙ ap (inner active) (sym (flat_more f t))

-- ---- the column of the start

pub unit_column-at : (n start s : ℕ) → s < n → value_at (unit_column n start) s ≡ one_at start s
unit_column-at n start s l = get_or-map-range_with_len (one_at start) 0 n s s (of_int (pos 0)) l (zero-add s)

pub one_at-other : (start s : ℕ) → eqb s start ≡ false → one_at start s ≡ of_int (pos 0)
one_at-other start s e = ap (λ (b : Bool). if b then of_int (pos 1) else of_int (pos 0)) e

-- ---- the equations at first

pub start-is : (start s : ℕ) (e : Equation) (es : List Entry) (a b : ℚ) → e ≡ (let x : Equation = record { entries = es; first = a; second = b } in x)
    → es ≡ [] → a ≡ one_at start s → b ≡ of_int (pos 0) → e ≡ start_equation start s
start-is start s e es a b is p q r = is ∙ rw (p, q, r) refl

-- ---- the rows are transposed one after the other

module _ (active : List Bool) (t : ℕ) where
  with_by : (row : List Entry) (s : ℕ) (e : Equation) (b : Bool) → entries_into s t row ≡ []
      → (if b then (let x : Equation = record { entries = e.entries ++ entries_into s t row; first = e.first; second = e.second } in x) else e) ≡ e
  with_by row s e true h = ap (λ (xs : List Entry). let x : Equation = record { entries = e.entries ++ xs; first = e.first; second = e.second } in x) h
      ∙ ap (λ (xs : List Entry). let x : Equation = record { entries = xs; first = e.first; second = e.second } in x) (append-nil e.entries)
  with_by row s e false h = refl

  -- no entry is left
  pub with_row-none : (row : List Entry) (s : ℕ) (e : Equation) → entries_into s t row ≡ [] → with_row active t row s e ≡ e
  with_row-none row s e h = with_by row s e (is_active active s) h

  -- the next entry leads to v
  module _ (ts : List ℕ) (ps : List ℚ) (i v : ℕ) (p : ℚ) (within : i < length ts) (same : length ts ≡ length ps) (target : v ≡ get_or ts i v) (prob : p ≡ get_or ps i p) (now : List Equation) where
    abbrev left : ℕ → List Entry
    left k = entries (drop k ts) (drop k ps)

    abbrev pushed : Equation → Equation
    pushed e = record { entries = e.entries ++ (let x : Entry = record { target = t; prob = p } in x) ∷ []; first = e.first; second = e.second }

    next_at : (s : ℕ) (b : Bool) → eqb v s ≡ b → entries_into s t (left i)
        ≡ (if b then (let x : Entry = record { target = t; prob = p } in x) ∷ entries_into s t (left (i + 1)) else entries_into s t (left (i + 1)))
    next_at s b e = into-next s t ts ps i v p within same target prob ∙ ap
        (λ (c : Bool). if c then (let x : Entry = record { target = t; prob = p } in x) ∷ entries_into s t (left (i + 1)) else entries_into s t (left (i + 1))) e

    -- a state to which it doesn't lead
    with_row-other : (s : ℕ) (e : Equation) → eqb v s ≡ false → with_row active t (left i) s e ≡ with_row active t (left (i + 1)) s e
    with_row-other s e h = ap (λ (xs : List Entry). if is_active active s then (let x : Equation = record { entries = e.entries ++ xs; first = e.first; second = e.second } in x) else e) (next_at s false h)

    -- a state that isn't active
    with_row-off : (s : ℕ) (e : Equation) → is_active active s ≡ false → with_row active t (left i) s e ≡ with_row active t (left (i + 1)) s e
    with_row-off s e off = off_is (left i) ∙ sym (off_is (left (i + 1)))
      where
        off_is : (row : List Entry) → with_row active t row s e ≡ e
        off_is row = ap (λ (b : Bool). if b then (let x : Equation = record { entries = e.entries ++ entries_into s t row; first = e.first; second = e.second } in x) else e) off

    -- the state to which it leads
    with_row-here : (s : ℕ) (e : Equation) → eqb v s ≡ true → is_active active s ≡ true → with_row active t (left i) s e ≡ with_row active t (left (i + 1)) s (pushed e)
    with_row-here s e h on =
        ap (λ (b : Bool). if b then (let x : Equation = record { entries = e.entries ++ entries_into s t (left i); first = e.first; second = e.second } in x) else e) on
        ∙ ap (λ (xs : List Entry). let x : Equation = record { entries = xs; first = e.first; second = e.second } in x)
        (ap (λ (xs : List Entry). e.entries ++ xs) (next_at s true h) ∙ sym (append_assoc e.entries ((let x : Entry = record { target = t; prob = p } in x) ∷ []) (entries_into s t (left (i + 1)))))
        ∙ sym (ap (λ (b : Bool). if b then (let x : Equation
        = record { entries = (e.entries ++ (let x : Entry = record { target = t; prob = p } in x) ∷ []) ++ entries_into s t (left (i + 1)); first = e.first; second = e.second } in x)
        else pushed e) on)

    module _ (row : List Entry) (old : List Equation) (so_far : (s : ℕ) → with_row active t row s (at old s) ≡ with_row active t (left i) s (at now s)) where
      put_by : (new : List Equation) (s : ℕ) → at new v ≡ pushed (at now v) → ((u : ℕ) → u ≢ v → at new u ≡ at now u)
          → is_active active v ≡ true → (s ≡ v) ⊎ (s ≢ v) → with_row active t row s (at old s) ≡ with_row active t (left (i + 1)) s (at new s)
      put_by new s here others on (inl e) =
          so_far s ∙ with_row-here s (at now s) (eq-eqb v s (sym e)) (ap (is_active active) e ∙ on)
          ∙ ap (with_row active t (left (i + 1)) s) (ap (λ (n : ℕ). pushed (at now n)) e ∙ sym here ∙ ap (at new) (sym e))
      put_by new s here others on (inr n) = so_far s ∙ with_row-other s (at now s) (ne_eqb v s (λ e. n (sym e))) ∙ ap (with_row active t (left (i + 1)) s) (sym (others s n))

      pub row_put : (e o : Equation) (x : Entry) → v < length now → e ≡ (let y : Equation = record { entries = o.entries ++ x ∷ []; first = o.first; second = o.second } in y)
          → o ≡ at now v → x ≡ (let y : Entry = record { target = t; prob = p } in y) → is_active active v ≡ true
          → (s : ℕ) → with_row active t row s (at old s) ≡ with_row active t (left (i + 1)) s (at (set now v e) s)
      row_put e o x l is at_v term on s = put_by (set now v e) s (get_or-set_same now v e no_equation l ∙ is ∙ ap₂
          (λ (a : Equation) (z : Entry). let y : Equation = record { entries = a.entries ++ z ∷ []; first = a.first; second = a.second } in y) at_v term)
          (λ u n. get_or-set_other now v u e no_equation n) on (one_or_two v s)

      left_by : (s : ℕ) → is_active active v ≡ false → (s ≡ v) ⊎ (s ≢ v) → with_row active t row s (at old s) ≡ with_row active t (left (i + 1)) s (at now s)
      left_by s off (inl e) = so_far s ∙ with_row-off s (at now s) (ap (is_active active) e ∙ off)
      left_by s off (inr n) = so_far s ∙ with_row-other s (at now s) (ne_eqb v s (λ e. n (sym e)))

      pub row_left : is_active active v ≡ false → (s : ℕ) → with_row active t row s (at old s) ≡ with_row active t (left (i + 1)) s (at now s)
      row_left off s = left_by s off (one_or_two v s)

module _ (rows : List (List Entry)) (active : List Bool) (start : ℕ) where
  abbrev into : ℕ → ℕ → List Entry
  into s u = entries_into s u (row_of rows u)

  kept_by : (t s : ℕ) → is_active active t ≡ true → (b : Bool)
      → (if b then (let x : Equation = record {
        entries = Equation.entries
            (if b then (let y : Equation = record { entries = inner active (flat_map (into s) (range_with_len 0 t)); first = one_at start s; second = of_int (pos 0) } in y) else no_equation)
            ++ into s t;
        first = Equation.first (if b then (let y : Equation = record {
          entries = inner active (flat_map (into s) (range_with_len 0 t));
          first = one_at start s;
          second = of_int (pos 0);
        } in y) else no_equation);
        second = Equation.second
            (if b then (let y : Equation = record { entries = inner active (flat_map (into s) (range_with_len 0 t)); first = one_at start s; second = of_int (pos 0) } in y) else no_equation);
      } in x)
      else (if b then (let y : Equation = record { entries = inner active (flat_map (into s) (range_with_len 0 t)); first = one_at start s; second = of_int (pos 0) } in y) else no_equation))
      ≡ (if b then (let y : Equation = record { entries = inner active (flat_map (into s) (range_with_len 0 (t + 1))); first = one_at start s; second = of_int (pos 0) } in y) else no_equation)
  kept_by t s a true = ap (λ (xs : List Entry). let y : Equation = record { entries = xs; first = one_at start s; second = of_int (pos 0) } in y)
      (row-kept active (into s) s t (row_of rows t) refl (inner active (flat_map (into s) (range_with_len 0 t))) refl _ a refl)
  kept_by t s a false = refl

  pub visits_more : (t s : ℕ) → is_active active t ≡ true → with_row active t (row_of rows t) s (visits_below rows active start t s) ≡ visits_below rows active start (t + 1) s
  visits_more t s a = kept_by t s a (is_active active s)

  -- the row of t is put in
  pub visits_put : (t n : ℕ) (row : List Entry) (old mid new : List Equation) → mid ≡ old → ((s : ℕ) → at new s ≡ with_row active t row s (at mid s))
      → row ≡ row_of rows t → is_active active t ≡ true → ((s : ℕ) → s < n → at old s ≡ visits_below rows active start t s)
      → (s : ℕ) → s < n → at new s ≡ visits_below rows active start (t + 1) s
  visits_put t n row old mid new m put is on so_far s l =
      put s ∙ ap (λ (es : List Equation). with_row active t row s (at es s)) m ∙ ap
      (λ (r : List Entry). with_row active t r s (at old s)) is ∙ ap (with_row active t (row_of rows t) s) (so_far s l) ∙ visits_more t s on

  pub visits_same : (t s : ℕ) → is_active active t ≡ false → visits_below rows active start t s ≡ visits_below rows active start (t + 1) s
  visits_same t s a = ap (λ (xs : List Entry). if is_active active s then (let y : Equation = record { entries = xs; first = one_at start s; second = of_int (pos 0) } in y) else no_equation)
      (row-left active (into s) s t (row_of rows t) refl (inner active (flat_map (into s) (range_with_len 0 t))) refl a)

  first_by : (s : ℕ) → is_active active start ≡ true → (b : Bool) → is_active active s ≡ b → (start_equation start s) ≡ (if b then start_equation start s else no_equation)
  first_by s on true a = refl
  first_by s on false a =
      let n : eqb s start ≡ false = ne_eqb s start (λ e. let k : true ≡ false = sym on ∙ ap (is_active active) (sym e) ∙ a in cc) in
      ap (λ (q : ℚ). let y : Equation = record { entries = []; first = q; second = of_int (pos 0) } in y) (one_at-other start s n)

  pub visits_first : (n s : ℕ) → is_active active start ≡ true → s < n → at (map (start_equation start) (range_with_len 0 n)) s ≡ visits_below rows active start 0 s
  visits_first n s on l = get_or-map-range_with_len (start_equation start) 0 n s s no_equation l (zero-add s) ∙ first_by s on (is_active active s) refl

  module _ (size : length active ≡ length rows) where
    abbrev all_columns : List (List ℚ)
    all_columns = unit_column (length rows) start ∷ []

    all_size : length active ≡ length (transposed rows)
    all_size = size ∙ sym (length-transposed rows)

    system_by : (s : ℕ) → s < length rows → (b : Bool) → is_active active s ≡ b
        → (if b then (let y : Equation = record { entries = row_into rows s; first = one_at start s; second = of_int (pos 0) }
        in (let z : Equation = record { entries = inner active y.entries; first = y.first; second = y.second } in z)) else no_equation) ≡ at (system (transposed rows) active all_columns) s
    system_by s l true a =
        ap₂ (λ (xs : List Entry) (q : ℚ). let y : Equation = record { entries = inner active xs; first = q; second = of_int (pos 0) } in y)
        (sym (row_of-transposed rows s l)) (sym (unit_column-at (length rows) start s l))
        ∙ sym (at_active (transposed rows) active all_size all_columns s a)
    system_by s l false a = sym (at_inactive (transposed rows) active all_size all_columns s a)

    pub visits_all : (s : ℕ) → s < length rows → visits_below rows active start (length rows) s ≡ at (system (transposed rows) active all_columns) s
    visits_all s l = system_by s l (is_active active s) refl

    -- the equations that come out
    pub visits_system-is : (equations : List Equation) → length equations ≡ length rows
        → ((s : ℕ) → s < length rows → at equations s ≡ visits_below rows active start (length rows) s) → equations ≡ system (transposed rows) active all_columns
    visits_system-is equations n h =
        ext_get_or no_equation equations (system (transposed rows) active all_columns) (n ∙ sym (length-system (transposed rows) active all_size all_columns ∙ length-transposed rows))
        (λ s l. let k : s < length rows = omega (arith, l, n) in h s k ∙ visits_all s k)

-- ---- the system

module _ (rows : List (List Entry)) (active : List Bool) (ranks : List ℕ) (known : AreRows rows) (size : length active ≡ length rows) (leaves : Leaves rows active ranks) (start : ℕ) where
  abbrev columns : List (List ℚ)
  columns = unit_column (length rows) start ∷ []

  active-size : length active ≡ length (transposed rows)
  active-size = size ∙ sym (length-transposed rows)

  pub visits-len : length (system (transposed rows) active columns) ≡ length rows
  visits-len = length-system (transposed rows) active active-size columns ∙ length-transposed rows

  row_lies : (s : ℕ) → s < length (transposed rows) → Between 0 (length (transposed rows)) (row_of (transposed rows) s)
  row_lies s l =
      let k : s < length rows = subst (λ n. s < n) (length-transposed rows) l in
      subst (λ n. Between 0 n (row_of (transposed rows) s)) (sym (length-transposed rows))
      (subst (Between 0 (length rows)) (sym (row_of-transposed rows s k)) (between-row_into rows s (row_between rows active ranks known size leaves)))

  visits-down : LeadBelow (length (transposed rows)) (length (transposed rows)) (system (transposed rows) active columns)
  visits-down = down-system (transposed rows) active active-size columns row_lies

  pub visits-leads : LeadBelow (length (system (transposed rows) active columns)) (length (system (transposed rows) active columns)) (system (transposed rows) active columns)
  visits-leads = subst (λ n. LeadBelow n n (system (transposed rows) active columns)) (sym (length-system (transposed rows) active active-size columns)) visits-down

  entry_is : (s t : ℕ) → s < length rows → t < length rows → entry_at (λ x. x.target) (λ x. x.prob) (row_of rows t) s ≡ over (unit t) (row_of (transposed rows) s)
  entry_is s t l m = sym (ap (over (unit t)) (row_of-transposed rows s l) ∙ over-row_into rows s (unit t) ∙ one_term (λ k. step rows k s) t (length rows) m)

  visits-pivots : HasPivots (all_below (length (transposed rows))) (matrix (system (transposed rows) active columns))
  visits-pivots =
      all_pivots (is_active active) (length (transposed rows)) (λ s t. entry_at (λ x. x.target) (λ x. x.prob) (row_of rows t) s) (matrix (system (transposed rows) active columns))
      (λ s t a b. entry_is s t (active-below rows active size s a) (active-below rows active size t b) ∙ sym (matrix-active (transposed rows) active active-size columns s t a b))
      (λ s t b. matrix-inactive (transposed rows) active active-size columns s t b)
      (subst (λ n. HasPivots (active_below (is_active active) n) (λ s t. entry_at (λ x. x.target) (λ x. x.prob) (row_of rows t) s))
      (sym (length-transposed rows)) (chain_pivots_transposed rows active ranks known size leaves))

  pub visits-can : CanEliminate (length (system (transposed rows) active columns)) (system (transposed rows) active columns)
  visits-can =
      subst (λ n. CanEliminate n (system (transposed rows) active columns)) (sym (length-system (transposed rows) active active-size columns))
      (can_eliminate (length (transposed rows)) (system (transposed rows) active columns) (length-system (transposed rows) active active-size columns) visits-down visits-pivots)

  pub visits-divide : DividesByPositive (length rows) (system (transposed rows) active columns)
  visits-divide =
      subst (λ n. DividesByPositive n (system (transposed rows) active columns)) (length-transposed rows)
      (divides_by_positive (length (transposed rows)) (system (transposed rows) active columns) (length-system (transposed rows) active active-size columns) visits-down visits-pivots)

  module _ (equations : List Equation) (is : equations ≡ system (transposed rows) active columns) where
    pub visits-solution : (r : Result Values ℕ) → solution (length equations) equations ≡ r → solution (length rows) (system (transposed rows) active columns) ≡ r
    visits-solution r h = subst (λ (k : ℕ). solution k (system (transposed rows) active columns) ≡ r) visits-len (subst (λ (es : List Equation). solution (length es) es ≡ r) is h)

    pub written_visits-ok : (values : Values) → solution (length equations) equations ≡ Ok values → written_visits rows active start ≡ Ok values.first
    written_visits-ok values h = ap (kept Values.first) (visits-solution (Ok values) h)

    pub written_visits-err : (s : ℕ) → solution (length equations) equations ≡ Err s → written_visits rows active start ≡ Err s
    written_visits-err s h = ap (kept Values.first) (visits-solution (Err s) h)

    -- a state with a term past width is active
    pub visits-place : (s : ℕ) → solution (length equations) equations ≡ Err s → (s < length rows) × (is_active active s ≡ true)
    visits-place s h =
        subst (λ n. (s < n) × (is_active active s ≡ true)) (length-transposed rows)
        (wide_active active (transposed rows) columns active-size s (subst (λ n. solution n (system (transposed rows) active columns) ≡ Err s) (sym (length-transposed rows)) (visits-solution (Err s) h)))

    pub are_visits : (values : Values) → solution (length equations) equations ≡ Ok values → AreVisits rows active start values.first
    are_visits values h =
        let made = subst (λ n. solution n (system (transposed rows) active columns) ≡ Ok values) (sym (length-transposed rows)) (visits-solution (Ok values) h) in
        let solved = solution_solves (length (transposed rows)) (system (transposed rows) active columns) values (length-system (transposed rows) active active-size columns) visits-down visits-pivots made in
        let x = first_solves (transposed rows) active active-size columns values solved in
        record {
          len = x.len ∙ length-transposed rows;
          inside = λ s a.
              let l = active-below rows active size s a in
              x.inside s a
              ∙ ap₂ ◌+ℚ◌ (unit_column-at (length rows) start s l) (ap (over (value_at values.first)) (row_of-transposed rows s l) ∙ over-row_into rows s (value_at values.first));
          outside = x.outside;
        }
