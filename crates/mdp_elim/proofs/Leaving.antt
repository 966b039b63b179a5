-- Where a chain leaves its active states, the pivots of its system are above 0.
use Rattle.std.proofs.Common.{◌≡◌, ℕ, zero, suc, ◌+◌, ◌<◌, ◌≤◌, ◌⊎◌, inl, inr, Bool, true, false, List, [], ◌∷◌, length}
use Rattle.std.proofs.Common.{get_or, Ok, refl, sym, ◌∙◌, ap, ap₂, subst, arith, eqb, nat_le, ◌&&◌, if◌then◌else◌, pos, zero-add, IsTrue}
use Rattle.std.proofs.{Math.ListN.{get_or-eq_default}, lemmas.List.FromFn.{get_or-map-range_with_len, length-map-range_with_len}}
use Rattle.std.proofs.lemmas.Bool.{ne_eqb, leb-true}
use Rattle.std.specs.List.{All, Any, filter}
use Rattle.mdp_math.specs.{Rational.{ℚ, ◌+ℚ◌, ◌*ℚ◌, ◌-ℚ◌, inv_ℚ, ◌≤ℚ◌, ◌<ℚ◌}, Sum.{sum_of}, Pivot.{pivoted, active_below, entry_at, HasPivots}}
use Rattle.mdp_math.proofs.{Numbers.{le_or}, Ring.{◌⊕◌, ◌⊗◌, ⊖, lit, ring}, Linear.{combine, equal}, Laws.{rat_ring}, Order.{0ℚ, 1ℚ, ≤ℚ_of_lt, ≤ℚ_of_eq}}
use Rattle.mdp_math.proofs.{Whole.{one-pos}, Sums.{sum_of-same}, Kernel.{Any-and, All-head, All-tail}, Floors.{positive_floor_lists, greatest_rank}}
use Rattle.mdp_math.proofs.{Weight.{Shrinks, RanksFall, shrinks_by_ranks}, Elimination.{kernel_pivots, kernel_pivots_transposed}}
use Rattle.mdp_spec.specs.{Mdp.{Entry, value_at}, Row.{IsRow, AreRows, ascends_from}}
use Rattle.mdp_elim.specs.Equation.{Equation, Values, no_equation}
use Rattle.mdp_elim.specs.{System.{is_active, row_of, inner, column_at, equation_of, system, Leaves, IsSolution, SolveEach}, Solve.{columns_of}}
use Rattle.mdp_elim.specs.{Elimination.{solution, CanEliminate, DividesByPositive}, Entries.{Between}, Predecessors.{at, LeadBelow}}
use Rattle.mdp_elim.proofs.{RowSums.{over, between-lower}, Law.{unit, matrix, all_below, Solved, can_eliminate, divides_by_positive, solution_solves}}

-- ---- pivots over all numbers, from those over the active ones

module _ (active : ℕ → Bool) where
  all_pivots_by : (n : ℕ) (q r : ℕ → ℕ → ℚ) (b : Bool) → active n ≡ b
      → ((t v : ℕ) → active t ≡ true → active v ≡ true → q t v ≡ r t v) → ((t v : ℕ) → active v ≡ false → r t v ≡ 0ℚ)
      → ((p o : ℕ → ℕ → ℚ) → ((t v : ℕ) → active t ≡ true → active v ≡ true → p t v ≡ o t v)
      → ((t v : ℕ) → active v ≡ false → o t v ≡ 0ℚ) → HasPivots (active_below active n) p → HasPivots (all_below n) o)
      → HasPivots (if b then n ∷ active_below active n else active_below active n) q → HasPivots (all_below (suc n)) r
  all_pivots_by n q r true a same none ih h = (
    subst (λ (x : ℚ). x <ℚ 1ℚ) (same n n a a) h.0,
    ih (pivoted q n) (pivoted r n)
        (λ t v at av. ap₂ ◌+ℚ◌ (same t v at av) (ap₂ ◌*ℚ◌ (same t n at a) (ap₂ (λ (x y : ℚ). x *ℚ inv_ℚ (1ℚ -ℚ y)) (same n v a av) (same n n a a))))
        (λ t v av.
        combine 4 (λ x w y i. x ⊕ w ⊗ (y ⊗ i)) (λ x w y i. lit (pos 0)) (λ x w y i. equal (lit (pos 1)) x (lit (pos 0)) ∷ equal (w ⊗ i) y (lit (pos 0)) ∷ []) refl
        (r t v) (r t n) (r n v) (inv_ℚ (1ℚ -ℚ r n n)) (none t v av) (none n v av))
        h.1,
  )
  all_pivots_by n q r false a same none ih h = (
    subst (λ (x : ℚ). x <ℚ 1ℚ) (sym (none n n a)) one-pos,
    ih q (pivoted r n)
        (λ t v at av.
        same t v at av
        ∙ combine 4 (λ x w y i. x) (λ x w y i. x ⊕ w ⊗ (y ⊗ i)) (λ x w y i. equal (⊖ (y ⊗ i)) w (lit (pos 0)) ∷ []) refl (r t v) (r t n) (r n v) (inv_ℚ (1ℚ -ℚ r n n)) (none t n a))
        (λ t v av.
        combine 4 (λ x w y i. x ⊕ w ⊗ (y ⊗ i)) (λ x w y i. lit (pos 0)) (λ x w y i. equal (lit (pos 1)) x (lit (pos 0)) ∷ equal (y ⊗ i) w (lit (pos 0)) ∷ []) refl
        (r t v) (r t n) (r n v) (inv_ℚ (1ℚ -ℚ r n n)) (none t v av) (none t n a))
        h,
  )

  pub all_pivots : (n : ℕ) (q r : ℕ → ℕ → ℚ) → ((t v : ℕ) → active t ≡ true → active v ≡ true → q t v ≡ r t v)
      → ((t v : ℕ) → active v ≡ false → r t v ≡ 0ℚ) → HasPivots (active_below active n) q → HasPivots (all_below n) r
  all_pivots zero q r same none h = tt
  all_pivots (suc n) q r same none h = all_pivots_by n q r (active n) refl same none (all_pivots n) h

-- ---- rows that ascend

and_left : (a b : Bool) → (a && b) ≡ true → a ≡ true
and_left true b h = refl
and_left false b h = h

and_right : (a b : Bool) → (a && b) ≡ true → b ≡ true
and_right true b h = h
and_right false b h = cc

pub between-row : (low high : ℕ) (row : List Entry) → IsTrue (ascends_from low row) → All (λ x. x.target < high) row → Between low high row
between-row low high [] h k = tt
between-row low high (x ∷ row) h k =
    let a = and_left (nat_le low x.target) (ascends_from (x.target + 1) row) h in
    let b = and_right (nat_le low x.target) (ascends_from (x.target + 1) row) h in
    let e : x.target + 1 ≡ suc x.target = omega arith in
    (leb-true low x.target a, All-head (λ y. y.target < high) x row k, between-row (suc x.target) high row (subst (λ n. IsTrue (ascends_from n row)) e b) (All-tail (λ y. y.target < high) x row k))

filter_between : (p : Entry → Bool) (low high : ℕ) (x : Entry) (row : List Entry) (b : Bool) → Between low high (x ∷ row)
    → Between (suc x.target) high (filter p row) → Between low high (if b then x ∷ filter p row else filter p row)
filter_between p low high x row true h k = (h.0, h.1, k)
filter_between p low high x row false h k = between-lower (suc x.target) low high (filter p row) (omega (arith, h.0)) k

pub between-filter : (p : Entry → Bool) (low high : ℕ) (row : List Entry) → Between low high row → Between low high (filter p row)
between-filter p low high [] h = tt
between-filter p low high (x ∷ row) h = filter_between p low high x row (p x) h (between-filter p (suc x.target) high row h.2)

-- ---- the entries to active states

module _ (active : List Bool) where
  inner_by : (f : ℕ → ℚ) (x : Entry) (row : List Entry) (b : Bool) → is_active active x.target ≡ b → ((v : ℕ) → is_active active v ≡ false → f v ≡ 0ℚ)
      → over f (inner active row) ≡ over f row → over f (if b then x ∷ inner active row else inner active row) ≡ over f (x ∷ row)
  inner_by f x row true e out h = ap (λ (o : ℚ). x.prob *ℚ f x.target +ℚ o) h
  inner_by f x row false e out h =
      combine 4 (λ i o p k. i) (λ i o p k. p ⊗ k ⊕ o) (λ i o p k. equal (lit (pos 1)) i o ∷ equal (⊖ p) k (lit (pos 0)) ∷ []) refl
      (over f (inner active row)) (over f row) x.prob (f x.target) h (out x.target e)

  -- what is 0 at other states weighs the same in them
  pub over-inner : (f : ℕ → ℚ) (row : List Entry) → ((v : ℕ) → is_active active v ≡ false → f v ≡ 0ℚ) → over f (inner active row) ≡ over f row
  over-inner f [] out = refl
  over-inner f (x ∷ row) out = inner_by f x row (is_active active x.target) refl out (over-inner f row out)

  none_by : (f : ℕ → ℚ) (x : Entry) (row : List Entry) (b : Bool) → is_active active x.target ≡ b → ((v : ℕ) → is_active active v ≡ true → f v ≡ 0ℚ)
      → over f (inner active row) ≡ 0ℚ → over f (if b then x ∷ inner active row else inner active row) ≡ 0ℚ
  none_by f x row true e out h = combine 3 (λ o p k. p ⊗ k ⊕ o) (λ o p k. lit (pos 0))
      (λ o p k. equal (lit (pos 1)) o (lit (pos 0)) ∷ equal p k (lit (pos 0)) ∷ []) refl (over f (inner active row)) x.prob (f x.target) h (out x.target e)
  none_by f x row false e out h = h

  -- what is 0 at active states weighs nothing in them
  pub over-inner_none : (f : ℕ → ℚ) (row : List Entry) → ((v : ℕ) → is_active active v ≡ true → f v ≡ 0ℚ) → over f (inner active row) ≡ 0ℚ
  over-inner_none f [] out = refl
  over-inner_none f (x ∷ row) out = none_by f x row (is_active active x.target) refl out (over-inner_none f row out)

  unit-other : (v k : ℕ) (a b : Bool) → is_active active v ≡ a → is_active active k ≡ b → (a ≡ b → ⊥) → unit v k ≡ 0ℚ
  unit-other v k a b e f n = ap (λ (c : Bool). if c then 1ℚ else 0ℚ) (ne_eqb k v (λ same. n (sym e ∙ ap (is_active active) (sym same) ∙ f)))

  unit-entry_by : (p : ℚ) (c : Bool) → p *ℚ (if c then 1ℚ else 0ℚ) ≡ (if c then p else 0ℚ)
  unit-entry_by p true = ring rat_ring 1 (λ p. p ⊗ lit (pos 1)) (λ p. p) refl p
  unit-entry_by p false = ring rat_ring 1 (λ p. p ⊗ lit (pos 0)) (λ p. lit (pos 0)) refl p

  pub over-unit : (v : ℕ) (row : List Entry) → over (unit v) row ≡ entry_at (λ x. x.target) (λ x. x.prob) row v
  over-unit v row = sum_of-same (λ x. x.prob *ℚ unit v x.target) (λ x. if eqb x.target v then x.prob else 0ℚ) row (λ x. unit-entry_by x.prob (eqb x.target v))

  pub inner-active : (v : ℕ) (row : List Entry) → is_active active v ≡ true → over (unit v) (inner active row) ≡ entry_at (λ x. x.target) (λ x. x.prob) row v
  inner-active v row e = over-inner (unit v) row (λ k f. unit-other v k true false e f (λ h. cc)) ∙ over-unit v row

  pub inner-inactive : (v : ℕ) (row : List Entry) → is_active active v ≡ false → over (unit v) (inner active row) ≡ 0ℚ
  inner-inactive v row e = over-inner_none (unit v) row (λ k f. unit-other v k false true e f (λ h. cc))

-- ---- the system of rows

module _ (rows : List (List Entry)) (active : List Bool) (size : length active ≡ length rows) where
  -- an active state is below the number of states
  pub active-below : (s : ℕ) → is_active active s ≡ true → s < length rows
  active-below s a = elim (le_or (length active) s) as (λ _. s < length rows) [
    | inl l ↦ let e = get_or-eq_default active false l in absurd (let k : true ≡ false = sym a ∙ e in cc)
    | inr l ↦ omega (arith, size)
  ]

  module _ (columns : List (List ℚ)) where
    pub at-system : (s : ℕ) → s < length rows → at (system rows active columns) s ≡ equation_of rows active columns s
    at-system s l = get_or-map-range_with_len (equation_of rows active columns) 0 (length rows) s s no_equation l (zero-add s)

    pub length-system : length (system rows active columns) ≡ length rows
    length-system = length-map-range_with_len (equation_of rows active columns) 0 (length rows)

    pub at_active : (s : ℕ) → is_active active s ≡ true → at (system rows active columns) s
        ≡ (let e : Equation = record { entries = inner active (row_of rows s); first = column_at columns 0 s; second = column_at columns 1 s } in e)
    unfolding equation_of
    at_active s a = at-system s (active-below s a) ∙ ap (λ (b : Bool). let e : Equation
        = record { entries = inner active (row_of rows s); first = column_at columns 0 s; second = column_at columns 1 s } in if b then e else no_equation) a

    past_or : (s : ℕ) → (length rows ≤ s) ⊎ (s < length rows) → is_active active s ≡ false → at (system rows active columns) s ≡ no_equation
    unfolding equation_of
    past_or s (inl l) a = get_or-eq_default (system rows active columns) no_equation (omega (arith, length-system))
    past_or s (inr l) a = at-system s l ∙ ap (λ (b : Bool). let e : Equation
        = record { entries = inner active (row_of rows s); first = column_at columns 0 s; second = column_at columns 1 s } in if b then e else no_equation) a

    pub at_inactive : (s : ℕ) → is_active active s ≡ false → at (system rows active columns) s ≡ no_equation
    at_inactive s a = past_or s (le_or (length rows) s) a

    -- the entries lie below the number of states, where those of the active rows do
    down_by : ((s : ℕ) → s < length rows → Between 0 (length rows) (row_of rows s)) → (s : ℕ) (b : Bool) → is_active active s ≡ b → Between 0 (length rows) (at (system rows active columns) s).entries
    down_by between s true a = subst (λ (e : Equation). Between 0 (length rows) e.entries) (sym (at_active s a))
        (between-filter (λ x. is_active active x.target) 0 (length rows) (row_of rows s) (between s (active-below s a)))
    down_by between s false a = subst (λ (e : Equation). Between 0 (length rows) e.entries) (sym (at_inactive s a)) tt

    pub down-system : ((s : ℕ) → s < length rows → Between 0 (length rows) (row_of rows s)) → LeadBelow (length rows) (length rows) (system rows active columns)
    down-system between s l = down_by between s (is_active active s) refl

    pub matrix-active : (t v : ℕ) → is_active active t ≡ true → is_active active v ≡ true → matrix (system rows active columns) t v ≡ over (unit v) (row_of rows t)
    matrix-active t v a e = ap (λ (x : Equation). over (unit v) x.entries) (at_active t a) ∙ inner-active active v (row_of rows t) e ∙ sym (over-unit active v (row_of rows t))

    none_at : (t v : ℕ) (b : Bool) → is_active active t ≡ b → is_active active v ≡ false → matrix (system rows active columns) t v ≡ 0ℚ
    none_at t v true a e = ap (λ (x : Equation). over (unit v) x.entries) (at_active t a) ∙ inner-inactive active v (row_of rows t) e
    none_at t v false a e = ap (λ (x : Equation). over (unit v) x.entries) (at_inactive t a)

    pub matrix-inactive : (t v : ℕ) → is_active active v ≡ false → matrix (system rows active columns) t v ≡ 0ℚ
    matrix-inactive t v e = none_at t v (is_active active t) refl e

    -- ---- the solution

    -- one column: the constants of the active equations
    module _ (i : ℕ) (constant : Equation → ℚ) (xs : List ℚ) (len : length xs ≡ length rows)
        (solves : (s : ℕ) → s < length rows → value_at xs s ≡ constant (at (system rows active columns) s) +ℚ over (value_at xs) (at (system rows active columns) s).entries)
        (is_column : (s : ℕ) → constant (let e : Equation = record { entries = inner active (row_of rows s); first = column_at columns 0 s; second = column_at columns 1 s } in e) ≡ column_at columns i s)
        (is_none : constant no_equation ≡ 0ℚ) where
      outside_by : (s : ℕ) → (length rows ≤ s) ⊎ (s < length rows) → is_active active s ≡ false → value_at xs s ≡ 0ℚ
      outside_by s (inl l) a = get_or-eq_default xs 0ℚ (omega (arith, len))
      outside_by s (inr l) a =
          solves s l ∙ ap (λ (e : Equation). constant e +ℚ over (value_at xs) e.entries) (at_inactive s a)
          ∙ ap (λ (o : ℚ). o +ℚ over (value_at xs) no_equation.entries) is_none ∙ ring rat_ring 0 (lit (pos 0) ⊕ lit (pos 0)) (lit (pos 0)) refl

      column_solves : IsSolution rows active (get_or columns i []) xs
      column_solves = record {
        len = len;
        inside = λ s a.
            solves s (active-below s a)
            ∙ ap (λ (e : Equation). constant e +ℚ over (value_at xs) e.entries) (at_active s a)
            ∙ ap (λ (o : ℚ). o +ℚ over (value_at xs) (inner active (row_of rows s))) (is_column s)
            ∙ ap (λ (o : ℚ). column_at columns i s +ℚ o) (over-inner active (value_at xs) (row_of rows s) (λ v f. outside_by v (le_or (length rows) v) f));
        outside = λ s a. outside_by s (le_or (length rows) s) a;
      }

    module _ (values : Values) (solved : Solved (length rows) (system rows active columns) values) where
      pub first_solves : IsSolution rows active (get_or columns 0 []) values.first
      first_solves = column_solves 0 (λ (e : Equation). e.first) values.first solved.first_len solved.first (λ s. refl) refl

      pub second_solves : IsSolution rows active (get_or columns 1 []) values.second
      second_solves = column_solves 1 (λ (e : Equation). e.second) values.second solved.second_len solved.second (λ s. refl) refl

-- ---- the chain

module _ (rows : List (List Entry)) (active : List Bool) (ranks : List ℕ) (known : AreRows rows) (size : length active ≡ length rows) where
  row_known : (s : ℕ) → s < length rows → IsRow (length rows) (row_of rows s)
  row_known s l = known s [] l

  rank : ℕ → ℕ
  rank s = suc (get_or ranks s 0)

  abbrev Allowed : ℕ → List Entry → Type 0
  Allowed s row = row ≡ row_of rows s

  module _ (leaves : Leaves rows active ranks) where
    rank_more : (s : ℕ) (x : Entry) → (is_active active x.target ≡ false) ⊎ (get_or ranks x.target 0 < get_or ranks s 0) → (is_active active x.target ≡ false) ⊎ (rank x.target < rank s)
    unfolding rank
    rank_more s x (inl h) = inl h
    rank_more s x (inr h) = inr (omega arith)

    rank-above : (s : ℕ) → 0 < rank s
    unfolding rank
    rank-above s = omega arith

    ranks_fall : RanksFall (λ x. x.target) (λ x. x.prob) (is_active active) Allowed (positive_floor_lists (λ x. x.prob) rows (λ k d l. (known k d l).distribution.positive)).0 rank (greatest_rank rank (length rows)).0
    ranks_fall =
        let floor = positive_floor_lists (λ x. x.prob) rows (λ k d l. (known k d l).distribution.positive) in
        record {
          eps_positive = floor.1;
          eps_at_most_one = floor.2;
          rank_positive = λ s a. rank-above s;
          rank_at_most = λ s a. (greatest_rank rank (length rows)).1 s (active-below rows active size s a);
          entries = λ s row a ok. subst (λ (r : List Entry). All (λ x. 0ℚ ≤ℚ x.prob) r) (sym ok)
              (λ k d l. ≤ℚ_of_lt 0ℚ (Entry.prob (get_or (row_of rows s) k d)) ((row_known s (active-below rows active size s a)).distribution.positive k d l));
          mass = λ s row a ok. ≤ℚ_of_eq _ _ (ap (sum_of (λ x. x.prob)) ok ∙ (row_known s (active-below rows active size s a)).distribution.total);
          falls = λ s row a ok.
              let any = Any-and (λ x. floor.0 ≤ℚ x.prob) (λ x. (is_active active x.target ≡ false) ⊎ (get_or ranks x.target 0 < get_or ranks s 0))
              (row_of rows s) (floor.3 s [] (active-below rows active size s a)) (leaves.falls s (active-below rows active size s a) a) in
              subst (λ (r : List Entry). Any (λ x. (floor.0 ≤ℚ x.prob) × ((is_active active x.target ≡ false) ⊎ (rank x.target < rank s))) r)
              (sym ok) (any.0, any.1, any.2, any.3, (any.4.0, rank_more s any.1 any.4.1));
        }

    pub chain_shrinks : Shrinks (λ x. x.target) (λ x. x.prob) (is_active active) Allowed
    chain_shrinks = shrinks_by_ranks ranks_fall

    pub chain_pivots : HasPivots (active_below (is_active active) (length rows)) (λ s. entry_at (λ x. x.target) (λ x. x.prob) (row_of rows s))
    chain_pivots = kernel_pivots chain_shrinks (length rows) (active-below rows active size) (row_of rows) (λ s a. refl)

    pub chain_pivots_transposed : HasPivots (active_below (is_active active) (length rows)) (λ s t. entry_at (λ x. x.target) (λ x. x.prob) (row_of rows t) s)
    chain_pivots_transposed = kernel_pivots_transposed chain_shrinks (length rows) (active-below rows active size) (row_of rows) (λ s a. refl)

    pub row_between : (s : ℕ) → s < length rows → Between 0 (length rows) (row_of rows s)
    row_between s l = between-row 0 (length rows) (row_of rows s) (row_known s l).distribution.ascending (row_known s l).in_range

    module _ (columns : List (List ℚ)) where
      pub system-len : length (system rows active columns) ≡ length rows
      system-len = length-system rows active size columns

      pub system-down : LeadBelow (length rows) (length rows) (system rows active columns)
      system-down = down-system rows active size columns row_between

      -- its entries lie below its length
      pub system-leads : LeadBelow (length (system rows active columns)) (length (system rows active columns)) (system rows active columns)
      system-leads = subst (λ n. LeadBelow n n (system rows active columns)) (sym system-len) system-down

      pub system-pivots : HasPivots (all_below (length rows)) (matrix (system rows active columns))
      system-pivots =
          all_pivots (is_active active) (length rows) (λ s. entry_at (λ x. x.target) (λ x. x.prob) (row_of rows s)) (matrix (system rows active columns))
          (λ t v at av. sym (over-unit active v (row_of rows t)) ∙ sym (matrix-active rows active size columns t v at av))
          (λ t v av. matrix-inactive rows active size columns t v av)
          chain_pivots

      -- each elimination can be made
      pub system-can : CanEliminate (length (system rows active columns)) (system rows active columns)
      system-can = subst (λ n. CanEliminate n (system rows active columns)) (sym system-len) (can_eliminate (length rows) (system rows active columns) system-len system-down system-pivots)

      pub system-divides : DividesByPositive (length rows) (system rows active columns)
      system-divides = divides_by_positive (length rows) (system rows active columns) system-len system-down system-pivots

      each_one : (values : Values) → Solved (length rows) (system rows active columns) values → (n : ℕ)
          → (n ≡ 1) ⊎ (n ≡ 2) → (k : ℕ) → k < n → IsSolution rows active (get_or columns k []) (get_or (columns_of n values) k [])
      each_one values solved n (inl one) k l =
          let e : 0 ≡ k = omega arith in
          subst (λ m. IsSolution rows active (get_or columns k []) (get_or (columns_of m values) k [])) (sym one)
          (subst (λ j. IsSolution rows active (get_or columns j []) (get_or (columns_of 1 values) j [])) e (first_solves rows active size columns values solved))
      each_one values solved n (inr two) zero l = subst (λ m. IsSolution rows active (get_or columns 0 []) (get_or (columns_of m values) 0 [])) (sym two) (first_solves rows active size columns values solved)
      each_one values solved n (inr two) (suc k) l =
          let e : 1 ≡ suc k = omega arith in
          subst (λ m. IsSolution rows active (get_or columns (suc k) []) (get_or (columns_of m values) (suc k) [])) (sym two)
          (subst (λ j. IsSolution rows active (get_or columns j []) (get_or (columns_of 2 values) j [])) e (second_solves rows active size columns values solved))

      columns-len : (values : Values) (n : ℕ) → (n ≡ 1) ⊎ (n ≡ 2) → length (columns_of n values) ≡ n
      columns-len values n (inl one) = subst (λ m. length (columns_of m values) ≡ m) (sym one) refl
      columns-len values n (inr two) = subst (λ m. length (columns_of m values) ≡ m) (sym two) refl

      -- the vectors that come out solve the systems
      pub solve_each : (values : Values) → solution (length rows) (system rows active columns) ≡ Ok values
          → (length columns ≡ 1) ⊎ (length columns ≡ 2) → SolveEach rows active columns (columns_of (length columns) values)
      solve_each values made few = (
        columns-len values (length columns) few,
        each_one values (solution_solves (length rows) (system rows active columns) values system-len system-down system-pivots made) (length columns) few,
      )
