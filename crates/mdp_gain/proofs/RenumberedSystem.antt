-- The system of a chain under other numbers has the same solution, or a term past width at the same state.
use Rattle.std.proofs.Common.{◌≡◌, ◌≢◌, ℕ, zero, suc, ◌<◌, ◌≤◌, ◌⊎◌, inl, inr, Bool, true, false, List, [], ◌∷◌, length, map, take}
use Rattle.std.proofs.Common.{get_or, refl, sym, ◌∙◌, ap, subst, arith, eqb, Some, None, Result, Ok, Err, if◌then◌else◌, zero-add}
use Rattle.std.proofs.lemmas.List.{length-take-le, get_or-take, get_or_past, take_all, take-take}
use Rattle.std.proofs.lemmas.List.FromFn.{get_or-map-range_with_len, length-map-range_with_len}
use Rattle.std.specs.Prelude.{slice_index, slice_index_or}
use Rattle.mdp_math.specs.Rational.{ℚ}
use Rattle.mdp_math.proofs.Numbers.{le_or}
use Rattle.mdp_spec.specs.Mdp.{Entry, value_at}
use Rattle.mdp_elim.specs.{Equation.{Equation, Values, no_equation}, Entries.{entry_to}, Elimination.{◌and_then◌, solution}}
use Rattle.mdp_elim.specs.{System.{is_active, row_of, inner, column_at, equation_of, system}, Solve.{columns_of, kept, written_solution}, Predecessors.{at}}
use Rattle.mdp_elim.proofs.{Merge.{not_le}, Targets.{Targets}}
use Rattle.mdp_gain.specs.Renumbering.{renamed, Ascend}
use Rattle.mdp_gain.proofs.{RenumberedRows.{IsPlace, state, HaveSame}, RenumberedSteps.{renamed_equation, LeadsInside}, RenumberedElimination.{AreRenumbered}}
use Rattle.mdp_gain.proofs.{RenumberedEvaluation.{value_at-zero}, RenumberedSolution.{with_zero, solution-skip, AreSameResults, solution-same}}

-- The same system under other numbers: the states of the small system are places in a list of states of the big one, ascending; at all other numbers
-- of both nothing is active.
pub record IsRenumberedSystem (states : List ℕ) (small_rows : List (List Entry)) (small_active : List Bool) (small_columns : List (List ℚ))
    (rows : List (List Entry)) (active : List Bool) (columns : List (List ℚ)) : Type 0 where
  pub ascend : Ascend states
  pub below : (j : ℕ) → j < length states → slice_index states j < length rows
  pub few : length states ≤ length small_rows
  pub same_active : (j : ℕ) → j < length states → is_active small_active j ≡ is_active active (slice_index states j)
  pub outside : (j : ℕ) → length states ≤ j → is_active small_active j ≡ false
  pub listed : (s : ℕ) → is_active active s ≡ true → (j : ℕ) × (j < length states) × (slice_index states j ≡ s)
  pub row : (j : ℕ) → j < length states → is_active small_active j ≡ true
      → inner active (row_of rows (slice_index states j)) ≡ map (renamed states) (inner small_active (row_of small_rows j))
  pub column : (k j : ℕ) → j < length states → is_active small_active j ≡ true → column_at columns k (slice_index states j) ≡ column_at small_columns k j
  pub count : length columns ≡ length small_columns

-- the two solutions are one: the same values at the states, or the same state with a term past width
abbrev pub AreSameSolutions : List ℕ → Result (List (List ℚ)) ℕ → Result (List (List ℚ)) ℕ → Type 0
AreSameSolutions states (Ok xs) (Ok ys) =
    (k j : ℕ) → j < length states → value_at (slice_index_or ys k []) (slice_index states j) ≡ value_at (slice_index_or xs k []) j
AreSameSolutions states (Err s) (Err t) = (s < length states) × (t ≡ slice_index states s)
AreSameSolutions states (Ok xs) (Err t) = ⊥
AreSameSolutions states (Err s) (Ok ys) = ⊥

-- ---- numbers of the small system past the states

module _ (states : List ℕ) where
  -- the same values at the states, in both systems
  abbrev SameAtStates : Result Values ℕ → Result Values ℕ → Type 0
  SameAtStates (Ok v) (Ok w) = HaveSame states v.first w.first × HaveSame states v.second w.second
  SameAtStates (Err s) (Err t) = (s < length states) × (t ≡ state states s)
  SameAtStates (Ok v) (Err t) = ⊥
  SameAtStates (Err s) (Ok w) = ⊥

  -- results for the numbers below n are the same at the states
  values_of : (n : ℕ) (r q : Result Values ℕ) → AreSameResults states (length states) n r q → SameAtStates r q
  values_of n (Ok v) (Ok w) h = (h.first.same, h.second.same)
  values_of n (Err s) (Err t) h = h
  values_of n (Ok v) (Err t) h = absurd h
  values_of n (Err s) (Ok w) h = absurd h

  one_more : (r q : Result Values ℕ) → SameAtStates r q → SameAtStates (r and_then (λ v. Ok (with_zero v))) q
  one_more (Ok v) (Ok w) h = (λ j i. h.0 j i ∙ sym (value_at-zero v.first j), λ j i. h.1 j i ∙ sym (value_at-zero v.second j))
  one_more (Err s) (Err t) h = h
  one_more (Ok v) (Err t) h = absurd h
  one_more (Err s) (Ok w) h = absurd h

  -- no entry leads past the states
  entry_to-past : (s : ℕ) (row : List Entry) → length states ≤ s → Targets (IsPlace states) row → entry_to s row ≡ None
  entry_to-past s [] l inside = refl
  entry_to-past s (x ∷ row) l inside =
      let i = inside.0 in
      ap (λ (b : Bool). if b then (if eqb x.target s then Some x.prob else None) else entry_to s row) (not_le s x.target (omega (arith, i)))
      ∙ entry_to-past s row l inside.1

  -- equations of the states by their places, and none behind them
  record AreFirst (n : ℕ) (small : List Equation) : Type 0 where
    count : length small ≡ n
    few : length states ≤ n
    past : (j : ℕ) → length states ≤ j → at small j ≡ no_equation
    lead : (j : ℕ) → IsPlace states j → LeadsInside states (at small j)

  module _ (s : ℕ) (small : List Equation) (are : AreFirst (suc s) small) (few : length states ≤ s) where
    past_by : (j : ℕ) → length states ≤ j → (s ≤ j) ⊎ (j < s) → at (take s small) j ≡ no_equation
    past_by j l (inl m) = get_or_past (take s small) j no_equation (let c = are.count in omega (arith, m, length-take-le s small (omega (arith, c))))
    past_by j l (inr m) = get_or-take s small j no_equation m ∙ are.past j l

    front_first : AreFirst s (take s small)
    front_first = record {
      count = length-take-le s small (let c = are.count in omega (arith, c));
      few = few;
      past = λ j l. past_by j l (le_or s j);
      lead = λ j i. subst (LeadsInside states) (sym (get_or-take s small j no_equation (omega arith))) (are.lead j i);
    }

    no_entry : (t : ℕ) → (length states ≤ t) ⊎ (t < length states) → entry_to s (at small t).entries ≡ None
    no_entry t (inl l) = ap (λ (e : Equation). entry_to s e.entries) (are.past t l)
    no_entry t (inr i) = entry_to-past s (at small t).entries few (are.lead t i)

    solution_front : solution (suc s) small ≡ (solution s (take s small) and_then (λ v. Ok (with_zero v)))
    solution_front = solution-skip s small are.count (are.past s few) (λ t l. no_entry t (le_or (length states) t))

  -- where there are none behind them
  all_first : (n : ℕ) (small : List Equation) → length small ≡ n → length states ≡ n → (q : Result Values ℕ)
      → SameAtStates (solution (length states) (take (length states) small)) q → SameAtStates (solution n small) q
  all_first n small c e q h =
      subst (λ (m : ℕ). SameAtStates (solution m small) q) e
      (subst (λ (es : List Equation). SameAtStates (solution (length states) es) q) (take_all (length states) small (omega (arith, c, e))) h)

  first_by : (s : ℕ) (small : List Equation) → AreFirst (suc s) small → (q : Result Values ℕ)
      → ((small : List Equation) → AreFirst s small
      → SameAtStates (solution (length states) (take (length states) small)) q → SameAtStates (solution s small) q)
      → (length states ≤ s) ⊎ (s < length states)
      → SameAtStates (solution (length states) (take (length states) small)) q → SameAtStates (solution (suc s) small) q
  first_by s small are q ih (inr l) h = all_first (suc s) small are.count (let f = are.few in omega (arith, f, l)) q h
  first_by s small are q ih (inl l) h =
      subst (λ r. SameAtStates r q) (sym (solution_front s small are l))
      (one_more (solution s (take s small)) q
      (ih (take s small) (front_first s small are l)
      (subst (λ (es : List Equation). SameAtStates (solution (length states) es) q) (sym (take-take (length states) s small l)) h)))

  -- the numbers behind them play no part
  solution-first : (n : ℕ) (small : List Equation) → AreFirst n small → (q : Result Values ℕ)
      → SameAtStates (solution (length states) (take (length states) small)) q → SameAtStates (solution n small) q
  solution-first zero small are q h = all_first 0 small are.count (let f = are.few in omega (arith, f)) q h
  solution-first (suc s) small are q h = first_by s small are q (λ es f. solution-first s es f q) (le_or (length states) s) h

-- ---- the equations

at_system : (rows : List (List Entry)) (active : List Bool) (columns : List (List ℚ)) (s : ℕ) → s < length rows
    → at (system rows active columns) s ≡ equation_of rows active columns s
at_system rows active columns s l = get_or-map-range_with_len (equation_of rows active columns) 0 (length rows) s s no_equation l (zero-add s)

system_len : (rows : List (List Entry)) (active : List Bool) (columns : List (List ℚ)) → length (system rows active columns) ≡ length rows
system_len rows active columns = length-map-range_with_len (equation_of rows active columns) 0 (length rows)

-- of a state that isn't active
equation_of-none : (rows : List (List Entry)) (active : List Bool) (columns : List (List ℚ)) (s : ℕ) → is_active active s ≡ false
    → equation_of rows active columns s ≡ no_equation
unfolding equation_of
equation_of-none rows active columns s a = rw a refl

equation_of-some : (rows : List (List Entry)) (active : List Bool) (columns : List (List ℚ)) (s : ℕ) → is_active active s ≡ true
    → equation_of rows active columns s ≡ (let e : Equation =
    record { entries = inner active (row_of rows s); first = column_at columns 0 s; second = column_at columns 1 s } in e)
unfolding equation_of
equation_of-some rows active columns s a = rw a refl

module _ (states : List ℕ) (small_rows : List (List Entry)) (small_active : List Bool) (small_columns : List (List ℚ))
    (rows : List (List Entry)) (active : List Bool) (columns : List (List ℚ))
    (is : IsRenumberedSystem states small_rows small_active small_columns rows active columns) where
  abbrev small : List Equation
  small = system small_rows small_active small_columns

  abbrev big : List Equation
  big = system rows active columns

  small_at : (j : ℕ) → IsPlace states j → at small j ≡ equation_of small_rows small_active small_columns j
  small_at j i = at_system small_rows small_active small_columns j (let f = is.few in omega (arith, f, i))

  -- the equation of a state is that of its place in the new numbers
  equation_by : (j : ℕ) → IsPlace states j → (b : Bool) → is_active small_active j ≡ b
      → equation_of rows active columns (state states j) ≡ renamed_equation states (equation_of small_rows small_active small_columns j)
  equation_by j i true a =
      equation_of-some rows active columns (state states j) (sym (is.same_active j i) ∙ a)
      ∙ cc (is.row j i a, is.column 0 j i a, is.column 1 j i a)
      ∙ ap (renamed_equation states) (sym (equation_of-some small_rows small_active small_columns j a))
  equation_by j i false a =
      equation_of-none rows active columns (state states j) (sym (is.same_active j i) ∙ a)
      ∙ ap (renamed_equation states) (sym (equation_of-none small_rows small_active small_columns j a))

  -- a number of the big system that isn't in the list isn't active
  none_by : (s : ℕ) → ((j : ℕ) → j < length states → state states j ≢ s) → (b : Bool) → is_active active s ≡ b → is_active active s ≡ false
  none_by s f true a = let h = is.listed s a in absurd (f h.0 h.1 h.2)
  none_by s f false a = a

  -- an active number of the small system is a place in the list
  place_by : (j : ℕ) → is_active small_active j ≡ true → (length states ≤ j) ⊎ (j < length states) → IsPlace states j
  place_by j a (inl l) = absurd (let h : true ≡ false = sym a ∙ is.outside j l in cc)
  place_by j a (inr l) = l

  inner_by : (x : Entry) (rest : List Entry) (b : Bool) → is_active small_active x.target ≡ b → Targets (IsPlace states) rest
      → Targets (IsPlace states) (if b then x ∷ rest else rest)
  inner_by x rest true a h = (place_by x.target a (le_or (length states) x.target), h)
  inner_by x rest false a h = h

  inner_inside : (row : List Entry) → Targets (IsPlace states) (inner small_active row)
  inner_inside [] = tt
  inner_inside (x ∷ row) = inner_by x (inner small_active row) (is_active small_active x.target) refl (inner_inside row)

  lead_by : (j : ℕ) (b : Bool) → is_active small_active j ≡ b → LeadsInside states (equation_of small_rows small_active small_columns j)
  lead_by j true a = subst (LeadsInside states) (sym (equation_of-some small_rows small_active small_columns j a)) (inner_inside (row_of small_rows j))
  lead_by j false a = subst (LeadsInside states) (sym (equation_of-none small_rows small_active small_columns j a)) tt

  past_by_size : (j : ℕ) → length states ≤ j → (length small_rows ≤ j) ⊎ (j < length small_rows) → at small j ≡ no_equation
  past_by_size j l (inl m) = get_or_past small j no_equation (omega (arith, m, system_len small_rows small_active small_columns))
  past_by_size j l (inr m) = at_system small_rows small_active small_columns j m ∙ equation_of-none small_rows small_active small_columns j (is.outside j l)

  small_first : AreFirst states (length small_rows) small
  small_first = record {
    count = system_len small_rows small_active small_columns;
    few = is.few;
    past = λ j l. past_by_size j l (le_or (length small_rows) j);
    lead = λ j i. subst (LeadsInside states) (sym (small_at j i)) (lead_by j (is_active small_active j) refl);
  }

  -- the equations of both systems
  are_renumbered : AreRenumbered states (length states) (length rows) (take (length states) small) big
  are_renumbered = record {
    few = omega arith;
    count = length-take-le (length states) small (let f = is.few in omega (arith, f, system_len small_rows small_active small_columns));
    many = system_len rows active columns;
    below = is.below;
    above = λ j l i. absurd (omega arith);
    same = λ j l.
        at_system rows active columns (state states j) (is.below j l) ∙ equation_by j l (is_active small_active j) refl
        ∙ ap (renamed_equation states) (sym (get_or-take (length states) small j no_equation l ∙ small_at j l));
    others = λ s l f. at_system rows active columns s l ∙ equation_of-none rows active columns s (none_by s f (is_active active s) refl);
    lead = λ j l. subst (LeadsInside states) (sym (get_or-take (length states) small j no_equation l)) (small_first.lead j l);
  }

  solutions_same : SameAtStates states (solution (length small_rows) small) (solution (length rows) big)
  solutions_same =
      solution-first states (length small_rows) small small_first (solution (length rows) big)
      (values_of states (length rows) (solution (length states) (take (length states) small)) (solution (length rows) big)
      (solution-same states is.ascend (length rows) (length states) (take (length states) small) big are_renumbered))

-- ---- the columns

module _ (states : List ℕ) (v w : Values) (same : HaveSame states v.first w.first × HaveSame states v.second w.second) where
  -- each column has the same values at the states
  columns_same : (n k j : ℕ) → IsPlace states j → value_at (get_or (columns_of n w) k []) (state states j) ≡ value_at (get_or (columns_of n v) k []) j
  columns_same zero k j i = refl
  columns_same (suc n) zero j i = same.0 j i
  columns_same (suc zero) (suc k) j i = refl
  columns_same (suc (suc n)) (suc zero) j i = same.1 j i
  columns_same (suc (suc zero)) (suc (suc k)) j i = refl
  columns_same (suc (suc (suc n))) (suc (suc k)) j i = refl

kept_same : (states : List ℕ) (n : ℕ) (r q : Result Values ℕ) → SameAtStates states r q
    → AreSameSolutions states (kept (columns_of n) r) (kept (columns_of n) q)
kept_same states n (Ok v) (Ok w) h = λ k j i. columns_same states v w h n k j i
kept_same states n (Err s) (Err t) h = h
kept_same states n (Ok v) (Err t) h = absurd h
kept_same states n (Err s) (Ok w) h = absurd h

pub renumbered_solution : (states : List ℕ) (small_rows : List (List Entry)) (small_active : List Bool) (small_columns : List (List ℚ))
    (rows : List (List Entry)) (active : List Bool) (columns : List (List ℚ))
    → IsRenumberedSystem states small_rows small_active small_columns rows active columns
    → AreSameSolutions states (written_solution small_rows small_active small_columns) (written_solution rows active columns)
renumbered_solution states small_rows small_active small_columns rows active columns is =
    subst (λ n.
    AreSameSolutions states (written_solution small_rows small_active small_columns)
    (kept (columns_of n) (solution (length rows) (system rows active columns)))) (sym is.count)
    (kept_same states (length small_columns) (solution (length small_rows) (system small_rows small_active small_columns))
    (solution (length rows) (system rows active columns))
    (solutions_same states small_rows small_active small_columns rows active columns is))
