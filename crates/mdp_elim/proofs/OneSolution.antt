-- A chain that leaves its active states: its systems have exactly one solution, which written elimination gives.
use Rattle.std.proofs.Common.{◌≡◌, ℕ, zero, suc, ◌+◌, ◌<◌, ◌≤◌, ◌⊎◌, inl, inr, Bool, true, false, List, [], ◌∷◌}
use Rattle.std.proofs.Common.{length, map, get_or, Result, Ok, Err, refl, sym, ◌∙◌, ap, subst, arith, eqb, if◌then◌else◌, pos, zero-add}
use Rattle.std.proofs.{Math.ListN.{get_or-eq_default}, lemmas.List.{ext_get_or}, lemmas.List.Elements.{All-contains}}
use Rattle.std.proofs.{lemmas.List.FromFn.{get_or-map-range_with_len, length-map-range_with_len}, lemmas.Bool.{ne_eqb}}
use Rattle.std.specs.List.{range_with_len}
use Rattle.mdp_math.specs.{Rational.{ℚ, ◌+ℚ◌, ◌*ℚ◌}, Sum.{sum_of}, Pivot.{active_below, entry_at, HasPivots}}
use Rattle.mdp_math.specs.Pivot as pivot
use Rattle.mdp_math.proofs.{Numbers.{le_or}, Ring.{◌⊕◌, ◌⊗◌, lit}, Linear.{combine, equal}, Order.{0ℚ}, Sums.{sum_of-same}}
use Rattle.mdp_math.proofs.{Dense.{active_below-all, active_below-contains}, Pivots.{SolvesOn}, Solutions.{Solves, one_solution}}
use Rattle.mdp_math.proofs.Elimination.{kernel_solution, solution-solves, solution-outside, solutions_same, active_below-apart}
use Rattle.mdp_spec.specs.Mdp.{Entry, value_at}
use Rattle.mdp_elim.specs.{Equation.{Values}, Elimination.{solution}, System.{is_active, row_of, system, IsSolution, SolveEach}, Solve.{kept, columns_of}}
use Rattle.mdp_elim.specs.Visits.{transposed, one_at, unit_column, step, AreVisits}
use Rattle.mdp_elim.specs.Laws.{LeavingChain, ExactlyOne, HasOneSolution, HasPositivePivots, GivesSolutions, HasOneVisits, HasPositivePivotsTransposed, GivesVisits}
use Rattle.mdp_elim.proofs.{RowsInto.{sum_more}, Leaving.{active-below, chain_shrinks, chain_pivots_transposed, system-divides, solve_each}}
use Rattle.mdp_elim.proofs.Expected.{visits-len, visits-divide, are_visits}

-- ---- vectors

-- the values of f below n
abbrev listed : (ℕ → ℚ) → ℕ → List ℚ
listed f n = map f (range_with_len 0 n)

length-listed : (f : ℕ → ℚ) (n : ℕ) → length (listed f n) ≡ n
length-listed f n = length-map-range_with_len f 0 n

value_by : (f : ℕ → ℚ) (n s : ℕ) → ((v : ℕ) → n ≤ v → f v ≡ 0ℚ) → (n ≤ s) ⊎ (s < n) → value_at (listed f n) s ≡ f s
value_by f n s out (inl l) = let len = length-listed f n in get_or-eq_default (listed f n) 0ℚ (omega arith) ∙ sym (out s l)
value_by f n s out (inr l) = get_or-map-range_with_len f 0 n s s 0ℚ l (zero-add s)

-- they are all values of f, where f is 0 from n on
value-listed : (f : ℕ → ℚ) (n : ℕ) → ((v : ℕ) → n ≤ v → f v ≡ 0ℚ) → (s : ℕ) → value_at (listed f n) s ≡ f s
value-listed f n out s = value_by f n s out (le_or n s)

same_vectors : (n : ℕ) (x y : List ℚ) → length x ≡ n → length y ≡ n → ((s : ℕ) → value_at x s ≡ value_at y s) → x ≡ y
same_vectors n x y p q h = ext_get_or 0ℚ x y (p ∙ sym q) (λ s l. h s)

-- ---- sums over the active states

module _ (active : ℕ → Bool) (g : ℕ → ℚ) (out : (v : ℕ) → active v ≡ false → g v ≡ 0ℚ) where
  one_more : (n : ℕ) (b : Bool) → active n ≡ b → sum_of g (active_below active n) ≡ sum_of g (range_with_len 0 n)
      → sum_of g (if b then n ∷ active_below active n else active_below active n) ≡ sum_of g (range_with_len 0 n) +ℚ g n
  one_more n true a h = combine 3 (λ u v w. w ⊕ u) (λ u v w. v ⊕ w) (λ u v w. equal (lit (pos 1)) u v ∷ []) refl (sum_of g (active_below active n)) (sum_of g (range_with_len 0 n)) (g n) h
  one_more n false a h =
      combine 3 (λ u v w. u) (λ u v w. v ⊕ w) (λ u v w. equal (lit (pos 1)) u v ∷ equal (lit (pos 1)) (lit (pos 0)) w ∷ []) refl
      (sum_of g (active_below active n)) (sum_of g (range_with_len 0 n)) (g n) h (sym (out n a))

  -- what is 0 at other numbers has the same sum over all numbers
  sum_active : (n : ℕ) → sum_of g (active_below active n) ≡ sum_of g (range_with_len 0 n)
  sum_active zero = refl
  sum_active (suc n) =
      let e : n + 1 ≡ suc n = omega arith in
      one_more n (active n) refl (sum_active n) ∙ sym (sum_more g n) ∙ ap (λ k. sum_of g (range_with_len 0 k)) e

-- ---- the rows

module _ (rows : List (List Entry)) (active : List Bool) (ranks : List ℕ) (chain : LeavingChain rows active ranks) where
  past : (s : ℕ) → length rows ≤ s → is_active active s ≡ false
  past s l = let size = chain.marks in get_or-eq_default active false (omega arith)

  module _ (column : List ℚ) where
    abbrev values : ℕ → ℚ
    values = pivot.solution (active_below (is_active active) (length rows)) (λ s. entry_at (λ x. x.target) (λ x. x.prob) (row_of rows s)) (value_at column)

    solves : Solves (λ x. x.target) (λ x. x.prob) (is_active active) (row_of rows) (value_at column) values
    solves =
        kernel_solution (chain_shrinks rows active ranks chain.distributions chain.marks chain.leaves) (length rows) (active-below rows active chain.marks) (row_of rows) (λ s a. refl) (value_at column)

    vector : List ℚ
    vector = listed values (length rows)

    vector-at : (s : ℕ) → value_at vector s ≡ values s
    unfolding vector
    vector-at s = value-listed values (length rows) (λ v l. solves.outside v (past v l)) s

    some_solution : IsSolution rows active column vector
    unfolding vector
    some_solution = record {
      len = length-listed values (length rows);
      inside = λ s a.
          vector-at s ∙ solves.inside s a
          ∙ ap (λ (u : ℚ). value_at column s +ℚ u) (sum_of-same (λ x. x.prob *ℚ values x.target)
          (λ x. x.prob *ℚ value_at vector x.target) (row_of rows s) (λ x. ap (λ (u : ℚ). x.prob *ℚ u) (sym (vector-at x.target))));
      outside = λ s a. vector-at s ∙ solves.outside s a;
    }

    solutions_equal : (x y : List ℚ) → IsSolution rows active column x → IsSolution rows active column y → x ≡ y
    solutions_equal x y p q =
        same_vectors (length rows) x y p.len q.len
        (one_solution (chain_shrinks rows active ranks chain.distributions chain.marks chain.leaves) (length rows)
        (active-below rows active chain.marks) (row_of rows) (λ s a. refl) (value_at column) (value_at x) (value_at y)
        (record { outside = p.outside; inside = p.inside }) (record { outside = q.outside; inside = q.inside }))

    exactly_one_solution : ExactlyOne (IsSolution rows active column)
    exactly_one_solution = (vector, some_solution, λ y h. solutions_equal y vector h some_solution)

  -- ---- the transposed rows

  module _ (start : ℕ) where
    abbrev left : List ℕ
    left = active_below (is_active active) (length rows)

    abbrev back : ℕ → ℕ → ℚ
    back s t = step rows t s

    abbrev times : ℕ → ℚ
    times = pivot.solution left back (one_at start)

    pivots : HasPivots left back
    pivots = chain_pivots_transposed rows active ranks chain.distributions chain.marks chain.leaves

    times-solve : SolvesOn left back (one_at start) times
    times-solve = solution-solves left back (one_at start) (active_below-apart (is_active active) (length rows)) pivots

    other : (s t : ℕ) → is_active active s ≡ false → is_active active t ≡ true → eqb s t ≡ false
    other s t a b = ne_eqb s t (λ same. let e : false ≡ true = sym a ∙ ap (is_active active) same ∙ b in cc)

    times-outside : (s : ℕ) → is_active active s ≡ false → times s ≡ 0ℚ
    times-outside s a = solution-outside left back (one_at start) s (λ k d l. other s (get_or left k d) a (active_below-all (is_active active) (length rows) k d l).0)

    all_sum : (f : ℕ → ℚ) (s : ℕ) → ((v : ℕ) → is_active active v ≡ false → f v ≡ 0ℚ)
        → sum_of (λ t. back s t *ℚ f t) left ≡ sum_of (λ t. step rows t s *ℚ f t) (range_with_len 0 (length rows))
    all_sum f s out =
        sum_active (is_active active) (λ t. back s t *ℚ f t)
        (λ v a. combine 2 (λ p x. p ⊗ x) (λ p x. lit (pos 0)) (λ p x. equal p x (lit (pos 0)) ∷ []) refl (back s v) (f v) (out v a)) (length rows)

    times-inside : (s : ℕ) → is_active active s ≡ true → times s ≡ one_at start s +ℚ sum_of (λ t. step rows t s *ℚ times t) (range_with_len 0 (length rows))
    times-inside s a =
        All-contains (λ t. times t ≡ one_at start t +ℚ sum_of (λ v. back t v *ℚ times v) left) left s times-solve
        (active_below-contains (is_active active) (length rows) s a (active-below rows active chain.marks s a))
        ∙ ap (λ (u : ℚ). one_at start s +ℚ u) (all_sum times s times-outside)

    visits_vector : List ℚ
    visits_vector = listed times (length rows)

    visits_vector-at : (s : ℕ) → value_at visits_vector s ≡ times s
    unfolding visits_vector
    visits_vector-at s = value-listed times (length rows) (λ v l. times-outside v (past v l)) s

    some_visits : AreVisits rows active start visits_vector
    unfolding visits_vector
    some_visits = record {
      len = length-listed times (length rows);
      inside = λ s a.
          visits_vector-at s ∙ times-inside s a
          ∙ ap (λ (u : ℚ). one_at start s +ℚ u) (sum_of-same (λ t. step rows t s *ℚ times t) (λ t. step rows t s *ℚ value_at visits_vector t)
          (range_with_len 0 (length rows)) (λ t. ap (λ (u : ℚ). step rows t s *ℚ u) (sym (visits_vector-at t))));
      outside = λ s a. visits_vector-at s ∙ times-outside s a;
    }

    solve_left : (y : List ℚ) → AreVisits rows active start y → SolvesOn left back (one_at start) (value_at y)
    solve_left y h = λ k d l.
        h.inside (get_or left k d) (active_below-all (is_active active) (length rows) k d l).0
        ∙ ap (λ (u : ℚ). one_at start (get_or left k d) +ℚ u) (sym (all_sum (value_at y) (get_or left k d) h.outside))

    same_by : (x y : List ℚ) → AreVisits rows active start x → AreVisits rows active start y → (s : ℕ) (b : Bool) → is_active active s ≡ b → value_at x s ≡ value_at y s
    same_by x y p q s true a =
        All-contains (λ t. value_at x t ≡ value_at y t) left s
        (solutions_same left back (one_at start) (value_at x) (value_at y) pivots (solve_left x p) (solve_left y q))
        (active_below-contains (is_active active) (length rows) s a (active-below rows active chain.marks s a))
    same_by x y p q s false a = p.outside s a ∙ sym (q.outside s a)

    visits_equal : (x y : List ℚ) → AreVisits rows active start x → AreVisits rows active start y → x ≡ y
    visits_equal x y p q = same_vectors (length rows) x y p.len q.len (λ s. same_by x y p q s (is_active active s) refl)

    exactly_one_visits : ExactlyOne (AreVisits rows active start)
    exactly_one_visits = (visits_vector, some_visits, λ y h. visits_equal y visits_vector h some_visits)

-- ---- what is given

kept_part : {B : Type 0} (f : Values → B) (r : Result Values ℕ) (y : B) → kept f r ≡ Ok y → (v : Values) × (r ≡ Ok v) × (f v ≡ y)
kept_part f (Err s) y h = cc
kept_part f (Ok v) y h = (v, refl, cc)

-- ---- the laws

pub has_one_solution : HasOneSolution
has_one_solution rows active ranks column chain = exactly_one_solution rows active ranks chain column

pub has_positive_pivots : HasPositivePivots
has_positive_pivots rows active ranks columns chain = system-divides rows active ranks chain.distributions chain.marks chain.leaves columns

pub gives_solutions : GivesSolutions
gives_solutions rows active ranks columns xs chain few made =
    let v = kept_part (columns_of (length columns)) (solution (length rows) (system rows active columns)) xs made in
    subst (SolveEach rows active columns) v.2 (solve_each rows active ranks chain.distributions chain.marks chain.leaves columns v.0 v.1 few)

pub has_one_visits : HasOneVisits
has_one_visits rows active ranks start chain = exactly_one_visits rows active ranks chain start

pub has_positive_pivots_transposed : HasPositivePivotsTransposed
has_positive_pivots_transposed rows active ranks start chain = visits-divide rows active ranks chain.distributions chain.marks chain.leaves start

pub gives_visits : GivesVisits
gives_visits rows active ranks start y chain made =
    let equations = system (transposed rows) active (unit_column (length rows) start ∷ []) in
    let v = kept_part Values.first (solution (length rows) equations) y made in
    let len = visits-len rows active ranks chain.distributions chain.marks chain.leaves start in
    subst (AreVisits rows active start) v.2
    (are_visits rows active ranks chain.distributions chain.marks chain.leaves start equations refl v.0
    (subst (λ (n : ℕ). solution n (system (transposed rows) active (unit_column (length rows) start ∷ [])) ≡ Ok v.0) (sym len) v.1))
