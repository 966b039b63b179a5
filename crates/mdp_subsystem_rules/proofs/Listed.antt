-- What is listed of marks, values and ranks: the lists have the shape of a certificate, and its rules read of them what they are listed of.
use Rattle.std.proofs.Common.{◌≡◌, ℕ, zero, suc, ◌+◌, ◌<◌, ◌≤◌, ⊎_elim, Bool, true, false, true≢false, ◌||◌, ◌&&◌, cond, eqb, ltb, List, [], ◌∷◌, map, length, get_or}
use Rattle.std.proofs.{Common.{refl, sym, ap, subst, ◌∙◌, pos, arith}, lemmas.Bool.{cases_lt, eqb-true, lt-ltb}}
use Rattle.std.proofs.{lemmas.List.{ext_get_or, get_or_past, length-map}, lemmas.List.FromFn.{get_or-range_with_len, length-range_with_len}}
use Rattle.std.proofs.lemmas.Map.Views.{any-filter_same}
use Rattle.std.specs.List.{All, filter, range_with_len}
use Rattle.mdp_math.specs.Rational.{ℚ, of_int, lt_ℚ, ◌*ℚ◌, ◌≤ℚ◌, ◌<ℚ◌}
use Rattle.mdp_math.proofs.{Order.{0ℚ}, Sums.{sum_of-same}}
use Rattle.mdp_spec.specs.{Mdp.{Entry, Mdp, states_of, row_at, value_at}, Tree.{is_marked}}
use Rattle.mdp_claims.specs.declared.subsystem.Flow.{Flow}
use Rattle.mdp_subsystem_rules.specs.{Floor.{MeetsFloor, counted_value, counted_rank, counted_sum}, FloorChecks.{spread_values, spread_ranks}}
use Rattle.mdp_subsystem_rules.specs.{Kept.{is_listed, kept_marks, looked_up, Ascends}, Listed.{listed, marks_at, values_at, ranks_at}}
use Rattle.mdp_subsystem_rules.specs.{Shape.{is_before, no_flow, FlowsAscend, IsFlowShape, IsFloorShape}, Visits.{visit_flow, visit_flows}}
use Rattle.mdp_subsystem_rules.proofs.Kept.{kept_marks-at, spread-at, listed-at, length-kept_marks}

-- ---- lists that ascend strictly by a number of their elements

module _ {A : Type 0} (key : A → ℕ) where
  -- from k on, and below e
  abbrev Between : ℕ → ℕ → List A → Type 0
  Between k e [] = Unit {0}
  Between k e (x ∷ xs) = (k ≤ key x) × (key x < e) × Between (key x + 1) e xs

  between-lower : (j k e : ℕ) (xs : List A) → j ≤ k → Between k e xs → Between j e xs
  between-lower j k e [] h b = tt
  between-lower j k e (x ∷ xs) h b = let low = b.0 in (omega (arith, h, low), b.1, b.2)

  between-cond : (p : A → Bool) (k e : ℕ) (x : A) (xs : List A) (b : Bool) → k ≤ key x → key x < e → Between (key x + 1) e (filter p xs) → Between k e (cond b (x ∷ filter p xs) (filter p xs))
  between-cond p k e x xs true low high rest = (low, high, rest)
  between-cond p k e x xs false low high rest = between-lower k (key x + 1) e (filter p xs) (omega (arith, low)) rest

  between-filter : (p : A → Bool) (k e : ℕ) (xs : List A) → Between k e xs → Between k e (filter p xs)
  between-filter p k e [] b = tt
  between-filter p k e (x ∷ xs) b = between-cond p k e x xs (p x) b.0 b.1 (between-filter p (key x + 1) e xs b.2)

  between-low : (k e : ℕ) (xs : List A) (i : ℕ) (d : A) → Between k e xs → i < length xs → k ≤ key (get_or xs i d)
  between-low k e [] i d b h = absurd (omega arith)
  between-low k e (x ∷ xs) zero d b h = b.0
  between-low k e (x ∷ xs) (suc i) d b h = let low = b.0 in let rest = between-low (key x + 1) e xs i d b.2 (omega arith) in omega (arith, low, rest)

  between-high : (k e : ℕ) (xs : List A) (i : ℕ) (d : A) → Between k e xs → i < length xs → key (get_or xs i d) < e
  between-high k e [] i d b h = absurd (omega arith)
  between-high k e (x ∷ xs) zero d b h = b.1
  between-high k e (x ∷ xs) (suc i) d b h = between-high (key x + 1) e xs i d b.2 (omega arith)

  between-less : (k e : ℕ) (xs : List A) (i j : ℕ) (d : A) → Between k e xs → i < j → j < length xs → key (get_or xs i d) < key (get_or xs j d)
  between-less k e [] i j d b l h = absurd (omega arith)
  between-less k e (x ∷ xs) i zero d b l h = absurd (omega arith)
  between-less k e (x ∷ xs) zero (suc j) d b l h = let low = between-low (key x + 1) e xs j d b.2 (omega arith) in omega (arith, low)
  between-less k e (x ∷ xs) (suc i) (suc j) d b l h = between-less (key x + 1) e xs i j d b.2 (omega arith) (omega arith)

between-range : (k n e : ℕ) → k + n ≡ e → Between (λ s. s) k e (range_with_len k n)
between-range k zero e h = tt
between-range k (suc n) e h = (omega arith, omega arith, between-range (k + 1) n e (omega arith))

between-flows : (policy : List ℕ) (y : List ℚ) (k n e : ℕ) → k + n ≡ e → Between (λ (f : Flow). f.state) k e (map (visit_flow policy y) (range_with_len k n))
between-flows policy y k zero e h = tt
between-flows policy y k (suc n) e h = (omega arith, omega arith, between-flows policy y (k + 1) n e (omega arith))

-- ---- the listed states

module _ (n : ℕ) (marks : List Bool) where
  listed-between : Between (λ s. s) 0 n (listed n marks)
  listed-between = between-filter (λ s. s) (is_marked marks) 0 n (range_with_len 0 n) (between-range 0 n n (omega arith))

  pub listed-ascends : Ascends (listed n marks)
  listed-ascends i j l h = between-less (λ s. s) 0 n (listed n marks) i j 0 listed-between l h

  pub listed-in_range : All (λ s. s < n) (listed n marks)
  listed-in_range i d l = between-high (λ s. s) 0 n (listed n marks) i d listed-between l

  in_range : (s : ℕ) → s < n → is_listed (range_with_len 0 n) s ≡ true
  in_range s h =
      ap (is_listed (range_with_len 0 n)) (sym (get_or-range_with_len 0 n s 0 h ∙ omega arith))
      ∙ listed-at (range_with_len 0 n) s (omega (arith, h, length-range_with_len 0 n))

  and_true : (b c : Bool) → c ≡ true → (b && c) ≡ b
  and_true true c e = e
  and_true false c e = refl

  -- those that are listed are those that are marked
  pub is_listed-listed : (s : ℕ) → s < n → is_listed (listed n marks) s ≡ is_marked marks s
  is_listed-listed s h =
      any-filter_same (λ k. eqb k s) (is_marked marks) (is_marked marks s) (λ k e. ap (is_marked marks) (eqb-true k s e)) (range_with_len 0 n)
      ∙ and_true (is_marked marks s) (is_listed (range_with_len 0 n) s) (in_range s h)

  pub kept_marks-listed : length marks ≡ n → kept_marks n (listed n marks) ≡ marks
  kept_marks-listed e =
      ext_get_or false (kept_marks n (listed n marks)) marks (length-kept_marks n (listed n marks) ∙ sym e)
      (λ i l. let h : i < n = subst (λ (k : ℕ). i < k) (length-kept_marks n (listed n marks)) l in kept_marks-at n (listed n marks) i h ∙ is_listed-listed i h)

-- ---- shapes

module _ (m : Mdp) (policy : List ℕ) (y : List ℚ) where
  visits-between : Between (λ (f : Flow). f.state) 0 (states_of m) (visit_flows (states_of m) policy y)
  visits-between =
      between-filter (λ (f : Flow). f.state) (λ (f : Flow). lt_ℚ 0ℚ f.amount) 0 (states_of m) (map (visit_flow policy y) (range_with_len 0 (states_of m)))
      (between-flows policy y 0 (states_of m) (states_of m) (omega arith))

  before_by : (f g : Flow) → f.state < g.state → is_before f g ≡ true
  before_by f g l = ap (λ (b : Bool). b || (eqb f.state g.state && ltb f.choice g.choice)) (lt-ltb f.state g.state l)

  visits-ascend : FlowsAscend (visit_flows (states_of m) policy y)
  visits-ascend i j l h =
      let flows = visit_flows (states_of m) policy y in
      before_by (get_or flows i no_flow) (get_or flows j no_flow) (between-less (λ (f : Flow). f.state) 0 (states_of m) flows i j no_flow visits-between l h)

  pub listed_flow_shape : (kept wide : List Bool) → IsFlowShape m (listed (states_of m) kept) (marks_at wide (listed (states_of m) kept)) (visit_flows (states_of m) policy y)
  listed_flow_shape kept wide = record {
    kept_ascends = listed-ascends (states_of m) kept;
    kept_in_range = listed-in_range (states_of m) kept;
    one_wide_each = length-map (listed (states_of m) kept) (is_marked wide);
    flows_ascend = visits-ascend;
    flows_in_range = λ i d l. between-high (λ (f : Flow). f.state) 0 (states_of m) (visit_flows (states_of m) policy y) i d visits-between l;
  }

pub listed_floor_shape : (m : Mdp) (kept wide : List Bool) (z : List ℚ) (ranks : List ℕ)
    → IsFloorShape m (listed (states_of m) kept) (marks_at wide (listed (states_of m) kept)) (values_at z (listed (states_of m) kept)) (ranks_at ranks (listed (states_of m) kept))
listed_floor_shape m kept wide z ranks = record {
  kept_ascends = listed-ascends (states_of m) kept;
  kept_in_range = listed-in_range (states_of m) kept;
  one_wide_each = length-map (listed (states_of m) kept) (is_marked wide);
  one_value_each = length-map (listed (states_of m) kept) (value_at z);
  one_rank_each = length-map (listed (states_of m) kept) (λ s. get_or ranks s 0);
}

-- ---- what is read of the lists

module _ {A : Type 0} (f : ℕ → A) (none : A) where
  looked_up-next : (k s : ℕ) (states : List ℕ) (b : Bool) → eqb k s ≡ b → (is_listed states s ≡ true → looked_up states (map f states) none s ≡ f s)
      → (b || is_listed states s) ≡ true → cond b (f k) (looked_up states (map f states) none s) ≡ f s
  looked_up-next k s states true e rest h = ap f (eqb-true k s e)
  looked_up-next k s states false e rest h = rest h

  -- a listed state has what was listed of it
  pub looked_up-map : (states : List ℕ) (s : ℕ) → is_listed states s ≡ true → looked_up states (map f states) none s ≡ f s
  looked_up-map [] s h = absurd (true≢false (sym h))
  looked_up-map (k ∷ states) s h = looked_up-next k s states (eqb k s) refl (looked_up-map states s) h

marked_in_range : (n s : ℕ) (marks : List Bool) → length marks ≡ n → is_marked marks s ≡ true → s < n
marked_in_range n s marks e k =
    ⊎_elim (λ l. l) (λ past. absurd (true≢false (sym k ∙ get_or_past marks s false (omega (arith, past, e))))) (cases_lt s n)

-- what a state counts as, where it is marked or isn't
count_by : {A : Type 0} (g k : Bool) (one x y none : A) → (k ≡ true → x ≡ y) → cond g one (cond k x none) ≡ cond g one (cond k y none)
count_by true k one x y none h = refl
count_by false true one x y none h = h refl
count_by false false one x y none h = refl

module _ (m : Mdp) (goals kept : List Bool) (z : List ℚ) (ranks : List ℕ) (each : length kept ≡ states_of m) where
  abbrev states : List ℕ
  states = listed (states_of m) kept

  abbrev values : List ℚ
  values = spread_values m states (values_at z states)

  abbrev steps : List ℕ
  steps = spread_ranks m states (ranks_at ranks states)

  value-same : (s : ℕ) → is_marked kept s ≡ true → value_at values s ≡ value_at z s
  value-same s k =
      let h = marked_in_range (states_of m) s kept each k in
      spread-at (states_of m) states (values_at z states) 0ℚ 0ℚ s h ∙ looked_up-map (value_at z) 0ℚ states s (is_listed-listed (states_of m) kept s h ∙ k)

  rank-same : (s : ℕ) → is_marked kept s ≡ true → get_or steps s 0 ≡ get_or ranks s 0
  rank-same s k =
      let h = marked_in_range (states_of m) s kept each k in
      spread-at (states_of m) states (ranks_at ranks states) 0 0 s h ∙ looked_up-map (λ s. get_or ranks s 0) 0 states s (is_listed-listed (states_of m) kept s h ∙ k)

  counted-same : (s : ℕ) → counted_value goals kept values s ≡ counted_value goals kept z s
  counted-same s = count_by (is_marked goals s) (is_marked kept s) (of_int (pos 1)) (value_at values s) (value_at z s) (of_int (pos 0)) (value-same s)

  ranked-same : (s : ℕ) → counted_rank goals kept steps s ≡ counted_rank goals kept ranks s
  ranked-same s = count_by (is_marked goals s) (is_marked kept s) 0 (get_or steps s 0) (get_or ranks s 0) 0 (rank-same s)

  sum-same : (row : List Entry) → counted_sum goals kept values row ≡ counted_sum goals kept z row
  sum-same row = sum_of-same (λ (x : Entry). x.prob *ℚ counted_value goals kept values x.target) (λ (x : Entry). x.prob *ℚ counted_value goals kept z x.target) row
      (λ x. ap (λ (q : ℚ). x.prob *ℚ q) (counted-same x.target))

  module _ (start : ℕ) (threshold : ℚ) (r : MeetsFloor m goals kept z ranks start threshold) where
    as_spread : MeetsFloor m goals kept values steps start threshold
    as_spread = record {
      no_goal = r.no_goal;
      at_least_zero = λ s l k. subst (λ (x : ℚ). 0ℚ ≤ℚ x) (sym (value-same s k)) (r.at_least_zero s l k);
      at_most_one = λ s l k. subst (λ (x : ℚ). x ≤ℚ of_int (pos 1)) (sym (value-same s k)) (r.at_most_one s l k);
      covered = λ s c l k i.
          subst (λ (x : ℚ). x ≤ℚ counted_sum goals kept values (row_at m s c)) (sym (value-same s k))
          (subst (λ (x : ℚ). value_at z s ≤ℚ x) (sym (sum-same (row_at m s c))) (r.covered s c l k i));
      ends = λ s l k e. rank-same s k ∙ r.ends s l k (sym (value-same s k) ∙ e);
      falls = λ s c l k p i.
          let any = r.falls s c l k (subst (λ (x : ℚ). 0ℚ <ℚ x) (value-same s k) p) i in (
            any.0,
            any.1,
            any.2,
            any.3,
            subst (λ (q : ℕ). q < get_or steps s 0) (sym (ranked-same (Entry.target any.1)))
                (subst (λ (q : ℕ). counted_rank goals kept ranks (Entry.target any.1) < q) (sym (rank-same s k)) any.4),
          );
      reached = subst (λ (x : ℚ). threshold ≤ℚ x) (sym (counted-same start)) r.reached;
    }

    -- a floor that meets its rules meets them as it is listed
    pub listed_meets_floor : MeetsFloor m goals (kept_marks (states_of m) states) values steps start threshold
    listed_meets_floor = subst (λ (marks : List Bool). MeetsFloor m goals marks values steps start threshold) (sym (kept_marks-listed (states_of m) kept each)) as_spread
