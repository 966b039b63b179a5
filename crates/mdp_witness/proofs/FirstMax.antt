-- The first set of the greatest probability: it can be visited, and its visits bring to the goals what the policy's value at the start is.
use Rattle.std.proofs.Common.{◌≡◌, ℕ, zero, suc, ◌+◌, ◌<◌, ◌≤◌, ◌⊎◌, inl, inr, Bool, true, false, List, []}
use Rattle.std.proofs.Common.{◌∷◌, length, get_or, map, Option, Some, None, Result, Ok, Err, refl, sym, ◌∙◌, ap, subst, arith, pos, if◌then◌else◌}
use Rattle.std.proofs.{lemmas.List.FromFn.{get_or-map-range_with_len, length-map-range_with_len}, Math.ListN.{get_or-eq_default}}
use Rattle.std.specs.{List.{All, Any, range_with_len}, Prelude.{slice_index}}
use Rattle.mdp_math.specs.{Rational.{ℚ, ◌+ℚ◌, ◌*ℚ◌}, Result.{◌>>=◌}, Sum.{sum_of}, Written.{written_add, written_mul}}
use Rattle.mdp_math.specs.Written as written
use Rattle.mdp_math.proofs.{Kernel.{All-head}, Numbers.{le_or}, Options.{Some_same, step_told}, Order.{0ℚ, ≤ℚ_antisymm}, Ring.{◌⊕◌, ◌⊗◌, ⊖, lit, ring}}
use Rattle.mdp_math.proofs.{Laws.{rat_ring}, Linear.{combine, equal}, Sums.{sum_of-add, sum_of-same_all}, Written.{written_mul-some, written_add-some}}
use Rattle.mdp_spec.specs.{Mdp.{Entry, Mdp, states_of, row_at, value_at}, Row.{IsMdp, IsRow, row_sum, AreRows}, Rules.{MeetsReachMax}}
use Rattle.mdp_spec.specs.Tree.{IsPolicy, is_marked}
use Rattle.mdp_rows.specs.declared.dir.Dir.TheVariants.{Max}
use Rattle.mdp_elim.specs.{System.{is_active, row_of, Leaves, IsSolution}, Visits.{AreVisits}}
use Rattle.mdp_elim.proofs.RowsInto.{sum_more}
use Rattle.mdp_subsystem_rules.specs.Flow.{prob_to_goals, goal_source}
use Rattle.mdp_subsystem_rules.proofs.Gather.{All-range}
use Rattle.mdp_reach.specs.Query.{policy_rows}
use Rattle.mdp_witness.specs.{First.{is_open, IsFirst}, Evaluation.{with_arrival, with_arrivals, placed, arrivals_below}}
use Rattle.mdp_witness.proofs.{Duality.{weighed}, FirstSet.{not_open, closed-zero, first-inside, first-no_goal, first-above}}

-- ---- the arrivals in exact numbers

arrival_by : (goals : List Bool) (visits sum r : ℚ) (x : Entry) (b : Bool) → (if b then written.◌>>=◌ (written_mul visits x.prob) (λ term. written_add sum term) else Some sum) ≡ Some r
    → r ≡ sum +ℚ visits *ℚ (if b then x.prob else 0ℚ)
arrival_by goals visits sum r x true e =
    let p = step_told (written_mul visits x.prob) (λ term. written_add sum term) r (sym e) in
    written_add-some sum p.0 r p.2 ∙ ap (λ (u : ℚ). sum +ℚ u) (written_mul-some visits x.prob p.0 p.1)
arrival_by goals visits sum r x false e = sym (Some_same sum r e) ∙ ring rat_ring 2 (λ s v. s) (λ s v. s ⊕ v ⊗ lit (pos 0)) refl sum visits

pub arrivals_exact : (goals : List Bool) (visits sum r : ℚ) (row : List Entry) → with_arrivals goals visits sum row ≡ Some r → r ≡ sum +ℚ visits *ℚ prob_to_goals goals row
arrivals_exact goals visits sum r [] e = sym (Some_same sum r e) ∙ ring rat_ring 2 (λ s v. s) (λ s v. s ⊕ v ⊗ lit (pos 0)) refl sum visits
arrivals_exact goals visits sum r (x ∷ row) e =
    let p = step_told (with_arrival goals visits sum x) (λ next. with_arrivals goals visits next row) r (sym e) in
    combine 5 (λ r n s a b. r) (λ r n s a b. s ⊕ (a ⊕ b)) (λ r n s a b. equal (lit (pos 1)) r (n ⊕ b) ∷ equal (lit (pos 1)) n (s ⊕ a) ∷ []) refl
    r p.0 sum (visits *ℚ (if is_marked goals x.target then x.prob else 0ℚ)) (visits *ℚ prob_to_goals goals row)
    (arrivals_exact goals visits p.0 r row (sym p.2)) (arrival_by goals visits sum p.0 x (is_marked goals x.target) (sym p.1))
    ∙ ring rat_ring 4 (λ s v a b. s ⊕ (v ⊗ a ⊕ v ⊗ b)) (λ s v a b. s ⊕ v ⊗ (a ⊕ b)) refl sum visits (if is_marked goals x.target then x.prob else 0ℚ) (prob_to_goals goals row)

module _ (m : Mdp) (goals : List Bool) (policy : List ℕ) (start : ℕ) (set : List Bool) (y : List ℚ) where
  abbrev brings : ℕ → ℚ
  brings s = value_at y s *ℚ prob_to_goals goals (row_at m s (get_or policy s 0))

  abbrev below : ℕ → Result ℚ ℕ
  below n = arrivals_below m goals policy start set y n

  abbrev then_by : ℕ → Bool → ℚ → Result ℚ ℕ
  then_by s b sum = if b then placed s (with_arrivals goals (value_at y s) sum (row_at m s (get_or policy s 0))) else Ok sum

  placed-ok : (s : ℕ) (o : Option ℚ) (v : ℚ) → placed s o ≡ Ok v → o ≡ Some v
  placed-ok s None v e = cc
  placed-ok s (Some x) v e = cc

  then-exact : (s : ℕ) (b : Bool) (sum v : ℚ) → (b ≡ false → value_at y s ≡ 0ℚ) → then_by s b sum ≡ Ok v → v ≡ sum +ℚ brings s
  then-exact s true sum v out e = arrivals_exact goals (value_at y s) sum v (row_at m s (get_or policy s 0)) (placed-ok s (with_arrivals goals (value_at y s) sum (row_at m s (get_or policy s 0))) v e)
  then-exact s false sum v out e =
      let same : sum ≡ v = cc in
      sym same ∙ combine 3 (λ s v g. s) (λ s v g. s ⊕ v ⊗ g) (λ s v g. equal (⊖ g) v (lit (pos 0)) ∷ []) refl sum (value_at y s) (prob_to_goals goals (row_at m s (get_or policy s 0))) (out refl)

  step-told : (r : Result ℚ ℕ) (f : ℚ → Result ℚ ℕ) (v : ℚ) → (r >>= f) ≡ Ok v → (u : ℚ) × (r ≡ Ok u) × (f u ≡ Ok v)
  step-told (Ok u) f v e = (u, refl, e)
  step-told (Err s) f v e = cc

  -- the value of a set, where each state that isn't in it has no visits
  pub below-exact : (n : ℕ) (v : ℚ) → ((s : ℕ) → is_marked set s ≡ false → value_at y s ≡ 0ℚ) → below n ≡ Ok v → v ≡ goal_source goals start +ℚ sum_of brings (range_with_len 0 n)
  below-exact zero v out e = let same : goal_source goals start ≡ v = cc in sym same ∙ ring rat_ring 1 (λ s. s) (λ s. s ⊕ lit (pos 0)) refl (goal_source goals start)
  below-exact (suc n) v out e =
      let p = step-told (below n) (λ sum. then_by n (is_marked set n) sum) v e in
      let k : n + 1 ≡ suc n = omega arith in
      combine 5 (λ v u g s b. v) (λ v u g s b. g ⊕ (s ⊕ b)) (λ v u g s b. equal (lit (pos 1)) v (u ⊕ b) ∷ equal (lit (pos 1)) u (g ⊕ s) ∷ []) refl
      v p.0 (goal_source goals start) (sum_of brings (range_with_len 0 n)) (brings n) (then-exact n (is_marked set n) p.0 v (out n) p.2) (below-exact n p.0 out p.1)
      ∙ ap (λ (u : ℚ). goal_source goals start +ℚ u) (sym (ap (λ (j : ℕ). sum_of brings (range_with_len 0 j)) (sym k) ∙ sum_more brings n))

-- ---- the rows of a policy

pub are_rows : (m : Mdp) (policy : List ℕ) → IsMdp m → IsPolicy m policy → AreRows (policy_rows m policy)
are_rows m policy known_ taking =
    λ k d l.
    let n = length-map-range_with_len (λ s. row_at m s (get_or policy s 0)) 0 (states_of m) in
    let i : k < states_of m = omega arith in
    subst (λ (row : List Entry). IsRow (length (policy_rows m policy)) row) (sym (get_or-map-range_with_len (λ s. row_at m s (get_or policy s 0)) 0 (states_of m) k k d i (omega arith)))
    (subst (λ (j : ℕ). IsRow j (row_at m k (get_or policy k 0))) (sym n) (known_.row k (get_or policy k 0) i (taking.in_range k i)))

-- ---- the first set

module _ (m : Mdp) (goals : List Bool) (z : List ℚ) (policy ranks : List ℕ) (start : ℕ) (first : List Bool) (known_ : IsMdp m) (rules : MeetsReachMax m goals z policy ranks)
    (is : IsFirst Max m goals z policy start first) where
  row-is : (s : ℕ) → s < states_of m → row_of (policy_rows m policy) s ≡ row_at m s (get_or policy s 0)
  row-is s l = get_or-map-range_with_len (λ s. row_at m s (get_or policy s 0)) 0 (states_of m) s s [] l (omega arith)

  pub rows-count : length (policy_rows m policy) ≡ states_of m
  rows-count = length-map-range_with_len (λ s. row_at m s (get_or policy s 0)) 0 (states_of m)

  -- the policy leaves it
  pub first-leaves : Leaves (policy_rows m policy) first ranks
  first-leaves = record {
    falls = λ s l a.
        let i = first-inside Max m goals z policy start first is s a in
        let any = rules.falls s i (first-no_goal Max m goals z policy start first is s a) (first-above Max m goals z policy start first is s a) in
        subst (λ (row : List Entry). Any (λ x. (is_active first x.target ≡ false) ⊎ (slice_index ranks x.target < slice_index ranks s)) row) (sym (row-is s i))
        (any.0, any.1, any.2, any.3, inr any.4.1);
  }

  -- the value of a successor, as a goal, as one of the set, or 0
  abbrev X : ℕ → ℚ
  X s = if is_marked first s then value_at z s else 0ℚ

  target_by : (x : Entry) (g f : Bool) → x.target < states_of m → is_marked goals x.target ≡ g → is_marked first x.target ≡ f → (is_open goals z x.target ≡ true → is_marked first x.target ≡ true)
      → x.prob *ℚ value_at z x.target ≡ (if g then x.prob else 0ℚ) +ℚ x.prob *ℚ (if f then value_at z x.target else 0ℚ)
  target_by x true true l eg ef o = let n = first-no_goal Max m goals z policy start first is x.target ef in cc
  target_by x true false l eg ef o =
      combine 2 (λ p v. p ⊗ v) (λ p v. p ⊕ p ⊗ lit (pos 0)) (λ p v. equal p v (lit (pos 1)) ∷ []) refl x.prob (value_at z x.target) (rules.probabilities.at_goal x.target l eg)
  target_by x false true l eg ef o = ring rat_ring 2 (λ p v. p ⊗ v) (λ p v. lit (pos 0) ⊕ p ⊗ v) refl x.prob (value_at z x.target)
  target_by x false false l eg ef o =
      combine 2 (λ p v. p ⊗ v) (λ p v. lit (pos 0) ⊕ p ⊗ lit (pos 0)) (λ p v. equal p v (lit (pos 0)) ∷ []) refl x.prob (value_at z x.target)
      (closed-zero m goals z x.target rules.probabilities l eg (not_open (is_open goals z x.target) (is_marked first x.target) o ef))

  abbrev column : List ℚ
  column = map (λ s. prob_to_goals goals (row_at m s (get_or policy s 0))) (range_with_len 0 (states_of m))

  abbrev x : List ℚ
  x = map X (range_with_len 0 (states_of m))

  x-at : (s : ℕ) → s < states_of m → value_at x s ≡ X s
  x-at s l = get_or-map-range_with_len X 0 (states_of m) s s 0ℚ l (omega arith)

  value-is : (s : ℕ) → is_marked first s ≡ true
      → value_at z s ≡ prob_to_goals goals (row_at m s (get_or policy s 0)) +ℚ row_sum (row_at m s (get_or policy s 0)) x
  value-is s h =
      let l = first-inside Max m goals z policy start first is s h in
      let c = rules.choices.in_range s l in
      let g = first-no_goal Max m goals z policy start first is s h in
      let known_row = known_.row s (get_or policy s 0) l c in
      let next = All-head (λ c. All (λ x. is_open goals z x.target ≡ true → is_marked first x.target ≡ true) (row_at m s c)) (get_or policy s 0) [] (is.closed.has_next s l h) in
      ≤ℚ_antisymm (value_at z s) (row_sum (row_at m s (get_or policy s 0)) z) (rules.reached s l g) (rules.covers s (get_or policy s 0) l g c)
      ∙ sum_of-same_all (λ (e : Entry). e.prob *ℚ value_at z e.target) (λ e. (if is_marked goals e.target then e.prob else 0ℚ) +ℚ e.prob *ℚ value_at x e.target) (row_at m s (get_or policy s 0))
      (λ k d i.
      let e : Entry = get_or (row_at m s (get_or policy s 0)) k d in
      target_by e (is_marked goals e.target) (is_marked first e.target) (known_row.in_range k d i) refl refl (next k d i)
      ∙ ap (λ (u : ℚ). (if is_marked goals e.target then e.prob else 0ℚ) +ℚ e.prob *ℚ u) (sym (x-at e.target (known_row.in_range k d i))))
      ∙ sum_of-add (λ (e : Entry). if is_marked goals e.target then e.prob else 0ℚ) (λ e. e.prob *ℚ value_at x e.target) (row_at m s (get_or policy s 0))

  x-outside_by : (s : ℕ) → is_marked first s ≡ false → (states_of m ≤ s) ⊎ (s < states_of m) → value_at x s ≡ 0ℚ
  x-outside_by s a (inl l) = get_or-eq_default x 0ℚ (let e = length-map-range_with_len X 0 (states_of m) in omega arith)
  x-outside_by s a (inr l) = x-at s l ∙ ap (λ (b : Bool). if b then value_at z s else 0ℚ) a

  solution : IsSolution (policy_rows m policy) first column x
  solution = record {
    len = length-map-range_with_len X 0 (states_of m) ∙ sym rows-count;
    inside = λ s a.
        let l = first-inside Max m goals z policy start first is s a in
        x-at s l ∙ ap (λ (b : Bool). if b then value_at z s else 0ℚ) a ∙ value-is s a
        ∙ ap (λ (c : ℚ). c +ℚ row_sum (row_at m s (get_or policy s 0)) x)
        (sym (get_or-map-range_with_len (λ s. prob_to_goals goals (row_at m s (get_or policy s 0))) 0 (states_of m) s s 0ℚ l (omega arith)))
        ∙ ap (λ (row : List Entry). value_at column s +ℚ row_sum row x) (sym (row-is s l));
    outside = λ s a. x-outside_by s a (le_or (states_of m) s);
  }

  -- visits of it bring to the goals what the value at the start is
  pub brought : (y : List ℚ) → AreVisits (policy_rows m policy) first start y → is_marked first start ≡ true
      → sum_of (λ s. value_at y s *ℚ prob_to_goals goals (row_at m s (get_or policy s 0))) (range_with_len 0 (states_of m)) ≡ value_at z start
  brought y visits a =
      let l = first-inside Max m goals z policy start first is start a in
      let n = rows-count in
      sum_of-same_all (λ s. value_at y s *ℚ prob_to_goals goals (row_at m s (get_or policy s 0))) (λ s. value_at y s *ℚ value_at column s) (range_with_len 0 (states_of m))
      (All-range (λ s. value_at y s *ℚ prob_to_goals goals (row_at m s (get_or policy s 0)) ≡ value_at y s *ℚ value_at column s) (states_of m)
      (λ s i. ap (λ (u : ℚ). value_at y s *ℚ u) (sym (get_or-map-range_with_len (λ s. prob_to_goals goals (row_at m s (get_or policy s 0))) 0 (states_of m) s s 0ℚ i (omega arith)))))
      ∙ ap (λ (k : ℕ). sum_of (λ s. value_at y s *ℚ value_at column s) (range_with_len 0 k)) (sym rows-count)
      ∙ weighed (policy_rows m policy) first start column x y (are_rows m policy known_ rules.choices) (omega arith) visits solution
      ∙ x-at start l
      ∙ ap (λ (b : Bool). if b then value_at z start else 0ℚ) a
