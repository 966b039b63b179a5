-- Written evaluation gives the gain and the bias, where no term is past width.
use Rattle.std.proofs.Common.{◌≡◌, ℕ, ◌<◌, ◌≤◌, ◌⊎◌, inl, inr, Bool, true, false, if◌then◌else◌, List, [], ◌∷◌, negsuc, zero-add}
use Rattle.std.proofs.{Common.{length, map, Some, Result, Ok, Err, refl, sym, ◌∙◌, ap, ap₂, subst, arith, pos}, Math.ListN.{get_or-eq_default}}
use Rattle.std.proofs.{lemmas.List.FromFn.{get_or-map-range_with_len, length-map-range_with_len}, lemmas.List.{get_or_default}}
use Rattle.std.specs.{List.{Any, range_with_len}, Prelude.{slice_index, slice_index_or}}
use Rattle.mdp_math.specs.{Rational.{ℚ, ◌+ℚ◌, ◌*ℚ◌, ◌-ℚ◌, ◌≤ℚ◌}, Written.{written_mul, ◌>>=◌}}
use Rattle.mdp_math.proofs.{Written.{written_add-some, written_mul-some}, Ring.{◌⊕◌, ◌⊗◌, ⊖, lit}, Linear.{combine, equal}, Numbers.{le_or}}
use Rattle.mdp_math.proofs.{Order.{0ℚ, 1ℚ, ◌/ℚ◌}, Kernel.{Any-and}, Solutions.{Solves}}
use Rattle.mdp_num.specs.Written.{written_sub, written_div}
use Rattle.mdp_spec.specs.{Mdp.{Entry, value_at}, Row.{IsRow, AreRows, row_sum}, Written.{written_sum}}
use Rattle.mdp_elim.specs.{Equation.{Equation, no_equation}, Elimination.{solution}}
use Rattle.mdp_elim.specs.System.{is_active, row_of, inner, column_at, equation_of, system, Leaves, IsSolution, SolveEach}
use Rattle.mdp_elim.specs.{Solve.{columns_of, kept, written_solution}, Laws.{LeavingChain, GivesSolutions}}
use Rattle.mdp_policy_iteration.proofs.{Chain.{loop}, Compares.{written_sum-is}, Results.{ok_same, ok_part, place_part, IsUpTo, up_to-is}}
use Rattle.mdp_unichain.specs.{Chain.{AllLeadTo}, Component.{Component, count, is_state, row_by, reward_by, IsPolicy, IsComponent}}
use Rattle.mdp_unichain.specs.{Evaluation.{mean, active, IsEarned, IsEvaluation}, Sums.{written_ratio, written_bias}}
use Rattle.mdp_unichain.specs.Written.{row_or_loop, rows_of, active_of, rewards_of, ones_of, written_columns, written_gain, bias_of, written_bias_list, Values, with_biases, written_biases}
use Rattle.mdp_unichain.specs.{Written.{from_columns, written_values}, WrittenLaws.{EvaluatesExactly}}
use Rattle.mdp_unichain.proofs.{Gains.{steps-ge_one}, Chains.{target, active-state, active-other, active-outside}, Reaching.{test_or_not}}
use Rattle.mdp_unichain.proofs.Improving.{state-below, policy-chain}
use Rattle.mdp_policy_iteration.specs.{Places.{Place, at_place}, Path.{evaluating, placed}}
use Rattle.mdp_elim.proofs.RowSums.{some_part}

map_same : {A : Type 0} (f g : ℕ → A) → ((s : ℕ) → f s ≡ g s) → (xs : List ℕ) → map f xs ≡ map g xs
map_same f g h [] = refl
map_same f g h (x ∷ xs) = ap₂ (λ y ys. y ∷ ys) (h x) (map_same f g h xs)

row_of_state : (b : Bool) (s : ℕ) (row : List Entry) → b ≡ true → row_or_loop b s row ≡ row
row_of_state true s row e = refl
row_of_state false s row e = cc

module _ (p : Component) (policy : List ℕ) (t : ℕ) (known : IsComponent p) (is : IsPolicy p policy) (leads : AllLeadTo (is_state p) (row_by p policy) t) where
  -- ---- the chain that is handed over

  row-at : (s : ℕ) → s < count p → row_of (rows_of p policy) s ≡ row_or_loop (is_state p s) s (row_by p policy s)
  row-at s l = get_or-map-range_with_len (λ s. row_or_loop (is_state p s) s (row_by p policy s)) 0 (count p) s s [] l (zero-add s)

  row-state : (s : ℕ) → is_state p s ≡ true → row_of (rows_of p policy) s ≡ row_by p policy s
  row-state s h = row-at s (state-below p s h) ∙ row_of_state (is_state p s) s (row_by p policy s) h

  rows-len : length (rows_of p policy) ≡ count p
  rows-len = length-map-range_with_len (λ s. row_or_loop (is_state p s) s (row_by p policy s)) 0 (count p)

  active-len : length (active_of p t) ≡ count p
  active-len = length-map-range_with_len (active (is_state p) t) 0 (count p)

  active-below : (s : ℕ) → s < count p → is_active (active_of p t) s ≡ active (is_state p) t s
  active-below s l = get_or-map-range_with_len (active (is_state p) t) 0 (count p) s s false l (zero-add s)

  not_state : (s : ℕ) → count p ≤ s → (b : Bool) → is_state p s ≡ b → b ≡ false
  not_state s l true e = absurd (let k = state-below p s e in omega arith)
  not_state s l false e = refl

  active_by : (s : ℕ) → (count p ≤ s) ⊎ (s < count p) → is_active (active_of p t) s ≡ active (is_state p) t s
  active_by s (inr l) = active-below s l
  active_by s (inl l) =
      let n = active-len in
      let k : length (active_of p t) ≤ s = omega arith in
      get_or-eq_default (active_of p t) false k ∙ sym (active-outside (is_state p) t s (not_state s l (is_state p s) refl))

  active-at : (s : ℕ) → is_active (active_of p t) s ≡ active (is_state p) t s
  active-at s = active_by s (le_or (count p) s)

  is_row : (s : ℕ) → s < count p → (is_state p s ≡ true) ⊎ (is_state p s ≡ false) → IsRow (count p) (row_of (rows_of p policy) s)
  is_row s l (inl h) =
      let chain = policy-chain p policy known is in
      subst (IsRow (count p)) (sym (row-state s h)) (record { distribution = chain.rows s h; in_range = λ k d i. state-below p _ (chain.stays s h k d i) })
  is_row s l (inr h) = subst (IsRow (count p)) (sym (row-at s l ∙ ap (λ (b : Bool). row_or_loop b s (row_by p policy s)) h)) (loop (count p) s l)

  chain_rows : AreRows (rows_of p policy)
  chain_rows = λ k d l.
      let n = rows-len in
      let m : k < count p = omega arith in
      subst (λ (r : List Entry). IsRow (length (rows_of p policy)) r) (get_or_default (rows_of p policy) k [] d l)
      (subst (λ (i : ℕ). IsRow i (row_of (rows_of p policy) k)) (sym n) (is_row k m (test_or_not (is_state p k))))

  ranks : List ℕ
  ranks = map leads.rank (range_with_len 0 (count p))

  rank-at : (s : ℕ) → s < count p → slice_index ranks s ≡ leads.rank s
  unfolding ranks
  rank-at s l = get_or-map-range_with_len leads.rank 0 (count p) s s 0 l (zero-add s)

  leaves : Leaves (rows_of p policy) (active_of p t) ranks
  leaves = record { falls = λ s l a. falls_at s (sym (active-at s) ∙ a) }
    where
      smaller : {i j a b : ℕ} → i ≡ a → j ≡ b → a < b → i < j
      smaller e f l = omega arith

      falls_at : (s : ℕ) → active (is_state p) t s ≡ true → Any (λ x. (is_active (active_of p t) x.target ≡ false) ⊎ (slice_index ranks x.target < slice_index ranks s)) (row_of (rows_of p policy) s)
      falls_at s a =
          let h = active-state (is_state p) t s a in
          let chain = policy-chain p policy known is in
          let both =
          Any-and (λ (y : Entry). is_state p y.target ≡ true) (λ (y : Entry). leads.rank y.target < leads.rank s) (row_by p policy s) (chain.stays s h)
          (leads.falls s h (active-other (is_state p) t s a)) in
          subst (λ (r : List Entry). Any (λ x. (is_active (active_of p t) x.target ≡ false) ⊎ (slice_index ranks x.target < slice_index ranks s)) r) (sym (row-state s h))
          (both.0, both.1, both.2, both.3, inr (smaller (rank-at (target both.1) (state-below p (target both.1) both.4.0)) (rank-at s (state-below p s h)) both.4.1))

  leaving : LeavingChain (rows_of p policy) (active_of p t) ranks
  leaving = record { distributions = chain_rows; marks = active-len ∙ sym rows-len; leaves = leaves }

  -- what solves the system is earned on the way
  earned_of : (c x : List ℚ) (reward : ℕ → ℚ) → ((s : ℕ) → is_state p s ≡ true → value_at c s ≡ reward s) → IsSolution (rows_of p policy) (active_of p t) c x
      → IsEarned (is_state p) (row_by p policy) t reward (value_at x)
  earned_of c x reward e sol = record {
    outside = λ s a. sol.outside s (active-at s ∙ a);
    inside = λ s a.
        let h = active-state (is_state p) t s a in
        sol.inside s (active-at s ∙ a) ∙ ap₂ (λ (r : ℚ) (es : List Entry). r +ℚ row_sum es x) (e s h) (row-state s h);
  }

  -- ---- the gain and the bias

  ratio-is : (x y : List ℚ) (g : ℚ) → written_ratio p policy t x y ≡ Some g → g ≡ (reward_by p policy t +ℚ row_sum (row_by p policy t) x) /ℚ (1ℚ +ℚ row_sum (row_by p policy t) y)
  ratio-is x y g h =
      let a = some_part (written_sum x (reward_by p policy t) (row_by p policy t)) (λ earned. written_sum y 1ℚ (row_by p policy t) >>= (λ steps. written_div earned steps)) g h in
      let b = some_part (written_sum y 1ℚ (row_by p policy t)) (λ steps. written_div a.0 steps) g a.2 in
      written_mul-some a.0 _ g (sym b.2) ∙ ap₂ (λ (u w : ℚ). u /ℚ w) (written_sum-is x (reward_by p policy t) a.0 (row_by p policy t) a.1) (written_sum-is y 1ℚ b.0 (row_by p policy t) b.1)

  bias-is : (g x y r : ℚ) → written_bias g x y ≡ Some r → r ≡ x -ℚ g *ℚ y
  bias-is g x y r h =
      let a = some_part (written_mul g y) (λ paid. written_sub x paid) r h in
      written_add-some x _ r (sym a.2) ∙ ap (λ (u : ℚ). x -ℚ u) (written_mul-some g y a.0 (sym a.1))

  module _ (x y : List ℚ) (ex : IsEarned (is_state p) (row_by p policy) t (reward_by p policy) (value_at x)) (ey : IsEarned (is_state p) (row_by p policy) t (λ s. 1ℚ) (value_at y)) where
    none_by : (s : ℕ) (g : ℚ) → active (is_state p) t s ≡ false → 0ℚ ≡ value_at x s -ℚ g *ℚ value_at y s
    none_by s g a =
        combine 3 (λ x g y. lit (pos 0)) (λ x g y. x ⊕ ⊖ (g ⊗ y)) (λ x g y. equal (lit (negsuc 0)) x (lit (pos 0)) ∷ equal g y (lit (pos 0)) ∷ []) refl (value_at x s) g (value_at y s)
        (IsEarned-outside ex s a) (IsEarned-outside ey s a)
      where
        IsEarned-outside : {reward z : ℕ → ℚ} → IsEarned (is_state p) (row_by p policy) t reward z → (s : ℕ) → active (is_state p) t s ≡ false → z s ≡ 0ℚ
        IsEarned-outside e s a = Solves.outside e s a

    if_true : (b : Bool) (i j : Result ℚ Place) → b ≡ true → (if b then i else j) ≡ i
    if_true true i j e = refl
    if_true false i j e = cc

    if_false : (b : Bool) (i j : Result ℚ Place) → b ≡ false → (if b then i else j) ≡ j
    if_false true i j e = cc
    if_false false i j e = refl

    bias_at : (g : ℚ) (bias : List ℚ) → IsUpTo (bias_of p policy t g x y) (count p) bias → (s : ℕ) → (count p ≤ s) ⊎ (s < count p) → value_at bias s ≡ value_at x s -ℚ g *ℚ value_at y s
    bias_at g bias made s (inl l) =
        let n = IsUpTo.len made in
        let k : length bias ≤ s = omega arith in
        get_or-eq_default bias 0ℚ k ∙ none_by s g (active-outside (is_state p) t s (not_state s l (is_state p s) refl))
    bias_at g bias made s (inr l) = elim (test_or_not (active (is_state p) t s)) as (λ _. value_at bias s ≡ value_at x s -ℚ g *ℚ value_at y s) [
      | inl a ↦
          bias-is g (value_at x s) (value_at y s) (value_at bias s)
          (place_part (evaluating policy s) (written_bias g (value_at x s) (value_at y s)) (value_at bias s)
          (sym (if_true (active (is_state p) t s) (at_place (evaluating policy s) (written_bias g (value_at x s) (value_at y s))) (Ok 0ℚ) a) ∙ IsUpTo.at made s 0ℚ l))
      | inr a ↦
          sym (ok_same 0ℚ (value_at bias s) (sym (if_false (active (is_state p) t s) (at_place (evaluating policy s) (written_bias g (value_at x s) (value_at y s))) (Ok 0ℚ) a)
          ∙ IsUpTo.at made s 0ℚ l))
          ∙ none_by s g a
    ]

    biases-are : (v : Values) → written_biases p policy t x y ≡ Ok v → IsEvaluation (is_state p) (row_by p policy) (reward_by p policy) t v.gain (value_at v.bias)
    biases-are v h =
        let a = ok_part (written_gain p policy t x y) (with_biases p policy t x y) v h in
        let b = ok_part (written_bias_list p policy t a.0 x y) (λ bias. Ok (record { gain = a.0; bias = bias })) v a.2 in
        subst (λ (v : Values). IsEvaluation (is_state p) (row_by p policy) (reward_by p policy) t v.gain (value_at v.bias)) (ok_same _ v b.2)
        (record {
          x = value_at x;
          y = value_at y;
          earned = ex;
          steps = ey;
          gain_is = ratio-is x y a.0 (place_part (evaluating policy t) (written_ratio p policy t x y) a.0 a.1);
          bias_is = λ s. bias_at a.0 b.0 (up_to-is (bias_of p policy t a.0 x y) (count p) b.0 b.1) s (le_or (count p) s);
        })

  placed_part : {A : Type 0} (r : Result A ℕ) (x : A) → placed policy r ≡ Ok x → r ≡ Ok x
  placed_part (Ok y) x h = cc
  placed_part (Err s) x h = cc

  column : (f : ℕ → ℚ) (s : ℕ) → is_state p s ≡ true → value_at (map f (range_with_len 0 (count p))) s ≡ f s
  column f s h = get_or-map-range_with_len f 0 (count p) s s 0ℚ (state-below p s h) (zero-add s)

  pub values-are : GivesSolutions → (v : Values) → written_values p policy t ≡ Ok v → IsEvaluation (is_state p) (row_by p policy) (reward_by p policy) t v.gain (value_at v.bias)
  values-are gives v h =
      let columns : List (List ℚ) = rewards_of p policy ∷ ones_of p ∷ [] in
      let a = ok_part (written_columns p policy t) (from_columns p policy t) v h in
      let solved : SolveEach (rows_of p policy) (active_of p t) (rewards_of p policy ∷ ones_of p ∷ []) a.0 =
      gives (rows_of p policy) (active_of p t) ranks (rewards_of p policy ∷ ones_of p ∷ []) a.0 leaving (inr refl)
      (placed_part (written_solution (rows_of p policy) (active_of p t) (rewards_of p policy ∷ ones_of p ∷ [])) a.0 a.1) in
      biases-are (slice_index_or a.0 0 []) (slice_index_or a.0 1 [])
      (earned_of (rewards_of p policy) (slice_index_or a.0 0 []) (reward_by p policy) (column (reward_by p policy)) (solved.1 0 (omega arith)))
      (earned_of (ones_of p) (slice_index_or a.0 1 []) (λ s. 1ℚ) (column (λ s. 1ℚ)) (solved.1 1 (omega arith)))
      v a.2

  -- a way from t back to t has at least one step
  pub steps-least : GivesSolutions → (xs : List (List ℚ)) → written_columns p policy t ≡ Ok xs → 1ℚ ≤ℚ 1ℚ +ℚ mean (row_by p policy t) (value_at (slice_index_or xs 1 []))
  steps-least gives xs h =
      let solved : SolveEach (rows_of p policy) (active_of p t) (rewards_of p policy ∷ ones_of p ∷ []) xs =
      gives (rows_of p policy) (active_of p t) ranks (rewards_of p policy ∷ ones_of p ∷ []) xs leaving (inr refl)
      (placed_part (written_solution (rows_of p policy) (active_of p t) (rewards_of p policy ∷ ones_of p ∷ [])) xs h) in
      steps-ge_one (is_state p) (count p) (row_by p policy) (policy-chain p policy known is) t leads (value_at (slice_index_or xs 1 []))
      (earned_of (ones_of p) (slice_index_or xs 1 []) (λ s. 1ℚ) (column (λ s. 1ℚ)) (solved.1 1 (omega arith)))

  -- rows that are the policy's at the states of the component make the same system, whatever they are elsewhere
  module _ (rows : List (List Entry)) (len : length rows ≡ count p) (same : (s : ℕ) → is_state p s ≡ true → row_of rows s ≡ row_by p policy s) where
    pub rows-leave : (ranks : List ℕ) × Leaves rows (active_of p t) ranks
    rows-leave = (
      ranks,
      record {
        falls = λ s l a.
            let h = active-state (is_state p) t s (sym (active-at s) ∙ a) in
            let b = state-below p s h in
            subst (λ (r : List Entry). Any (λ x. (is_active (active_of p t) x.target ≡ false) ⊎ (slice_index ranks x.target < slice_index ranks s)) r) (row-state s h ∙ sym (same s h))
            (leaves.falls s (let n = rows-len in omega arith) a);
      },
    )

    equation_by : (columns : List (List ℚ)) (s : ℕ) (b : Bool) → is_active (active_of p t) s ≡ b → equation_of rows (active_of p t) columns s ≡ equation_of (rows_of p policy) (active_of p t) columns s
    unfolding equation_of
    equation_by columns s true e =
        let h = active-state (is_state p) t s (sym (active-at s) ∙ e) in
        ap (λ (r : List Entry). if is_active (active_of p t) s then made columns s r else no_equation) (same s h ∙ sym (row-state s h))
      where
        made : List (List ℚ) → ℕ → List Entry → Equation
        made columns s r = record { entries = inner (active_of p t) r; first = column_at columns 0 s; second = column_at columns 1 s }
    equation_by columns s false e =
        ap (λ (b : Bool). let q : Equation = if b then record {
          entries = inner (active_of p t)
              (row_of rows s);
          first = column_at columns 0 s;
          second = column_at columns 1 s;
        } else no_equation in q) e
        ∙ sym (ap (λ (b : Bool). let q : Equation = if b then record {
          entries = inner (active_of p t)
              (row_of (rows_of p policy) s);
          first = column_at columns 0 s;
          second = column_at columns 1 s;
        } else no_equation in q) e)

    same-system : (columns : List (List ℚ)) → system rows (active_of p t) columns ≡ system (rows_of p policy) (active_of p t) columns
    same-system columns =
        ap (λ n. map (equation_of rows (active_of p t) columns) (range_with_len 0 n)) (len ∙ sym rows-len)
        ∙ map_same (equation_of rows (active_of p t) columns) (equation_of (rows_of p policy) (active_of p t) columns)
        (λ s. equation_by columns s (is_active (active_of p t) s) refl) (range_with_len 0 (length (rows_of p policy)))

    pub same-solution : (columns : List (List ℚ)) → written_solution rows (active_of p t) columns ≡ written_solution (rows_of p policy) (active_of p t) columns
    same-solution columns =
        ap (λ n. kept (columns_of (length columns)) (solution n (system rows (active_of p t) columns))) (len ∙ sym rows-len)
        ∙ ap (λ (q : List Equation). kept (columns_of (length columns)) (solution (length (rows_of p policy)) q)) (same-system columns)

pub evaluates_exactly : GivesSolutions → EvaluatesExactly
evaluates_exactly gives p policy t v known is leads h = values-are p policy t known is leads gives v h
