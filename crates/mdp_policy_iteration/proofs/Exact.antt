-- The exact values of a policy: where it leaves its active nodes they exist, there is only one list of them, and written evaluation gives it.
use Rattle.std.proofs.Common.{◌≡◌, ℕ, ◌<◌, ◌≤◌, ◌⊎◌, inl, inr, Bool, true, false, not, if◌then◌else◌, List, [], ◌∷◌}
use Rattle.std.proofs.Common.{length, map, Some, Result, Ok, Err, refl, sym, ◌∙◌, ap, ap₂, subst, arith, pos, negsuc, zero-add}
use Rattle.std.proofs.{Math.ListN.{get_or-eq_default}, lemmas.List.FromFn.{get_or-map-range_with_len, length-map-range_with_len, fill_by_all}}
use Rattle.std.specs.{List.{range_with_len}, Prelude.{slice_index_or}}
use Rattle.mdp_math.specs.{Rational.{ℚ, ◌+ℚ◌, ◌*ℚ◌, ◌≤ℚ◌}, Kernel.{weigh}, Pivot.{active_below, entry_at, solution}}
use Rattle.mdp_math.proofs.{Ring.{◌⊕◌, ◌⊗◌, ⊖, lit, ring}, Laws.{rat_ring}, Linear.{combine, equal}, Numbers.{le_or}, Order.{0ℚ, ≤ℚ_of_eq, ≤ℚ_antisymm}}
use Rattle.mdp_math.proofs.{Kernel.{weigh-same, weigh-add}, Solutions.{Solves, le_of_rows}, Elimination.{kernel_solution}}
use Rattle.mdp_spec.specs.{Mdp.{Entry, value_at}, Row.{row_sum}}
use Rattle.mdp_elim.specs.{System.{is_active, row_of, IsSolution, SolveEach}, Solve.{written_solution}, Laws.{GivesSolutions}}
use Rattle.mdp_policy_iteration.specs.Problem.{Problem, Move, stop, go, count, goes_on, amount, row_from, taken, active_of, rows_of, IsProblem, IsPolicy, worth}
use Rattle.mdp_policy_iteration.specs.{Values.{IsValue, CanLeave}, Places.{up_to, all_pass}}
use Rattle.mdp_policy_iteration.specs.Path.{fits, solved, values_of_rows, stop_value, boundary, outer, constant_by, evaluating, constant, placed, filled_by, filled, written_values}
use Rattle.mdp_policy_iteration.proofs.{Results.{ok_same, ok_part, place_part, IsUpTo, up_to-is}, Compares.{written_sum-is}}
use Rattle.mdp_policy_iteration.proofs.Chain.{target, prob, row-at, active-at, active-below, goes_by, stops_by, row_active, chain-shrinks, leaving_chain}

-- the entries to nodes that aren't active weigh as much as all, where the values are 0 at active nodes
module _ (active : List Bool) (z : List ℚ) (zero_at : (s : ℕ) → is_active active s ≡ true → value_at z s ≡ 0ℚ) where
  outer_by : (y : Entry) (row : List Entry) (b : Bool) → is_active active y.target ≡ b → row_sum (outer active row) z ≡ row_sum row z
      → row_sum (if not b then y ∷ outer active row else outer active row) z ≡ row_sum (y ∷ row) z
  outer_by y row false e h = ap (λ (o : ℚ). y.prob *ℚ value_at z y.target +ℚ o) h
  outer_by y row true e h =
      combine 4 (λ i o p k. i) (λ i o p k. p ⊗ k ⊕ o) (λ i o p k. equal (lit (pos 1)) i o ∷ equal (⊖ p) k (lit (pos 0)) ∷ []) refl (row_sum (outer active row) z) (row_sum row z) y.prob
      (value_at z y.target) h (zero_at y.target e)

  pub outer-same : (row : List Entry) → row_sum (outer active row) z ≡ row_sum row z
  outer-same [] = refl
  outer-same (y ∷ row) = outer_by y row (is_active active y.target) refl (outer-same row)

-- the values by exact elimination, whether the policy leaves its active nodes or not
module _ (p : Problem) (policy : List ℕ) where
  abbrev held : ℕ → ℚ
  held = value_at (boundary p policy)

  abbrev active : ℕ → Bool
  active = is_active (active_of p policy)

  abbrev row : ℕ → List Entry
  row = row_of (rows_of p policy)

  abbrev constants : ℕ → ℚ
  constants s = amount (taken p policy s) +ℚ weigh target prob held (row s)

  exact_solution : ℕ → ℚ
  exact_solution = solution (active_below active (count p)) (λ s. entry_at target prob (row s)) constants

  pub exact : List ℚ
  exact = map (λ s. held s +ℚ exact_solution s) (range_with_len 0 (count p))

module _ (p : Problem) (policy : List ℕ) (known : IsProblem p) (is : IsPolicy p policy) where
  held-at : (s : ℕ) → s < count p → (held p policy) s ≡ stop_value (taken p policy s)
  held-at s l = get_or-map-range_with_len (λ s. stop_value (taken p policy s)) 0 (count p) s s 0ℚ l (zero-add s)

  held-active : (s : ℕ) → (active p policy) s ≡ true → (held p policy) s ≡ 0ℚ
  held-active s a = let l = active-below p policy s a in let g = goes_by (taken p policy s) (sym (active-at p policy s l) ∙ a) in held-at s l ∙ ap stop_value g.is

  -- the row and the earnings of an active node
  row-goes : (s : ℕ) (a : (active p policy) s ≡ true) (r : ℚ) (es : List Entry) → taken p policy s ≡ go r es → (row p policy) s ≡ es
  row-goes s a r es e = row-at p policy s (active-below p policy s a) ∙ ap (row_from s) e

  -- ---- values, in parts

  -- what the nodes that stop hold, and a solution of the chain's system
  record IsPart (sol : ℕ → ℚ) : Type 0 where
    inside : (s : ℕ) → (active p policy) s ≡ true → sol s ≡ (amount (taken p policy s) +ℚ weigh target prob (held p policy) ((row p policy) s)) +ℚ weigh target prob sol ((row p policy) s)
    outside : (s : ℕ) → (active p policy) s ≡ false → sol s ≡ 0ℚ

  module _ (x : List ℚ) (sol : ℕ → ℚ) (part : IsPart sol) (parts : (s : ℕ) → s < count p → value_at x s ≡ (held p policy) s +ℚ sol s) where
    row_parts : (s : ℕ) → (active p policy) s ≡ true → row_sum ((row p policy) s) x ≡ weigh target prob (held p policy) ((row p policy) s) +ℚ weigh target prob sol ((row p policy) s)
    row_parts s a =
        weigh-same target prob (value_at x) (λ v. (held p policy) v +ℚ sol v) ((row p policy) s) (λ k d l. parts _ ((row_active p policy known is s a).in_range k d l))
        ∙ weigh-add target prob (held p policy) sol ((row p policy) s)

    at_by : (s : ℕ) (b : Bool) → s < count p → (active p policy) s ≡ b → value_at x s ≡ worth x (taken p policy s)
    at_by s true l a =
        let g = goes_by (taken p policy s) (sym (active-at p policy s l) ∙ a) in
        let q : worth x (taken p policy s) ≡ g.earned +ℚ row_sum g.row x = ap (worth x) g.is in
        let same : row_sum ((row p policy) s) x ≡ row_sum g.row x = ap (λ (r : List Entry). row_sum r x) (row-goes s a g.earned g.row g.is) in
        combine 9 (λ x h s w k b c e m. x) (λ x h s w k b c e m. w)
        (λ x h s w k b c e m. equal (lit (pos 1)) x (h ⊕ s) ∷ equal (lit (pos 1)) h (lit (pos 0)) ∷ equal (lit (pos 1)) s ((m ⊕ b) ⊕ c) ∷ equal (lit (negsuc 0)) k (b ⊕ c) ∷ equal
        (lit (pos 1)) m e ∷ equal (lit (negsuc 0)) w (e ⊕ k) ∷ []) refl
        (value_at x s) ((held p policy) s) (sol s) (worth x (taken p policy s)) (row_sum ((row p policy) s) x) (weigh target prob (held p policy) ((row p policy) s))
        (weigh target prob sol ((row p policy) s)) g.earned (amount (taken p policy s))
        (parts s l) (held-active s a) (part.inside s a) (row_parts s a) (ap amount g.is) (q ∙ ap (λ (o : ℚ). g.earned +ℚ o) (sym same))
    at_by s false l a =
        let g = stops_by (taken p policy s) (sym (active-at p policy s l) ∙ a) in
        combine 5 (λ x h s w v. x) (λ x h s w v. w) (λ x h s w v. equal (lit (pos 1)) x (h ⊕ s) ∷ equal (lit (pos 1)) h v ∷ equal (lit (pos 1)) s (lit (pos 0)) ∷ equal (lit (negsuc 0)) w v ∷ []) refl
        (value_at x s) ((held p policy) s) (sol s) (worth x (taken p policy s)) g.value (parts s l) (held-at s l ∙ ap stop_value g.is) (part.outside s a) (ap (worth x) g.is)

    value-of_parts : length x ≡ count p → IsValue p policy x
    value-of_parts len = record { len = len; at = λ s l. at_by s ((active p policy) s) l refl }

  -- ---- they exist

  pub exact-is : CanLeave p policy → IsValue p policy (exact p policy)
  unfolding exact exact_solution
  exact-is leaves =
      let K = chain-shrinks p policy known is leaves in
      let solves : Solves target prob (active p policy) (row p policy) (constants p policy) (exact_solution p policy) = kernel_solution K (count p) (active-below p policy) (row p policy)
      (λ s a. refl) (constants p policy) in
      value-of_parts (exact p policy) (exact_solution p policy) (record { inside = solves.inside; outside = solves.outside })
      (λ s l. get_or-map-range_with_len (λ s. (held p policy) s +ℚ (exact_solution p policy) s) 0 (count p) s s 0ℚ l (zero-add s))
      (length-map-range_with_len (λ s. (held p policy) s +ℚ (exact_solution p policy) s) 0 (count p))

  -- ---- there is one list of them

  module _ (x : List ℚ) (value : IsValue p policy x) where
    pub value-active : (s : ℕ) → (active p policy) s ≡ true → value_at x s ≡ amount (taken p policy s) +ℚ row_sum ((row p policy) s) x
    value-active s a =
        let l = active-below p policy s a in
        let g = goes_by (taken p policy s) (sym (active-at p policy s l) ∙ a) in
        value.at s l ∙ ap (worth x) g.is ∙ ap₂ (λ (r : ℚ) (es : List Entry). r +ℚ row_sum es x) (sym (ap amount g.is)) (sym (row-goes s a g.earned g.row g.is))

    inactive_by : (s : ℕ) → (count p ≤ s) ⊎ (s < count p) → (active p policy) s ≡ false → value_at x s ≡ (held p policy) s
    inactive_by s (inl l) a =
        let n = length-map-range_with_len (λ s. stop_value (taken p policy s)) 0 (count p) in
        let m = value.len in
        let i : length x ≤ s = omega arith in
        let j : length (boundary p policy) ≤ s = omega arith in
        get_or-eq_default x 0ℚ i ∙ sym (get_or-eq_default (boundary p policy) 0ℚ j)
    inactive_by s (inr l) a = let g = stops_by (taken p policy s) (sym (active-at p policy s l) ∙ a) in value.at s l ∙ ap (worth x) g.is ∙ sym (held-at s l ∙ ap stop_value g.is)

    pub value-inactive : (s : ℕ) → (active p policy) s ≡ false → value_at x s ≡ (held p policy) s
    value-inactive s a = inactive_by s (le_or (count p) s) a

  one_le : (x y : List ℚ) → CanLeave p policy → IsValue p policy x → IsValue p policy y → (s : ℕ) → value_at x s ≤ℚ value_at y s
  one_le x y leaves vx vy s =
      le_of_rows (chain-shrinks p policy known is leaves) (count p) (active-below p policy) (row p policy) (λ s a. refl) (λ s. amount (taken p policy s)) (value_at y) (value_at x)
      (λ s a. ≤ℚ_of_eq _ _ (value-inactive x vx s a ∙ sym (value-inactive y vy s a))) (λ s a. ≤ℚ_of_eq _ _ (sym (value-active y vy s a))) (λ s a. ≤ℚ_of_eq _ _ (value-active x vx s a)) s

  pub one_value : (x y : List ℚ) → CanLeave p policy → IsValue p policy x → IsValue p policy y → x ≡ y
  one_value x y leaves vx vy =
      fill_by_all (value_at y) x (count p) 0ℚ vx.len (λ k l. ≤ℚ_antisymm _ _ (one_le x y leaves vx vy k) (one_le y x leaves vy vx k))
      ∙ sym (fill_by_all (value_at y) y (count p) 0ℚ vy.len (λ k l. refl))

  -- ---- written evaluation gives them

  constant_is : (m : Move) (e : ℚ) → goes_on m ≡ true → constant_by (active_of p policy) (boundary p policy) m ≡ Some e
      → (r : ℚ) × (es : List Entry) × (m ≡ go r es) × (e ≡ r +ℚ row_sum es (boundary p policy))
  constant_is (stop v) e a h = cc
  constant_is (go r es) e a h =
      (r, es, refl, written_sum-is (boundary p policy) r e (outer (active_of p policy) es) h ∙ ap (λ (o : ℚ). r +ℚ o) (outer-same (active_of p policy) (boundary p policy) held-active es))

  filled_is : (m : Move) (z : List ℚ) (s : ℕ) (b : Bool) → goes_on m ≡ b → (b ≡ false → value_at z s ≡ 0ℚ) → filled_by z s m ≡ stop_value m +ℚ value_at z s
  filled_is (stop v) z s true e h = cc
  filled_is (stop v) z s false e h = combine 2 (λ v z. v) (λ v z. v ⊕ z) (λ v z. equal (lit (negsuc 0)) z (lit (pos 0)) ∷ []) refl v (value_at z s) (h refl)
  filled_is (go r es) z s b e h = ring rat_ring 1 (λ z. z) (λ z. lit (pos 0) ⊕ z) refl (value_at z s)

  filled-values : (c z : List ℚ) → IsUpTo (constant p policy) (count p) c → IsSolution (rows_of p policy) (active_of p policy) c z → IsValue p policy (filled p policy z)
  filled-values c z made sol =
      value-of_parts (filled p policy z) (value_at z)
      (record {
        inside = λ s a.
            let l = active-below p policy s a in
            let e = constant_is (taken p policy s) (value_at c s) (sym (active-at p policy s l) ∙ a)
            (place_part (evaluating policy s) (constant_by (active_of p policy) (boundary p policy) (taken p policy s)) (value_at c s) (IsUpTo.at made s 0ℚ l)) in
            let q : value_at c s ≡ amount (taken p policy s) +ℚ weigh target prob (held p policy) ((row p policy) s) =
            e.3 ∙ ap₂ (λ (r : ℚ) (es : List Entry). r +ℚ row_sum es (boundary p policy)) (sym (ap amount e.2)) (sym (row-goes s a e.0 e.1 e.2)) in
            sol.inside s a ∙ ap (λ (o : ℚ). o +ℚ row_sum ((row p policy) s) z) q;
        outside = sol.outside;
      })
      (λ s l.
      get_or-map-range_with_len (λ s. filled_by z s (taken p policy s)) 0 (count p) s s 0ℚ l (zero-add s)
      ∙ filled_is (taken p policy s) z s (goes_on (taken p policy s)) refl (λ e. sol.outside s (active-at p policy s l ∙ e))
      ∙ ap (λ (o : ℚ). o +ℚ value_at z s) (sym (held-at s l)))
      (length-map-range_with_len (λ s. filled_by z s (taken p policy s)) 0 (count p))

  placed_part : {A : Type 0} (r : Result A ℕ) (x : A) → placed policy r ≡ Ok x → r ≡ Ok x
  placed_part (Ok y) x h = cc
  placed_part (Err s) x h = cc

  pub written-exact : GivesSolutions → CanLeave p policy → (x : List ℚ) → written_values p policy ≡ Ok x → IsValue p policy x
  written-exact gives leaves x h =
      let made = ok_part (all_pass (fits p policy) (evaluating policy) (count p)) (λ made. values_of_rows p policy) x h in
      let a = ok_part (up_to (constant p policy) (count p)) (solved p policy) x made.2 in
      let b = ok_part (placed policy (written_solution (rows_of p policy) (active_of p policy) (a.0 ∷ []))) (λ xs. Ok (filled p policy (slice_index_or xs 0 []))) x a.2 in
      let solved : SolveEach (rows_of p policy) (active_of p policy) (a.0 ∷ []) b.0 =
      gives (rows_of p policy) (active_of p policy) leaves.0 (a.0 ∷ []) b.0 (leaving_chain p policy known is leaves) (inl refl)
      (placed_part (written_solution (rows_of p policy) (active_of p policy) (a.0 ∷ [])) b.0 b.1) in
      subst (IsValue p policy) (ok_same (filled p policy (slice_index_or b.0 0 [])) x b.2)
      (filled-values a.0 (slice_index_or b.0 0 []) (up_to-is (constant p policy) (count p) a.0 a.1) (solved.1 0 (omega arith)))
