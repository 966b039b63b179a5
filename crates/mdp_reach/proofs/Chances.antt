-- The values of a policy that leaves its open states are probabilities: from 0 to 1, 1 at goals, 0 at other states that aren't open, and at an open
-- state what its row sums to.
use Rattle.std.proofs.Common.{◌≡◌, ℕ, ◌<◌, ◌≤◌, ◌⊎◌, inl, inr, Bool, true, false, List, [], ◌∷◌, length, refl, sym, ◌∙◌, ap, subst, arith, pos}
use Rattle.std.proofs.Math.ListN.{get_or-eq_default}
use Rattle.std.specs.{List.{All}, Prelude.{slice_index}}
use Rattle.mdp_math.specs.{Rational.{ℚ, ◌+ℚ◌, ◌≤ℚ◌}, Sum.{sum_of}, Kernel.{weigh}}
use Rattle.mdp_math.proofs.{Ring.{◌⊕◌, ◌⊗◌, lit, ring}, Laws.{rat_ring}, Linear.{linear, equal, known}, Numbers.{le_or}}
use Rattle.mdp_math.proofs.{Order.{0ℚ, 1ℚ, ≤ℚ_refl, ≤ℚ_trans, ≤ℚ_of_eq, ≤ℚ_of_lt}, Kernel.{weigh-const, weigh-le, weigh-le_const, weigh-nonneg}}
use Rattle.mdp_math.proofs.{Solutions.{le_of_rows}, Whole.{one-pos}}
use Rattle.mdp_spec.specs.{Mdp.{Mdp, Entry, states_of, row_at, value_at}, Row.{IsMdp, IsRow, row_sum}, Tree.{is_marked}}
use Rattle.mdp_rows.specs.declared.dir.Dir.{Dir}
use Rattle.mdp_elim.specs.System.{is_active, row_of}
use Rattle.mdp_policy_iteration.specs.{Problem.{Problem, count, active_of, rows_of, IsProblem, IsPolicy, worth}, Values.{IsValue, CanLeave}}
use Rattle.mdp_policy_iteration.proofs.{Chain.{target, prob, active-below, row_active, ChainShrinks, chain-shrinks}, Exact.{value-active}}
use Rattle.mdp_reach.specs.Problem.{reach_problem}
use Rattle.mdp_reach.proofs.Nodes.{reach-count, reach-known}
use Rattle.mdp_reach.proofs.Policies.{open_at, is_node, goal-move, closed-move, open-move, open-active, active-open, open-amount}

-- what a row sums to, from below and above
module _ (n : ℕ) (row : List Entry) (known : IsRow n row) where
  abbrev entries_nonneg : All (λ y. 0ℚ ≤ℚ y.prob) row
  entries_nonneg k d l = ≤ℚ_of_lt 0ℚ _ (known.distribution.positive k d l)

  pub sum-nonneg : (z : List ℚ) → ((s : ℕ) → 0ℚ ≤ℚ value_at z s) → 0ℚ ≤ℚ row_sum row z
  sum-nonneg z h = weigh-nonneg target prob (value_at z) row entries_nonneg h

  pub sum-zero : (f : ℕ → ℚ) → All (λ y. f y.target ≤ℚ 0ℚ) row → weigh target prob f row ≤ℚ 0ℚ
  sum-zero f h =
      ≤ℚ_trans _ _ _ (weigh-le_const target prob f 0ℚ row entries_nonneg h) (≤ℚ_of_eq _ _ (ring rat_ring 1 (λ t. lit (pos 0) ⊗ t) (λ t. lit (pos 0)) refl (sum_of prob row)))

module _ (dir : Dir) (m : Mdp) (goals marks : List Bool) (model : IsMdp m) (policy : List ℕ) (is : IsPolicy (reach_problem dir m goals marks) policy)
    (leaves : CanLeave (reach_problem dir m goals marks) policy) (x : List ℚ) (value : IsValue (reach_problem dir m goals marks) policy x) where
  abbrev q : Problem
  q = reach_problem dir m goals marks

  abbrev problem : IsProblem q
  problem = reach-known dir m goals marks model

  abbrev z : ℕ → ℚ
  z = value_at x

  abbrev active : ℕ → Bool
  active = is_active (active_of q policy)

  abbrev row : ℕ → List Entry
  row = row_of (rows_of q policy)

  abbrev choice : ℕ → ℕ
  choice s = slice_index policy s

  -- ---- state by state

  pub goal-value : (s : ℕ) → s < states_of m → is_marked goals s ≡ true → z s ≡ 1ℚ
  goal-value s l g = value.at s (is_node dir m goals marks s l) ∙ ap (worth x) (goal-move dir m goals marks policy is s l g)

  pub closed-value : (s : ℕ) → s < states_of m → is_marked goals s ≡ false → open_at dir m goals marks s ≡ false → z s ≡ 0ℚ
  closed-value s l g o = value.at s (is_node dir m goals marks s l) ∙ ap (worth x) (closed-move dir m goals marks policy is s l g o)

  pub open-value : (s : ℕ) → s < states_of m → is_marked goals s ≡ false → open_at dir m goals marks s ≡ true → z s ≡ row_sum (row_at m s (choice s)) x
  open-value s l g o =
      value.at s (is_node dir m goals marks s l) ∙ ap (worth x) (open-move dir m goals marks policy is s l g o)
      ∙ ring rat_ring 1 (λ v. lit (pos 0) ⊕ v) (λ v. v) refl (row_sum (row_at m s (choice s)) x)

  -- at an active state it is the sum over the chain's row
  active-value : (s : ℕ) → active s ≡ true → z s ≡ 0ℚ +ℚ weigh target prob z (row s)
  active-value s a =
      let o = active-open dir m goals marks policy is s a in
      value-active q policy problem is x value s a ∙ ap (λ (r : ℚ). r +ℚ row_sum (row s) x) (open-amount dir m goals marks policy is s o)

  inactive_by : (s : ℕ) (g o : Bool) → s < states_of m → is_marked goals s ≡ g → open_at dir m goals marks s ≡ o → active s ≡ false → ((is_marked goals s ≡ false) × (z s ≡ 0ℚ)) ⊎ (z s ≡ 1ℚ)
  inactive_by s true o l eg eo a = inr (goal-value s l eg)
  inactive_by s false false l eg eo a = inl (eg, closed-value s l eg eo)
  inactive_by s false true l eg eo a = absurd (let e : true ≡ false = sym (open-active dir m goals marks policy is s l eg eo) ∙ a in cc)

  -- past the last state it is 0
  past-value : (s : ℕ) → states_of m ≤ s → z s ≡ 0ℚ
  past-value s l = let n = value.len in let c = reach-count dir m goals marks in let k : length x ≤ s = omega arith in get_or-eq_default x 0ℚ k

  -- at a state that isn't active it is 0 or 1
  inactive_or : (s : ℕ) → active s ≡ false → (states_of m ≤ s) ⊎ (s < states_of m) → (z s ≡ 0ℚ) ⊎ (z s ≡ 1ℚ)
  inactive_or s a (inl l) = inl (past-value s l)
  inactive_or s a (inr l) = elim (inactive_by s (is_marked goals s) (open_at dir m goals marks s) l refl refl a) as (λ _. (z s ≡ 0ℚ) ⊎ (z s ≡ 1ℚ)) [ inl h ↦ inl h.1 | inr h ↦ inr h ]

  inactive-value : (s : ℕ) → active s ≡ false → (z s ≡ 0ℚ) ⊎ (z s ≡ 1ℚ)
  inactive-value s a = inactive_or s a (le_or (states_of m) s)

  -- ---- from 0 to 1

  abbrev K : ChainShrinks q policy problem is
  K = chain-shrinks q policy problem is leaves

  row_known : (s : ℕ) → active s ≡ true → IsRow (count q) (row s)
  row_known s a = row_active q policy problem is s a

  pub nonneg : (s : ℕ) → 0ℚ ≤ℚ z s
  nonneg s =
      le_of_rows K (count q) (active-below q policy) row (λ s a. refl) (λ s. 0ℚ) z (λ s. 0ℚ)
      (λ s a. elim (inactive-value s a) as (λ _. 0ℚ ≤ℚ z s) [ inl h ↦ ≤ℚ_of_eq 0ℚ (z s) (sym h) | inr h ↦ subst (λ (v : ℚ). 0ℚ ≤ℚ v) (sym h) (≤ℚ_of_lt 0ℚ 1ℚ one-pos) ])
      (λ s a. ≤ℚ_of_eq _ _ (sym (active-value s a)))
      (λ s a.
      let w = weigh-const target prob 0ℚ (row s) in
      linear 2 (λ w t. lit (pos 0)) (λ w t. lit (pos 0) ⊕ w) (λ w t. equal (lit (pos 1)) (lit (pos 0) ⊗ t) w ∷ []) refl (weigh target prob (λ v. 0ℚ) (row s)) (sum_of prob (row s)) (sym w))
      s

  pub at-most_one : (s : ℕ) → z s ≤ℚ 1ℚ
  at-most_one s =
      le_of_rows K (count q) (active-below q policy) row (λ s a. refl) (λ s. 0ℚ) (λ s. 1ℚ) z
      (λ s a. elim (inactive-value s a) as (λ _. z s ≤ℚ 1ℚ) [ inl h ↦ subst (λ (v : ℚ). v ≤ℚ 1ℚ) (sym h) (≤ℚ_of_lt 0ℚ 1ℚ one-pos) | inr h ↦ ≤ℚ_of_eq (z s) 1ℚ h ])
      (λ s a.
      let w = weigh-const target prob 1ℚ (row s) in
      linear 2 (λ w t. lit (pos 0) ⊕ w) (λ w t. lit (pos 1)) (λ w t. equal (lit (pos 1)) w (lit (pos 1) ⊗ t) ∷ equal (lit (pos 1)) t (lit (pos 1)) ∷ []) refl
      (weigh target prob (λ v. 1ℚ) (row s)) (sum_of prob (row s)) w (row_known s a).distribution.total)
      (λ s a. ≤ℚ_of_eq _ _ (active-value s a))
      s

  -- ---- outside a set that holds the goals and that no row leads into from outside, the values are 0

  module _ (set : ℕ → Bool) (holds_goals : (s : ℕ) → s < states_of m → is_marked goals s ≡ true → set s ≡ true)
      (stays : (s : ℕ) → active s ≡ true → set s ≡ false → All (λ y. set y.target ≡ false) (row s)) where
    abbrev kept_by : Bool → ℚ → ℚ
    kept_by true v = v
    kept_by false v = 0ℚ

    abbrev y : ℕ → ℚ
    y s = kept_by (set s) (z s)

    kept-le : (b : Bool) (v : ℚ) → 0ℚ ≤ℚ v → kept_by b v ≤ℚ v
    kept-le true v h = ≤ℚ_refl v
    kept-le false v h = h

    kept-out : (b : Bool) (v : ℚ) → b ≡ false → kept_by b v ≤ℚ 0ℚ
    kept-out true v e = cc
    kept-out false v e = ≤ℚ_refl 0ℚ

    out_or : (s : ℕ) (b : Bool) → set s ≡ b → active s ≡ false → (states_of m ≤ s) ⊎ (s < states_of m) → z s ≤ℚ kept_by b (z s)
    out_or s true e a l = ≤ℚ_refl (z s)
    out_or s false e a (inl l) = ≤ℚ_of_eq _ _ (past-value s l)
    out_or s false e a (inr l) = out_of (inactive_by s (is_marked goals s) (open_at dir m goals marks s) l refl refl a)
      where
        goal_or : (g : Bool) → is_marked goals s ≡ g → z s ≡ 1ℚ → z s ≤ℚ 0ℚ
        goal_or true f h = absurd (let k : true ≡ false = sym (holds_goals s l f) ∙ e in cc)
        goal_or false f h = zero_by (open_at dir m goals marks s) refl
          where
            zero_by : (o : Bool) → open_at dir m goals marks s ≡ o → z s ≤ℚ 0ℚ
            zero_by true g = absurd (let k : true ≡ false = sym (open-active dir m goals marks policy is s l f g) ∙ a in cc)
            zero_by false g = ≤ℚ_of_eq _ _ (closed-value s l f g)

        out_of : ((is_marked goals s ≡ false) × (z s ≡ 0ℚ)) ⊎ (z s ≡ 1ℚ) → z s ≤ℚ 0ℚ
        out_of (inl h) = ≤ℚ_of_eq _ _ h.1
        out_of (inr h) = goal_or (is_marked goals s) refl h

    above_by : (s : ℕ) (b : Bool) → set s ≡ b → active s ≡ true → (0ℚ +ℚ weigh target prob y (row s)) ≤ℚ kept_by b (z s)
    above_by s true e a =
        let w = weigh-le target prob y z (row s) (λ k d l. ≤ℚ_of_lt 0ℚ _ ((row_known s a).distribution.positive k d l)) (λ v. kept-le (set v) (z v) (nonneg v)) in
        linear 3 (λ u w v. lit (pos 0) ⊕ u) (λ u w v. v) (λ u w v. known u w ∷ equal (lit (pos 1)) (lit (pos 0) ⊕ w) v ∷ []) refl (weigh target prob y (row s)) (weigh target prob z (row s))
        (z s) w (sym (active-value s a))
    above_by s false e a =
        let w = sum-zero (count q) (row s) (row_known s a) y (λ k d l. kept-out (set _) (z _) (stays s a e k d l)) in
        linear 1 (λ u. lit (pos 0) ⊕ u) (λ u. lit (pos 0)) (λ u. known u (lit (pos 0)) ∷ []) refl (weigh target prob y (row s)) w

    below_kept : (s : ℕ) → z s ≤ℚ y s
    below_kept s =
        le_of_rows K (count q) (active-below q policy) row (λ s a. refl) (λ s. 0ℚ) y z
        (λ s a. out_or s (set s) refl a (le_or (states_of m) s)) (λ s a. above_by s (set s) refl a) (λ s a. ≤ℚ_of_eq _ _ (active-value s a)) s

    pub outside-zero : (s : ℕ) → set s ≡ false → z s ≤ℚ 0ℚ
    outside-zero s e = ≤ℚ_trans _ _ _ (below_kept s) (kept-out (set s) (z s) e)
