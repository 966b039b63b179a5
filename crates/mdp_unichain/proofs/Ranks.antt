-- Walks by chosen choices as ranks: from each state of a closed set some number of steps leads to t, so each has an entry of smaller rank, until t is
-- reached. And back: where ranks fall along the choices, there is a walk.
use Rattle.std.proofs.Common.{◌≡◌, ◌≢◌, ℕ, zero, suc, ◌<◌, ◌≤◌, ◌⊎◌, inl, inr, Bool, true, false, length, sym, ◌∙◌, subst, arith}
use Rattle.std.proofs.lemmas.Bool.{eqb-true, or_cases}
use Rattle.mdp_spec.specs.Mdp.{Mdp, choices_at, row_at}
use Rattle.mdp_rows.specs.Preds.{leads_to}
use Rattle.mdp_graph.specs.Layers.{reached}
use Rattle.mdp_ends.specs.Walks.{chosen_step, comes_to, Reaches}
use Rattle.mdp_ends.proofs.Walking.{step-has, here, one_more}
use Rattle.mdp_unichain.proofs.{Reaching.{LeastOf, least_of, test_or_not}, Chains.{same_or_other}}

module _ (m : Mdp) (chosen : ℕ → ℕ → Bool) (t : ℕ) where
  at_start : (s : ℕ) → comes_to m chosen t 0 s ≡ true → s ≡ t
  unfolding reached
  at_start s e = eqb-true s t e

  at_step : (k s : ℕ) → comes_to m chosen t (suc k) s ≡ true → (comes_to m chosen t k s ≡ true) ⊎ (chosen_step m chosen (comes_to m chosen t k) s ≡ true)
  unfolding reached
  at_step k s e = or_cases (comes_to m chosen t k s) (chosen_step m chosen (comes_to m chosen t k) s) e

  module _ (set : ℕ → Bool) (walks : (s : ℕ) → set s ≡ true → Reaches m chosen s t) where
    least_steps : (s : ℕ) → set s ≡ true → LeastOf (λ k. comes_to m chosen t k s)
    least_steps s h = let w = walks s h in least_of (λ k. comes_to m chosen t k s) (suc w.0) w.0 (omega arith) w.1

    rank_by : (s : ℕ) → (set s ≡ true) ⊎ (set s ≡ false) → ℕ
    rank_by s (inl h) = (least_steps s h).0
    rank_by s (inr o) = 0

    -- the least number of steps to t
    pub walk_rank : ℕ → ℕ
    walk_rank s = rank_by s (test_or_not (set s))

    rank-le : (s k : ℕ) (q : (set s ≡ true) ⊎ (set s ≡ false)) → comes_to m chosen t k s ≡ true → rank_by s q ≤ k
    unfolding rank_by least_steps
    rank-le s k (inl h) e = (least_steps s h).2 k e
    rank-le s k (inr o) e = omega arith

    -- a choice that leads nearer
    pub record LeadsNearer (s : ℕ) : Type 0 where
      pub choice : ℕ
      pub target : ℕ
      pub below : choice < length (choices_at m s)
      pub taken : chosen s choice ≡ true
      pub leads : leads_to target (row_at m s choice) ≡ true
      pub smaller : walk_rank target < walk_rank s

    step_from : (s k : ℕ) → s ≢ t → comes_to m chosen t k s ≡ true → ((j : ℕ) → comes_to m chosen t j s ≡ true → k ≤ j) → walk_rank s ≡ k → LeadsNearer s
    unfolding walk_rank
    step_from s zero o e least is = absurd (o (at_start s e))
    step_from s (suc k) o e least is = elim (at_step k s e) as (λ _. LeadsNearer s) [
      | inl before ↦ absurd (let l = least k before in omega arith)
      | inr stepped ↦
          let z = step-has m chosen (comes_to m chosen t k) s stepped in
          let l : walk_rank z.1 ≤ k = rank-le z.1 k (test_or_not (set z.1)) z.5 in
          record { choice = z.0; target = z.1; below = z.2; taken = z.3; leads = z.4; smaller = omega (arith, l, is) }
    ]

    rank-is : (s : ℕ) (h : set s ≡ true) (q : (set s ≡ true) ⊎ (set s ≡ false)) → rank_by s q ≡ (least_steps s h).0
    unfolding rank_by least_steps
    rank-is s h (inl g) = let a = (least_steps s g).2 (least_steps s h).0 (least_steps s h).1 in let b = (least_steps s h).2 (least_steps s g).0 (least_steps s g).1 in omega arith
    rank-is s h (inr o) = absurd (let e : true ≡ false = sym h ∙ o in cc)

    pub walk_falls : (s : ℕ) → set s ≡ true → s ≢ t → LeadsNearer s
    unfolding walk_rank least_steps
    walk_falls s h o = let w = least_steps s h in step_from s w.0 o w.1 w.2 (rank-is s h (test_or_not (set s)))

  -- ranks that fall along chosen choices, within a set, make walks
  module _ (set : ℕ → Bool) (rank : ℕ → ℕ)
      (falls : (s : ℕ) → set s ≡ true → s ≢ t → (c y : ℕ) × (c < length (choices_at m s)) × (chosen s c ≡ true) × (leads_to y (row_at m s c) ≡ true) × (set y ≡ true) × (rank y < rank s)) where
    walk_within : (fuel s : ℕ) → rank s < fuel → set s ≡ true → Reaches m chosen s t
    walk_within zero s l h = absurd (omega arith)
    walk_within (suc fuel) s l h = elim (same_or_other s t) as (λ _. Reaches m chosen s t) [
      | inl e ↦ subst (λ x. Reaches m chosen x t) (sym e) (here m chosen t)
      | inr o ↦
          let z = falls s h o in
          one_more m chosen s z.0 z.1 t z.2 z.3 z.4 (walk_within fuel z.1 (omega (arith, z.6, l)) z.5)
    ]

    pub walk_down : (s : ℕ) → set s ≡ true → Reaches m chosen s t
    walk_down s h = walk_within (suc (rank s)) s (omega arith) h
