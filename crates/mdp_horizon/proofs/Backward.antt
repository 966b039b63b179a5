-- Backward induction in exact numbers gives the best values: none of the trees is better, and the tree that follows the table, which is one of
-- them, meets the values.
use Rattle.std.proofs.Common.{◌≡◌, ℕ, zero, suc, ◌<◌, List, [], ◌∷◌, length, map, get_or, Option, Some, sym, subst, arith}
use Rattle.std.specs.List.{All}
use Rattle.mdp_math.specs.{Rational.{ℚ}, Sum.{EachAt}}
use Rattle.mdp_math.proofs.{Kernel.{All-head, All-tail}, SumsAt.{EachAt_mono, EachAt_both}}
use Rattle.mdp_spec.specs.{Mdp.{Mdp, states_of, choices_at, row_at, value_at}, Row.{IsRow, IsMdp}, Tree.{Tree, Fits, IsPolicy, IsStrategy, target_at}}
use Rattle.mdp_spec.specs.Bounds.{reward_at}
use Rattle.mdp_spec.proofs.{Keeping.{count_at-one, target_placed}, Rows.{rows_known, placed, targets_at}}
use Rattle.mdp_rows.specs.declared.dir.Dir.{Dir}
use Rattle.mdp_horizon.specs.{Table.{unfolded_steps, IsTable}, Objective.{Objective, value_of}, Between.{Claimed}}
use Rattle.mdp_horizon.proofs.{Claims.{claimed_mono, claimed_all}, Directions.{NoBetter, no_better_trans, no_better_antisymm}}
use Rattle.mdp_horizon.proofs.Halves.{IsCovering, IsFollowing, covering-bounds, following-bounds, following-table}

-- ---- the table's tree is a strategy tree

pub unfolded_steps_fits : (m : Mdp) (n : ℕ) (table : List (List ℕ)) (s : ℕ) → IsMdp m → length table ≡ n → All (IsPolicy m) table → s < states_of m
    → Fits m 1 n (unfolded_steps m table s) s
unfolded_steps_fits m zero [] s known e policies h = tt
unfolded_steps_fits m zero (choices ∷ table) s known e policies h = absurd (omega arith)
unfolded_steps_fits m (suc n) [] s known e policies h = absurd (omega arith)
unfolded_steps_fits m (suc n) (choices ∷ table) s known e policies h = (
  count_at-one (choices_at m s) (get_or choices s 0) (IsPolicy.in_range (All-head (IsPolicy m) choices table policies) s h),
  EachAt_mono (choices_at m s)
      (λ c x. ((c < length (choices_at m s)) × (row_at m s c ≡ x.row)) × IsRow (states_of m) x.row)
      (λ c x. EachAt x.row (λ e y. Fits m 1 n (unfolded_steps m table (target_at m s c e)) y.target))
      (λ c x q.
      EachAt_mono x.row (λ e y. (target_at m s c e ≡ y.target) × (y.target < states_of m)) (λ e y. Fits m 1 n (unfolded_steps m table (target_at m s c e)) y.target)
      (λ e y r. subst (λ (t : ℕ). Fits m 1 n (unfolded_steps m table t) y.target) (sym r.0)
      (unfolded_steps_fits m n table y.target known shorter (All-tail (IsPolicy m) choices table policies) r.1))
      (EachAt_both x.row (λ e y. target_at m s c e ≡ y.target) (λ e y. y.target < states_of m) (target_placed m s c x.row q.0.1) (targets_at (states_of m) x.row q.1)))
      (EachAt_both (choices_at m s) (λ c x. (c < length (choices_at m s)) × (row_at m s c ≡ x.row)) (λ c x. IsRow (states_of m) x.row) (placed m s) (rows_known m s known)),
)
  where
    shorter : length table ≡ n
    shorter = omega (arith, e)

pub unfolded_steps_is_strategy : (m : Mdp) (n : ℕ) (table : List (List ℕ)) (s : ℕ) → IsMdp m → IsTable m n table → s < states_of m → IsStrategy m 1 n (unfolded_steps m table s) s
unfolded_steps_is_strategy m n table s known is h = record { mixes = omega arith; fits = unfolded_steps_fits m n table s known is.one_each is.policies h }

-- ---- the best values

-- no tree is better than the values, and the table's tree meets them
pub record IsBest (dir : Dir) (m : Mdp) (o : Objective) (n : ℕ) (z : List ℚ) (table : List (List ℕ)) : Type 0 where
  pub takes : IsTable m n table
  pub no_better : (u : ℕ) (t : Tree) (s : ℕ) → s < states_of m → IsStrategy m u n t s → NoBetter dir (value_of m o u n t s) (value_at z s)
  pub reached : (s : ℕ) → s < states_of m → value_of m o 1 n (unfolded_steps m table s) s ≡ value_at z s

-- values that no tree passes, and values that the table's tree meets, which may be missing
pub record HasBounds (dir : Dir) (m : Mdp) (o : Objective) (n : ℕ) (bound own : List (Option ℚ)) (table : List (List ℕ)) : Type 0 where
  pub takes : IsTable m n table
  pub no_better : (u : ℕ) (t : Tree) (s : ℕ) → s < states_of m → IsStrategy m u n t s → Claimed (reward_at bound s) (λ y. NoBetter dir (value_of m o u n t s) y)
  pub reached : (s : ℕ) → s < states_of m → Claimed (reward_at own s) (λ y. NoBetter dir y (value_of m o 1 n (unfolded_steps m table s) s))

module _ (dir : Dir) (m : Mdp) (o : Objective) (known_ : IsMdp m) (n : ℕ) where
  -- exact values that meet both halves
  pub best_of_halves : (z : List ℚ) (table : List (List ℕ)) → IsCovering dir m o n (map Some z) → IsFollowing dir m o n (map Some z) table → IsBest dir m o n z table
  best_of_halves z table covers follows = record {
    takes = takes;
    no_better = no_better;
    reached = λ s h.
        no_better_antisymm dir _ _ (no_better 1 (unfolded_steps m table s) s h (unfolded_steps_is_strategy m n table s known_ takes h))
        (claimed_all z s (λ y. NoBetter dir y (value_of m o 1 n (unfolded_steps m table s) s)) (following-bounds m o known_ dir n (map Some z) table follows s h));
  }
    where
      takes : IsTable m n table
      takes = following-table dir m o n (map Some z) table follows

      no_better : (u : ℕ) (t : Tree) (s : ℕ) → s < states_of m → IsStrategy m u n t s → NoBetter dir (value_of m o u n t s) (value_at z s)
      no_better u t s h tree = claimed_all z s (λ y. NoBetter dir (value_of m o u n t s) y) (covering-bounds m o known_ dir n (map Some z) covers u t s h tree)

  module _ (z : List ℚ) (table : List (List ℕ)) (best : IsBest dir m o n z table) (s : ℕ) (h : s < states_of m) where
    -- what covers each tree covers the value
    value-no_better : (f : ℚ → Type 0) → ((u : ℕ) (t : Tree) → IsStrategy m u n t s → f (value_of m o u n t s)) → f (value_at z s)
    value-no_better f each = subst f (best.reached s h) (each 1 (unfolded_steps m table s) (unfolded_steps_is_strategy m n table s known_ best.takes h))

    -- two lists of best values agree
    pub best-one : (w : List ℚ) (other : List (List ℕ)) → IsBest dir m o n w other → value_at z s ≡ value_at w s
    best-one w other b =
        no_better_antisymm dir _ _ (value-no_better (λ x. NoBetter dir x (value_at w s)) (λ u t tree. b.no_better u t s h tree))
        (subst (λ (x : ℚ). NoBetter dir x (value_at z s)) (b.reached s h)
        (best.no_better 1 (unfolded_steps m other s) s h (unfolded_steps_is_strategy m n other s known_ b.takes h)))

    -- a best value is no better than the values that no tree passes, and no worse than those that a table's tree meets
    pub best-bounded : (bound own : List (Option ℚ)) (other : List (List ℕ)) → HasBounds dir m o n bound own other
        → Claimed (reward_at bound s) (λ y. NoBetter dir (value_at z s) y) × Claimed (reward_at own s) (λ y. NoBetter dir y (value_at z s))
    best-bounded bound own other b = (
      value-no_better (λ x. Claimed (reward_at bound s) (λ y. NoBetter dir x y)) (λ u t tree. b.no_better u t s h tree),
      claimed_mono (reward_at own s) (λ y. NoBetter dir y (value_of m o 1 n (unfolded_steps m other s) s)) (λ y. NoBetter dir y (value_at z s))
          (λ y p. no_better_trans dir y _ (value_at z s) p (best.no_better 1 (unfolded_steps m other s) s h (unfolded_steps_is_strategy m n other s known_ b.takes h))) (b.reached s h),
    )
