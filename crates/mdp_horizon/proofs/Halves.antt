-- The two halves of backward induction, for any objective, with values that may be missing. Values that cover each choice, step by step, are
-- passed by no tree; values that the table's choices cover, step by step, are met by the tree that follows the table. Exact values do both.
use Rattle.std.proofs.Common.{◌≡◌, ℕ, zero, suc, ◌<◌, ◌≤◌, false, cond, eqb, List, [], ◌∷◌, length, get_or, slice_index, Option, Some, None, refl, sym, ap, subst, arith}
use Rattle.std.proofs.lemmas.List.Elements.{All-cons}
use Rattle.std.specs.List.{All}
use Rattle.mdp_math.specs.{Rational.{ℚ, ◌+ℚ◌, ◌*ℚ◌}, Sum.{sum_at, EachAt}}
use Rattle.mdp_math.proofs.SumsAt.{EachAt_mono, EachAt_both, EachAt-from_All}
use Rattle.mdp_spec.specs.{Mdp.{Choice, Mdp, states_of, choices_at, choice_at, row_at, value_at}, Row.{IsRow, IsMdp, row_sum}, Unit.{count_at}}
use Rattle.mdp_spec.specs.{Tree.{Tree, Fits, IsPolicy, IsStrategy, is_marked, target_at}, Tree.Tree.{leaf, node}, Bounds.{reward_at, finite_part, infinite}}
use Rattle.mdp_spec.specs.RewardRules.{StaysFinite}
use Rattle.mdp_spec.proofs.{Keeping.{count_at-one, chosen, target_placed}, Rows.{row_weigh, rows_known, targets_at}, Steps.{placed_choice}}
use Rattle.mdp_rows.specs.{declared.dir.Dir.{Dir}, declared.dir.Dir.TheVariants.{Max, Min}}
use Rattle.mdp_horizon.specs.{Table.{unfolded_steps, IsTable}, Objective.{Objective, stops, ending, gain_of, earns, value_of}}
use Rattle.mdp_horizon.specs.Between.{Claimed, MaxBetween, MinBetween}
use Rattle.mdp_horizon.proofs.Claims.{claimed_mono, claimed_part}
use Rattle.mdp_horizon.proofs.Directions.{NoBetter, no_better_trans, no_better_add, other, turned, turned_back, row_sum-no_better, average-no_better}
use Rattle.mdp_horizon.proofs.Objectives.{value-stops, value-ends, value-node}

-- ---- one step

-- what choice c of state s earns, and then by the values z of the states behind it
abbrev pub backed_up : Mdp → Objective → List ℚ → ℕ → ℕ → ℚ
backed_up m o z s c = earns m o s c +ℚ row_sum (row_at m s c) z

-- from the values z to those with one step more: a value is no worse than where the state stops, or than each of its choices
pub record CoversStep (dir : Dir) (m : Mdp) (o : Objective) (z next : List (Option ℚ)) : Type 0 where
  pub stopped : (s : ℕ) (x : ℚ) → s < states_of m → stops m o s ≡ Some x → Claimed (reward_at next s) (λ y. NoBetter dir x y)
  pub each : (s c : ℕ) → s < states_of m → stops m o s ≡ None → c < length (choices_at m s)
      → Claimed (reward_at next s) (λ y. StaysFinite m z s c × NoBetter dir (backed_up m o (finite_part z) s c) y)

-- a value is no better than where the state stops, or than the choice of the list
pub record FollowsStep (dir : Dir) (m : Mdp) (o : Objective) (z : List (Option ℚ)) (choices : List ℕ) (next : List (Option ℚ)) : Type 0 where
  pub policy : IsPolicy m choices
  pub stopped : (s : ℕ) (x : ℚ) → s < states_of m → stops m o s ≡ Some x → Claimed (reward_at next s) (λ y. NoBetter dir y x)
  pub taken : (s : ℕ) → s < states_of m → stops m o s ≡ None
      → Claimed (reward_at next s) (λ y. StaysFinite m z s (slice_index choices s) × NoBetter dir y (backed_up m o (finite_part z) s (slice_index choices s)))

-- ---- n steps

abbrev pub IsCovering : Dir → Mdp → Objective → ℕ → List (Option ℚ) → Type 0
IsCovering dir m o zero z = (s : ℕ) → s < states_of m → Claimed (reward_at z s) (λ y. NoBetter dir (ending m o s) y)
IsCovering dir m o (suc n) z = (before : List (Option ℚ)) × IsCovering dir m o n before × CoversStep dir m o before z

-- the table's first list has the choices of the first step, which has the most steps left
abbrev pub IsFollowing : Dir → Mdp → Objective → ℕ → List (Option ℚ) → List (List ℕ) → Type 0
IsFollowing dir m o zero z [] = (s : ℕ) → s < states_of m → Claimed (reward_at z s) (λ y. NoBetter dir y (ending m o s))
IsFollowing dir m o zero z (choices ∷ table) = ⊥
IsFollowing dir m o (suc n) z [] = ⊥
IsFollowing dir m o (suc n) z (choices ∷ table) = (before : List (Option ℚ)) × IsFollowing dir m o n before table × FollowsStep dir m o before choices z

-- ---- a node

module _ (m : Mdp) (o : Objective) (known_ : IsMdp m) where
  -- what a choice comes to is no better than y, where the values z cover what comes behind, and y covers the choice by these values
  choice-no_better : (dir : Dir) (u n : ℕ) (z : List (Option ℚ)) (kids : ℕ → Tree) (s c : ℕ) (x : Choice) (y : ℚ) → choice_at m s c ≡ x → IsRow (states_of m) x.row
      → EachAt x.row (λ e t. Claimed (reward_at z t.target) (λ w. NoBetter dir (value_of m o u n (kids e) t.target) w))
      → StaysFinite m z s c × NoBetter dir (backed_up m o (finite_part z) s c) y
      → NoBetter dir (gain_of o x +ℚ sum_at x.row (λ e t. t.prob *ℚ value_of m o u n (kids e) t.target)) y
  choice-no_better dir u n z kids s c x y is row behind covered =
      no_better_trans dir _ (gain_of o x +ℚ row_weigh (value_at (finite_part z)) x.row) _
      (no_better_add dir (gain_of o x) _ _
      (row_sum-no_better dir (states_of m) x.row (λ e t. value_of m o u n (kids e) t.target) (value_at (finite_part z)) row
      (EachAt_mono x.row (λ e t. (is_marked (infinite z) t.target ≡ false) × Claimed (reward_at z t.target) (λ w. NoBetter dir (value_of m o u n (kids e) t.target) w))
      (λ e t. NoBetter dir (value_of m o u n (kids e) t.target) (value_at (finite_part z) t.target))
      (λ e t q. claimed_part z t.target (λ w. NoBetter dir (value_of m o u n (kids e) t.target) w) q.0 q.1)
      (EachAt_both x.row (λ e t. is_marked (infinite z) t.target ≡ false) (λ e t. Claimed (reward_at z t.target) (λ w. NoBetter dir (value_of m o u n (kids e) t.target) w)) finite behind))))
      (subst (λ (x : Choice). NoBetter dir (gain_of o x +ℚ row_sum x.row (finite_part z)) y) is covered.1)
    where
      finite : EachAt x.row (λ e t. is_marked (infinite z) t.target ≡ false)
      finite = EachAt-from_All x.row (λ t. is_marked (infinite z) t.target ≡ false) (subst (λ (x : Choice). All (λ t. is_marked (infinite z) t.target ≡ false) x.row) is covered.0)

  node-no_better : (dir : Dir) (u n : ℕ) (z : List (Option ℚ)) (weights : ℕ → ℕ) (kids : ℕ → ℕ → Tree) (s : ℕ) (y : ℚ) → 1 ≤ u → stops m o s ≡ None
      → count_at (choices_at m s) (λ c x. weights c) ≡ u
      → EachAt (choices_at m s) (λ c x. EachAt x.row (λ e t. Claimed (reward_at z t.target) (λ w. NoBetter dir (value_of m o u n (kids c e) t.target) w)))
      → ((c : ℕ) → c < length (choices_at m s) → 0 < weights c → StaysFinite m z s c × NoBetter dir (backed_up m o (finite_part z) s c) y)
      → NoBetter dir (value_of m o u (suc n) (node weights kids) s) y
  node-no_better dir u n z weights kids s y hu on adds behind covered =
      subst (λ (w : ℚ). NoBetter dir w y) (sym (value-node m u hu o n weights kids s known_ on))
      (average-no_better dir m u weights (gain_of o) (λ c e t. value_of m o u n (kids c e) t.target) s y hu adds
      (EachAt_mono (choices_at m s)
      (λ c x. (((c < length (choices_at m s)) × (choice_at m s c ≡ x)) × IsRow (states_of m) x.row)
      × EachAt x.row (λ e t. Claimed (reward_at z t.target) (λ w. NoBetter dir (value_of m o u n (kids c e) t.target) w)))
      (λ c x. 0 < weights c → NoBetter dir (gain_of o x +ℚ sum_at x.row (λ e t. t.prob *ℚ value_of m o u n (kids c e) t.target)) y)
      (λ c x q above. choice-no_better dir u n z (kids c) s c x y q.0.0.1 q.0.1 q.1 (covered c q.0.0.0 above))
      (EachAt_both (choices_at m s) (λ c x. ((c < length (choices_at m s)) × (choice_at m s c ≡ x)) × IsRow (states_of m) x.row)
      (λ c x. EachAt x.row (λ e t. Claimed (reward_at z t.target) (λ w. NoBetter dir (value_of m o u n (kids c e) t.target) w)))
      (EachAt_both (choices_at m s) (λ c x. (c < length (choices_at m s)) × (choice_at m s c ≡ x)) (λ c x. IsRow (states_of m) x.row) (placed_choice m s) (rows_known m s known_))
      behind)))

  -- ---- no tree is better than covering values

  module _ (dir : Dir) (u : ℕ) (hu : 1 ≤ u) where
    -- what comes behind a node that fits
    kids_covered : (n : ℕ) (z : List (Option ℚ)) (kids : ℕ → ℕ → Tree) (s : ℕ) → EachAt (choices_at m s) (λ c x. EachAt x.row (λ e t. Fits m u n (kids c e) t.target))
        → ((t : Tree) (v : ℕ) → v < states_of m → Fits m u n t v → Claimed (reward_at z v) (λ w. NoBetter dir (value_of m o u n t v) w))
        → EachAt (choices_at m s) (λ c x. EachAt x.row (λ e t. Claimed (reward_at z t.target) (λ w. NoBetter dir (value_of m o u n (kids c e) t.target) w)))
    kids_covered n z kids s fits rest =
        EachAt_mono (choices_at m s) (λ c x. IsRow (states_of m) x.row × EachAt x.row (λ e t. Fits m u n (kids c e) t.target))
        (λ c x. EachAt x.row (λ e t. Claimed (reward_at z t.target) (λ w. NoBetter dir (value_of m o u n (kids c e) t.target) w)))
        (λ c x q.
        EachAt_mono x.row (λ e t. (t.target < states_of m) × Fits m u n (kids c e) t.target) (λ e t. Claimed (reward_at z t.target) (λ w. NoBetter dir (value_of m o u n (kids c e) t.target) w))
        (λ e t r. rest (kids c e) t.target r.0 r.1)
        (EachAt_both x.row (λ e t. t.target < states_of m) (λ e t. Fits m u n (kids c e) t.target) (targets_at (states_of m) x.row q.0) q.1))
        (EachAt_both (choices_at m s) (λ c x. IsRow (states_of m) x.row) (λ c x. EachAt x.row (λ e t. Fits m u n (kids c e) t.target)) (rows_known m s known_) fits)

    -- one step more, by where the state stops and by the value that is claimed
    step_covered : (n : ℕ) (z next : List (Option ℚ)) (weights : ℕ → ℕ) (kids : ℕ → ℕ → Tree) (s : ℕ) → s < states_of m → Fits m u (suc n) (node weights kids) s
        → CoversStep dir m o z next
        → ((t : Tree) (v : ℕ) → v < states_of m → Fits m u n t v → Claimed (reward_at z v) (λ w. NoBetter dir (value_of m o u n t v) w))
        → (stop value : Option ℚ) → stops m o s ≡ stop → reward_at next s ≡ value → Claimed value (λ y. NoBetter dir (value_of m o u (suc n) (node weights kids) s) y)
    step_covered n z next weights kids s h fits step rest stop None st at = tt
    step_covered n z next weights kids s h fits step rest (Some x) (Some y) st at =
        subst (λ (v : ℚ). NoBetter dir v y) (sym (value-stops m u hu o (suc n) (node weights kids) s x st))
        (subst (λ (v : Option ℚ). Claimed v (λ y. NoBetter dir x y)) at (step.stopped s x h st))
    step_covered n z next weights kids s h fits step rest None (Some y) st at =
        node-no_better dir u n z weights kids s y hu st fits.0 (kids_covered n z kids s fits.1 rest)
        (λ c l above. subst (λ (v : Option ℚ). Claimed v (λ y. StaysFinite m z s c × NoBetter dir (backed_up m o (finite_part z) s c) y)) at (step.each s c h st l))

    covered_by : (n : ℕ) (z : List (Option ℚ)) → IsCovering dir m o n z → (t : Tree) (s : ℕ) → s < states_of m → Fits m u n t s
        → Claimed (reward_at z s) (λ y. NoBetter dir (value_of m o u n t s) y)
    covered_by zero z covers t s h fits =
        claimed_mono (reward_at z s) (λ y. NoBetter dir (ending m o s) y) (λ y. NoBetter dir (value_of m o u 0 t s) y)
        (λ y p. subst (λ (v : ℚ). NoBetter dir v y) (sym (value-ends m u hu o t s)) p) (covers s h)
    covered_by (suc n) z covers leaf s h fits = absurd fits
    covered_by (suc n) z covers (node weights kids) s h fits =
        step_covered n covers.0 z weights kids s h fits covers.2 (λ t v l k. covered_by n covers.0 covers.1 t v l k) (stops m o s) (reward_at z s) refl refl

  pub covering-bounds : (dir : Dir) (n : ℕ) (z : List (Option ℚ)) → IsCovering dir m o n z → (u : ℕ) (t : Tree) (s : ℕ) → s < states_of m → IsStrategy m u n t s
      → Claimed (reward_at z s) (λ y. NoBetter dir (value_of m o u n t s) y)
  covering-bounds dir n z covers u t s h tree = covered_by dir u tree.mixes n z covers t s h tree.fits

  -- ---- the table's tree meets the values that it covers

  module _ (dir : Dir) where
    -- what comes behind the choice of a table
    kids_followed : (n : ℕ) (z : List (Option ℚ)) (table : List (List ℕ)) (s : ℕ)
        → ((v : ℕ) → v < states_of m → Claimed (reward_at z v) (λ w. NoBetter dir w (value_of m o 1 n (unfolded_steps m table v) v)))
        → EachAt (choices_at m s)
        (λ c x. EachAt x.row (λ e t. Claimed (reward_at z t.target) (λ w. NoBetter (other dir) (value_of m o 1 n (unfolded_steps m table (target_at m s c e)) t.target) w)))
    kids_followed n z table s rest =
        EachAt_mono (choices_at m s) (λ c x. ((c < length (choices_at m s)) × (choice_at m s c ≡ x)) × IsRow (states_of m) x.row)
        (λ c x. EachAt x.row (λ e t. Claimed (reward_at z t.target) (λ w. NoBetter (other dir) (value_of m o 1 n (unfolded_steps m table (target_at m s c e)) t.target) w)))
        (λ c x q.
        EachAt_mono x.row (λ e t. (target_at m s c e ≡ t.target) × (t.target < states_of m))
        (λ e t. Claimed (reward_at z t.target) (λ w. NoBetter (other dir) (value_of m o 1 n (unfolded_steps m table (target_at m s c e)) t.target) w))
        (λ e t r.
        subst (λ (v : ℕ). Claimed (reward_at z t.target) (λ w. NoBetter (other dir) (value_of m o 1 n (unfolded_steps m table v) t.target) w)) (sym r.0)
        (claimed_mono (reward_at z t.target) (λ w. NoBetter dir w (value_of m o 1 n (unfolded_steps m table t.target) t.target))
        (λ w. NoBetter (other dir) (value_of m o 1 n (unfolded_steps m table t.target) t.target) w) (λ w p. turned dir w _ p) (rest t.target r.1)))
        (EachAt_both x.row (λ e t. target_at m s c e ≡ t.target) (λ e t. t.target < states_of m) (target_placed m s c x.row (ap (λ (x : Choice). x.row) q.0.1))
        (targets_at (states_of m) x.row q.1)))
        (EachAt_both (choices_at m s) (λ c x. (c < length (choices_at m s)) × (choice_at m s c ≡ x)) (λ c x. IsRow (states_of m) x.row) (placed_choice m s) (rows_known m s known_))

    step_followed : (n : ℕ) (z next : List (Option ℚ)) (choices : List ℕ) (table : List (List ℕ)) (s : ℕ) → s < states_of m → FollowsStep dir m o z choices next
        → ((v : ℕ) → v < states_of m → Claimed (reward_at z v) (λ w. NoBetter dir w (value_of m o 1 n (unfolded_steps m table v) v)))
        → (stop value : Option ℚ) → stops m o s ≡ stop → reward_at next s ≡ value
        → Claimed value (λ y. NoBetter dir y (value_of m o 1 (suc n) (unfolded_steps m (choices ∷ table) s) s))
    step_followed n z next choices table s h step rest stop None st at = tt
    step_followed n z next choices table s h step rest (Some x) (Some y) st at =
        subst (λ (v : ℚ). NoBetter dir y v) (sym (value-stops m 1 (omega arith) o (suc n) (unfolded_steps m (choices ∷ table) s) s x st))
        (subst (λ (v : Option ℚ). Claimed v (λ y. NoBetter dir y x)) at (step.stopped s x h st))
    step_followed n z next choices table s h step rest None (Some y) st at =
        let p : ℕ = get_or choices s 0 in
        let own = subst (λ (v : Option ℚ). Claimed v (λ y. StaysFinite m z s p × NoBetter dir y (backed_up m o (finite_part z) s p))) at (step.taken s h st) in
        turned_back dir _ y
        (node-no_better (other dir) 1 n z (λ c. cond (eqb p c) 1 0) (λ c e. unfolded_steps m table (target_at m s c e)) s y (omega arith) st
        (count_at-one (choices_at m s) p (IsPolicy.in_range step.policy s h)) (kids_followed n z table s rest)
        (λ c l above. subst (λ (c : ℕ). StaysFinite m z s c × NoBetter (other dir) (backed_up m o (finite_part z) s c) y) (sym (chosen p c above)) (own.0, turned dir y _ own.1)))

    pub following-bounds : (n : ℕ) (z : List (Option ℚ)) (table : List (List ℕ)) → IsFollowing dir m o n z table → (s : ℕ) → s < states_of m
        → Claimed (reward_at z s) (λ y. NoBetter dir y (value_of m o 1 n (unfolded_steps m table s) s))
    following-bounds zero z [] follows s h =
        claimed_mono (reward_at z s) (λ y. NoBetter dir y (ending m o s)) (λ y. NoBetter dir y (value_of m o 1 0 (unfolded_steps m [] s) s))
        (λ y p. subst (λ (v : ℚ). NoBetter dir y v) (sym (value-ends m 1 (omega arith) o (unfolded_steps m [] s) s)) p) (follows s h)
    following-bounds zero z (choices ∷ table) follows s h = absurd follows
    following-bounds (suc n) z [] follows s h = absurd follows
    following-bounds (suc n) z (choices ∷ table) follows s h =
        step_followed n follows.0 z choices table s h follows.2 (λ v l. following-bounds n follows.0 table follows.1 v l) (stops m o s) (reward_at z s) refl refl

-- the table has a policy for each step
pub following-table : (dir : Dir) (m : Mdp) (o : Objective) (n : ℕ) (z : List (Option ℚ)) (table : List (List ℕ)) → IsFollowing dir m o n z table → IsTable m n table
following-table dir m o zero z [] follows = record { one_each = refl; policies = λ k d l. absurd (omega arith) }
following-table dir m o zero z (choices ∷ table) follows = absurd follows
following-table dir m o (suc n) z [] follows = absurd follows
following-table dir m o (suc n) z (choices ∷ table) follows =
    let rest = following-table dir m o n follows.0 table follows.1 in
    record { one_each = ap suc rest.one_each; policies = All-cons (IsPolicy m) choices table (FollowsStep.policy follows.2) rest.policies }

-- ---- both halves

module _ (m : Mdp) (o : Objective) (known_ : IsMdp m) (n : ℕ) (lower upper : List (Option ℚ)) (table : List (List ℕ))
    (one_each : length lower ≡ states_of m) (one_above : length upper ≡ states_of m) where
  pub max_between_of_halves : IsCovering Max m o n upper → IsFollowing Max m o n lower table → MaxBetween m o n lower upper table
  max_between_of_halves covers follows = record {
    takes = following-table Max m o n lower table follows;
    one_each = one_each;
    one_above = one_above;
    above = covering-bounds m o known_ Max n upper covers;
    reached = following-bounds m o known_ Max n lower table follows;
  }

  pub min_between_of_halves : IsCovering Min m o n lower → IsFollowing Min m o n upper table → MinBetween m o n lower upper table
  min_between_of_halves covers follows = record {
    takes = following-table Min m o n upper table follows;
    one_each = one_each;
    one_above = one_above;
    below = covering-bounds m o known_ Min n lower covers;
    reached = following-bounds m o known_ Min n upper table follows;
  }
