-- What the path of the least reward finds meets the rules. Its policy leads from each finite state to a goal, since it leaves the transient states and keeps
-- to finite ones.
use Rattle.std.proofs.Common.{◌≡◌, ℕ, zero, suc, ◌<◌, ◌⊎◌, inl, inr, Bool, true, false, not, ◌&&◌, List, length, Option, refl, sym, ◌∙◌, ap, subst, arith, if◌then◌else◌}
use Rattle.std.specs.{List.{All, Any}, Prelude.{slice_index}}
use Rattle.mdp_math.specs.Rational.{ℚ}
use Rattle.mdp_math.proofs.{Kernel.{Any-and}, Order.{≤ℚ_of_eq}}
use Rattle.mdp_spec.specs.{Mdp.{Mdp, Entry, states_of, row_at, choices_at}, Row.{IsMdp}, Tree.{is_marked}, Bounds.{infinite}}
use Rattle.mdp_spec.specs.RewardRules.{IsTransient, StaysFinite, Falls, FallsInfinite, StaysInfinite, MeetsRewardMin}
use Rattle.mdp_spec.specs.Tree as tree
use Rattle.mdp_rows.specs.{Negative.{has_negative}, declared.dir.Dir.TheVariants.{Min}}
use Rattle.mdp_graph.specs.{Sets.{stays_in}, Laws.{RowsFall, RowsStay, RoundsFall, ZeroIsSure}}
use Rattle.mdp_elim.specs.System.{is_active}
use Rattle.mdp_policy_iteration.specs.{Problem.{Problem, active_of, rows_of}, Laws.{IsBestFrom}}
use Rattle.mdp_policy_iteration.proofs.Chain.{rows-len}
use Rattle.mdp_reward.specs.{Problem.{is_transient, reward_problem}, Query.{rewards_of, IsMinStart, AreMinRanks}}
use Rattle.mdp_reward.proofs.Rows.{any_mono, all_in, stays_by_all, split-at, goal-along, goal-along_rank, row-falls, row-stays}
use Rattle.mdp_reward.proofs.{MinFacts.{goal-finite, min_policy, min_misses}, Policies.{is_node, transient-may, transient-active, open-row}}
use Rattle.mdp_reward.proofs.{Kept.{found-policy}, Certificate.{rewards-len, infinite-not, infinite-is, infinite-state, finite-of, transient-state}}
use Rattle.mdp_reward.proofs.Shared.{are-rewards, own-value, none-better}

module _ (m : Mdp) (r : ℕ) (goals finite : List Bool) (start known policy ranks : List ℕ) (x : List ℚ) (named : r < length m.names) (model : IsMdp m) (none : has_negative m r ≡ false)
    (is : IsMinStart m goals finite start known) (found : IsBestFrom (reward_problem Min m r goals finite) start policy x) (ranking : AreMinRanks m goals finite known policy ranks)
    (falls : RowsFall) (stays : RowsStay) (fall : RoundsFall) (sure : ZeroIsSure) where
  abbrev q : Problem
  q = reward_problem Min m r goals finite

  abbrev v : List (Option ℚ)
  v = rewards_of m finite x

  taking : tree.IsPolicy m start
  taking = min_policy m goals finite start known model is

  is_policy : tree.IsPolicy m policy
  is_policy = found-policy Min m r goals finite start policy x taking found

  goals_in : (s : ℕ) → s < states_of m → is_marked goals s ≡ true → is_marked finite s ≡ true
  goals_in = goal-finite m goals finite start known model is

  abbrev row : ℕ → List Entry
  row s = row_at m s (slice_index policy s)

  in_range : (s : ℕ) → s < states_of m → All (λ y. y.target < states_of m) (row s)
  in_range s l = (model.row s (slice_index policy s) l (is_policy.in_range s l)).in_range

  keeps_finite : (s : ℕ) → s < states_of m → is_transient goals finite s ≡ true → All (λ y. is_marked finite y.target ≡ true) (row s)
  keeps_finite s l e = all_in (is_marked finite) (row s) (transient-may Min m r goals finite policy found.best.is s l e)

  both : (a b : Bool) → a ≡ false → b ≡ true → (not a && b) ≡ true
  both true b e f = cc
  both false b e f = f

  -- ---- each finite state comes to a goal

  abbrev marked : ℕ → Bool
  marked s = is_marked ranking.marks s

  -- ranks by which the policy leaves
  abbrev far : ℕ → ℕ
  far s = slice_index found.best.leaves.0 s

  abbrev active : ℕ → Bool
  active = is_active (active_of q policy)

  goal_marked : (s : ℕ) → s < states_of m → is_marked goals s ≡ true → marked s ≡ true
  goal_marked = goal-along m policy model is_policy goals ranking.marks ranking.along ranking.reached ranking.least

  leads : (s : ℕ) → s < states_of m → is_transient goals finite s ≡ true → Any (λ y. (active y.target ≡ false) ⊎ (far y.target < far s)) (row s)
  leads s l e =
      let n = rows-len q policy in
      let i : s < length (rows_of q policy) = let k = is_node Min m r goals finite s l in omega arith in
      subst (Any (λ y. (active y.target ≡ false) ⊎ (far y.target < far s))) (open-row Min m r goals finite policy found.best.is s (record { below = l; is_open = e }))
      (found.best.leaves.2.falls s i (transient-active Min m r goals finite policy found.best.is s l e))

  stopped : (t : ℕ) (g : Bool) → t < states_of m → is_marked goals t ≡ g → is_marked finite t ≡ true → active t ≡ false → marked t ≡ true
  stopped t true l e f a = goal_marked t l e
  stopped t false l e f a =
      absurd (let h : true ≡ false = sym (transient-active Min m r goals finite policy found.best.is t l (both (is_marked goals t) (is_marked finite t) e f)) ∙ a in cc)

  comes_by : (k s : ℕ) (g b : Bool) → s < states_of m → far s < suc k → is_marked goals s ≡ g → marked s ≡ b → is_marked finite s ≡ true
      → ((t : ℕ) → t < states_of m → far t < k → is_marked finite t ≡ true → marked t ≡ true) → marked s ≡ true
  comes_by k s true b l i eg e f ih = goal_marked s l eg
  comes_by k s false true l i eg e f ih = e
  comes_by k s false false l i eg e f ih =
      let open_here = both (is_marked goals s) (is_marked finite s) eg f in
      let a = Any-and (λ y. y.target < states_of m) (λ y. (is_marked finite y.target ≡ true) × ((marked y.target ≡ false) × ((active y.target ≡ false) ⊎ (far y.target < far s)))) (row s)
      (in_range s l)
      (Any-and (λ y. is_marked finite y.target ≡ true) (λ y. (marked y.target ≡ false) × ((active y.target ≡ false) ⊎ (far y.target < far s))) (row s) (keeps_finite s l open_here)
      (Any-and (λ y. marked y.target ≡ false) (λ y. (active y.target ≡ false) ⊎ (far y.target < far s)) (row s)
      (row-stays m policy model is_policy goals ranking.marks ranking.along ranking.reached ranking.least stays s l e)
      (leads s l open_here))) in
      absurd (neither a.1.target a.4.0 a.4.1.0 a.4.1.1.0 a.4.1.1.1)
    where
      neither : (t : ℕ) → t < states_of m → is_marked finite t ≡ true → marked t ≡ false → (active t ≡ false) ⊎ (far t < far s) → ⊥
      neither t j h n (inl o) = let w : true ≡ false = sym (stopped t (is_marked goals t) j refl h o) ∙ n in cc
      neither t j h n (inr o) = let w : true ≡ false = sym (ih t j (omega (arith, i, o)) h) ∙ n in cc

  comes_within : (k s : ℕ) → s < states_of m → far s < k → is_marked finite s ≡ true → marked s ≡ true
  comes_within zero s l i f = absurd (omega arith)
  comes_within (suc k) s l i f = comes_by k s (is_marked goals s) (marked s) l i refl refl f (comes_within k)

  finite_marked : (s : ℕ) → s < states_of m → is_marked finite s ≡ true → marked s ≡ true
  finite_marked s l f = comes_within (suc (far s)) s l (omega arith) f

  -- ---- ranks

  rank_at : (s : ℕ) → s < states_of m → slice_index ranks s ≡ (if is_marked finite s then slice_index ranking.along s else slice_index known s)
  rank_at s l = ap (λ (ranks : List ℕ). slice_index ranks s) ranking.ranks_are ∙ split-at m finite ranking.along known s l

  rank_finite : (s : ℕ) → s < states_of m → is_marked finite s ≡ true → slice_index ranks s ≡ slice_index ranking.along s
  rank_finite s l e = rank_at s l ∙ ap (λ (b : Bool). if b then slice_index ranking.along s else slice_index known s) e

  rank_infinite : (s : ℕ) → s < states_of m → is_marked finite s ≡ false → slice_index ranks s ≡ slice_index known s
  rank_infinite s l e = rank_at s l ∙ ap (λ (b : Bool). if b then slice_index ranking.along s else slice_index known s) e

  goal_rank : (s : ℕ) → s < states_of m → is_marked goals s ≡ true → slice_index ranks s ≡ 0
  goal_rank s l g = rank_finite s l (goals_in s l g) ∙ goal-along_rank m policy model is_policy goals ranking.marks ranking.along ranking.reached ranking.least s l g

  falls_at : (s : ℕ) → IsTransient m goals v s → Falls m ranks s (slice_index policy s)
  falls_at s h =
      let e = transient-state m goals finite x s h in
      let f = finite-of m goals finite x s h.0 h.2 in
      let here = rank_finite s h.0 f in
      any_mono (λ y. (y.target < states_of m) × ((is_marked finite y.target ≡ true) × (slice_index ranking.along y.target < slice_index ranking.along s)))
      (λ y. slice_index ranks y.target < slice_index ranks s) (row s)
      (λ y k. let there = rank_finite y.target k.0 k.1.0 in let lower = k.1.1 in omega arith)
      (Any-and (λ y. y.target < states_of m) (λ y. (is_marked finite y.target ≡ true) × (slice_index ranking.along y.target < slice_index ranking.along s)) (row s) (in_range s h.0)
      (Any-and (λ y. is_marked finite y.target ≡ true) (λ y. slice_index ranking.along y.target < slice_index ranking.along s) (row s) (keeps_finite s h.0 e)
      (row-falls m policy model is_policy goals ranking.marks ranking.along ranking.reached ranking.least falls s h.0 (finite_marked s h.0 f) h.1)))

  -- ---- a state of infinite value

  abbrev Misses : ℕ → ℕ → Type 0
  Misses s c = FallsInfinite m v ranks s c ⊎ StaysInfinite m v ranks (slice_index ranks s) s c

  misses_as : (s c : ℕ) → s < states_of m → is_marked finite s ≡ false
      → Any (λ y. (is_marked finite y.target ≡ false) × (y.target < states_of m) × (slice_index known y.target < slice_index known s)) (row_at m s c)
      ⊎ All (λ y. (is_marked finite y.target ≡ false) × (y.target < states_of m) × (slice_index known y.target ≡ slice_index known s)) (row_at m s c)
      → Misses s c
  misses_as s c l e (inl h) =
      let here = rank_infinite s l e in
      inl (any_mono (λ y. (is_marked finite y.target ≡ false) × (y.target < states_of m) × (slice_index known y.target < slice_index known s))
      (λ y. (is_marked (infinite v) y.target ≡ true) × (slice_index ranks y.target < slice_index ranks s)) (row_at m s c)
      (λ y f. let there = rank_infinite y.target f.1 f.0 in let lower = f.2 in (infinite-is m goals finite x y.target f.1 f.0, omega arith)) h)
  misses_as s c l e (inr h) =
      inr (λ k d j. let a = h k d j in (infinite-is m goals finite x _ a.1 a.0, rank_infinite _ a.1 a.0 ∙ a.2 ∙ sym (rank_infinite s l e)))

  -- ---- the rules

  may_by : (s c : ℕ) → s < states_of m → c < length (choices_at m s) → StaysFinite m v s c → stays_in (is_marked finite) (row_at m s c) ≡ true
  may_by s c l i h =
      stays_by_all (is_marked finite) (row_at m s c) (λ k d j. finite-of m goals finite x _ ((model.row s c l i).in_range k d j) (h k d j))

  pub meets-min : MeetsRewardMin m r goals v policy ranks
  meets-min = record {
    named = named;
    one_each = rewards-len m goals finite x;
    choices = is_policy;
    values = are-rewards Min m r goals finite start policy x model none taking found goals_in ranks goal_rank;
    stays = λ s h. λ k d j. infinite-not m goals finite x _ (in_range s h.0 k d j) (keeps_finite s h.0 (transient-state m goals finite x s h) k d j);
    covered = λ s c h i f. none-better Min m r goals finite start policy x model none taking found goals_in s c h i (may_by s c h.0 i f);
    reached = λ s h. ≤ℚ_of_eq _ _ (sym (own-value Min m r goals finite start policy x model none taking found goals_in s h));
    falls = falls_at;
    misses = λ s c h i.
        let e = infinite-state m goals finite x s h in
        misses_as s c h.0 e (min_misses m goals finite start known model is sure s c h.0 e i fall);
  }
