-- The start of the least reward gives the bounds that say nothing. Its policy leads from each finite state to a goal, since its ways shorten, so the
-- ranks along it are those of all finite states.
use Rattle.std.proofs.Common.{◌≡◌, ℕ, ◌<◌, ◌⊎◌, inl, inr, Bool, true, false, not, ◌&&◌, List, [], Option, refl, sym, ◌∙◌, ap, arith, zero, suc, if◌then◌else◌}
use Rattle.std.specs.{List.{All, Any}, Prelude.{slice_index}}
use Rattle.mdp_math.specs.Rational.{ℚ}
use Rattle.mdp_math.proofs.Kernel.{Any-and}
use Rattle.mdp_spec.specs.{Mdp.{Mdp, Entry, states_of, row_at}, Row.{IsMdp}, Tree.{is_marked, IsPolicy}, Bounds.{infinite}}
use Rattle.mdp_spec.specs.RewardRules.{IsTransient, Falls, FallsInfinite, StaysInfinite}
use Rattle.mdp_rows.specs.{Negative.{has_negative}, declared.dir.Dir.TheVariants.{Min}}
use Rattle.mdp_bounds.specs.Reward.{IsTrivialReward}
use Rattle.mdp_reward.specs.{Problem.{is_transient}, Query.{IsMinStart, AreMinRanks}}
use Rattle.mdp_reward.proofs.Rows.{any_mono, all_in, split-at, goal-along, goal-along_rank, row-falls, row-stays}
use Rattle.mdp_reward.proofs.{Certificate.{infinite-not, infinite-is, infinite-state, finite-of, transient-state}, Answering.{PassLaws}}
use Rattle.mdp_reward.proofs.MinFacts as min
use Rattle.mdp_search_bounds.specs.Values.{zeros_of}
use Rattle.mdp_search_bounds.proofs.Parts.{trivial_by}

module _ (m : Mdp) (r : ℕ) (goals finite : List Bool) (start known ranks : List ℕ) (model : IsMdp m) (none : has_negative m r ≡ false) (is : IsMinStart m goals finite start known)
    (ranking : AreMinRanks m goals finite known start ranks) (laws : PassLaws) where
  abbrev v : List (Option ℚ)
  v = zeros_of (states_of m) finite

  takes : IsPolicy m start
  takes = min.min_policy m goals finite start known model is

  abbrev row : ℕ → List Entry
  row s = row_at m s (slice_index start s)

  abbrev marked : ℕ → Bool
  marked s = is_marked ranking.marks s

  abbrev near : ℕ → ℕ
  near s = slice_index is.near s

  in_range : (s : ℕ) → s < states_of m → All (λ y. y.target < states_of m) (row s)
  in_range s l = (model.row s (slice_index start s) l (takes.in_range s l)).in_range

  keeps_finite : (s : ℕ) → s < states_of m → is_transient goals finite s ≡ true → All (λ y. is_marked finite y.target ≡ true) (row s)
  keeps_finite s l e = all_in (is_marked finite) (row s) (min.start-stays m goals finite start known model is s l e)

  both : (a b : Bool) → a ≡ false → b ≡ true → (not a && b) ≡ true
  both true b e f = cc
  both false b e f = f

  -- the start leads from each finite state to a goal, since each of its ways shortens
  comes_by : (k s : ℕ) (g b : Bool) → s < states_of m → near s < suc k → is_marked goals s ≡ g → marked s ≡ b → is_marked finite s ≡ true
      → ((t : ℕ) → t < states_of m → near t < k → is_marked finite t ≡ true → marked t ≡ true) → marked s ≡ true
  comes_by k s true b l i eg e f ih = goal-along m start model takes goals ranking.marks ranking.along ranking.reached ranking.least s l eg
  comes_by k s false true l i eg e f ih = e
  comes_by k s false false l i eg e f ih =
      let open_here = both (is_marked goals s) (is_marked finite s) eg f in
      let a = Any-and (λ y. y.target < states_of m) (λ y. (is_marked finite y.target ≡ true) × ((marked y.target ≡ false) × (near y.target < near s))) (row s)
      (in_range s l)
      (Any-and (λ y. is_marked finite y.target ≡ true) (λ y. (marked y.target ≡ false) × (near y.target < near s)) (row s) (keeps_finite s l open_here)
      (Any-and (λ y. marked y.target ≡ false) (λ y. near y.target < near s) (row s)
      (row-stays m start model takes goals ranking.marks ranking.along ranking.reached ranking.least laws.stays s l e)
      (min.start-falls m goals finite start known model is s l open_here))) in
      absurd (let o = a.4.1.1.1 in let w : true ≡ false = sym (ih a.1.target a.4.0 (omega (arith, i, o)) a.4.1.0) ∙ a.4.1.1.0 in cc)

  comes_within : (k s : ℕ) → s < states_of m → near s < k → is_marked finite s ≡ true → marked s ≡ true
  comes_within zero s l i f = absurd (omega arith)
  comes_within (suc k) s l i f = comes_by k s (is_marked goals s) (marked s) l i refl refl f (comes_within k)

  -- ---- ranks

  rank_at : (s : ℕ) → s < states_of m → slice_index ranks s ≡ (if is_marked finite s then slice_index ranking.along s else slice_index known s)
  rank_at s l = ap (λ (ranks : List ℕ). slice_index ranks s) ranking.ranks_are ∙ split-at m finite ranking.along known s l

  rank_finite : (s : ℕ) → s < states_of m → is_marked finite s ≡ true → slice_index ranks s ≡ slice_index ranking.along s
  rank_finite s l e = rank_at s l ∙ ap (λ (b : Bool). if b then slice_index ranking.along s else slice_index known s) e

  rank_infinite : (s : ℕ) → s < states_of m → is_marked finite s ≡ false → slice_index ranks s ≡ slice_index known s
  rank_infinite s l e = rank_at s l ∙ ap (λ (b : Bool). if b then slice_index ranking.along s else slice_index known s) e

  goals_in : (s : ℕ) → s < states_of m → is_marked goals s ≡ true → is_marked finite s ≡ true
  goals_in = min.goal-finite m goals finite start known model is

  goal_rank : (s : ℕ) → s < states_of m → is_marked goals s ≡ true → slice_index ranks s ≡ 0
  goal_rank s l g = rank_finite s l (goals_in s l g) ∙ goal-along_rank m start model takes goals ranking.marks ranking.along ranking.reached ranking.least s l g

  falls_at : (s : ℕ) → IsTransient m goals v s → Falls m ranks s (slice_index start s)
  falls_at s h =
      let e = transient-state m goals finite [] s h in
      let f = finite-of m goals finite [] s h.0 h.2 in
      let here = rank_finite s h.0 f in
      any_mono (λ y. (y.target < states_of m) × ((is_marked finite y.target ≡ true) × (slice_index ranking.along y.target < slice_index ranking.along s)))
      (λ y. slice_index ranks y.target < slice_index ranks s) (row s)
      (λ y k. let there = rank_finite y.target k.0 k.1.0 in let lower = k.1.1 in omega arith)
      (Any-and (λ y. y.target < states_of m) (λ y. (is_marked finite y.target ≡ true) × (slice_index ranking.along y.target < slice_index ranking.along s)) (row s) (in_range s h.0)
      (Any-and (λ y. is_marked finite y.target ≡ true) (λ y. slice_index ranking.along y.target < slice_index ranking.along s) (row s) (keeps_finite s h.0 e)
      (row-falls m start model takes goals ranking.marks ranking.along ranking.reached ranking.least laws.falls s h.0 (comes_within (suc (near s)) s h.0 (omega arith) f) h.1)))

  -- ---- a state of infinite value

  min_misses_as : (s c : ℕ) → s < states_of m → is_marked finite s ≡ false
      → Any (λ y. (is_marked finite y.target ≡ false) × (y.target < states_of m) × (slice_index known y.target < slice_index known s)) (row_at m s c)
      ⊎ All (λ y. (is_marked finite y.target ≡ false) × (y.target < states_of m) × (slice_index known y.target ≡ slice_index known s)) (row_at m s c)
      → FallsInfinite m v ranks s c ⊎ StaysInfinite m v ranks (slice_index ranks s) s c
  min_misses_as s c l e (inl h) =
      let here = rank_infinite s l e in
      inl (any_mono (λ y. (is_marked finite y.target ≡ false) × (y.target < states_of m) × (slice_index known y.target < slice_index known s))
      (λ y. (is_marked (infinite v) y.target ≡ true) × (slice_index ranks y.target < slice_index ranks s)) (row_at m s c)
      (λ y f. let there = rank_infinite y.target f.1 f.0 in let lower = f.2 in (infinite-is m goals finite [] y.target f.1 f.0, omega arith)) h)
  min_misses_as s c l e (inr h) =
      inr (λ k d j. let a = h k d j in (infinite-is m goals finite [] _ a.1 a.0, rank_infinite _ a.1 a.0 ∙ a.2 ∙ sym (rank_infinite s l e)))

  pub min-trivial : IsTrivialReward Min m r goals v (zeros_of (states_of m) goals) start ranks
  min-trivial =
      trivial_by Min m r goals finite start ranks none takes goals_in goal_rank
      (λ s h. (λ k d j. infinite-not m goals finite [] _ (in_range s h.0 k d j) (keeps_finite s h.0 (transient-state m goals finite [] s h) k d j), falls_at s h))
      (λ s c h i.
      let e = infinite-state m goals finite [] s h in
      min_misses_as s c h.0 e (min.min_misses m goals finite start known model is laws.zero s c h.0 e i laws.rounds))
