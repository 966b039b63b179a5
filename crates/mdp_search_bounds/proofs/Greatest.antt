-- The start of the greatest reward gives the bounds that say nothing.
use Rattle.std.proofs.Common.{◌≡◌, ℕ, ◌<◌, ◌⊎◌, inl, inr, Bool, true, false, List, [], length, Option}
use Rattle.std.specs.{List.{All, Any}, Prelude.{slice_index}}
use Rattle.mdp_math.specs.Rational.{ℚ}
use Rattle.mdp_spec.specs.{Mdp.{Mdp, states_of, row_at, choices_at}, Row.{IsMdp}, Tree.{is_marked}, Bounds.{infinite}}
use Rattle.mdp_spec.specs.RewardRules.{FallsInfinite, StaysInfinite}
use Rattle.mdp_rows.specs.{Negative.{has_negative}, declared.dir.Dir.TheVariants.{Max}}
use Rattle.mdp_bounds.specs.Reward.{Arrives, IsTrivialReward}
use Rattle.mdp_reward.specs.Query.{IsMaxStart}
use Rattle.mdp_reward.proofs.{Rows.{any_mono, all_in}, Certificate.{infinite-not, infinite-is, infinite-state, transient-state}, Answering.{PassLaws}}
use Rattle.mdp_reward.proofs.MaxFacts as max
use Rattle.mdp_search_bounds.specs.Values.{zeros_of}
use Rattle.mdp_search_bounds.proofs.Parts.{trivial_by}

module _ (m : Mdp) (r : ℕ) (goals finite : List Bool) (start known : List ℕ) (model : IsMdp m) (none : has_negative m r ≡ false)
    (is : IsMaxStart m goals finite start known) (laws : PassLaws) where
  abbrev v : List (Option ℚ)
  v = zeros_of (states_of m) finite

  max_arrives : Arrives Max m goals v start known
  max_arrives = λ s c h i.
      let e = transient-state m goals finite [] s h in (
        λ k d j.
            infinite-not m goals finite [] _ ((model.row s c h.0 i).in_range k d j)
            (all_in (is_marked finite) (row_at m s c) (max.stays-finite m goals finite start known model is laws.sure s c h.0 e i) k d j),
        max.falls-finite m goals finite start known model is laws.sure laws.avoids s c h.0 e i,
      )

  max_misses_as : (s c : ℕ) → s < states_of m → c < length (choices_at m s)
      → ((slice_index known s ≡ 0) × All (λ y. (is_marked finite y.target ≡ false) × (slice_index known y.target ≡ 0)) (row_at m s c))
      ⊎ Any (λ y. (is_marked finite y.target ≡ false) × (y.target < states_of m) × (slice_index known y.target < slice_index known s)) (row_at m s c)
      → ((slice_index known s ≡ 0) × StaysInfinite m v known 0 s c) ⊎ FallsInfinite m v known s c
  max_misses_as s c l i (inl h) =
      inl (h.0, λ k d j. let a = h.1 k d j in (infinite-is m goals finite [] _ ((model.row s c l i).in_range k d j) a.0, a.1))
  max_misses_as s c l i (inr h) =
      inr (any_mono (λ y. (is_marked finite y.target ≡ false) × (y.target < states_of m) × (slice_index known y.target < slice_index known s))
      (λ y. (is_marked (infinite v) y.target ≡ true) × (slice_index known y.target < slice_index known s)) (row_at m s c)
      (λ y f. (infinite-is m goals finite [] y.target f.1 f.0, f.2)) h)

  pub max-trivial : IsTrivialReward Max m r goals v (zeros_of (states_of m) goals) start known
  max-trivial =
      let takes = max.max_policy m goals finite start known model is in
      trivial_by Max m r goals finite start known none takes (max.goal-finite m goals finite start known model is) (max.goal-rank m goals finite start known model is) max_arrives
      (λ s h.
      let e = infinite-state m goals finite [] s h in
      max_misses_as s (slice_index start s) h.0 (takes.in_range s h.0) (max.max_misses m goals finite start known model is s h.0 e))
