-- What the path of the greatest reward finds meets the rules.
use Rattle.std.proofs.Common.{◌≡◌, ℕ, ◌<◌, ◌⊎◌, inl, inr, Bool, true, false, List, length, Option, refl, sym, subst}
use Rattle.std.specs.{List.{All, Any}, Prelude.{slice_index}}
use Rattle.mdp_math.specs.Rational.{ℚ}
use Rattle.mdp_math.proofs.Order.{≤ℚ_of_eq}
use Rattle.mdp_spec.specs.{Mdp.{Mdp, states_of, row_at, choices_at}, Row.{IsMdp}, Tree.{is_marked}, Bounds.{infinite}}
use Rattle.mdp_spec.specs.RewardRules.{IsInfinite, IsTransient, StaysFinite, FallsInfinite, StaysInfinite, MeetsRewardMax}
use Rattle.mdp_spec.specs.Tree as tree
use Rattle.mdp_rows.specs.{Negative.{has_negative}, declared.dir.Dir.TheVariants.{Max}}
use Rattle.mdp_graph.specs.Laws.{StaysSure, RestAvoids}
use Rattle.mdp_policy_iteration.specs.Laws.{IsBestFrom}
use Rattle.mdp_reward.specs.{Problem.{reward_problem}, Query.{rewards_of, IsMaxStart}}
use Rattle.mdp_reward.proofs.{Rows.{any_mono, all_in}, MaxFacts.{goal-finite, goal-rank, stays-finite, falls-finite, max_policy, max_misses}}
use Rattle.mdp_reward.proofs.{Kept.{found-policy, given-kept}, Certificate.{rewards-len, infinite-not, infinite-is, infinite-state, transient-state}}
use Rattle.mdp_reward.proofs.Shared.{not-infinite, are-rewards, own-value, none-better}

module _ (m : Mdp) (r : ℕ) (goals finite : List Bool) (start known policy : List ℕ) (x : List ℚ) (named : r < length m.names) (model : IsMdp m) (none : has_negative m r ≡ false)
    (is : IsMaxStart m goals finite start known) (found : IsBestFrom (reward_problem Max m r goals finite) start policy x) (stays : StaysSure) (rest : RestAvoids) where
  abbrev v : List (Option ℚ)
  v = rewards_of m finite x

  taking : tree.IsPolicy m start
  taking = max_policy m goals finite start known model is

  goals_in : (s : ℕ) → s < states_of m → is_marked goals s ≡ true → is_marked finite s ≡ true
  goals_in = goal-finite m goals finite start known model is

  stays_at : (s c : ℕ) → IsTransient m goals v s → c < length (choices_at m s) → StaysFinite m v s c
  stays_at s c h i = λ k d j.
      infinite-not m goals finite x _ ((model.row s c h.0 i).in_range k d j)
      (all_in (is_marked finite) (row_at m s c) (stays-finite m goals finite start known model is stays s c h.0 (transient-state m goals finite x s h) i) k d j)

  -- ---- a state of infinite value

  abbrev Misses : ℕ → ℕ → Type 0
  Misses s c = ((slice_index known s ≡ 0) × StaysInfinite m v known 0 s c) ⊎ FallsInfinite m v known s c

  misses_as : (s c : ℕ) → s < states_of m → c < length (choices_at m s)
      → ((slice_index known s ≡ 0) × All (λ y. (is_marked finite y.target ≡ false) × (slice_index known y.target ≡ 0)) (row_at m s c))
      ⊎ Any (λ y. (is_marked finite y.target ≡ false) × (y.target < states_of m) × (slice_index known y.target < slice_index known s)) (row_at m s c)
      → Misses s c
  misses_as s c l i (inl h) =
      inl (h.0, λ k d j. let a = h.1 k d j in (infinite-is m goals finite x _ ((model.row s c l i).in_range k d j) a.0, a.1))
  misses_as s c l i (inr h) =
      inr (any_mono (λ y. (is_marked finite y.target ≡ false) × (y.target < states_of m) × (slice_index known y.target < slice_index known s))
      (λ y. (is_marked (infinite v) y.target ≡ true) × (slice_index known y.target < slice_index known s)) (row_at m s c)
      (λ y f. (infinite-is m goals finite x y.target f.1 f.0, f.2)) h)

  misses_at : (s : ℕ) → IsInfinite m v s → Misses s (slice_index policy s)
  misses_at s h =
      let e = infinite-state m goals finite x s h in
      let same : slice_index policy s ≡ slice_index start s = given-kept Max m r goals finite start policy x taking found s h.0 (not-infinite goals finite s e) in
      subst (Misses s) (sym same) (misses_as s (slice_index start s) h.0 (taking.in_range s h.0) (max_misses m goals finite start known model is s h.0 e))

  pub meets-max : MeetsRewardMax m r goals v policy known
  meets-max = record {
    named = named;
    one_each = rewards-len m goals finite x;
    choices = found-policy Max m r goals finite start policy x taking found;
    values = are-rewards Max m r goals finite start policy x model none taking found goals_in known (goal-rank m goals finite start known model is);
    stays = stays_at;
    covers = λ s c h i. none-better Max m r goals finite start policy x model none taking found goals_in s c h i refl;
    reached = λ s h. ≤ℚ_of_eq _ _ (own-value Max m r goals finite start policy x model none taking found goals_in s h);
    falls = λ s c h i. falls-finite m goals finite start known model is stays rest s c h.0 (transient-state m goals finite x s h) i;
    misses = misses_at;
  }
