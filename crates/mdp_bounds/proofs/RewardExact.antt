-- Exact rewards that meet the rules by written terms meet those of bounds, as lower and as upper values.
use Rattle.std.proofs.Common.{◌≡◌, ℕ, Bool, true, false, not, List, [], ◌∷◌, ◌++◌, cond, length, slice_index, Option, refl, sym, subst}
use Rattle.std.proofs.lemmas.List.Elements.{All-from_recursion, recursion_from_All}
use Rattle.std.specs.Option.{IsSome}
use Rattle.mdp_math.specs.Rational.{ℚ}
use Rattle.mdp_spec.specs.{Mdp.{Mdp, states_of, choices_at, choice_at, row_at, value_at}, Unit.{reward_of}, Tree.{is_marked}, Bounds.{finite_part, infinite}}
use Rattle.mdp_spec.specs.Written.{written_sum}
use Rattle.mdp_spec.proofs.Reward.{reward_max_both, reward_min_both}
use Rattle.mdp_farkas.specs.{Verdict.{Check, InWidth}, Reach.{other}}
use Rattle.mdp_farkas.specs.Reward.{stay_check, stay_checks, is_looked_at, rank_fall_check, rank_fall_checks, all_miss_check, infinite_checks, transient_checks, place_checks}
use Rattle.mdp_farkas.specs.Reward.{reward_checks_at, reward_checks, MeetsReward, IsReward}
use Rattle.mdp_farkas.specs.Bellman as bellman
use Rattle.mdp_farkas.specs.Reward as reward
use Rattle.mdp_rows.specs.{declared.dir.Dir.{Dir}, declared.dir.Dir.TheVariants.{Max, Min}}
use Rattle.mdp_farkas.proofs.Holds.{Each, each_append, each_left, each_right, each_flat, each_flat_at, each_map, each_if, each_if_true, each_if_false}
use Rattle.mdp_bounds.specs.Sum.{stands, targets_of, one_sum}
use Rattle.mdp_bounds.specs.Reward.{is_least, earning_stands, lower_on_each, nonneg_check, goal_checks, earning_check, earning_checks, sign_check, sign_checks}
use Rattle.mdp_bounds.specs.Reward.{half_checks, finite_checks, kind_checks, lower_checks, upper_value_checks, reward_bounds_at, reward_bounds_checks, MeetsRewardBetween, IsRewardBounds}
use Rattle.mdp_bounds.proofs.Width.{some_by}

module _ (m : Mdp) (r : ℕ) (goals : List Bool) (v : List (Option ℚ)) (policy ranks : List ℕ) (s : ℕ) where
  abbrev choice : ℕ
  choice = slice_index policy s

  -- ---- checks that make no sum

  stays_some : (dir : Dir) → Each InWidth (stay_checks dir m v s (slice_index policy s))
  stays_some Max = each_map InWidth (stay_check m v s) (length (choices_at m s)) (λ c i. refl)
  stays_some Min = (refl, tt)

  falls_some : (dir : Dir) → Each InWidth (rank_fall_checks dir m ranks s (slice_index policy s))
  falls_some Max = each_map InWidth (rank_fall_check m ranks s) (length (choices_at m s)) (λ c i. refl)
  falls_some Min = (refl, tt)

  infinite_some : (dir : Dir) → Each InWidth (infinite_checks dir m v ranks s (slice_index policy s))
  infinite_some Max = (refl, tt)
  infinite_some Min = each_map InWidth (all_miss_check m v ranks s) (length (choices_at m s)) (λ c i. refl)

  signs_some : Each InWidth (sign_checks m r s)
  signs_some = each_map InWidth (sign_check m r s) (length (choices_at m s)) (λ c i. refl)

  kind_some : (without within : List Check) → Each InWidth without → (is_marked goals s ≡ false → is_marked (infinite v) s ≡ false → Each InWidth within)
      → Each InWidth (nonneg_check v s ∷ kind_checks goals v ranks s without within)
  kind_some without within outside inside = (
    refl,
    each_if InWidth (is_marked goals s) (goal_checks v ranks s) (cond (is_marked (infinite v) s) without within) (λ g. (refl, (refl, tt)))
        (λ g. each_if InWidth (is_marked (infinite v) s) without within (λ i. outside) (λ f. inside g f)),
  )

  -- ---- what a choice earns

  earning_some : (dir : Dir) (c : ℕ) → IsSome (reward.earning_stands dir m r v s c) → IsSome (earning_stands dir m r v s c)
  earning_some dir c w =
      some_by (bellman.stands dir (value_at (finite_part v) s)) (stands dir (value_at (finite_part v) s)) (is_least dir (value_at (finite_part v) s))
      (written_sum (finite_part v) (reward_of (choice_at m s c) r) (row_at m s c)) (one_sum (finite_part v) (reward_of (choice_at m s c) r) (targets_of (row_at m s c))) w

  module _ (dir : Dir) (w : Each InWidth (reward_checks_at dir m r goals v ranks s (slice_index policy s))) where
    abbrev last : List Check
    last = reward.policy_earning_check dir m r v s (slice_index policy s) ∷ rank_fall_checks dir m ranks s (slice_index policy s)

    module _ (g : is_marked goals s ≡ false) (f : is_marked (infinite v) s ≡ false) where
      sums_some : Each InWidth (reward.earning_checks dir m r v s ++ last)
      sums_some =
          each_right InWidth (stay_checks dir m v s (slice_index policy s)) (reward.earning_checks dir m r v s ++ last)
          (each_if_false InWidth (is_marked (infinite v) s) (infinite_checks dir m v ranks s (slice_index policy s)) (transient_checks dir m r v ranks s (slice_index policy s)) f
          (each_if_false InWidth (is_marked goals s) (reward.goal_checks v ranks s)
          (cond (is_marked (infinite v) s) (infinite_checks dir m v ranks s (slice_index policy s)) (transient_checks dir m r v ranks s (slice_index policy s))) g
          (each_left InWidth (place_checks dir m r goals v ranks s (slice_index policy s)) (reward.sign_checks m r s) w.1.1)))

      each_some : Each InWidth (earning_checks dir m r v s)
      each_some =
          each_flat InWidth (λ c. cond (is_looked_at dir m v s c) (earning_check dir m r v s c ∷ []) []) (length (choices_at m s))
          (λ c i.
          each_if InWidth (is_looked_at dir m v s c) (earning_check dir m r v s c ∷ []) []
          (λ e. (
            earning_some dir c
                (each_if_true InWidth (is_looked_at dir m v s c) (reward.earning_check dir m r v s c ∷ []) [] e
                (each_flat_at InWidth (λ c. cond (is_looked_at dir m v s c) (reward.earning_check dir m r v s c ∷ []) []) (length (choices_at m s)) c
                (each_left InWidth (reward.earning_checks dir m r v s) last sums_some) i)).0,
            tt,
          ))
          (λ e. tt))

      half_some : (each : Bool) → Each InWidth (half_checks each dir m r v s (slice_index policy s))
      half_some true = each_some
      half_some false = (earning_some (other dir) (slice_index policy s) (each_right InWidth (reward.earning_checks dir m r v s) last sums_some).0, tt)

      finite_some : (each : Bool) → Each InWidth (finite_checks each dir m r v s (slice_index policy s))
      finite_some each =
          each_append InWidth (stay_checks dir m v s (slice_index policy s)) (half_checks each dir m r v s (slice_index policy s)) (stays_some dir) (half_some each)

    lower_some : Each InWidth (lower_checks dir m r goals v ranks s (slice_index policy s))
    lower_some =
        kind_some (infinite_checks dir m v ranks s (slice_index policy s))
        (finite_checks (lower_on_each dir) dir m r v s (slice_index policy s) ++ rank_fall_checks dir m ranks s (slice_index policy s)) (infinite_some dir)
        (λ g f.
        each_append InWidth (finite_checks (lower_on_each dir) dir m r v s (slice_index policy s)) (rank_fall_checks dir m ranks s (slice_index policy s))
        (finite_some g f (lower_on_each dir)) (falls_some dir))

    upper_some : Each InWidth (upper_value_checks dir m r goals v ranks s (slice_index policy s))
    upper_some = kind_some [] (finite_checks (not (lower_on_each dir)) dir m r v s (slice_index policy s)) tt (λ g f. finite_some g f (not (lower_on_each dir)))

    state_some : Each InWidth (reward_bounds_at dir m r goals v v ranks s (slice_index policy s))
    state_some = (
      refl,
      (
        refl,
        each_append InWidth (lower_checks dir m r goals v ranks s (slice_index policy s)) (upper_value_checks dir m r goals v ranks s (slice_index policy s) ++ sign_checks m r s) lower_some
            (each_append InWidth (upper_value_checks dir m r goals v ranks s (slice_index policy s)) (sign_checks m r s) upper_some signs_some),
      ),
    )

module _ (m : Mdp) (r : ℕ) (goals : List Bool) (v : List (Option ℚ)) (policy ranks : List ℕ) where
  meets_both : (dir : Dir) → MeetsReward dir m r goals v policy ranks → MeetsRewardBetween dir m r goals v v policy ranks
  meets_both Max k = reward_max_both m r goals v policy ranks k
  meets_both Min k = reward_min_both m r goals v policy ranks k

  both_in_width : (dir : Dir) → Each InWidth (reward_checks dir m r goals v policy ranks) → Each InWidth (reward_bounds_checks dir m r goals v v policy ranks)
  both_in_width dir w =
      each_flat InWidth (λ s. reward_bounds_at dir m r goals v v ranks s (slice_index policy s)) (states_of m)
      (λ s l. state_some m r goals v policy ranks s dir (each_flat_at InWidth (λ s. reward_checks_at dir m r goals v ranks s (slice_index policy s)) (states_of m) s w l))

  exact_same : (dir : Dir) → IsReward dir m r goals v policy ranks → IsRewardBounds dir m r goals v v policy ranks
  exact_same dir is = record {
    rules = meets_both dir is.rules;
    nonneg = is.nonneg;
    in_width = All-from_recursion InWidth (reward_bounds_checks dir m r goals v v policy ranks)
        (both_in_width dir (recursion_from_All InWidth (reward_checks dir m r goals v policy ranks) is.in_width));
  }

pub reward_of_exact : (dir : Dir) (m : Mdp) (r : ℕ) (goals : List Bool) (lower upper : List (Option ℚ)) (policy ranks : List ℕ) → upper ≡ lower
    → IsReward dir m r goals lower policy ranks → IsRewardBounds dir m r goals lower upper policy ranks
reward_of_exact dir m r goals lower upper policy ranks e is =
    subst (λ (u : List (Option ℚ)). IsRewardBounds dir m r goals lower u policy ranks) (sym e) (exact_same m r goals lower policy ranks dir is)
