-- Exact values that meet the rules by written terms meet those of bounds, as lower and as upper values.
use Rattle.std.proofs.Common.{◌≡◌, ℕ, Bool, false, List, [], ◌∷◌, ◌++◌, length, slice_index, refl, sym, subst, if◌then◌else◌}
use Rattle.std.proofs.lemmas.List.Elements.{All-from_recursion, recursion_from_All}
use Rattle.std.specs.Option.{IsSome}
use Rattle.mdp_math.specs.Rational.{ℚ}
use Rattle.mdp_num.specs.Equal.{eq_ℚ}
use Rattle.mdp_spec.specs.{Mdp.{Mdp, states_of, choices_at, row_at, value_at}, Tree.{is_marked}, Written.{written_sum}}
use Rattle.mdp_farkas.specs.{Verdict.{Check, InWidth, at_choices}, Compare.{0ℚ}}
use Rattle.mdp_farkas.specs.Reach.{other, choice_exists, rank_checks, value_checks, reach_at, reach_checks, MeetsReach, IsReach}
use Rattle.mdp_farkas.specs.Bellman as bellman
use Rattle.mdp_farkas.specs.Upper as upper
use Rattle.mdp_farkas.specs.Reach as reach
use Rattle.mdp_bounds.specs.Reach.{MeetsReachBetween, outermost, stands_at, goal_check, bound_check, policy_check, cover_at, follow_at, bounds_at, bounds_checks, IsReachBounds}
use Rattle.mdp_bounds.specs.Sum.{stands, targets_of, one_sum}
use Rattle.mdp_rows.specs.{declared.dir.Dir.{Dir}, declared.dir.Dir.TheVariants.{Max, Min}}
use Rattle.mdp_farkas.proofs.Holds.{Each, each_append, each_left, each_right, each_flat, each_flat_at, each_map, each_map_at, each_if, each_if_false}
use Rattle.mdp_bounds.proofs.Width.{some_by}

module _ (dir : Dir) (m : Mdp) (goals : List Bool) (z : List ℚ) (policy ranks : List ℕ) (s : ℕ) where
  told_some : (d : Dir) (c : ℕ) → IsSome (bellman.stands_at d m z s c) → IsSome (stands_at d m z s c)
  told_some d c w =
      some_by (bellman.stands d (value_at z s)) (stands d (value_at z s)) (eq_ℚ (value_at z s) (outermost d)) (written_sum z 0ℚ (row_at m s c)) (one_sum z 0ℚ (targets_of (row_at m s c))) w

  abbrev choice : ℕ
  choice = slice_index policy s

  module _ (w : Each InWidth (reach_at dir m goals z ranks s (slice_index policy s))) where
    values : Each InWidth (value_checks dir m goals z s (slice_index policy s))
    values = each_left InWidth (value_checks dir m goals z s (slice_index policy s)) (rank_checks dir m goals z ranks s (slice_index policy s)) w.1.1.1

    ranks_some : Each InWidth (rank_checks dir m goals z ranks s (slice_index policy s))
    ranks_some = each_right InWidth (value_checks dir m goals z s (slice_index policy s)) (rank_checks dir m goals z ranks s (slice_index policy s)) w.1.1.1

    rest : is_marked goals s ≡ false → Each InWidth (bellman.bound_checks dir m z s ++ reach.policy_check dir m z s (slice_index policy s) ∷ [])
    rest g =
        each_if_false InWidth (is_marked goals s) (upper.goal_check z s ∷ []) (bellman.bound_checks dir m z s ++ reach.policy_check dir m z s (slice_index policy s) ∷ []) g values

    bounds_some : is_marked goals s ≡ false → Each InWidth (at_choices m s (bound_check dir m z s))
    bounds_some g =
        each_map InWidth (bound_check dir m z s) (length (choices_at m s))
        (λ c i.
        told_some dir c
        (each_map_at InWidth (bellman.bound_check dir m z s) (length (choices_at m s)) c
        (each_left InWidth (bellman.bound_checks dir m z s) (reach.policy_check dir m z s (slice_index policy s) ∷ []) (rest g)) i))

    policy_some : is_marked goals s ≡ false → Each InWidth (policy_check dir m z s (slice_index policy s) ∷ [])
    policy_some g =
        (told_some (other dir) (slice_index policy s) (each_right InWidth (bellman.bound_checks dir m z s) (reach.policy_check dir m z s (slice_index policy s) ∷ []) (rest g)).0, tt)

    half_some : (others : List Check) → (is_marked goals s ≡ false → Each InWidth others) → Each InWidth (if is_marked goals s then goal_check z s ∷ [] else others)
    half_some others h = each_if InWidth (is_marked goals s) (goal_check z s ∷ []) others (λ g. (refl, tt)) h

    state_some : Each InWidth (choice_exists m s (slice_index policy s)
        ∷ (cover_at dir m goals z s ++ (follow_at dir m goals z s (slice_index policy s) ++ rank_checks dir m goals z ranks s (slice_index policy s))))
    state_some = (
      refl,
      each_append InWidth (cover_at dir m goals z s) (follow_at dir m goals z s (slice_index policy s) ++ rank_checks dir m goals z ranks s (slice_index policy s))
          (refl, (refl, half_some (at_choices m s (bound_check dir m z s)) bounds_some))
          (each_append InWidth (follow_at dir m goals z s (slice_index policy s)) (rank_checks dir m goals z ranks s (slice_index policy s))
          (refl, (refl, half_some (policy_check dir m z s (slice_index policy s) ∷ []) policy_some)) ranks_some),
    )

module _ (m : Mdp) (goals : List Bool) (z : List ℚ) (policy ranks : List ℕ) where
  meets_both : (dir : Dir) → MeetsReach dir m goals z policy ranks → MeetsReachBetween dir m goals z z policy ranks
  meets_both Max r = record { choices = r.choices; lower_values = r.probabilities; upper_values = r.probabilities; covers = r.covers; reached = r.reached; ends = r.ends; falls = r.falls }
  meets_both Min r = record { choices = r.choices; lower_values = r.probabilities; upper_values = r.probabilities; covered = r.covered; reached = r.reached; ends = r.ends; falls = r.falls }

  at_both : (dir : Dir) (s : ℕ) → Each InWidth (reach_at dir m goals z ranks s (slice_index policy s)) → Each InWidth (bounds_at dir m goals z z ranks s (slice_index policy s))
  at_both Max s w = state_some Max m goals z policy ranks s w
  at_both Min s w = state_some Min m goals z policy ranks s w

  both_in_width : (dir : Dir) → Each InWidth (reach_checks dir m goals z policy ranks) → Each InWidth (bounds_checks dir m goals z z policy ranks)
  both_in_width dir w =
      each_flat InWidth (λ s. bounds_at dir m goals z z ranks s (slice_index policy s)) (states_of m)
      (λ s l. at_both dir s (each_flat_at InWidth (λ s. reach_at dir m goals z ranks s (slice_index policy s)) (states_of m) s w l))

  bounds_of_exact_same : (dir : Dir) → IsReach dir m goals z policy ranks → IsReachBounds dir m goals z z policy ranks
  bounds_of_exact_same dir is = record {
    rules = meets_both dir is.rules;
    in_width = All-from_recursion InWidth (bounds_checks dir m goals z z policy ranks) (both_in_width dir (recursion_from_All InWidth (reach_checks dir m goals z policy ranks) is.in_width));
  }

pub bounds_of_exact : (dir : Dir) (m : Mdp) (goals : List Bool) (lower upper_ : List ℚ) (policy ranks : List ℕ) → upper_ ≡ lower → IsReach dir m goals lower policy ranks
    → IsReachBounds dir m goals lower upper_ policy ranks
bounds_of_exact dir m goals lower upper_ policy ranks e is =
    subst (λ (u : List ℚ). IsReachBounds dir m goals lower u policy ranks) (sym e) (bounds_of_exact_same m goals lower policy ranks dir is)
