-- Values that are all missing get yes on every model: each of their checks holds, and none makes a sum.
use Rattle.std.proofs.Common.{◌≡◌, ℕ, ◌<◌, List, [], ◌∷◌, ◌++◌, length, map, slice_index, Option, Some, None, sym, ap, subst, ◌∙◌, lt-ltb, arith}
use Rattle.std.proofs.lemmas.List.Elements.{All-from_recursion, recursion_from_All}
use Rattle.std.specs.List.{All, AllByRecursion}
use Rattle.mdp_math.specs.Rational.{ℚ, ◌≤ℚ◌}
use Rattle.mdp_math.proofs.{Extremes.{greatest-ge, greatest-le}, Order.{≤ℚ_refl, ≤ℚ_antisymm, ≤ℚ_of_eq}}
use Rattle.mdp_num.specs.OrderView.{equal_decides}
use Rattle.mdp_spec.specs.{Mdp.{Mdp, states_of, choices_at}, Tree.{IsPolicy}, Bounds.{reward_at, finite_part}}
use Rattle.mdp_farkas.specs.{Compare.{0ℚ}, Reach.{other}, Verdict.{verdict_of, at_choices}}
use Rattle.mdp_claims.specs.declared.verdict.Verdict.TheVariants.{Yes}
use Rattle.mdp_farkas.proofs.Holds.{Each, Holds, yes_of_each, each_append, each_map, each_flat}
use Rattle.mdp_rows.specs.{declared.dir.Dir.{Dir}, declared.dir.Dir.TheVariants.{Max, Min}}
use Rattle.mdp_bounds.specs.Says.{covering_rewards}
use Rattle.mdp_discount_rules.specs.Rules.{magnitude}
use Rattle.mdp_discount_rules.proofs.Magnitudes.{magnitude-above}
use Rattle.mdp_discount_rules.specs.BoundsRules.{greatest_magnitude}
use Rattle.mdp_discount_rules.specs.BoundsChecks.{value_allows, each_check, policy_check, remainder_check, bounds_at, state_checks, discount_bounds_checks, IsTrivialDiscount}

none_at : (v : List (Option ℚ)) (s : ℕ) → All (λ x. x ≡ None) v → s < length v → reward_at v s ≡ None
none_at v s h l = h s (Some 0ℚ) l

-- missing values have magnitude 0
none_greater : (xs ys : List (Option ℚ)) → AllByRecursion (λ x. x ≡ None) xs → AllByRecursion (λ x. x ≡ None) ys
    → AllByRecursion (λ x. x ≤ℚ 0ℚ) (map magnitude (finite_part (xs ++ ys)))
none_greater [] [] h k = tt
none_greater [] (Some y ∷ ys) h k = absurd cc
none_greater [] (None ∷ ys) h k = (≤ℚ_of_eq (magnitude 0ℚ) 0ℚ (magnitude-above 0ℚ (≤ℚ_refl 0ℚ)), none_greater [] ys h k.1)
none_greater (Some x ∷ xs) ys h k = absurd cc
none_greater (None ∷ xs) ys h k = (≤ℚ_of_eq (magnitude 0ℚ) 0ℚ (magnitude-above 0ℚ (≤ℚ_refl 0ℚ)), none_greater xs ys h.1 k)

module _ (m : Mdp) (lower upper : List (Option ℚ)) (remainder : ℚ) (policy : List ℕ) (t : IsTrivialDiscount m lower upper remainder policy) (low : length lower ≡ states_of m)
    (high : length upper ≡ states_of m) where
  zero_greatest : remainder ≡ greatest_magnitude lower upper
  zero_greatest =
      t.no_remainder
      ∙ ≤ℚ_antisymm 0ℚ (greatest_magnitude lower upper)
      (greatest-ge (0ℚ ∷ map magnitude (finite_part (lower ++ upper))) 0 0ℚ (omega arith))
      (greatest-le 0ℚ 0ℚ (map magnitude (finite_part (lower ++ upper)))
      (All-from_recursion (λ x. x ≤ℚ 0ℚ) (0ℚ ∷ map magnitude (finite_part (lower ++ upper)))
      (≤ℚ_refl 0ℚ, none_greater lower upper (recursion_from_All (λ x. x ≡ None) lower t.no_lower) (recursion_from_All (λ x. x ≡ None) upper t.no_upper))))

  none_covering : (dir : Dir) (s : ℕ) → s < states_of m → reward_at (covering_rewards dir lower upper) s ≡ None
  none_covering Max s l = none_at upper s t.no_upper (subst (λ (n : ℕ). s < n) (sym high) l)
  none_covering Min s l = none_at lower s t.no_lower (subst (λ (n : ℕ). s < n) (sym low) l)

  module _ (r : ℕ) (f : ℚ) (dir : Dir) where
    abbrev cover : List (Option ℚ)
    cover = covering_rewards dir lower upper

    abbrev follow : List (Option ℚ)
    follow = covering_rewards (other dir) lower upper

    state_holds : (s : ℕ) → s < states_of m → Each Holds (bounds_at dir m r f lower upper s (slice_index policy s))
    state_holds s l = (
      ap Some (lt-ltb (slice_index policy s) (length (choices_at m s)) (IsPolicy.in_range t.takes s l)),
      each_append Holds (at_choices m s (each_check dir m r f cover s)) (policy_check (other dir) m r f follow s (slice_index policy s) ∷ [])
          (each_map Holds (each_check dir m r f cover s) (length (choices_at m s)) (λ c i. ap (λ (o : Option ℚ). value_allows dir m r f cover s c o) (none_covering dir s l)))
          (ap (λ (o : Option ℚ). value_allows (other dir) m r f follow s (slice_index policy s) o) (none_covering (other dir) s l), tt),
    )

    pub trivial_yes : verdict_of (discount_bounds_checks dir m r f lower upper remainder policy) ≡ Yes
    trivial_yes =
        yes_of_each (discount_bounds_checks dir m r f lower upper remainder policy)
        (each_append Holds (state_checks dir m r f lower upper policy) (remainder_check lower upper remainder ∷ [])
        (each_flat Holds (λ s. bounds_at dir m r f lower upper s (slice_index policy s)) (states_of m) state_holds)
        (ap Some ((equal_decides remainder (greatest_magnitude lower upper)).1 zero_greatest), tt))
