-- The greatest magnitude of two lists of values: what the code computes is it, and no value is farther from 0.
use Rattle.std.proofs.{Common.{◌≡◌, ℕ, ◌<◌, cond, List, [], ◌∷◌, ◌++◌, length, map, Option, refl, sym, subst, ◌∙◌}, lemmas.List.{length-map}}
use Rattle.std.proofs.lemmas.List.Elements.{All-from_recursion, recursion_from_All}
use Rattle.std.specs.{List.{AllByRecursion}, Prelude.{unwrap_or}}
use Rattle.mdp_math.specs.{Rational.{ℚ, neg_ℚ, ◌≤ℚ◌}, Written.{cmp_ℚ}}
use Rattle.mdp_math.proofs.{Order.{≤ℚ_trans}, Extremes.{greatest-ge}}
use Rattle.mdp_spec.specs.{Mdp.{value_at}, Bounds.{finite_part}}
use Rattle.mdp_farkas.specs.Compare.{0ℚ}
use Rattle.mdp_rows.specs.{Better.{is_better}, declared.dir.Dir.TheVariants.{Max}}
use Rattle.mdp_bounds.specs.Mean.{exact_best}
use Rattle.mdp_bounds.proofs.Spreading.{greatest_exact}
use Rattle.mdp_discount_rules.specs.Rules.{magnitude}
use Rattle.mdp_discount_rules.proofs.Discount.{below_magnitude}
use Rattle.mdp_discount_rules.specs.BoundsRules.{greatest_magnitude}

-- ---- the code goes over the one list and then over the other

best_both : (best : ℚ) (xs ys : List (Option ℚ))
    → exact_best Max (exact_best Max best (map magnitude (finite_part xs))) (map magnitude (finite_part ys)) ≡ exact_best Max best (map magnitude (finite_part (xs ++ ys)))
best_both best [] ys = refl
best_both best (x ∷ xs) ys = best_both (cond (is_better Max (cmp_ℚ (magnitude (unwrap_or x 0ℚ)) best)) (magnitude (unwrap_or x 0ℚ)) best) xs ys

pub greatest_by_lists : (lower upper : List (Option ℚ))
    → exact_best Max (exact_best Max 0ℚ (map magnitude (finite_part lower))) (map magnitude (finite_part upper)) ≡ greatest_magnitude lower upper
greatest_by_lists lower upper = best_both 0ℚ lower upper ∙ greatest_exact (0ℚ ∷ map magnitude (finite_part (lower ++ upper)))

-- ---- no value is farther from 0

abbrev AreNear : ℚ → List (Option ℚ) → Type 0
AreNear k v = AllByRecursion (λ x. magnitude x ≤ℚ k) (finite_part v)

both_near : (k : ℚ) (xs ys : List (Option ℚ)) → AllByRecursion (λ x. x ≤ℚ k) (map magnitude (finite_part (xs ++ ys))) → AreNear k xs × AreNear k ys
both_near k [] [] h = (tt, tt)
both_near k [] (y ∷ ys) h = (tt, (h.0, (both_near k [] ys h.1).1))
both_near k (x ∷ xs) ys h = let p = both_near k xs ys h.1 in ((h.0, p.0), p.1)

module _ (k : ℚ) (lower upper : List (Option ℚ)) (e : k ≡ greatest_magnitude lower upper) where
  near : AreNear k lower × AreNear k upper
  near =
      subst (λ (k : ℚ). AreNear k lower × AreNear k upper) (sym e)
      (both_near (greatest_magnitude lower upper) lower upper
      (recursion_from_All (λ x. x ≤ℚ greatest_magnitude lower upper) (0ℚ ∷ map magnitude (finite_part (lower ++ upper)))
      (greatest-ge (0ℚ ∷ map magnitude (finite_part (lower ++ upper))))).1)

  near_at : (v : List (Option ℚ)) → AreNear k v → (s : ℕ) → s < length v → (value_at (finite_part v) s ≤ℚ k) × (neg_ℚ (value_at (finite_part v) s) ≤ℚ k)
  near_at v h s l =
      let x : ℚ = value_at (finite_part v) s in
      let g : magnitude (value_at (finite_part v) s) ≤ℚ k =
      All-from_recursion (λ x. magnitude x ≤ℚ k) (finite_part v) h s 0ℚ (subst (λ (n : ℕ). s < n) (sym (length-map v (λ x. unwrap_or x 0ℚ))) l) in
      (≤ℚ_trans x _ k (below_magnitude x).0 g, ≤ℚ_trans (neg_ℚ x) _ k (below_magnitude x).1 g)

  pub lower_near : (s : ℕ) → s < length lower → (value_at (finite_part lower) s ≤ℚ k) × (neg_ℚ (value_at (finite_part lower) s) ≤ℚ k)
  lower_near s l = near_at lower near.0 s l

  pub upper_near : (s : ℕ) → s < length upper → (value_at (finite_part upper) s ≤ℚ k) × (neg_ℚ (value_at (finite_part upper) s) ≤ℚ k)
  upper_near s l = near_at upper near.1 s l
