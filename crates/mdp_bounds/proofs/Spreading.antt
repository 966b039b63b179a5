-- The spread that is told of two lists is their spread.
use Rattle.std.proofs.{Common.{◌≡◌, cond, List, [], ◌∷◌, Some, refl, ap, ◌∙◌}, lemmas.List.Elements.{All-from_recursion, recursion_from_All}}
use Rattle.std.specs.{List.{AllByRecursion}, Option.{option_and_then}}
use Rattle.mdp_math.specs.{Rational.{ℚ, neg_ℚ, ◌+ℚ◌, ◌≤ℚ◌}, Written.{cmp_ℚ}, Extremes.{least, greatest}}
use Rattle.mdp_math.proofs.{Options.{Some_same, step_told}, Order.{≤ℚ_antisymm}, Extremes.{least-le, least-ge, greatest-ge, greatest-le}}
use Rattle.mdp_spec.specs.MeanRules.{width_of, spread_of}
use Rattle.mdp_rows.specs.{Better.{is_better}, declared.dir.Dir.{Dir}, declared.dir.Dir.TheVariants.{Max, Min}}
use Rattle.mdp_farkas.proofs.Spreading.{AsGood, as_good_same, taken, either}
use Rattle.mdp_bounds.specs.Mean.{exact_best, exact_extreme, told_width, told_spread}
use Rattle.mdp_bounds.proofs.Sums.{plain_add-some}

-- the best is as good as each
pub best_covers : (dir : Dir) (best : ℚ) (xs : List ℚ) → (AsGood dir best (exact_best dir best xs)) × AllByRecursion (λ x. AsGood dir x (exact_best dir best xs)) xs
best_covers dir best [] = (as_good_same dir best, tt)
best_covers dir best (x ∷ xs) =
    let next : ℚ = cond (is_better dir (cmp_ℚ x best)) x best in
    let rest = best_covers dir (cond (is_better dir (cmp_ℚ x best)) x best) xs in
    let both = taken dir best x (exact_best dir (cond (is_better dir (cmp_ℚ x best)) x best) xs) (cmp_ℚ x best) (is_better dir (cmp_ℚ x best)) refl refl rest.0 in
    (both.0, (both.1, rest.1))

-- and what holds of each holds of it
pub best_keeps : (dir : Dir) (Q : ℚ → Type 0) (best : ℚ) (xs : List ℚ) → Q best → AllByRecursion Q xs → Q (exact_best dir best xs)
best_keeps dir Q best [] h each = h
best_keeps dir Q best (x ∷ xs) h each =
    best_keeps dir Q (cond (is_better dir (cmp_ℚ x best)) x best) xs (either Q (is_better dir (cmp_ℚ x best)) x best each.0 h) each.1

pub greatest_exact : (xs : List ℚ) → exact_extreme Max xs ≡ greatest xs
greatest_exact [] = refl
greatest_exact (x ∷ xs) =
    let top = recursion_from_All (λ y. y ≤ℚ greatest (x ∷ xs)) (x ∷ xs) (greatest-ge (x ∷ xs)) in
    ≤ℚ_antisymm (exact_best Max x xs) (greatest (x ∷ xs)) (best_keeps Max (λ y. y ≤ℚ greatest (x ∷ xs)) x xs top.0 top.1)
    (greatest-le (exact_best Max x xs) x xs (All-from_recursion (λ y. y ≤ℚ exact_best Max x xs) (x ∷ xs) (best_covers Max x xs)))

least_exact : (xs : List ℚ) → exact_extreme Min xs ≡ least xs
least_exact [] = refl
least_exact (x ∷ xs) =
    let low = recursion_from_All (λ y. least (x ∷ xs) ≤ℚ y) (x ∷ xs) (least-le (x ∷ xs)) in
    ≤ℚ_antisymm (exact_best Min x xs) (least (x ∷ xs))
    (least-ge (exact_best Min x xs) x xs (All-from_recursion (λ y. exact_best Min x xs ≤ℚ y) (x ∷ xs) (best_covers Min x xs)))
    (best_keeps Min (λ y. least (x ∷ xs) ≤ℚ y) x xs low.0 low.1)

width_told : (z : List ℚ) (w : ℚ) → Some w ≡ told_width z → w ≡ width_of z
width_told z w e =
    plain_add-some (exact_extreme Max z) (neg_ℚ (exact_extreme Min z)) w e
    ∙ ap (λ (x : ℚ). x +ℚ neg_ℚ (exact_extreme Min z)) (greatest_exact z)
    ∙ ap (λ (y : ℚ). greatest z +ℚ neg_ℚ y) (least_exact z)

pub told_spread-some : (a b : List ℚ) (w : ℚ) → Some w ≡ told_spread a b → w ≡ spread_of a b
told_spread-some a b w e =
    let p = step_told (told_width a) (λ first. option_and_then (λ second. Some (exact_best Max first (second ∷ []))) (told_width b)) w e in
    let q = step_told (told_width b) (λ second. Some (exact_best Max p.0 (second ∷ []))) w p.2 in
    Some_same w (exact_best Max p.0 (q.0 ∷ [])) q.2
    ∙ greatest_exact (p.0 ∷ q.0 ∷ [])
    ∙ ap (λ (x : ℚ). greatest (x ∷ q.0 ∷ [])) (width_told a p.0 p.1)
    ∙ ap (λ (y : ℚ). greatest (width_of a ∷ y ∷ [])) (width_told b q.0 q.1)
