-- The written spread of two lists is their spread.
use Rattle.std.proofs.Common.{◌≡◌, Bool, true, false, true≢false, cond, List, [], ◌∷◌, Some, refl, sym, ap, subst, ◌∙◌}
use Rattle.std.proofs.lemmas.List.Elements.{All-from_recursion, recursion_from_All}
use Rattle.std.specs.{List.{AllByRecursion}, Option.{option_and_then}, declared.cmp.Ordering.{Ordering}}
use Rattle.std.specs.declared.cmp.Ordering.TheVariants.{Less, Equal, Greater}
use Rattle.mdp_math.specs.{Rational.{ℚ, neg_ℚ, ◌+ℚ◌, ◌≤ℚ◌}, Written.{written_compare, cmp_ℚ}, Extremes.{least, greatest}}
use Rattle.mdp_math.proofs.{Options.{Some_same, step_told}, Written.{written_compare-some, written_add-some}}
use Rattle.mdp_math.proofs.Order.{≤ℚ_refl, ≤ℚ_trans, ≤ℚ_antisymm, ≤ℚ_of_eq, ≤ℚ_of_lt, lt_of_cmp, eq_of_cmp, gt_of_cmp}
use Rattle.mdp_math.proofs.Extremes.{least-le, least-ge, greatest-ge, greatest-le}
use Rattle.mdp_num.specs.Written.{written_sub}
use Rattle.mdp_spec.specs.MeanRules.{width_of, spread_of}
use Rattle.mdp_farkas.specs.{Compare.{0ℚ}, Spread.{written_best, written_extreme, written_width, written_spread}}
use Rattle.mdp_rows.specs.{Better.{is_better}, declared.dir.Dir.{Dir}, declared.dir.Dir.TheVariants.{Max, Min}}

-- ---- the best of a list, by steps

-- y is as good as x
abbrev pub AsGood : Dir → ℚ → ℚ → Type 0
AsGood Max x y = x ≤ℚ y
AsGood Min x y = y ≤ℚ x

pub as_good_same : (dir : Dir) (x : ℚ) → AsGood dir x x
as_good_same Max x = ≤ℚ_refl x
as_good_same Min x = ≤ℚ_refl x

as_good_trans : (dir : Dir) (x y z : ℚ) → AsGood dir x y → AsGood dir y z → AsGood dir x z
as_good_trans Max x y z h k = ≤ℚ_trans x y z h k
as_good_trans Min x y z h k = ≤ℚ_trans z y x k h

better_by : (dir : Dir) (x y : ℚ) (o : Ordering) → o ≡ cmp_ℚ x y → is_better dir o ≡ true → AsGood dir y x
better_by Max x y Less e h = absurd (true≢false (sym h))
better_by Max x y Equal e h = absurd (true≢false (sym h))
better_by Max x y Greater e h = ≤ℚ_of_lt y x (gt_of_cmp x y (sym e))
better_by Min x y Less e h = ≤ℚ_of_lt x y (lt_of_cmp x y (sym e))
better_by Min x y Equal e h = absurd (true≢false (sym h))
better_by Min x y Greater e h = absurd (true≢false (sym h))

no_better_by : (dir : Dir) (x y : ℚ) (o : Ordering) → o ≡ cmp_ℚ x y → is_better dir o ≡ false → AsGood dir x y
no_better_by Max x y Less e h = ≤ℚ_of_lt x y (lt_of_cmp x y (sym e))
no_better_by Max x y Equal e h = ≤ℚ_of_eq x y (eq_of_cmp x y (sym e))
no_better_by Max x y Greater e h = absurd (true≢false h)
no_better_by Min x y Less e h = absurd (true≢false h)
no_better_by Min x y Equal e h = ≤ℚ_of_eq y x (sym (eq_of_cmp x y (sym e)))
no_better_by Min x y Greater e h = ≤ℚ_of_lt y x (gt_of_cmp x y (sym e))

pub taken : (dir : Dir) (best x w : ℚ) (o : Ordering) (b : Bool) → o ≡ cmp_ℚ x best → is_better dir o ≡ b → AsGood dir (cond b x best) w → (AsGood dir best w) × (AsGood dir x w)
taken dir best x w o true e t h = (as_good_trans dir best x w (better_by dir x best o e t) h, h)
taken dir best x w o false e t h = (h, as_good_trans dir x best w (no_better_by dir x best o e t) h)

-- the written best is as good as each
best_covers : (dir : Dir) (best : ℚ) (xs : List ℚ) (w : ℚ) → Some w ≡ written_best dir best xs → (AsGood dir best w) × AllByRecursion (λ x. AsGood dir x w) xs
best_covers dir best [] w e = (subst (λ (y : ℚ). AsGood dir best y) (sym (Some_same w best e)) (as_good_same dir best), tt)
best_covers dir best (x ∷ xs) w e =
    let p = step_told (written_compare x best) (λ order. written_best dir (cond (is_better dir order) x best) xs) w e in
    let rest = best_covers dir (cond (is_better dir p.0) x best) xs w p.2 in
    let both = taken dir best x w p.0 (is_better dir p.0) (written_compare-some x best p.0 p.1) refl rest.0 in
    (both.0, (both.1, rest.1))

pub either : (Q : ℚ → Type 0) (b : Bool) (x y : ℚ) → Q x → Q y → Q (cond b x y)
either Q true x y h k = h
either Q false x y h k = k

-- and what holds of each holds of it
best_keeps : (dir : Dir) (Q : ℚ → Type 0) (best : ℚ) (xs : List ℚ) (w : ℚ) → Some w ≡ written_best dir best xs → Q best → AllByRecursion Q xs → Q w
best_keeps dir Q best [] w e h each = subst Q (sym (Some_same w best e)) h
best_keeps dir Q best (x ∷ xs) w e h each =
    let p = step_told (written_compare x best) (λ order. written_best dir (cond (is_better dir order) x best) xs) w e in
    best_keeps dir Q (cond (is_better dir p.0) x best) xs w p.2 (either Q (is_better dir p.0) x best each.0 h) each.1

-- ---- the greatest, the least, and the spread

pub greatest_told : (xs : List ℚ) (w : ℚ) → Some w ≡ written_extreme Max xs → w ≡ greatest xs
greatest_told [] w e = Some_same w 0ℚ e
greatest_told (x ∷ xs) w e =
    let top = recursion_from_All (λ y. y ≤ℚ greatest (x ∷ xs)) (x ∷ xs) (greatest-ge (x ∷ xs)) in
    ≤ℚ_antisymm w (greatest (x ∷ xs)) (best_keeps Max (λ y. y ≤ℚ greatest (x ∷ xs)) x xs w e top.0 top.1)
    (greatest-le w x xs (All-from_recursion (λ y. y ≤ℚ w) (x ∷ xs) (best_covers Max x xs w e)))

least_told : (xs : List ℚ) (w : ℚ) → Some w ≡ written_extreme Min xs → w ≡ least xs
least_told [] w e = Some_same w 0ℚ e
least_told (x ∷ xs) w e =
    let low = recursion_from_All (λ y. least (x ∷ xs) ≤ℚ y) (x ∷ xs) (least-le (x ∷ xs)) in
    ≤ℚ_antisymm w (least (x ∷ xs)) (least-ge w x xs (All-from_recursion (λ y. w ≤ℚ y) (x ∷ xs) (best_covers Min x xs w e)))
    (best_keeps Min (λ y. least (x ∷ xs) ≤ℚ y) x xs w e low.0 low.1)

width_told : (z : List ℚ) (w : ℚ) → Some w ≡ written_width z → w ≡ width_of z
width_told z w e =
    let p = step_told (written_extreme Max z) (λ high. option_and_then (λ low. written_sub high low) (written_extreme Min z)) w e in
    let q = step_told (written_extreme Min z) (λ low. written_sub p.0 low) w p.2 in
    written_add-some p.0 (neg_ℚ q.0) w q.2 ∙ ap (λ (x : ℚ). x +ℚ neg_ℚ q.0) (greatest_told z p.0 p.1) ∙ ap (λ (y : ℚ). greatest z +ℚ neg_ℚ y) (least_told z q.0 q.1)

pub written_spread-some : (a b : List ℚ) (w : ℚ) → Some w ≡ written_spread a b → w ≡ spread_of a b
written_spread-some a b w e =
    let p = step_told (written_width a) (λ first. option_and_then (λ second. written_best Max first (second ∷ [])) (written_width b)) w e in
    let q = step_told (written_width b) (λ second. written_best Max p.0 (second ∷ [])) w p.2 in
    greatest_told (p.0 ∷ q.0 ∷ []) w q.2
    ∙ ap (λ (x : ℚ). greatest (x ∷ q.0 ∷ [])) (width_told a p.0 p.1)
    ∙ ap (λ (y : ℚ). greatest (width_of a ∷ y ∷ [])) (width_told b q.0 q.1)
