-- No better: at most for the greatest, at least for the least. Its laws for both alike, up to averages over the choices of a state.
use Rattle.std.proofs.Common.{◌≡◌, ℕ, ◌<◌, ◌≤◌, List, sym, ◌∙◌, ap, subst, Ordering, true, false, refl}
use Rattle.std.specs.declared.cmp.Ordering.TheVariants.{Less, Equal, Greater}
use Rattle.mdp_math.specs.{Rational.{ℚ, ◌+ℚ◌, ◌*ℚ◌, ◌≤ℚ◌, ◌<ℚ◌}, Sum.{sum_at, EachAt}, Written.{cmp_ℚ}}
use Rattle.mdp_math.proofs.Laws.{one-*ℚ}
use Rattle.mdp_math.proofs.Order.{0ℚ, ≤ℚ_refl, ≤ℚ_trans, ≤ℚ_of_eq, ≤ℚ_of_lt, ≤ℚ_antisymm, add-le-add_ℚ, mul-le-mul_left_ℚ, lt_of_cmp, eq_of_cmp, gt_of_cmp}
use Rattle.mdp_math.proofs.SumsAt.{sum_at-le, sum_at-sum_of, sum_at-weighted_le, sum_at-weighted_ge, EachAt_all, EachAt_mono, EachAt_both}
use Rattle.mdp_spec.specs.{Mdp.{Choice, Entry, Mdp, choices_at}, Row.{IsRow}, Unit.{count_at}}
use Rattle.mdp_spec.proofs.{Hits.{share}, Keeping.{share-nonneg, share-pos, shares-total}, Rows.{row_weigh, nonneg_at}, Steps.{average}}
use Rattle.mdp_rows.specs.{declared.dir.Dir.{Dir}, declared.dir.Dir.TheVariants.{Max, Min}, Better.{is_better}}

-- x is no better than y
abbrev pub NoBetter : Dir → ℚ → ℚ → Type 0
NoBetter Max x y = x ≤ℚ y
NoBetter Min x y = y ≤ℚ x

pub no_better_of_eq : (dir : Dir) (x y : ℚ) → x ≡ y → NoBetter dir x y
no_better_of_eq Max x y e = ≤ℚ_of_eq x y e
no_better_of_eq Min x y e = ≤ℚ_of_eq y x (sym e)

pub no_better_antisymm : (dir : Dir) (x y : ℚ) → NoBetter dir x y → NoBetter dir y x → x ≡ y
no_better_antisymm Max x y p q = ≤ℚ_antisymm x y p q
no_better_antisymm Min x y p q = ≤ℚ_antisymm x y q p

pub no_better_trans : (dir : Dir) (x y z : ℚ) → NoBetter dir x y → NoBetter dir y z → NoBetter dir x z
no_better_trans Max x y z p q = ≤ℚ_trans x y z p q
no_better_trans Min x y z p q = ≤ℚ_trans z y x q p

-- what is added to both
pub no_better_add : (dir : Dir) (a x y : ℚ) → NoBetter dir x y → NoBetter dir (a +ℚ x) (a +ℚ y)
no_better_add Max a x y p = add-le-add_ℚ a a x y (≤ℚ_refl a) p
no_better_add Min a x y p = add-le-add_ℚ a a y x (≤ℚ_refl a) p

-- the other direction
abbrev pub other : Dir → Dir
other Max = Min
other Min = Max

pub turned : (dir : Dir) (x y : ℚ) → NoBetter dir x y → NoBetter (other dir) y x
turned Max x y p = p
turned Min x y p = p

pub turned_back : (dir : Dir) (x y : ℚ) → NoBetter (other dir) x y → NoBetter dir y x
turned_back Max x y p = p
turned_back Min x y p = p

-- ---- the test of the comparison

better_by : (dir : Dir) (x y : ℚ) (o : Ordering) → cmp_ℚ x y ≡ o → is_better dir o ≡ true → NoBetter dir y x
better_by Max x y Less e h = cc
better_by Max x y Equal e h = cc
better_by Max x y Greater e h = ≤ℚ_of_lt y x (gt_of_cmp x y e)
better_by Min x y Less e h = ≤ℚ_of_lt x y (lt_of_cmp x y e)
better_by Min x y Equal e h = cc
better_by Min x y Greater e h = cc

worse_by : (dir : Dir) (x y : ℚ) (o : Ordering) → cmp_ℚ x y ≡ o → is_better dir o ≡ false → NoBetter dir x y
worse_by Max x y Less e h = ≤ℚ_of_lt x y (lt_of_cmp x y e)
worse_by Max x y Equal e h = ≤ℚ_of_eq x y (eq_of_cmp x y e)
worse_by Max x y Greater e h = cc
worse_by Min x y Less e h = cc
worse_by Min x y Equal e h = ≤ℚ_of_eq y x (sym (eq_of_cmp x y e))
worse_by Min x y Greater e h = ≤ℚ_of_lt y x (gt_of_cmp x y e)

pub better_of_test : (dir : Dir) (x y : ℚ) → is_better dir (cmp_ℚ x y) ≡ true → NoBetter dir y x
better_of_test dir x y h = better_by dir x y (cmp_ℚ x y) refl h

pub worse_of_test : (dir : Dir) (x y : ℚ) → is_better dir (cmp_ℚ x y) ≡ false → NoBetter dir x y
worse_of_test dir x y h = worse_by dir x y (cmp_ℚ x y) refl h

-- ---- sums

no_better_sum : {A : Type 0} (dir : Dir) (xs : List A) (f g : ℕ → A → ℚ) → EachAt xs (λ k x. NoBetter dir (f k x) (g k x)) → NoBetter dir (sum_at xs f) (sum_at xs g)
no_better_sum Max xs f g h = sum_at-le xs f g h
no_better_sum Min xs f g h = sum_at-le xs g f h

no_better_product : (dir : Dir) (p x y : ℚ) → 0ℚ ≤ℚ p → NoBetter dir x y → NoBetter dir (p *ℚ x) (p *ℚ y)
no_better_product Max p x y h q = mul-le-mul_left_ℚ p x y h q
no_better_product Min p x y h q = mul-le-mul_left_ℚ p y x h q

no_better_weighted : {A : Type 0} (dir : Dir) (xs : List A) (u v : ℕ → A → ℚ) (y : ℚ) → EachAt xs (λ k x. 0ℚ ≤ℚ u k x)
    → EachAt xs (λ k x. 0ℚ <ℚ u k x → NoBetter dir (v k x) y)
    → NoBetter dir (sum_at xs (λ k x. u k x *ℚ v k x)) (sum_at xs u *ℚ y)
no_better_weighted Max xs u v y h b = sum_at-weighted_le xs u v y h b
no_better_weighted Min xs u v y h b = sum_at-weighted_ge xs u v y h b

-- a sum over a row of numbers that are no better than z at the entries' targets
pub row_sum-no_better : (dir : Dir) (n : ℕ) (row : List Entry) (f : ℕ → Entry → ℚ) (z : ℕ → ℚ) → IsRow n row → EachAt row (λ e y. NoBetter dir (f e y) (z y.target))
    → NoBetter dir (sum_at row (λ e y. y.prob *ℚ f e y)) (row_weigh z row)
row_sum-no_better dir n row f z known each =
    subst (λ (w : ℚ). NoBetter dir (sum_at row (λ e y. y.prob *ℚ f e y)) w) (sum_at-sum_of row (λ y. y.prob *ℚ z y.target))
    (no_better_sum dir row (λ e y. y.prob *ℚ f e y) (λ e y. y.prob *ℚ z y.target)
    (EachAt_mono row (λ e y. (0ℚ ≤ℚ y.prob) × NoBetter dir (f e y) (z y.target)) (λ e y. NoBetter dir (y.prob *ℚ f e y) (y.prob *ℚ z y.target))
    (λ e y q. no_better_product dir y.prob (f e y) (z y.target) q.0 q.1)
    (EachAt_both row (λ e y. 0ℚ ≤ℚ y.prob) (λ e y. NoBetter dir (f e y) (z y.target)) (nonneg_at n row known) each)))

-- an average is no better than y, where each choice of weight above 0 is no better
pub average-no_better : (dir : Dir) (m : Mdp) (u : ℕ) (weights : ℕ → ℕ) (gain : Choice → ℚ) (f : ℕ → ℕ → Entry → ℚ) (s : ℕ) (y : ℚ) → 1 ≤ u
    → count_at (choices_at m s) (λ c x. weights c) ≡ u
    → EachAt (choices_at m s) (λ c x. 0 < weights c → NoBetter dir (gain x +ℚ sum_at x.row (λ e t. t.prob *ℚ f c e t)) y) → NoBetter dir (average m u weights gain f s) y
average-no_better dir m u weights gain f s y hu adds each =
    subst (λ (w : ℚ). NoBetter dir (average m u weights gain f s) w) (ap (λ (w : ℚ). w *ℚ y) (shares-total (choices_at m s) u weights hu adds) ∙ one-*ℚ y)
    (no_better_weighted dir (choices_at m s) (λ c x. share u weights c) (λ c x. gain x +ℚ sum_at x.row (λ e t. t.prob *ℚ f c e t)) y
    (EachAt_all (choices_at m s) (λ c x. 0ℚ ≤ℚ share u weights c) (λ c x. share-nonneg u weights c hu))
    (EachAt_mono (choices_at m s) (λ c x. 0 < weights c → NoBetter dir (gain x +ℚ sum_at x.row (λ e t. t.prob *ℚ f c e t)) y)
    (λ c x. 0ℚ <ℚ share u weights c → NoBetter dir (gain x +ℚ sum_at x.row (λ e t. t.prob *ℚ f c e t)) y)
    (λ c x q p. q (share-pos u weights c hu p)) each))
