-- Exact discounted rewards are bounds, as lower and as upper values, and near.
use Rattle.std.proofs.Common.{◌≡◌, ◌∙◌, ℕ, zero, suc, false, List, [], ◌∷◌, map, Option, Some, slice_index, refl, sym, ap, ap₂, subst}
use Rattle.std.proofs.lemmas.List.{length-map}
use Rattle.std.specs.Option.{IfSome}
use Rattle.mdp_math.specs.Rational.{ℚ, ◌+ℚ◌, ◌*ℚ◌, ◌-ℚ◌}
use Rattle.mdp_math.proofs.{Linear.{linear, known}, Ring.{◌⊕◌, ⊖}}
use Rattle.mdp_spec.specs.{Mdp.{Mdp, choice_at, row_at, value_at}, Row.{row_sum}, Unit.{reward_of}, Tree.{is_marked}}
use Rattle.mdp_spec.specs.{Bounds.{reward_at, finite_part, infinite}, RewardRules.{StaysFinite}}
use Rattle.mdp_rows.specs.{declared.dir.Dir.{Dir}, declared.dir.Dir.TheVariants.{Max, Min}, Better.{IsAsGood}}
use Rattle.mdp_discount_rules.specs.Rules.{discounted, MeetsDiscount}
use Rattle.mdp_discount_rules.specs.BoundsRules.{left_for, Allows, greatest_magnitude, MeetsDiscountBetween}
use Rattle.mdp_discount_rules.specs.{BoundsChecks.{IsDiscountBounds}, declared.bounds.DiscountBounds.{DiscountBounds}}
use Rattle.mdp_search_bounds.specs.{Near.{IsValueNear, AreValuesNear}, Wide.{IsInWidth}, DiscountHeld.{AreExactBounds}}
use Rattle.mdp_search_bounds.proofs.{Best.{good_same}, Nearness.{near_same}}

-- ---- values of which none is missing

finite_part-some : (v : List ℚ) → finite_part (map Some v) ≡ v
finite_part-some [] = refl
finite_part-some (x ∷ v) = ap (λ (w : List ℚ). x ∷ w) (finite_part-some v)

reward_at-some : (v : List ℚ) (s : ℕ) → reward_at (map Some v) s ≡ Some (value_at v s)
reward_at-some [] s = refl
reward_at-some (x ∷ v) zero = refl
reward_at-some (x ∷ v) (suc s) = reward_at-some v s

none-infinite : (v : List ℚ) (s : ℕ) → is_marked (infinite (map Some v)) s ≡ false
none-infinite [] s = refl
none-infinite (x ∷ v) zero = refl
none-infinite (x ∷ v) (suc s) = none-infinite v s

pub exact-near : (digits : ℕ) (m : Mdp) (v : List ℚ) (lower upper : List (Option ℚ)) → lower ≡ map Some v → upper ≡ map Some v → AreValuesNear digits m lower upper
exact-near digits m v lower upper e f s i =
    subst (λ (o : Option ℚ). IsValueNear digits o (reward_at upper s)) (sym (ap (λ (w : List (Option ℚ)). reward_at w s) e ∙ reward_at-some v s))
    (subst (λ (o : Option ℚ). IsValueNear digits (Some (value_at v s)) o) (sym (ap (λ (w : List (Option ℚ)). reward_at w s) f ∙ reward_at-some v s)) (near_same digits (value_at v s)))

-- ---- the rules

leaves : (dir : Dir) (x y z : ℚ) → IsAsGood dir x (y +ℚ z) → IsAsGood dir (x -ℚ z) y
leaves Max x y z h = linear 3 (λ x y z. y) (λ x y z. x ⊕ ⊖ z) (λ x y z. known (y ⊕ z) x ∷ []) refl x y z h
leaves Min x y z h = linear 3 (λ x y z. x ⊕ ⊖ z) (λ x y z. y) (λ x y z. known x (y ⊕ z) ∷ []) refl x y z h

module _ (m : Mdp) (r : ℕ) (f : ℚ) (v : List ℚ) (k : ℚ) (policy : List ℕ) where
  stays : (s c : ℕ) → StaysFinite m (map Some v) s c
  stays s c i y l = none-infinite v _

  allows : (dir : Dir) (s c : ℕ) → IsAsGood dir (value_at v s) (discounted m r f s c v) → Allows dir m r f (map Some v) s c
  allows dir s c h =
      subst (λ (o : Option ℚ). IfSome o (λ x. StaysFinite m (map Some v) s c × IsAsGood dir (left_for m f s c (map Some v) x) (reward_of (choice_at m s c) r))) (sym (reward_at-some v s)) (
        stays s c,
        subst (λ (w : List ℚ). IsAsGood dir (value_at v s -ℚ f *ℚ row_sum (row_at m s c) w) (reward_of (choice_at m s c) r)) (sym (finite_part-some v))
            (leaves dir (value_at v s) (reward_of (choice_at m s c) r) (f *ℚ row_sum (row_at m s c) v) h),
      )

  reached : (dir : Dir) (s c : ℕ) → value_at v s ≡ discounted m r f s c v → Allows dir m r f (map Some v) s c
  reached dir s c e = allows dir s c (subst (λ (x : ℚ). IsAsGood dir (value_at v s) x) e (good_same dir (value_at v s)))

  pub meets_between : (dir : Dir) → MeetsDiscount dir m r f v k policy → MeetsDiscountBetween dir m r f (map Some v) (map Some v) (greatest_magnitude (map Some v) (map Some v)) policy
  meets_between Max h = record {
    named = h.named;
    one_each = length-map v Some ∙ h.one_each;
    one_above = length-map v Some ∙ h.one_each;
    choices = h.choices;
    covers = λ s c i j. allows Max s c (h.covers s c i j);
    reached = λ s i. reached Min s (slice_index policy s) (h.reached s i);
    widest = refl;
  }
  meets_between Min h = record {
    named = h.named;
    one_each = length-map v Some ∙ h.one_each;
    one_above = length-map v Some ∙ h.one_each;
    choices = h.choices;
    covers = λ s c i j. allows Min s c (h.covers s c i j);
    reached = λ s i. reached Max s (slice_index policy s) (h.reached s i);
    widest = refl;
  }

  -- an answer whose check as bounds is in width is held as bounds
  pub exact_held : (dir : Dir) (bounds : DiscountBounds) → AreExactBounds v policy bounds → MeetsDiscount dir m r f v k policy → IsInWidth dir m r f (map Some v) policy
      → IsDiscountBounds dir m r f bounds.lower.items bounds.upper.items bounds.remainder bounds.choices.items
  exact_held dir bounds is meets all =
      let whole : IsDiscountBounds dir m r f (map Some v) (map Some v) (greatest_magnitude (map Some v) (map Some v)) policy = record { rules = meets_between dir meets; in_width = all } in
      let same : bounds.remainder ≡ greatest_magnitude (map Some v) (map Some v) = is.remainder ∙ ap₂ greatest_magnitude is.lower is.upper in
      subst (λ (x : List (Option ℚ)). IsDiscountBounds dir m r f x bounds.upper.items bounds.remainder bounds.choices.items) (sym is.lower)
      (subst (λ (x : List (Option ℚ)). IsDiscountBounds dir m r f (map Some v) x bounds.remainder bounds.choices.items) (sym is.upper)
      (subst (λ (x : ℚ). IsDiscountBounds dir m r f (map Some v) (map Some v) x bounds.choices.items) (sym same)
      (subst (λ (p : List ℕ). IsDiscountBounds dir m r f (map Some v) (map Some v) (greatest_magnitude (map Some v) (map Some v)) p) (sym is.choices) whole)))
