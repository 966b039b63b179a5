-- The written excess is at least 0 and at least that of each exit, and the bound is the inner bias, moved by it for each step.
use Rattle.std.proofs.Common.{◌≡◌, ℕ, zero, suc, ◌<◌, inl, inr, Bool, true, false, if◌then◌else◌, List, [], ◌∷◌}
use Rattle.std.proofs.Common.{length, Some, Result, Ok, refl, sym, ap, ◌∙◌, subst, arith, negsuc}
use Rattle.std.specs.{declared.cmp.Ordering.{Ordering}, declared.cmp.Ordering.TheVariants.{Less, Equal, Greater}}
use Rattle.mdp_math.specs.{Rational.{ℚ, ◌+ℚ◌, ◌*ℚ◌, ◌≤ℚ◌}, Written.{written_add, written_mul, written_compare, cmp_ℚ}}
use Rattle.mdp_math.proofs.{Numbers.{last_or}, Options.{Some_same, step_told}, Written.{written_add-some, written_mul-some, written_compare-some}}
use Rattle.mdp_math.proofs.{Order.{≤ℚ_refl, ≤ℚ_trans, ≤ℚ_of_eq, ≤ℚ_of_lt, lt_of_cmp, eq_of_cmp, gt_of_cmp}, Ring.{◌⊕◌, ⊖, lit}, Linear.{linear, known, equal}}
use Rattle.mdp_spec.specs.{Mdp.{states_of, choices_at, row_at, value_at}, Row.{row_sum}, Written.{written_sum}}
use Rattle.mdp_ends.specs.{Ends.{is_inside}, Join.{IsAsGood, moved_by}}
use Rattle.mdp_policy_iteration.proofs.Results.{ok_same, ok_part, place_part, up_to-is}
use Rattle.mdp_farkas.specs.{Compare.{0ℚ}, Spread.{written_best}}
use Rattle.mdp_rows.specs.{Better.{is_better}, declared.dir.Dir.{Dir}, declared.dir.Dir.TheVariants.{Max, Min}}
use Rattle.mdp_spec.proofs.Summed.{written_sum-some}
use Rattle.mdp_mean.specs.Terms.{Joining, reward_at, excess_over, excess_at, greater_excess, written_moved, bound_by}
use Rattle.mdp_mean.specs.Join.{place, bounding, steps_to, after_choice_by, after_choice, after_state, written_excess, bound_at, written_bound}

-- ---- steps by which a number doesn't fall

module _ {R : Type 0} (f : ℕ → ℚ → Result ℚ R) (up : (k : ℕ) (x y : ℚ) → f k x ≡ Ok y → x ≤ℚ y) where
  pub steps-up : (n : ℕ) (x y : ℚ) → steps_to f x n ≡ Ok y → x ≤ℚ y
  steps-up zero x y h = ≤ℚ_of_eq x y (ok_same x y h)
  steps-up (suc n) x y h =
      let p = ok_part (steps_to f x n) (f n) y h in
      ≤ℚ_trans x p.0 y (steps-up n x p.0 p.1) (up n p.0 y p.2)

  -- each of them is made, and what it gives is at most the last
  pub step-made : (n k : ℕ) (x y : ℚ) → steps_to f x n ≡ Ok y → k < n → (a : ℚ) × (b : ℚ) × (f k a ≡ Ok b) × (b ≤ℚ y)
  step-made zero k x y h l = absurd (omega arith)
  step-made (suc n) k x y h l =
      let p = ok_part (steps_to f x n) (f n) y h in
      elim (last_or n k l) as (λ _. (a : ℚ) × (b : ℚ) × (f k a ≡ Ok b) × (b ≤ℚ y)) [
        | inl q ↦ subst (λ i. (a : ℚ) × (b : ℚ) × (f i a ≡ Ok b) × (b ≤ℚ y)) (sym q) (p.0, y, p.2, ≤ℚ_refl y)
        | inr u ↦ (let r = step-made n k x p.0 p.1 u in (r.0, r.1, r.2, ≤ℚ_trans r.1 p.0 y r.3 (up n p.0 y p.2)))
      ]

-- ---- the greater of two

greater_by : (d e w : ℚ) (o : Ordering) → o ≡ cmp_ℚ e d → Some w ≡ written_best Max (if is_better Max o then e else d) [] → (d ≤ℚ w) × (e ≤ℚ w)
greater_by d e w Less c h =
    let q : w ≡ d = Some_same w d h in
    (≤ℚ_of_eq d w (sym q), subst (λ (z : ℚ). e ≤ℚ z) (sym q) (≤ℚ_of_lt e d (lt_of_cmp e d (sym c))))
greater_by d e w Equal c h =
    let q : w ≡ d = Some_same w d h in
    (≤ℚ_of_eq d w (sym q), subst (λ (z : ℚ). e ≤ℚ z) (sym q) (≤ℚ_of_eq e d (eq_of_cmp e d (sym c))))
greater_by d e w Greater c h =
    let q : w ≡ e = Some_same w e h in
    (subst (λ (z : ℚ). d ≤ℚ z) (sym q) (≤ℚ_of_lt d e (gt_of_cmp e d (sym c))), ≤ℚ_of_eq e w (sym q))

greater-covers : (d e w : ℚ) → Some w ≡ written_best Max d (e ∷ []) → (d ≤ℚ w) × (e ≤ℚ w)
greater-covers d e w h =
    let p = step_told (written_compare e d) (λ order. written_best Max (if is_better Max order then e else d) []) w h in
    greater_by d e w p.0 (written_compare-some e d p.0 p.1) p.2

-- ---- the excess of an exit

module _ (j : Joining) where
  -- what a choice earns by the inner bias
  abbrev pub earned : ℕ → ℕ → ℚ
  earned s c = reward_at j s c +ℚ row_sum (row_at j.model s c) j.inner

  abbrev pub owed : ℕ → ℚ
  owed s = value_at j.gains s +ℚ value_at j.inner s

  covered_by : (dir : Dir) (u w e d : ℚ) → Some e ≡ excess_over dir u w → e ≤ℚ d → IsAsGood dir (moved_by dir w d) u
  covered_by Max u w e d h l = linear 4 (λ u w e d. u) (λ u w e d. w ⊕ d) (λ u w e d. equal (lit (negsuc 0)) e (u ⊕ ⊖ w) ∷ known e d ∷ []) refl u w e d (written_add-some u _ e h) l
  covered_by Min u w e d h l = linear 4 (λ u w e d. w ⊕ ⊖ d) (λ u w e d. u) (λ u w e d. equal (lit (negsuc 0)) e (w ⊕ ⊖ u) ∷ known e d ∷ []) refl u w e d (written_add-some w _ e h) l

  -- the excess of a choice
  excess-covers : (s c : ℕ) (e d : ℚ) → Some e ≡ excess_at j s c → e ≤ℚ d → IsAsGood j.dir (moved_by j.dir (owed s) d) (earned s c)
  excess-covers s c e d h l =
      let p = step_told (written_sum j.inner (reward_at j s c) (row_at j.model s c)) _ e h in
      let q = step_told (written_add (value_at j.gains s) (value_at j.inner s)) (λ w. excess_over j.dir p.0 w) e p.2 in
      let u = written_sum-some j.inner (reward_at j s c) (row_at j.model s c) p.0 p.1 in
      let w = written_add-some (value_at j.gains s) (value_at j.inner s) q.0 q.1 in
      subst (λ (z : ℚ). IsAsGood j.dir (moved_by j.dir (owed s) d) z) u (subst (λ (z : ℚ). IsAsGood j.dir (moved_by j.dir z d) p.0) w (covered_by j.dir p.0 q.0 e d q.2 l))

  choice_by-up : (s c : ℕ) (b : Bool) (x y : ℚ) → after_choice_by j s c b x ≡ Ok y → x ≤ℚ y
  choice_by-up s c true x y h = ≤ℚ_of_eq x y (ok_same x y h)
  choice_by-up s c false x y h =
      let o = place_part (place _ s c) (greater_excess j s c x) y h in
      let p = step_told (excess_at j s c) (λ e. written_best Max x (e ∷ [])) y (sym o) in
      (greater-covers x p.0 y p.2).0

  choice-up : (s c : ℕ) (x y : ℚ) → after_choice j s c x ≡ Ok y → x ≤ℚ y
  choice-up s c x y h = choice_by-up s c (is_inside j.model j.parts s c) x y h

  state-up : (s : ℕ) (x y : ℚ) → after_state j s x ≡ Ok y → x ≤ℚ y
  state-up s x y h = steps-up (after_choice j s) (choice-up s) (length (choices_at j.model s)) x y h

  pub excess-nonneg : (d : ℚ) → written_excess j ≡ Ok d → 0ℚ ≤ℚ d
  excess-nonneg d h = steps-up (after_state j) state-up (states_of j.model) 0ℚ d h

  pub excess-leaving : (d : ℚ) → written_excess j ≡ Ok d → (s c : ℕ) → s < states_of j.model → c < length (choices_at j.model s) → is_inside j.model j.parts s c ≡ false
      → IsAsGood j.dir (moved_by j.dir (owed s) d) (earned s c)
  excess-leaving d h s c l k out =
      let p = step-made (after_state j) state-up (states_of j.model) s 0ℚ d h l in
      let q = step-made (after_choice j s) (choice-up s) (length (choices_at j.model s)) c p.0 p.1 p.2 k in
      let made : after_choice_by j s c false q.0 ≡ Ok q.1 = subst (λ (b : Bool). after_choice_by j s c b q.0 ≡ Ok q.1) out q.2 in
      let o = place_part (place _ s c) (greater_excess j s c q.0) q.1 made in
      let e = step_told (excess_at j s c) (λ e. written_best Max q.0 (e ∷ [])) q.1 (sym o) in
      excess-covers s c e.0 d e.1 (≤ℚ_trans e.0 q.1 d (greater-covers q.0 e.0 q.1 e.2).1 (≤ℚ_trans q.1 p.1 d q.3 p.3))

  -- ---- the bound

  moved-is : (dir : Dir) (h x a : ℚ) → Some a ≡ written_moved dir h x → a ≡ moved_by dir h x
  moved-is Max h x a e = written_add-some h x a e
  moved-is Min h x a e = written_add-some h _ a e

  bound-value : (d : ℚ) (s : ℕ) (a : ℚ) → Some a ≡ bound_by j d s → a ≡ moved_by j.dir (value_at j.inner s) (d *ℚ value_at j.steps s)
  bound-value d s a e =
      let p = step_told (written_mul d (value_at j.steps s)) (λ x. written_moved j.dir (value_at j.inner s) x) a e in
      moved-is j.dir (value_at j.inner s) p.0 a p.2 ∙ ap (moved_by j.dir (value_at j.inner s)) (written_mul-some d (value_at j.steps s) p.0 p.1)

  pub bound-len : (d : ℚ) (a : List ℚ) → written_bound j d ≡ Ok a → length a ≡ states_of j.model
  bound-len d a h = (up_to-is (bound_at j d) (states_of j.model) a h).len

  pub bound-is : (d : ℚ) (a : List ℚ) → written_bound j d ≡ Ok a → (s : ℕ) → s < states_of j.model → value_at a s ≡ moved_by j.dir (value_at j.inner s) (d *ℚ value_at j.steps s)
  bound-is d a h s l =
      bound-value d s (value_at a s) (sym (place_part (bounding j.policy s) (bound_by j d s) (value_at a s) ((up_to-is (bound_at j d) (states_of j.model) a h).at s 0ℚ l)))
