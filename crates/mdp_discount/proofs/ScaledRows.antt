-- A row taken f times, with what is left to a node behind the states, is a distribution again, and sums up f times what the row does, and what is
-- left times the node's value.
use Rattle.std.proofs.Common.{◌≡◌, ℕ, suc, ◌+◌, ◌<◌, ◌≤◌, ⊎_elim, Bool, true, false, true≢false, not, cond, List, [], ◌∷◌, ◌++◌, map, refl, sym, ◌∙◌, ap, ap₂, arith, pos}
use Rattle.std.proofs.{lemmas.Bool.{le-leb, leb-true}, lemmas.List.Elements.{All-from_recursion, recursion_from_All}}
use Rattle.std.specs.{Prelude.{nat_le, IsTrue}, List.{Any, AllByRecursion, filter}}
use Rattle.mdp_math.specs.{Rational.{ℚ, ◌+ℚ◌, ◌*ℚ◌, ◌-ℚ◌, ◌<ℚ◌}, Sum.{sum_of}}
use Rattle.mdp_math.proofs.{Ring.{◌⊕◌, ◌⊗◌, ⊖, lit, ring}, Laws.{rat_ring}, Booleans.{and-parts, and-both}, Order.{0ℚ, 1ℚ, lt_or_eq_ℚ, mul-pos_ℚ, sub-pos}}
use Rattle.mdp_math.proofs.Sums.{sum_of-append, sum_of-scale, sum_of-map, sum_of-same}
use Rattle.mdp_num.specs.{Equal.{eq_ℚ}, OrderView.{equal_decides}}
use Rattle.mdp_spec.specs.{Mdp.{Entry, value_at}, Row.{ascends_from, IsRow, row_sum}}
use Rattle.mdp_discount_rules.specs.Rules.{IsFactor}
use Rattle.mdp_discount.specs.Problem.{scaled, has_value, left_over, scaled_entries, discounted_row}

-- ---- entries of value 0

value_by : (e : Entry) (b : Bool) → eq_ℚ e.prob 0ℚ ≡ b → not b ≡ false → e.prob ≡ 0ℚ
value_by e true h k = (equal_decides e.prob 0ℚ).0 h
value_by e false h k = absurd (true≢false k)

none-value : (e : Entry) → has_value e ≡ false → e.prob ≡ 0ℚ
none-value e h = value_by e (eq_ℚ e.prob 0ℚ) refl h

zero-value : (e : Entry) → has_value e ≡ true → e.prob ≡ 0ℚ → ⊥
zero-value e h z = let t = (equal_decides e.prob 0ℚ).1 z in absurd (true≢false (sym h ∙ ap not t))

-- ---- sums

module _ (h : Entry → ℚ) (zero : (e : Entry) → e.prob ≡ 0ℚ → h e ≡ 0ℚ) where
  sum_by : (b : Bool) (e : Entry) (es : List Entry) → has_value e ≡ b → sum_of h (filter has_value es) ≡ sum_of h es
      → sum_of h (cond b (e ∷ filter has_value es) (filter has_value es)) ≡ h e +ℚ sum_of h es
  sum_by true e es v same = ap (λ (x : ℚ). h e +ℚ x) same
  sum_by false e es v same =
      same ∙ ring rat_ring 1 (λ x. x) (λ x. lit (pos 0) ⊕ x) refl (sum_of h es) ∙ ap (λ (x : ℚ). x +ℚ sum_of h es) (sym (zero e (none-value e v)))

  sum-kept : (es : List Entry) → sum_of h (filter has_value es) ≡ sum_of h es
  sum-kept [] = refl
  sum-kept (e ∷ es) = sum_by (has_value e) e es refl (sum-kept es)

-- a sum over the scaled entries
sum-scaled : (f : ℚ) (g : Entry → ℚ) (row : List Entry) → ((e : Entry) → g (scaled f e) ≡ g e) → sum_of (λ e. e.prob *ℚ g e) (scaled_entries f row) ≡ f *ℚ sum_of (λ e. e.prob *ℚ g e) row
sum-scaled f g row same =
    sum-kept (λ e. e.prob *ℚ g e) (λ e z. ap (λ (p : ℚ). p *ℚ g e) z ∙ ring rat_ring 1 (λ x. lit (pos 0) ⊗ x) (λ x. lit (pos 0)) refl (g e)) (map (scaled f) row)
    ∙ sum_of-map (scaled f) (λ e. e.prob *ℚ g e) row
    ∙ sum_of-same (λ e. (f *ℚ e.prob) *ℚ g (scaled f e)) (λ e. f *ℚ (e.prob *ℚ g e)) row
    (λ e. ap (λ (x : ℚ). (f *ℚ e.prob) *ℚ x) (same e) ∙ ring rat_ring 3 (λ f p x. (f ⊗ p) ⊗ x) (λ f p x. f ⊗ (p ⊗ x)) refl f e.prob (g e))
    ∙ sum_of-scale f (λ e. e.prob *ℚ g e) row

-- what the row with what is left sums up
pub discounted-sum : (n : ℕ) (f : ℚ) (row : List Entry) (x : List ℚ) → row_sum (discounted_row n f row) x ≡ f *ℚ row_sum row x +ℚ (1ℚ -ℚ f) *ℚ value_at x n
discounted-sum n f row x =
    sum_of-append (λ e. e.prob *ℚ value_at x e.target) (scaled_entries f row) (left_over n f ∷ [])
    ∙ ap₂ (λ (a b : ℚ). a +ℚ b) (sum-scaled f (λ e. value_at x e.target) row (λ e. refl))
    (ring rat_ring 1 (λ y. y ⊕ lit (pos 0)) (λ y. y) refl ((1ℚ -ℚ f) *ℚ value_at x n))

-- ---- what holds of each scaled entry that has a value, and of what is left

module _ (n : ℕ) (f : ℚ) (P : Entry → Type 0) (last : P (left_over n f)) where
  each_by : (b : Bool) (e : Entry) (es : List Entry) → has_value (scaled f e) ≡ b → (has_value (scaled f e) ≡ true → P (scaled f e)) → AllByRecursion P (es ++ left_over n f ∷ [])
      → AllByRecursion P (cond b (scaled f e ∷ es) es ++ left_over n f ∷ [])
  each_by true e es v h k = (h v, k)
  each_by false e es v h k = k

  pub discounted-each : (row : List Entry) → AllByRecursion (λ e. has_value (scaled f e) ≡ true → P (scaled f e)) row → AllByRecursion P (scaled_entries f row ++ left_over n f ∷ [])
  discounted-each [] h = (last, tt)
  discounted-each (e ∷ row) h = each_by (has_value (scaled f e)) e (scaled_entries f row) refl h.0 (discounted-each row h.1)

-- ---- a distribution

module _ (n : ℕ) (f : ℚ) (factor : IsFactor f) where
  left-pos : 0ℚ <ℚ (1ℚ -ℚ f)
  left-pos = sub-pos f 1ℚ factor.below_one

  ascends_by : (b : Bool) (low : ℕ) (e : Entry) (es : List Entry) → low ≤ e.target → IsTrue (ascends_from (e.target + 1) (es ++ left_over n f ∷ []))
      → IsTrue (ascends_from low (es ++ left_over n f ∷ []))
      → IsTrue (ascends_from low (cond b (scaled f e ∷ es) es ++ left_over n f ∷ []))
  ascends_by true low e es h k l = and-both (nat_le low e.target) (ascends_from (e.target + 1) (es ++ left_over n f ∷ [])) (le-leb low e.target h) k
  ascends_by false low e es h k l = l

  ascends : (row : List Entry) (low a : ℕ) → low ≤ a → a ≤ n → IsTrue (ascends_from a row) → AllByRecursion (λ e. e.target < n) row
      → IsTrue (ascends_from low (scaled_entries f row ++ left_over n f ∷ []))
  ascends [] low a h k up below = and-both (nat_le low n) true (le-leb low n (omega arith)) refl
  ascends (e ∷ row) low a h k up below =
      let p = and-parts (nat_le a e.target) (ascends_from (e.target + 1) row) up in
      let t = leb-true a e.target p.0 in
      let u = below.0 in
      ascends_by (has_value (scaled f e)) low e (scaled_entries f row) (omega arith) (ascends row (e.target + 1) (e.target + 1) (omega arith) (omega arith) p.1 below.1)
      (ascends row low (e.target + 1) (omega arith) (omega arith) p.1 below.1)

  value-pos : (e : Entry) → 0ℚ <ℚ e.prob → has_value (scaled f e) ≡ true → 0ℚ <ℚ f *ℚ e.prob
  value-pos e p v =
      ⊎_elim (λ above. mul-pos_ℚ f e.prob above p)
      (λ none. absurd (zero-value (scaled f e) v (ap (λ (x : ℚ). x *ℚ e.prob) (sym none) ∙ ring rat_ring 1 (λ p. lit (pos 0) ⊗ p) (λ p. lit (pos 0)) refl e.prob)))
      (lt_or_eq_ℚ 0ℚ f factor.at_least_zero)

  mono : (P Q : Entry → Type 0) → ((e : Entry) → P e → Q e) → (row : List Entry) → AllByRecursion P row → AllByRecursion Q row
  mono P Q h [] k = tt
  mono P Q h (e ∷ row) k = (h e k.0, mono P Q h row k.1)

  total : (row : List Entry) → sum_of (λ e. e.prob) row ≡ 1ℚ → sum_of (λ e. e.prob) (discounted_row n f row) ≡ 1ℚ
  total row one =
      sum_of-append (λ e. e.prob) (scaled_entries f row) (left_over n f ∷ [])
      ∙ ap (λ (x : ℚ). x +ℚ ((1ℚ -ℚ f) +ℚ 0ℚ))
      (sum_of-same (λ e. e.prob) (λ e. e.prob *ℚ 1ℚ) (scaled_entries f row) (λ e. ring rat_ring 1 (λ p. p) (λ p. p ⊗ lit (pos 1)) refl e.prob)
      ∙ sum-scaled f (λ e. 1ℚ) row (λ e. refl)
      ∙ ap (λ (x : ℚ). f *ℚ x) (sum_of-same (λ e. e.prob *ℚ 1ℚ) (λ e. e.prob) row (λ e. ring rat_ring 1 (λ p. p ⊗ lit (pos 1)) (λ p. p) refl e.prob) ∙ one))
      ∙ ring rat_ring 1 (λ f. f ⊗ lit (pos 1) ⊕ ((lit (pos 1) ⊕ ⊖ f) ⊕ lit (pos 0))) (λ f. lit (pos 1)) refl f

  pub discounted-row : (row : List Entry) → IsRow n row → IsRow (n + 1) (discounted_row n f row)
  discounted-row row is =
      let up = is.distribution in
      let below = recursion_from_All (λ e. e.target < n) row is.in_range in
      record {
        distribution = record {
          ascending = ascends row 0 0 (omega arith) (omega arith) up.ascending below;
          positive =
              All-from_recursion (λ e. 0ℚ <ℚ e.prob) (discounted_row n f row)
              (discounted-each n f (λ e. 0ℚ <ℚ e.prob) left-pos row
              (mono (λ e. 0ℚ <ℚ e.prob) (λ e. has_value (scaled f e) ≡ true → 0ℚ <ℚ f *ℚ e.prob) (λ e p v. value-pos e p v) row (recursion_from_All (λ e. 0ℚ <ℚ e.prob) row up.positive)));
          total = total row up.total;
        };
        in_range =
            All-from_recursion (λ e. e.target < n + 1) (discounted_row n f row)
            (discounted-each n f (λ e. e.target < n + 1) (omega arith) row (mono (λ e. e.target < n) (λ e. has_value (scaled f e) ≡ true → e.target < n + 1) (λ e p v. omega (arith, p)) row below));
      }

-- the last entry leads to the node behind the states
any_later : (Q : Entry → Type 0) (e : Entry) (es : List Entry) → Any Q es → Any Q (e ∷ es)
any_later Q e es h = (suc h.0, h.1, omega (arith, h.2), h.3, h.4)

any_last : (Q : Entry → Type 0) (es : List Entry) (e : Entry) → Q e → Any Q (es ++ e ∷ [])
any_last Q [] e h = (0, e, omega arith, refl, h)
any_last Q (x ∷ es) e h = any_later Q x (es ++ e ∷ []) (any_last Q es e h)

pub leads-out : (Q : Entry → Type 0) (n : ℕ) (f : ℚ) (row : List Entry) → Q (left_over n f) → Any Q (discounted_row n f row)
leads-out Q n f row h = any_last Q (scaled_entries f row) (left_over n f) h
