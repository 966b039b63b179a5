-- Trees that come close to the values: the deficit, value minus hit, stays below the n-th power of a rate, where the trees use rows that a
-- weight shrinks, and no value passes the sum over such a row.
use Rattle.std.proofs.Common.{◌≡◌, ℕ, ◌<◌, ◌≤◌, ⊎_elim, Bool, true, false, true≢false, cond, not, List, [], ◌∷◌, length, refl, sym, arith, pos}
use Rattle.std.proofs.lemmas.Bool.{cases_Bool}
use Rattle.mdp_math.specs.{Rational.{ℚ, of_int, ratio, ◌+ℚ◌, ◌*ℚ◌, ◌-ℚ◌, neg_ℚ, ◌≤ℚ◌}, Power.{pow_ℚ}}
use Rattle.mdp_math.proofs.{Ring.{◌⊕◌, ◌⊗◌, ⊖, lit}, Linear.{linear, equal, at_most, known}, Order.{0ℚ, 1ℚ, mul-nonneg}, Whole.{of_nat-nonneg, ratio-pos}}
use Rattle.mdp_math.proofs.{Division.{half, half_twice}, Powers.{pow_ℚ-nonneg}, Weight.{Shrinks}, Leaving.{weight-nonneg, shrinks-fades}}
use Rattle.mdp_spec.specs.{Mdp.{Entry, Mdp, states_of, choices_at, row_at}, Row.{IsMdp}, Tree.{Tree, is_marked}, Hit.{hit}}
use Rattle.mdp_spec.proofs.{Rows.{row_weigh-sub_scaled, row_weigh}, Steps.{at_most_by_steps, keeping_uses, goes-scale, hit_goes}, Hits.{hit-goal, hit-end}}
use Rattle.mdp_spec.proofs.{Keeping.{Keeps}, Above.{hit-nonneg}}

-- the rows of the choices that meet a rule
abbrev pub Allowed : Mdp → (ℕ → ℕ → Type 0) → ℕ → List Entry → Type 0
Allowed m P s row = (c : ℕ) × P s c × (c < length (choices_at m s)) × (row_at m s c ≡ row)

-- a weight that these rows shrink
abbrev pub RowsShrink : Mdp → (ℕ → Bool) → (ℕ → ℕ → Type 0) → Type 0
RowsShrink m active P = Shrinks (λ (y : Entry). y.target) (λ (y : Entry). y.prob) active (Allowed m P)

two-nonneg : 0ℚ ≤ℚ of_int (pos 2)
two-nonneg = of_nat-nonneg 2

-- what is asked of minus the hit h: at a goal, at a state of value 0, at a leaf, and at a node, where the bound b is less the value z
at_goal : (z h b : ℚ) → h ≡ 1ℚ → z ≤ℚ 1ℚ → 0ℚ ≤ℚ b → neg_ℚ 1ℚ *ℚ h ≤ℚ b -ℚ z
at_goal z h b is le pos_ =
    linear 3 (λ z h b. ⊖ (lit (pos 1)) ⊗ h) (λ z h b. b ⊕ ⊖ z) (λ z h b. equal (lit (pos 1)) (lit (pos 1)) h ∷ known z (lit (pos 1)) ∷ known (lit (pos 0)) b ∷ []) refl z h b (sym is) le pos_

at_none : (z h b : ℚ) → 0ℚ ≤ℚ h → z ≤ℚ 0ℚ → 0ℚ ≤ℚ b → neg_ℚ 1ℚ *ℚ h ≤ℚ b -ℚ z
at_none z h b nonneg le pos_ = linear 3 (λ z h b. ⊖ (lit (pos 1)) ⊗ h) (λ z h b. b ⊕ ⊖ z)
    (λ z h b. known (lit (pos 0)) h ∷ known z (lit (pos 0)) ∷ known (lit (pos 0)) b ∷ []) refl z h b nonneg le pos_

at_leaf : (z h w : ℚ) → h ≡ 0ℚ → z ≤ℚ 1ℚ → half ≤ℚ w → neg_ℚ 1ℚ *ℚ h ≤ℚ (1ℚ *ℚ of_int (pos 2)) *ℚ w -ℚ z
at_leaf z h w is le weight =
    linear 4 (λ z h w a. ⊖ (lit (pos 1)) ⊗ h) (λ z h w a. (lit (pos 1) ⊗ lit (pos 2)) ⊗ w ⊕ ⊖ z)
    (λ z h w a. equal (⊖ (lit (pos 1))) h (lit (pos 0)) ∷ known z (lit (pos 1)) ∷ equal (lit (pos 1)) (lit (pos 1)) (lit (pos 2) ⊗ a) ∷ at_most (lit (pos 2)) a w ∷ []) refl
    z h w half is le (sym half_twice) two-nonneg weight

-- x is what the row weighs of the bounds less the values, y of the weights, v of the values; r is the rate, and q its power so far
at_node : (x y w v z r q : ℚ) → x ≡ (q *ℚ of_int (pos 2)) *ℚ y -ℚ v → 0ℚ ≤ℚ q *ℚ of_int (pos 2)
    → y ≤ℚ r *ℚ w → z ≤ℚ v → neg_ℚ 1ℚ *ℚ 0ℚ +ℚ x ≤ℚ ((r *ℚ q) *ℚ of_int (pos 2)) *ℚ w -ℚ z
at_node x y w v z r q is nonneg shrinks le =
    linear 7 (λ x y w v z r q. (⊖ (lit (pos 1)) ⊗ lit (pos 0)) ⊕ x) (λ x y w v z r q. ((r ⊗ q) ⊗ lit (pos 2)) ⊗ w ⊕ ⊖ z)
    (λ x y w v z r q. equal (lit (pos 1)) x ((q ⊗ lit (pos 2)) ⊗ y ⊕ ⊖ v) ∷ at_most (q ⊗ lit (pos 2)) y (r ⊗ w) ∷ known z v ∷ []) refl x y w v z r q is nonneg shrinks le

-- the trees end at goals and where no row is known to shrink
abbrev ends : List Bool → (ℕ → Bool) → ℕ → Bool
ends goals active s = cond (is_marked goals s) true (not (active s))

under_way : (g a : Bool) → cond g true (not a) ≡ false → (g ≡ false) × (a ≡ true)
under_way true a e = absurd (true≢false e)
under_way false true e = (refl, refl)
under_way false false e = absurd (true≢false e)

inactive_by : (g a : Bool) → g ≡ false → cond g true (not a) ≡ true → a ≡ false
inactive_by true a f e = absurd (true≢false f)
inactive_by false true f e = absurd (true≢false (sym e))
inactive_by false false f e = refl

module _ (m : Mdp) (goals : List Bool) (u : ℕ) (known_ : IsMdp m) (hu : 1 ≤ u) (P : ℕ → ℕ → Type 0) (active : ℕ → Bool) (K : RowsShrink m active P) (z : ℕ → ℚ)
    (start : (s : ℕ) → s < states_of m → z s ≤ℚ 1ℚ)
    (out : (s : ℕ) → s < states_of m → is_marked goals s ≡ false → active s ≡ false → z s ≤ℚ 0ℚ)
    (at_choice : (s c : ℕ) → s < states_of m → active s ≡ true → P s c → c < length (choices_at m s) → z s ≤ℚ row_weigh z (row_at m s c)) where
  power-nonneg : (n : ℕ) → 0ℚ ≤ℚ pow_ℚ K.rate n *ℚ of_int (pos 2)
  power-nonneg n = mul-nonneg _ _ (pow_ℚ-nonneg K.rate n K.rate_nonneg) two-nonneg

  bound-nonneg : (n s : ℕ) → 0ℚ ≤ℚ (pow_ℚ K.rate n *ℚ of_int (pos 2)) *ℚ K.weight s
  bound-nonneg n s = mul-nonneg _ _ (power-nonneg n) (weight-nonneg K s)

  -- minus the hit goes by steps, and is at most the bound less the value
  minus_hit-le : (n : ℕ) (t : Tree) (s : ℕ) → s < states_of m → Keeps m P u n t s → neg_ℚ 1ℚ *ℚ hit m goals u n t s ≤ℚ (pow_ℚ K.rate n *ℚ of_int (pos 2)) *ℚ K.weight s -ℚ z s
  minus_hit-le n t s h keeps =
      at_most_by_steps m u known_ hu (ends goals active) P (λ s. s < states_of m) (λ n t s. (s < states_of m) × Keeps m P u n t s) (keeping_uses m u (ends goals active) P known_)
      (λ x. neg_ℚ 1ℚ *ℚ 0ℚ) (λ n t s. neg_ℚ 1ℚ *ℚ hit m goals u n t s)
      (λ n weights kids s e. goes-scale m u (is_marked goals) (neg_ℚ 1ℚ) (λ x. 0ℚ) (λ n t s. hit m goals u n t s) (hit_goes m goals u known_ hu) n weights kids s (under_way _ _ e).0)
      (λ n s. (pow_ℚ K.rate n *ℚ of_int (pos 2)) *ℚ K.weight s -ℚ z s)
      (λ n t s h e. ⊎_elim (λ g. at_goal (z s) (hit m goals u n t s) _ (hit-goal m goals u n t s hu g) (start s h) (bound-nonneg n s))
      (λ g. at_none (z s) (hit m goals u n t s) _ (hit-nonneg m goals u n t s hu) (out s h g (inactive_by _ _ g e)) (bound-nonneg n s)) (cases_Bool (is_marked goals s)))
      (λ t s h e.
      let p = under_way (is_marked goals s) (active s) e in
      at_leaf (z s) (hit m goals u 0 t s) (K.weight s) (hit-end m goals u t s hu p.0) (start s h) (K.at_least_half s p.1))
      (λ n s c h e ok i.
      let p = under_way (is_marked goals s) (active s) e in
      at_node (row_weigh (λ v. (pow_ℚ K.rate n *ℚ of_int (pos 2)) *ℚ K.weight v -ℚ z v) (row_at m s c)) (row_weigh K.weight (row_at m s c)) (K.weight s) (row_weigh z (row_at m s c))
      (z s) K.rate (pow_ℚ K.rate n)
      (row_weigh-sub_scaled (row_at m s c) (pow_ℚ K.rate n *ℚ of_int (pos 2)) K.weight z) (power-nonneg n) (K.shrinks s (row_at m s c) p.1 (c, ok, i, refl)) (at_choice s c h p.1 ok i))
      n t s (h, keeps)

  pub deficit-le : (n : ℕ) (t : Tree) (s : ℕ) → s < states_of m → Keeps m P u n t s → z s -ℚ hit m goals u n t s ≤ℚ (pow_ℚ K.rate n *ℚ of_int (pos 2)) *ℚ K.weight s
  deficit-le n t s h keeps =
      linear 3 (λ z h b. z ⊕ ⊖ h) (λ z h b. b) (λ z h b. known (⊖ (lit (pos 1)) ⊗ h) (b ⊕ ⊖ z) ∷ []) refl (z s) (hit m goals u n t s) ((pow_ℚ K.rate n *ℚ of_int (pos 2)) *ℚ K.weight s)
      (minus_hit-le n t s h keeps)

-- what is bounded falls below each 1/k, from one depth on
pub deficit-fades : (m : Mdp) (active : ℕ → Bool) (P : ℕ → ℕ → Type 0) (K : RowsShrink m active P) (k : ℕ) → 1 ≤ k
    → (n : ℕ) × ((d s : ℕ) (x y : ℚ) → n ≤ d → x -ℚ y ≤ℚ (pow_ℚ (Shrinks.rate K) d *ℚ of_int (pos 2)) *ℚ Shrinks.weight K s → x ≤ℚ y +ℚ ratio (pos 1) k)
deficit-fades m active P K k h =
    let f = shrinks-fades K (of_int (pos 2)) (ratio (pos 1) k) two-nonneg (ratio-pos 1 k (omega arith) h) in (
      f.0,
      λ d s x y l le. linear 4 (λ x y b q. x) (λ x y b q. y ⊕ q) (λ x y b q. known (x ⊕ ⊖ y) b ∷ known b q ∷ []) refl x y
          ((pow_ℚ (Shrinks.rate K) d *ℚ of_int (pos 2)) *ℚ Shrinks.weight K s) (ratio (pos 1) k) le (f.1 d s l),
    )
