-- Values that a tree doesn't earn more than, and values that it earns up to what the greatest of them is worth on the paths that haven't
-- arrived: by one step each.
use Rattle.std.proofs.Common.{◌≡◌, ℕ, ◌<◌, ◌≤◌, Bool, true, false, List, [], ◌∷◌, length, refl, sym, subst, arith, pos}
use Rattle.mdp_math.specs.Rational.{ℚ, ratio, ◌+ℚ◌, ◌*ℚ◌, ◌-ℚ◌, neg_ℚ, inv_ℚ, ◌≤ℚ◌, ◌<ℚ◌}
use Rattle.mdp_math.proofs.{Ring.{◌⊕◌, ◌⊗◌, ⊖, lit}, Linear.{linear, linear_lt, equal, at_most, known}, Laws.{den-pos}, Order.{0ℚ, 1ℚ, ≤ℚ_of_lt, mul-pos_ℚ}}
use Rattle.mdp_math.proofs.{Whole.{one-pos, ratio-pos}, Division.{inv-pos, mul-inv_pos}, Powers.{unit_fraction-le}}
use Rattle.mdp_spec.specs.{Mdp.{choice_at, Mdp, states_of, choices_at, row_at}, Row.{IsMdp}, Unit.{reward_of}, Tree.{Tree, is_marked}, Hit.{hit}, Pay.{pay}}
use Rattle.mdp_spec.proofs.{Hits.{hit-goal, hit-end}, Earnings.{pay-goal, pay-end}, Rows.{row_weigh, row_weigh-from}}
use Rattle.mdp_spec.proofs.Steps.{Uses, at_most_by_steps, goes-scale, goes-add, hit_goes, pay_goes}

covers_stop : (most h p z : ℚ) → h ≡ 1ℚ → p ≡ 0ℚ → z ≤ℚ 0ℚ → most *ℚ h +ℚ neg_ℚ 1ℚ *ℚ p ≤ℚ most -ℚ z
covers_stop most h p z hit pay le =
    linear 4 (λ most h p z. most ⊗ h ⊕ ⊖ (lit (pos 1)) ⊗ p) (λ most h p z. most ⊕ ⊖ z)
    (λ most h p z. equal most h (lit (pos 1)) ∷ equal (⊖ (lit (pos 1))) p (lit (pos 0)) ∷ known z (lit (pos 0)) ∷ []) refl most h p z hit pay le

covers_last : (most h p z : ℚ) → h ≡ 0ℚ → p ≡ 0ℚ → z ≤ℚ most → most *ℚ h +ℚ neg_ℚ 1ℚ *ℚ p ≤ℚ most -ℚ z
covers_last most h p z hit pay le =
    linear 4 (λ most h p z. most ⊗ h ⊕ ⊖ (lit (pos 1)) ⊗ p) (λ most h p z. most ⊕ ⊖ z)
    (λ most h p z. equal most h (lit (pos 0)) ∷ equal (⊖ (lit (pos 1))) p (lit (pos 0)) ∷ known z most ∷ []) refl most h p z hit pay le

covers_step : (most q w z : ℚ) → z ≤ℚ q +ℚ w → (most *ℚ 0ℚ +ℚ neg_ℚ 1ℚ *ℚ q) +ℚ (most -ℚ w) ≤ℚ most -ℚ z
covers_step most q w z le =
    linear 4 (λ most q w z. (most ⊗ lit (pos 0) ⊕ ⊖ (lit (pos 1)) ⊗ q) ⊕ (most ⊕ ⊖ w)) (λ most q w z. most ⊕ ⊖ z) (λ most q w z. known z (q ⊕ w) ∷ []) refl most q w z le

covers_end : (most h p z : ℚ) → most *ℚ h +ℚ neg_ℚ 1ℚ *ℚ p ≤ℚ most -ℚ z → z ≤ℚ p +ℚ most *ℚ (1ℚ -ℚ h)
covers_end most h p z le =
    linear 4 (λ most h p z. z) (λ most h p z. p ⊕ most ⊗ (lit (pos 1) ⊕ ⊖ h)) (λ most h p z. known (most ⊗ h ⊕ ⊖ (lit (pos 1)) ⊗ p) (most ⊕ ⊖ z) ∷ []) refl most h p z le

module _ (m : Mdp) (r : ℕ) (goals : List Bool) (u : ℕ) (known_ : IsMdp m) (hu : 1 ≤ u) (P : ℕ → ℕ → Type 0) (Inside : ℕ → Type 0) (T : ℕ → Tree → ℕ → Type 0)
    (U : Uses m u (is_marked goals) P Inside T) (z : ℕ → ℚ) where
  -- values that cover the choices
  pub pay-le_by : ((s : ℕ) → Inside s → 0ℚ ≤ℚ z s)
      → ((s c : ℕ) → Inside s → is_marked goals s ≡ false → P s c → c < length (choices_at m s) → reward_of (choice_at m s c) r +ℚ row_weigh z (row_at m s c) ≤ℚ z s)
      → (n : ℕ) (t : Tree) (s : ℕ) → T n t s → pay m r goals u n t s ≤ℚ z s
  pay-le_by nonneg covers =
      at_most_by_steps m u known_ hu (is_marked goals) P Inside T U (λ x. reward_of x r) (λ n t s. pay m r goals u n t s) (pay_goes m r goals u known_ hu) (λ n s. z s)
      (λ n t s i g. subst (λ (w : ℚ). w ≤ℚ z s) (sym (pay-goal m r goals u n t s hu g)) (nonneg s i))
      (λ t s i g. subst (λ (w : ℚ). w ≤ℚ z s) (sym (pay-end m r goals u t s hu)) (nonneg s i))
      (λ n s c i g ok j. covers s c i g ok j)

  -- values that the choices cover
  pub pay-covers_by : (most : ℚ) → ((s : ℕ) → Inside s → s < states_of m) → ((s : ℕ) → Inside s → z s ≤ℚ most) → ((s : ℕ) → Inside s → is_marked goals s ≡ true → z s ≤ℚ 0ℚ)
      → ((s c : ℕ) → Inside s → is_marked goals s ≡ false → P s c → c < length (choices_at m s) → z s ≤ℚ reward_of (choice_at m s c) r +ℚ row_weigh z (row_at m s c))
      → (n : ℕ) (t : Tree) (s : ℕ) → T n t s → z s ≤ℚ pay m r goals u n t s +ℚ most *ℚ (1ℚ -ℚ hit m goals u n t s)
  pay-covers_by most states top at_goal covered n t s ok =
      covers_end most (hit m goals u n t s) (pay m r goals u n t s) (z s)
      (at_most_by_steps m u known_ hu (is_marked goals) P Inside T U (λ x. most *ℚ 0ℚ +ℚ neg_ℚ 1ℚ *ℚ reward_of x r) (λ n t s. most *ℚ hit m goals u n t s +ℚ neg_ℚ 1ℚ *ℚ pay m r goals u n t s)
      (goes-add m u (is_marked goals) (λ x. most *ℚ 0ℚ) (λ x. neg_ℚ 1ℚ *ℚ reward_of x r) (λ n t s. most *ℚ hit m goals u n t s) (λ n t s. neg_ℚ 1ℚ *ℚ pay m r goals u n t s)
      (goes-scale m u (is_marked goals) most (λ x. 0ℚ) (λ n t s. hit m goals u n t s) (hit_goes m goals u known_ hu))
      (goes-scale m u (is_marked goals) (neg_ℚ 1ℚ) (λ x. reward_of x r) (λ n t s. pay m r goals u n t s) (pay_goes m r goals u known_ hu)))
      (λ n s. most -ℚ z s)
      (λ n t s i g. covers_stop most (hit m goals u n t s) (pay m r goals u n t s) (z s) (hit-goal m goals u n t s hu g) (pay-goal m r goals u n t s hu g) (at_goal s i g))
      (λ t s i g. covers_last most (hit m goals u 0 t s) (pay m r goals u 0 t s) (z s) (hit-end m goals u t s hu g) (pay-end m r goals u t s hu) (top s i))
      (λ n s c i g ok j.
      subst (λ (w : ℚ). (most *ℚ 0ℚ +ℚ neg_ℚ 1ℚ *ℚ reward_of (choice_at m s c) r) +ℚ w ≤ℚ most -ℚ z s)
      (sym (row_weigh-from (states_of m) (row_at m s c) most z (IsMdp.row known_ s c (states s i) j)))
      (covers_step most (reward_of (choice_at m s c) r) (row_weigh z (row_at m s c)) (z s) (covered s c i g ok j)))
      n t s ok)

-- how near to 1 a hit has to be, for `most` on the other paths to come to at most 1/k
pub near_enough : (most : ℚ) (k : ℕ) → 0ℚ ≤ℚ most → 1 ≤ k
    → (q : ℕ) × (1 ≤ q) × ((x p h : ℚ) → x ≤ℚ p +ℚ most *ℚ (1ℚ -ℚ h) → 1ℚ ≤ℚ h +ℚ ratio (pos 1) q → x ≤ℚ p +ℚ ratio (pos 1) k)
near_enough most k hm hk =
    let positive : 0ℚ <ℚ most +ℚ 1ℚ = linear_lt 1 (λ c. lit (pos 0)) (λ c. c ⊕ lit (pos 1)) (λ c. lit (pos 1)) (λ c. known (lit (pos 0)) c ∷ []) refl most one-pos hm in
    let hi : 0ℚ <ℚ inv_ℚ (most +ℚ 1ℚ) = inv-pos (most +ℚ 1ℚ) positive in
    let hp : 0ℚ <ℚ ratio (pos 1) k = ratio-pos 1 k (omega arith) hk in (
      (ratio (pos 1) k *ℚ inv_ℚ (most +ℚ 1ℚ)).den,
      den-pos (ratio (pos 1) k *ℚ inv_ℚ (most +ℚ 1ℚ)),
      λ x p h covers near.
          linear 7 (λ x p h c k i q. x) (λ x p h c k i q. p ⊕ k)
          (λ x p h c k i q. known x (p ⊕ c ⊗ (lit (pos 1) ⊕ ⊖ h)) ∷ at_most c (lit (pos 1)) (h ⊕ q) ∷ at_most c q (k ⊗ i) ∷ equal k ((c ⊕ lit (pos 1)) ⊗ i)
          (lit (pos 1)) ∷ at_most k (lit (pos 0)) i ∷ []) refl
          x p h most (ratio (pos 1) k) (inv_ℚ (most +ℚ 1ℚ)) (ratio (pos 1) (ratio (pos 1) k *ℚ inv_ℚ (most +ℚ 1ℚ)).den)
          covers hm near hm (unit_fraction-le _ (mul-pos_ℚ _ _ hp hi)) (mul-inv_pos (most +ℚ 1ℚ) positive) (≤ℚ_of_lt _ _ hp) (≤ℚ_of_lt _ _ hi),
    )
