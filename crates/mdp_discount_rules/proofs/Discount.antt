-- The rules of discounted reward bound what trees earn, and fix the values.
use Rattle.std.proofs.Common.{◌≡◌, ℕ, suc, ◌<◌, ◌≤◌, ⊎_elim, false, true≢false, List, [], ◌∷◌, length, map, refl, sym, ◌∙◌, ap, subst, arith, pos}
use Rattle.std.specs.List.{All}
use Rattle.mdp_math.specs.{Rational.{ℚ, ◌+ℚ◌, ◌*ℚ◌, neg_ℚ, inv_ℚ, ◌≤ℚ◌, ◌<ℚ◌}, Power.{pow_ℚ}, Extremes.{greatest}}
use Rattle.mdp_math.proofs.{Ring.{◌⊕◌, ◌⊗◌, ⊖, lit, ring}, Laws.{rat_ring}, Linear.{linear, equal, at_most, known}}
use Rattle.mdp_math.proofs.{Order.{0ℚ, 1ℚ, ≤ℚ_or_gt, ≤ℚ_of_lt, ≤ℚ_trans, mul-pos_ℚ}, Division.{le_of_bounds, inv-pos, mul-inv_pos}, Powers.{pow_ℚ-below}}
use Rattle.mdp_math.proofs.{Extremes.{greatest-ge, greatest_map-ge}, Kernel.{weigh-add, weigh-const}}
use Rattle.mdp_spec.specs.{Mdp.{Entry, Mdp, states_of, choices_at, choice_at, row_at, value_at}, Row.{IsRow, IsMdp}, Unit.{reward_of}}
use Rattle.mdp_spec.specs.Tree.{Tree, IsPolicy, unfolded}
use Rattle.mdp_spec.proofs.{Keeping.{Keeps, HasChoice, Follows, keeps_of_Fits, keeps_unfolded, unfolded_is_strategy}, Rows.{row_weigh}}
use Rattle.mdp_rows.specs.{declared.dir.Dir.{Dir}, declared.dir.Dir.TheVariants.{Max, Min}}
use Rattle.mdp_discount_rules.specs.{Disc.{disc}, Bounds.{BetterByAtMost, DiscountBound}, Rules.{IsFactor, discounted, magnitude, MeetsDiscount}}
use Rattle.mdp_discount_rules.proofs.{Directions.{NoBetter, no_better_trans, no_better_of_eq, no_better_add, no_better_antisymm}, Steps.{no_better_among}}
use Rattle.mdp_discount_rules.proofs.Discs.{disc-end, disc_goes}

-- ---- what is left, by a direction

abbrev signed : Dir → ℚ → ℚ
signed Max k = k
signed Min k = neg_ℚ k

better_by : (dir : Dir) (x v p k : ℚ) → NoBetter dir x (v +ℚ p *ℚ signed dir k) → BetterByAtMost dir (p *ℚ k) x v
better_by Max x v p k h = h
better_by Min x v p k h = linear 4 (λ x v p k. v) (λ x v p k. x ⊕ p ⊗ k) (λ x v p k. known (v ⊕ p ⊗ ⊖ k) x ∷ []) refl x v p k h

-- nothing is no better than a value, where the remainder is at least its magnitude
starts_by : (dir : Dir) (v k : ℚ) → v ≤ℚ k → neg_ℚ v ≤ℚ k → NoBetter dir 0ℚ (v +ℚ signed dir k)
starts_by Max v k h l = linear 2 (λ v k. lit (pos 0)) (λ v k. v ⊕ k) (λ v k. known (⊖ v) k ∷ []) refl v k l
starts_by Min v k h l = linear 2 (λ v k. v ⊕ ⊖ k) (λ v k. lit (pos 0)) (λ v k. known v k ∷ []) refl v k h

-- what a function and a constant weigh
weigh_shifted : (n : ℕ) (row : List Entry) (z : ℕ → ℚ) (c : ℚ) → IsRow n row → row_weigh (λ v. z v +ℚ c) row ≡ row_weigh z row +ℚ c
weigh_shifted n row z c known_ =
    weigh-add (λ (y : Entry). y.target) (λ (y : Entry). y.prob) z (λ v. c) row
    ∙ ap (λ (w : ℚ). row_weigh z row +ℚ w)
    (weigh-const (λ (y : Entry). y.target) (λ (y : Entry). y.prob) c row ∙ ap (λ (w : ℚ). c *ℚ w) known_.distribution.total ∙ ring rat_ring 1 (λ c. c ⊗ lit (pos 1)) (λ c. c) refl c)

-- the half on each choice that meets P, of the numbers v at the states C: a row of such a choice stays among C, and the choice is no better than the number.
-- Where no number is farther than k from 0, no tree of these choices is better by more than is left
module _ (m : Mdp) (r : ℕ) (f : ℚ) (known_ : IsMdp m) (factor : IsFactor f) (C : ℕ → Type 0) (v : ℕ → ℚ) (k : ℚ)
    (small : (s : ℕ) → s < states_of m → C s → (v s ≤ℚ k) × (neg_ℚ (v s) ≤ℚ k)) where
  pub half_by : (dir : Dir) (P : ℕ → ℕ → Type 0) (u : ℕ) → 1 ≤ u
      → ((s c : ℕ) → s < states_of m → C s → P s c → c < length (choices_at m s)
      → All (λ y. C y.target) (row_at m s c) × NoBetter dir (reward_of (choice_at m s c) r +ℚ f *ℚ row_weigh v (row_at m s c)) (v s))
      → (n : ℕ) (t : Tree) (s : ℕ) → s < states_of m → C s → Keeps m P u n t s → BetterByAtMost dir (pow_ℚ f n *ℚ k) (disc m r f u n t s) (v s)
  half_by dir P u hu covers n t s h claims keeps =
      better_by dir (disc m r f u n t s) (v s) (pow_ℚ f n) k
      (no_better_among dir m u known_ hu (λ s. false) P (λ x. reward_of x r) f factor.at_least_zero (λ n t s. disc m r f u n t s) (disc_goes m r f u known_ hu)
      (λ n s. v s +ℚ pow_ℚ f n *ℚ signed dir k) C
      (λ n t s h i e. absurd (true≢false (sym e)))
      (λ t s h i e.
      subst (λ (x : ℚ). NoBetter dir x (v s +ℚ 1ℚ *ℚ signed dir k)) (sym (disc-end m r f u t s hu))
      (subst (λ (x : ℚ). NoBetter dir 0ℚ x) (ring rat_ring 2 (λ v k. v ⊕ k) (λ v k. v ⊕ lit (pos 1) ⊗ k) refl (v s) (signed dir k))
      (starts_by dir (v s) k (small s h i).0 (small s h i).1)))
      (λ n s c h i e ok l.
      let now = covers s c h i ok l in (
        now.0,
        no_better_trans dir _ ((reward_of (choice_at m s c) r +ℚ f *ℚ row_weigh v (row_at m s c)) +ℚ pow_ℚ f (suc n) *ℚ signed dir k) _
            (no_better_of_eq dir _ _
            (ap (λ (w : ℚ). reward_of (choice_at m s c) r +ℚ f *ℚ w) (weigh_shifted (states_of m) (row_at m s c) v (pow_ℚ f n *ℚ signed dir k) (IsMdp.row known_ s c h l))
            ∙ ring rat_ring 5 (λ r f w p k. r ⊕ f ⊗ (w ⊕ p ⊗ k)) (λ r f w p k. (r ⊕ f ⊗ w) ⊕ (f ⊗ p) ⊗ k) refl
            (reward_of (choice_at m s c) r) f (row_weigh v (row_at m s c)) (pow_ℚ f n) (signed dir k)))
            (no_better_add dir _ (v s) (pow_ℚ f (suc n) *ℚ signed dir k) now.1),
      ))
      n t s h claims keeps)

-- ---- the rules

pub below_magnitude : (x : ℚ) → (x ≤ℚ magnitude x) × (neg_ℚ x ≤ℚ magnitude x)
below_magnitude x = (greatest-ge (x ∷ neg_ℚ x ∷ []) 0 0ℚ (omega arith), greatest-ge (x ∷ neg_ℚ x ∷ []) 1 0ℚ (omega arith))

below_greatest : (v : List ℚ) (k : ℚ) (s : ℕ) → k ≡ greatest (map magnitude v) → s < length v → (value_at v s ≤ℚ k) × (neg_ℚ (value_at v s) ≤ℚ k)
below_greatest v k s e h =
    let g : magnitude (value_at v s) ≤ℚ k = subst (λ (x : ℚ). magnitude (value_at v s) ≤ℚ x) (sym e) (greatest_map-ge magnitude v s 0ℚ h) in
    (≤ℚ_trans _ _ _ (below_magnitude (value_at v s)).0 g, ≤ℚ_trans _ _ _ (below_magnitude (value_at v s)).1 g)

pub discount_of_rules : (dir : Dir) (m : Mdp) (r : ℕ) (f : ℚ) (v : List ℚ) (remainder : ℚ) (policy : List ℕ) → IsMdp m → IsFactor f → MeetsDiscount dir m r f v remainder policy
    → DiscountBound dir m r f v remainder policy
discount_of_rules dir m r f v remainder policy known_ factor rules =
    let half = half_by m r f known_ factor (λ s. Unit {0}) (value_at v) remainder
    (λ s h i. below_greatest v remainder s rules.greatest_magnitude (subst (λ (n : ℕ). s < n) (sym rules.one_each) h)) in
    let follows : (way : Dir) (s c : ℕ) → s < states_of m → Unit {0} → Follows policy s c → c < length (choices_at m s)
    → All (λ y. Unit {0}) (row_at m s c) × NoBetter way (reward_of (choice_at m s c) r +ℚ f *ℚ row_weigh (value_at v) (row_at m s c)) (value_at v s) =
    λ way s c h i is l. (λ j d b. tt, no_better_of_eq way _ _ (sym (subst (λ (d : ℕ). value_at v s ≡ discounted m r f s d v) (sym is) (rules.reached s h))))
    in
    record {
      takes = rules.choices;
      named = rules.named;
      one_each = rules.one_each;
      trees = λ n u t s h strategy. half dir (HasChoice m) u strategy.mixes (λ s c h i ok l. (λ j d b. tt, rules.covers s c h l)) n t s h tt (keeps_of_Fits m u n t s strategy.fits);
      policy_above = λ n s h. half Min (Follows policy) 1 (omega arith) (follows Min) n (unfolded m policy n s) s h tt (keeps_unfolded m policy n s known_ rules.choices h);
      policy_below = λ n s h. half Max (Follows policy) 1 (omega arith) (follows Max) n (unfolded m policy n s) s h tt (keeps_unfolded m policy n s known_ rules.choices h);
    }

-- ---- there are no other values

-- a power of the factor times a number falls below each bound
power_below : (f c q : ℚ) → IsFactor f → 0ℚ <ℚ q → (n : ℕ) × (pow_ℚ f n *ℚ c ≤ℚ q)
power_below f c q factor hq = ⊎_elim
    (λ low. (
      0,
      linear 2 (λ c q. lit (pos 1) ⊗ c) (λ c q. q) (λ c q. known c (lit (pos 0)) ∷ known (lit (pos 0)) q ∷ []) refl c q low (≤ℚ_of_lt 0ℚ q hq),
    ))
    (λ high.
    let n = pow_ℚ-below f (q *ℚ inv_ℚ c) factor.at_least_zero factor.below_one (mul-pos_ℚ q (inv_ℚ c) hq (inv-pos c high)) in (
      n.0,
      linear 4 (λ p c q i. p ⊗ c) (λ p c q i. q) (λ p c q i. at_most c p (q ⊗ i) ∷ equal q (c ⊗ i) (lit (pos 1)) ∷ []) refl (pow_ℚ f n.0) c q (inv_ℚ c) (≤ℚ_of_lt 0ℚ c high) (n.1 n.0
          (omega arith)) (mul-inv_pos c high),
    ))
    (≤ℚ_or_gt c 0ℚ)

-- a is at most b, where numbers x lie between them but for what is left
pub le_limit : (f a b k l : ℚ) → IsFactor f → ((n : ℕ) → (x : ℚ) × (a ≤ℚ x +ℚ pow_ℚ f n *ℚ k) × (x ≤ℚ b +ℚ pow_ℚ f n *ℚ l)) → a ≤ℚ b
le_limit f a b k l factor near =
    le_of_bounds a b (λ q hq.
    let n = power_below f (k +ℚ l) q factor hq in
    let x = near n.0 in
    linear 7 (λ a b x p k l q. a) (λ a b x p k l q. b ⊕ q) (λ a b x p k l q. known a (x ⊕ p ⊗ k) ∷ known x (b ⊕ p ⊗ l) ∷ known (p ⊗ (k ⊕ l)) q ∷ [])
    refl a b x.0 (pow_ℚ f n.0) k l q x.1 x.2 n.1)

module _ (m : Mdp) (r : ℕ) (f : ℚ) (known_ : IsMdp m) (factor : IsFactor f) where
  discount_no_better : (dir : Dir) (v w : List ℚ) (k l : ℚ) (policy other : List ℕ) (s : ℕ) → IsPolicy m policy → DiscountBound dir m r f v k policy → DiscountBound dir m r f w l other
      → s < states_of m → NoBetter dir (value_at v s) (value_at w s)
  discount_no_better Max v w k l policy other s choice p q h =
      le_limit f (value_at v s) (value_at w s) k l factor
      (λ n. (disc m r f 1 n (unfolded m policy n s) s, p.policy_above n s h, q.trees n 1 (unfolded m policy n s) s h (unfolded_is_strategy m policy n s known_ choice h)))
  discount_no_better Min v w k l policy other s choice p q h =
      le_limit f (value_at w s) (value_at v s) l k factor
      (λ n. (disc m r f 1 n (unfolded m policy n s) s, q.trees n 1 (unfolded m policy n s) s h (unfolded_is_strategy m policy n s known_ choice h), p.policy_below n s h))

  -- the best discounted rewards are unique
  pub discount_unique : (dir : Dir) (v w : List ℚ) (k l : ℚ) (policy other : List ℕ) (s : ℕ) → IsPolicy m policy → IsPolicy m other → DiscountBound dir m r f v k policy
      → DiscountBound dir m r f w l other → s < states_of m → value_at v s ≡ value_at w s
  discount_unique dir v w k l policy other s a b p q h =
      no_better_antisymm dir _ _ (discount_no_better dir v w k l policy other s a p q h) (discount_no_better dir w v l k other policy s b q p h)
