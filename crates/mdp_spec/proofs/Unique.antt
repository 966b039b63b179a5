-- No lower value passes an upper one: the reward until a goal and the mean payoff lie between the two, and where the two are the same there
-- are no other values.
use Rattle.std.proofs.Common.{◌≡◌, ℕ, suc, ◌*◌, ◌<◌, ◌≤◌, ⊎_elim, Bool, List, [], ◌∷◌, Option, Some, None, is_some, true≢false, refl, ap, subst, arith, pos}
use Rattle.mdp_math.specs.Rational.{ℚ, ◌+ℚ◌, ◌*ℚ◌, inv_ℚ, ◌≤ℚ◌, ◌<ℚ◌}
use Rattle.mdp_math.proofs.{Ring.{◌⊕◌, ◌⊗◌, ⊖, lit}, Linear.{linear, linear_lt, equal, at_most, known}, Laws.{den-pos}}
use Rattle.mdp_math.proofs.{Order.{0ℚ, 1ℚ, ≤ℚ_of_lt, ≤ℚ_antisymm, mul-pos_ℚ, ratio-nonneg, le-ratio, div-of_int}, Whole.{one-pos, ratio-pos}}
use Rattle.mdp_math.proofs.{Division.{le_of_bounds, inv-pos, mul-inv_pos}, Powers.{unit_fraction-le}}
use Rattle.mdp_spec.specs.{Mdp.{Mdp, states_of, value_at}, Row.{IsMdp}, Tree.{IsPolicy, unfolded}, Hit.{hit}, Pay.{pay, total, Enters}}
use Rattle.mdp_spec.specs.Bounds.{greatest_finite, part, whole, reward_at, infinite, MaxInfinite, MinInfinite, RewardMax, RewardMin, MeanMax, MeanMin}
use Rattle.mdp_spec.specs.Between.{AtMost, MaxAtLeast, MaxLower, MaxUpper, MinAtLeast, MinLower, MinUpper, RewardMaxBetween, RewardMinBetween, MeanMaxBetween, MeanMinBetween}
use Rattle.mdp_spec.proofs.{Keeping.{unfolded_is_strategy}, Values.{infinite_of_none, none_of_infinite, greatest_finite-nonneg}, Reach.{le_of_parts}}
use Rattle.mdp_spec.proofs.{Reward.{reward_max_between, reward_min_between}, Mean.{mean_max_between, mean_min_between}, Pays.{near_enough}}
use Rattle.mdp_spec.proofs.Trapped.{misses_of_enters}

-- x is at most y, where n x is at most n y up to one number for all n
le_of_steps : (x y k : ℚ) → ((n : ℕ) → whole n *ℚ x ≤ℚ whole n *ℚ y +ℚ k) → x ≤ℚ y
le_of_steps x y k h =
    let hk : 0ℚ ≤ℚ k = linear 3 (λ x y k. lit (pos 0)) (λ x y k. k) (λ x y k. known (lit (pos 0) ⊗ x) (lit (pos 0) ⊗ y ⊕ k) ∷ []) refl x y k (h 0) in
    let positive : 0ℚ <ℚ k +ℚ 1ℚ = linear_lt 1 (λ c. lit (pos 0)) (λ c. c ⊕ lit (pos 1)) (λ c. lit (pos 1)) (λ c. known (lit (pos 0)) c ∷ []) refl k one-pos hk in
    let hi : 0ℚ <ℚ inv_ℚ (k +ℚ 1ℚ) = inv-pos (k +ℚ 1ℚ) positive in
    le_of_bounds x y
    (λ q hq.
    let he : 0 < (q *ℚ inv_ℚ (k +ℚ 1ℚ)).den = den-pos (q *ℚ inv_ℚ (k +ℚ 1ℚ)) in
    linear 7 (λ x y k q i p n. x) (λ x y k q i p n. y ⊕ q)
    (λ x y k q i p n. at_most p (n ⊗ x) (n ⊗ y ⊕ k) ∷ equal (y ⊕ ⊖ x) (p ⊗ n) (lit (pos 1)) ∷ at_most k p (q ⊗ i) ∷ equal q ((k ⊕ lit (pos 1)) ⊗ i)
    (lit (pos 1)) ∷ at_most q (lit (pos 0)) i ∷ []) refl
    x y k q (inv_ℚ (k +ℚ 1ℚ)) (part (q *ℚ inv_ℚ (k +ℚ 1ℚ)).den) (whole (q *ℚ inv_ℚ (k +ℚ 1ℚ)).den)
    (ratio-nonneg 1 (q *ℚ inv_ℚ (k +ℚ 1ℚ)).den he) (h (q *ℚ inv_ℚ (k +ℚ 1ℚ)).den)
    (div-of_int (pos 1) (q *ℚ inv_ℚ (k +ℚ 1ℚ)).den he)
    hk (unit_fraction-le (q *ℚ inv_ℚ (k +ℚ 1ℚ)) (mul-pos_ℚ _ _ hq hi)) (mul-inv_pos (k +ℚ 1ℚ) positive) (≤ℚ_of_lt _ _ hq) (≤ℚ_of_lt _ _ hi))

-- a goal is not both missed with a chance of 1/q and met up to less
clash : (h : ℚ) (q : ℕ) → 1 ≤ q → h +ℚ part q ≤ℚ 1ℚ → 1ℚ ≤ℚ h +ℚ part (suc q) → ⊥
clash h q hq missed met =
    let le : part q ≤ℚ part (suc q) = linear 3 (λ h a b. a) (λ h a b. b) (λ h a b. known (h ⊕ a) (lit (pos 1)) ∷ known (lit (pos 1)) (h ⊕ b) ∷ []) refl h (part q) (part (suc q)) missed met in
    let l : 1 * suc q ≤ 1 * q = le-ratio 1 1 q (suc q) hq (omega arith) le in omega (arith, l)

-- values that may be infinite and are at most each other are the same
at_most_antisymm : (o p : Option ℚ) → AtMost o p → AtMost p o → o ≡ p
at_most_antisymm (Some x) (Some y) h k = ap (λ (w : ℚ). Some w) (≤ℚ_antisymm x y h k)
at_most_antisymm (Some x) None h k = absurd k
at_most_antisymm None (Some y) h k = absurd h
at_most_antisymm None None h k = refl

some_none : (x : ℚ) → Some x ≡ None → ⊥
some_none x e = true≢false (ap is_some e)

-- ---- the greatest reward

module _ (m : Mdp) (r : ℕ) (goals : List Bool) (known_ : IsMdp m) where
  max_le : (policy other : List ℕ) (s : ℕ) (x y : ℚ) → IsPolicy m policy → s < states_of m → MaxAtLeast m r goals policy s x → MaxUpper m r goals other s (Some y) → x ≤ℚ y
  max_le policy other s x y choice h one two =
      le_of_parts x y
      (λ k hk.
      let c = one.close k hk in
      let a = two c.0 1 (unfolded m policy c.0 s) (unfolded_is_strategy m policy c.0 s known_ choice h) in
      linear 4 (λ x y p q. x) (λ x y p q. y ⊕ q) (λ x y p q. known x (p ⊕ q) ∷ known p y ∷ []) refl x y (pay m r goals 1 c.0 (unfolded m policy c.0 s) s) (part k) (c.1 c.0 (omega arith)) a)

  max_clash : (policy other : List ℕ) (s : ℕ) (x : ℚ) → IsPolicy m other → s < states_of m → MaxAtLeast m r goals policy s x → MaxInfinite m r goals other s → ⊥
  max_clash policy other s x choice h one two =
      let missed = two.misses in
      let met = one.arrives (suc missed.0) (omega arith) in
      clash (hit m goals 1 met.0 (unfolded m other met.0 s) s) missed.0 missed.1 (missed.2 met.0)
      (met.1 met.0 1 (unfolded m other met.0 s) (omega arith) (unfolded_is_strategy m other met.0 s known_ choice h))

  -- o is the lower value of one claim, q and p are the lower and the upper value of the other
  max_order : (policy other : List ℕ) (s : ℕ) (o q p : Option ℚ) → IsPolicy m policy → s < states_of m → MaxLower m r goals policy s o → MaxLower m r goals other s q → MaxUpper m r goals other s p
      → (q ≡ None → p ≡ None) → AtMost o p
  max_order policy other s (Some x) q (Some y) choice h one low high order = max_le policy other s x y choice h one high
  max_order policy other s None (Some x) (Some y) choice h one low high order = max_clash other policy s x choice h low one
  max_order policy other s None None (Some y) choice h one low high order = some_none y (order refl)
  max_order policy other s (Some x) q None choice h one low high order = tt
  max_order policy other s None q None choice h one low high order = tt

  -- of two claims on the greatest rewards, the lower values of one are at most the upper values of the other
  pub reward_max_at_most : (lower upper low high : List (Option ℚ)) (policy other : List ℕ) (s : ℕ) → RewardMaxBetween m r goals policy lower upper → RewardMaxBetween m r goals other low high
      → s < states_of m → AtMost (reward_at lower s) (reward_at high s)
  reward_max_at_most lower upper low high policy other s one two h =
      max_order policy other s (reward_at lower s) (reward_at low s) (reward_at high s) one.takes h (one.at_least s h) (two.at_least s h) (two.at_most s h)
      (λ e. none_of_infinite high s (two.ordered s h (infinite_of_none low s e)))

  -- the greatest rewards lie between them
  pub reward_max_lies : (lower upper v : List (Option ℚ)) (policy other : List ℕ) (s : ℕ) → RewardMaxBetween m r goals policy lower upper → RewardMax m r goals other v → s < states_of m
      → AtMost (reward_at lower s) (reward_at v s) × AtMost (reward_at v s) (reward_at upper s)
  reward_max_lies lower upper v policy other s one two h = (
    reward_max_at_most lower upper v v policy other s one (reward_max_between m r goals v other two) h,
    reward_max_at_most v v lower upper other policy s (reward_max_between m r goals v other two) one h,
  )

  -- and are unique
  pub reward_max_unique : (v w : List (Option ℚ)) (policy other : List ℕ) (s : ℕ) → RewardMax m r goals policy v → RewardMax m r goals other w → s < states_of m → reward_at v s ≡ reward_at w s
  reward_max_unique v w policy other s one two h =
      let p = reward_max_lies v v w policy other s (reward_max_between m r goals v policy one) two h in at_most_antisymm (reward_at v s) (reward_at w s) p.0 p.1

  -- ---- the least reward

  -- a policy that arrives never enters a state whose lower value is infinite
  never_enters : (lower upper : List (Option ℚ)) (policy other : List ℕ) (n s : ℕ) → IsPolicy m other → RewardMinBetween m r goals policy lower upper → s < states_of m
      → ((k : ℕ) → 1 ≤ k → (n : ℕ) × (1ℚ ≤ℚ hit m goals 1 n (unfolded m other n s) s +ℚ part k)) → Enters m goals (infinite lower) n (unfolded m other n s) s → ⊥
  never_enters lower upper policy other n s choice rules h arrives enters =
      let missed =
      misses_of_enters m goals other known_ choice (infinite lower)
      (λ t l marked.
      let value : MinLower m r goals policy lower t None = subst (λ (o : Option ℚ). MinLower m r goals policy lower t o) (none_of_infinite lower t marked) (rules.at_least t l) in
      let q = MinInfinite.misses value in
      (part q.0, ratio-pos 1 q.0 (omega arith) q.1, λ d. q.2 d 1 (unfolded m other d t) (unfolded_is_strategy m other d t known_ choice l)))
      n s h enters
      in
      let met = arrives (suc (ℚ.den missed.0)) (omega arith) in
      clash (hit m goals 1 met.0 (unfolded m other met.0 s) s) (ℚ.den missed.0) (den-pos missed.0)
      (linear 3 (λ h a x. h ⊕ a) (λ h a x. lit (pos 1)) (λ h a x. known (h ⊕ x) (lit (pos 1)) ∷ known a x ∷ []) refl (hit m goals 1 met.0 (unfolded m other met.0 s) s)
      (part (ℚ.den missed.0)) missed.0
      (missed.2 met.0) (unit_fraction-le missed.0 missed.1))
      met.1

  module _ (lower upper low high : List (Option ℚ)) (policy other : List ℕ) (one : RewardMinBetween m r goals policy lower upper) (two : RewardMinBetween m r goals other low high) where
    min_le : (s : ℕ) (x w y : ℚ) → s < states_of m → MinAtLeast m r goals policy lower s x → MinAtLeast m r goals other low s w → MinUpper m r goals other s (Some y) → x ≤ℚ y
    min_le s x w y h a c b =
        le_of_parts x y
        (λ k hk.
        let enough = near_enough (greatest_finite lower) k (greatest_finite-nonneg lower) hk in
        let met = c.arrives enough.0 enough.1 in
        ⊎_elim (λ enters. absurd (never_enters lower upper policy other met.0 s two.takes one h c.arrives enters))
        (λ covered.
        linear 4 (λ x y p q. x) (λ x y p q. y ⊕ q) (λ x y p q. known x (p ⊕ q) ∷ known p y ∷ []) refl x y (pay m r goals 1 met.0 (unfolded m other met.0 s) s) (part k)
        (enough.2 x (pay m r goals 1 met.0 (unfolded m other met.0 s) s) (hit m goals 1 met.0 (unfolded m other met.0 s) s) covered met.1) (b met.0))
        (a.covered met.0 1 (unfolded m other met.0 s) (unfolded_is_strategy m other met.0 s known_ two.takes h)))

    min_clash : (s : ℕ) (w : ℚ) → s < states_of m → MinInfinite m r goals policy s → MinAtLeast m r goals other low s w → ⊥
    min_clash s w h a c =
        let missed = a.misses in
        let met = c.arrives (suc missed.0) (omega arith) in
        clash (hit m goals 1 met.0 (unfolded m other met.0 s) s) missed.0 missed.1
        (missed.2 met.0 1 (unfolded m other met.0 s) (unfolded_is_strategy m other met.0 s known_ two.takes h)) met.1

    min_order : (s : ℕ) (o q p : Option ℚ) → s < states_of m → MinLower m r goals policy lower s o
        → MinLower m r goals other low s q → MinUpper m r goals other s p → (q ≡ None → p ≡ None) → AtMost o p
    min_order s (Some x) (Some w) (Some y) h a c b order = min_le s x w y h a c b
    min_order s None (Some w) (Some y) h a c b order = min_clash s w h a c
    min_order s (Some x) None (Some y) h a c b order = absurd (some_none y (order refl))
    min_order s None None (Some y) h a c b order = some_none y (order refl)
    min_order s (Some x) q None h a c b order = tt
    min_order s None q None h a c b order = tt

    -- of two claims on the least rewards, the lower values of one are at most the upper values of the other
    pub reward_min_at_most : (s : ℕ) → s < states_of m → AtMost (reward_at lower s) (reward_at high s)
    reward_min_at_most s h =
        min_order s (reward_at lower s) (reward_at low s) (reward_at high s) h (one.at_least s h) (two.at_least s h) (two.at_most s h)
        (λ e. none_of_infinite high s (two.ordered s h (infinite_of_none low s e)))

  -- the least rewards lie between them
  pub reward_min_lies : (lower upper v : List (Option ℚ)) (policy other : List ℕ) (s : ℕ) → RewardMinBetween m r goals policy lower upper → RewardMin m r goals other v → s < states_of m
      → AtMost (reward_at lower s) (reward_at v s) × AtMost (reward_at v s) (reward_at upper s)
  reward_min_lies lower upper v policy other s one two h = (
    reward_min_at_most lower upper v v policy other one (reward_min_between m r goals v other two) s h,
    reward_min_at_most v v lower upper other policy (reward_min_between m r goals v other two) one s h,
  )

  -- and are unique
  pub reward_min_unique : (v w : List (Option ℚ)) (policy other : List ℕ) → RewardMin m r goals policy v → RewardMin m r goals other w → (s : ℕ) → s < states_of m → reward_at v s ≡ reward_at w s
  reward_min_unique v w policy other one two s h =
      let p = reward_min_lies v v w policy other s (reward_min_between m r goals v policy one) two h in at_most_antisymm (reward_at v s) (reward_at w s) p.0 p.1

-- ---- the mean payoff

module _ (m : Mdp) (r : ℕ) (g k : List ℚ) (spread wider : ℚ) (policy : List ℕ) (s : ℕ) where
  gain_at_most : ((n : ℕ) → whole n *ℚ value_at g s ≤ℚ total m r 1 n (unfolded m policy n s) s +ℚ spread)
      → ((n : ℕ) → total m r 1 n (unfolded m policy n s) s ≤ℚ whole n *ℚ value_at k s +ℚ wider) → value_at g s ≤ℚ value_at k s
  gain_at_most low high =
      le_of_steps (value_at g s) (value_at k s) (spread +ℚ wider)
      (λ n. linear 6 (λ n g k t x y. n ⊗ g) (λ n g k t x y. n ⊗ k ⊕ (x ⊕ y)) (λ n g k t x y. known (n ⊗ g) (t ⊕ x) ∷ known t (n ⊗ k ⊕ y) ∷ []) refl
      (whole n) (value_at g s) (value_at k s) (total m r 1 n (unfolded m policy n s) s) spread wider (low n) (high n))

module _ (m : Mdp) (r : ℕ) (lower upper low high : List ℚ) (spread wider : ℚ) (policy other : List ℕ) (known_ : IsMdp m) where
  -- of two claims on the greatest gains, the lower gains of one are at most the upper gains of the other
  pub mean_max_at_most : MeanMaxBetween m r lower upper spread policy → MeanMaxBetween m r low high wider other → (s : ℕ) → s < states_of m → value_at lower s ≤ℚ value_at high s
  mean_max_at_most one two s h =
      gain_at_most m r lower high spread wider policy s (λ n. one.reached n s h) (λ n. two.above n 1 (unfolded m policy n s) s h (unfolded_is_strategy m policy n s known_ one.takes h))

  -- the same of the least gains
  pub mean_min_at_most : MeanMinBetween m r lower upper spread policy → MeanMinBetween m r low high wider other → (s : ℕ) → s < states_of m → value_at lower s ≤ℚ value_at high s
  mean_min_at_most one two s h =
      gain_at_most m r lower high spread wider other s (λ n. one.below n 1 (unfolded m other n s) s h (unfolded_is_strategy m other n s known_ two.takes h)) (λ n. two.reached n s h)

module _ (m : Mdp) (r : ℕ) (lower upper g : List ℚ) (spread wider : ℚ) (policy other : List ℕ) (known_ : IsMdp m) where
  -- the greatest gains, and the least, lie between them
  pub mean_max_lies : MeanMaxBetween m r lower upper spread policy → MeanMax m r g wider other → (s : ℕ) → s < states_of m → (value_at lower s ≤ℚ value_at g s) × (value_at g s ≤ℚ value_at upper s)
  mean_max_lies one two s h = (
    mean_max_at_most m r lower upper g g spread wider policy other known_ one (mean_max_between m r g wider other two) s h,
    mean_max_at_most m r g g lower upper wider spread other policy known_ (mean_max_between m r g wider other two) one s h,
  )

  pub mean_min_lies : MeanMinBetween m r lower upper spread policy → MeanMin m r g wider other → (s : ℕ) → s < states_of m → (value_at lower s ≤ℚ value_at g s) × (value_at g s ≤ℚ value_at upper s)
  mean_min_lies one two s h = (
    mean_min_at_most m r lower upper g g spread wider policy other known_ one (mean_min_between m r g wider other two) s h,
    mean_min_at_most m r g g lower upper wider spread other policy known_ (mean_min_between m r g wider other two) one s h,
  )

-- and are unique
module _ (m : Mdp) (r : ℕ) (g k : List ℚ) (spread wider : ℚ) (policy other : List ℕ) (known_ : IsMdp m) where
  pub mean_max_unique : MeanMax m r g spread policy → MeanMax m r k wider other → (s : ℕ) → s < states_of m → value_at g s ≡ value_at k s
  mean_max_unique one two s h = let p = mean_max_lies m r g g k spread wider policy other known_ (mean_max_between m r g spread policy one) two s h in ≤ℚ_antisymm _ _ p.0 p.1

  pub mean_min_unique : MeanMin m r g spread policy → MeanMin m r k wider other → (s : ℕ) → s < states_of m → value_at g s ≡ value_at k s
  mean_min_unique one two s h = let p = mean_min_lies m r g g k spread wider policy other known_ (mean_min_between m r g spread policy one) two s h in ≤ℚ_antisymm _ _ p.0 p.1
