-- What the rules of a reachability certificate say of trees: for a lower and an upper value for each state, and for values that are both.
-- The exact values lie between two such values, and are the only ones.
use Rattle.std.proofs.Common.{◌≡◌, ℕ, ◌<◌, ◌≤◌, Bool, true, false, true≢false, cond, ltb, lt-ltb, ltb-true, List, [], ◌∷◌, get_or, refl, sym, subst, arith, pos}
use Rattle.std.specs.List.{Any}
use Rattle.mdp_math.specs.Rational.{ℚ, ratio, lt_ℚ, ◌+ℚ◌, ◌≤ℚ◌, ◌<ℚ◌}
use Rattle.mdp_math.proofs.{Order.{0ℚ, ≤ℚ_of_eq, ≤ℚ_antisymm}, Extremes.{lt_of_test, le_of_no_test}, Division.{le_of_bounds}, Powers.{unit_fraction-le}}
use Rattle.mdp_math.proofs.{Laws.{den-pos}, Ring.{◌⊕◌}, Linear.{linear, known}}
use Rattle.mdp_spec.specs.{Mdp.{Mdp, states_of, row_at, value_at}, Row.{IsMdp}, Tree.{is_marked, unfolded}, Hit.{hit}}
use Rattle.mdp_spec.specs.{Rules.{AreProbabilities, Covers, MeetsReachMax, MeetsReachMin}, Bounds.{Above, ReachMax, ReachMin, part}}
use Rattle.mdp_spec.specs.{Between.{ReachMaxBetween, ReachMinBetween}, BetweenRules.{MeetsReachMaxBetween, MeetsReachMinBetween}}
use Rattle.mdp_spec.proofs.{Keeping.{HasChoice, Follows, keeps_of_Fits, keeps_unfolded, unfolded_is_strategy}, Above.{hit-le_by}, Rows.{row_weigh}}
use Rattle.mdp_spec.proofs.{Close.{RowsShrink, deficit-le, deficit-fades}, Ranks.{shrinks_of_ranks}}

-- ---- the states that are no goal and have a value above 0

abbrev pub is_active : Mdp → List Bool → List ℚ → ℕ → Bool
is_active m goals z s = cond (ltb s (states_of m)) (cond (is_marked goals s) false (lt_ℚ 0ℚ (value_at z s))) false

pub all_three : (a b c : Bool) → cond a (cond b false c) false ≡ true → (a ≡ true) × (b ≡ false) × (c ≡ true)
all_three true true c e = absurd (true≢false (sym e))
all_three true false c e = (refl, refl, e)
all_three false b c e = absurd (true≢false (sym e))

pub third : (a b c : Bool) → a ≡ true → b ≡ false → cond a (cond b false c) false ≡ false → c ≡ false
third true true c e f g = absurd (true≢false f)
third true false c e f g = g
third false b c e f g = absurd (true≢false (sym e))

pub active_parts : (m : Mdp) (goals : List Bool) (z : List ℚ) (s : ℕ) → is_active m goals z s ≡ true → (s < states_of m) × (is_marked goals s ≡ false) × (0ℚ <ℚ value_at z s)
active_parts m goals z s a =
    let p = all_three (ltb s (states_of m)) (is_marked goals s) (lt_ℚ 0ℚ (value_at z s)) a in
    (ltb-true s (states_of m) p.0, p.1, lt_of_test 0ℚ (value_at z s) p.2)

pub inactive_value : (m : Mdp) (goals : List Bool) (z : List ℚ) (s : ℕ) → s < states_of m → is_marked goals s ≡ false → is_active m goals z s ≡ false → value_at z s ≤ℚ 0ℚ
inactive_value m goals z s h g a = le_of_no_test 0ℚ (value_at z s) (third (ltb s (states_of m)) (is_marked goals s) (lt_ℚ 0ℚ (value_at z s)) (lt-ltb s (states_of m) h) g a)

-- ---- values that no tree passes

pub above_of_rules : (m : Mdp) (goals : List Bool) (z : List ℚ) → IsMdp m → AreProbabilities m goals z → Covers m goals z → Above m goals z
above_of_rules m goals z known_ p covers = record {
  above = λ n u t s h tree.
      hit-le_by m goals u known_ tree.mixes (HasChoice m) (value_at z) p.at_least_zero (λ s h g. ≤ℚ_of_eq _ _ (sym (p.at_goal s h g))) (λ s c h g k i. covers s c h g i) n t s h
      (keeps_of_Fits m u n t s tree.fits);
}

-- ---- the greatest probability

module _ (m : Mdp) (goals : List Bool) (lower upper : List ℚ) (policy ranks : List ℕ) (known_ : IsMdp m) where
  pub reach_max_between_of_rules : MeetsReachMaxBetween m goals lower upper policy ranks → ReachMaxBetween m goals lower upper policy
  reach_max_between_of_rules r =
      let K : RowsShrink m (is_active m goals lower) (Follows policy) =
      shrinks_of_ranks m (is_active m goals lower) (Follows policy) (λ s. get_or ranks s 0) known_ (λ s a. (active_parts m goals lower s a).0)
      (λ s c a is i.
      let p = active_parts m goals lower s a in
      let f = r.falls s p.0 p.1 p.2 in
      subst (λ (d : ℕ). Any (λ y. get_or ranks y.target 0 < get_or ranks s 0) (row_at m s d)) (sym is) (f.0, f.1, f.2, f.3, f.4.1))
      in
      record {
        takes = r.choices;
        above = above_of_rules m goals upper known_ r.upper_values r.covers;
        close = λ s k h hk.
            let fades = deficit-fades m (is_active m goals lower) (Follows policy) K k hk in (
              fades.0,
              fades.1 fades.0 s (value_at lower s) (hit m goals 1 fades.0 (unfolded m policy fades.0 s) s) (omega arith)
                  (deficit-le m goals 1 known_ (omega arith) (Follows policy) (is_active m goals lower) K (value_at lower) (AreProbabilities.at_most_one r.lower_values) (inactive_value m goals lower)
                  (λ v c l a is i. subst (λ (d : ℕ). value_at lower v ≤ℚ row_weigh (value_at lower) (row_at m v d)) (sym is) (r.reached v l (active_parts m goals lower v a).1))
                  fades.0 (unfolded m policy fades.0 s) s h (keeps_unfolded m policy fades.0 s known_ r.choices h)),
            );
      }

  -- ---- the least probability

  pub reach_min_between_of_rules : MeetsReachMinBetween m goals lower upper policy ranks → ReachMinBetween m goals lower upper policy
  reach_min_between_of_rules r =
      let K : RowsShrink m (is_active m goals lower) (HasChoice m) =
      shrinks_of_ranks m (is_active m goals lower) (HasChoice m) (λ s. get_or ranks s 0) known_ (λ s a. (active_parts m goals lower s a).0)
      (λ s c a is i. let p = active_parts m goals lower s a in r.falls s c p.0 p.1 p.2 i)
      in
      record {
        takes = r.choices;
        below = λ n s h.
            hit-le_by m goals 1 known_ (omega arith) (Follows policy) (value_at upper) (AreProbabilities.at_least_zero r.upper_values)
            (λ v l g. ≤ℚ_of_eq _ _ (sym (AreProbabilities.at_goal r.upper_values v l g)))
            (λ v c l g is i. subst (λ (d : ℕ). row_weigh (value_at upper) (row_at m v d) ≤ℚ value_at upper v) (sym is) (r.reached v l g))
            n (unfolded m policy n s) s h (keeps_unfolded m policy n s known_ r.choices h);
        close = λ s k h hk.
            let fades = deficit-fades m (is_active m goals lower) (HasChoice m) K k hk in (
              fades.0,
              λ d u t l tree.
                  fades.1 d s (value_at lower s) (hit m goals u d t s) l
                  (deficit-le m goals u known_ tree.mixes (HasChoice m) (is_active m goals lower) K (value_at lower) (AreProbabilities.at_most_one r.lower_values) (inactive_value m goals lower)
                  (λ v c l a is i. r.covered v c l (active_parts m goals lower v a).1 i)
                  d t s h (keeps_of_Fits m u d t s tree.fits)),
            );
      }

-- ---- the same values below and above

module _ (m : Mdp) (goals : List Bool) (z : List ℚ) (policy : List ℕ) where
  pub reach_max_between : ReachMax m goals z policy → ReachMaxBetween m goals z z policy
  reach_max_between r = record { takes = r.takes; above = r.above; close = r.close }

  pub reach_min_between : ReachMin m goals z policy → ReachMinBetween m goals z z policy
  reach_min_between r = record { takes = r.takes; below = r.below; close = r.close }

  pub reach_max_exact : ReachMaxBetween m goals z z policy → ReachMax m goals z policy
  reach_max_exact r = record { takes = r.takes; above = r.above; close = r.close }

  pub reach_min_exact : ReachMinBetween m goals z z policy → ReachMin m goals z policy
  reach_min_exact r = record { takes = r.takes; below = r.below; close = r.close }

  module _ (ranks : List ℕ) (known_ : IsMdp m) where
    pub reach_max_of_rules : MeetsReachMax m goals z policy ranks → ReachMax m goals z policy
    reach_max_of_rules r =
        reach_max_exact
        (reach_max_between_of_rules m goals z z policy ranks known_
        (record { choices = r.choices; lower_values = r.probabilities; upper_values = r.probabilities; covers = r.covers; reached = r.reached; ends = r.ends; falls = r.falls }))

    pub reach_min_of_rules : MeetsReachMin m goals z policy ranks → ReachMin m goals z policy
    reach_min_of_rules r =
        reach_min_exact
        (reach_min_between_of_rules m goals z z policy ranks known_
        (record { choices = r.choices; lower_values = r.probabilities; upper_values = r.probabilities; covered = r.covered; reached = r.reached; ends = r.ends; falls = r.falls }))

-- ---- no lower value passes an upper one

-- x is at most y, where it is at most y + 1/k for each k
pub le_of_parts : (x y : ℚ) → ((k : ℕ) → 1 ≤ k → x ≤ℚ y +ℚ part k) → x ≤ℚ y
le_of_parts x y h =
    le_of_bounds x y
    (λ q p. linear 4 (λ x y q r. x) (λ x y q r. y ⊕ q) (λ x y q r. known x (y ⊕ r) ∷ known r q ∷ []) refl x y q (ratio (pos 1) q.den) (h q.den (den-pos q)) (unit_fraction-le q p))

module _ (m : Mdp) (goals : List Bool) (known_ : IsMdp m) where
  -- of two claims on the greatest probabilities, the lower values of one are at most the upper values of the other
  pub reach_max_at_most : (lower upper low high : List ℚ) (policy other : List ℕ) (s : ℕ) → ReachMaxBetween m goals lower upper policy → ReachMaxBetween m goals low high other → s < states_of m
      → value_at lower s ≤ℚ value_at high s
  reach_max_at_most lower upper low high policy other s r t h =
      le_of_parts (value_at lower s) (value_at high s)
      (λ k hk.
      let c = r.close s k h hk in
      let a = Above.above t.above c.0 1 (unfolded m policy c.0 s) s h (unfolded_is_strategy m policy c.0 s known_ r.takes h) in
      linear 4 (λ z w x q. z) (λ z w x q. w ⊕ q) (λ z w x q. known z (x ⊕ q) ∷ known x w ∷ []) refl (value_at lower s) (value_at high s) (hit m goals 1 c.0 (unfolded m policy c.0 s) s) (part k) c.1 a)

  -- the greatest probabilities lie between them
  pub reach_max_lies : (lower upper z : List ℚ) (policy other : List ℕ) (s : ℕ) → ReachMaxBetween m goals lower upper policy → ReachMax m goals z other → s < states_of m
      → (value_at lower s ≤ℚ value_at z s) × (value_at z s ≤ℚ value_at upper s)
  reach_max_lies lower upper z policy other s r t h =
      (reach_max_at_most lower upper z z policy other s r (reach_max_between m goals z other t) h, reach_max_at_most z z lower upper other policy s (reach_max_between m goals z other t) r h)

  -- and are unique
  pub reach_max_unique : (z w : List ℚ) (policy other : List ℕ) (s : ℕ) → ReachMax m goals z policy → ReachMax m goals w other → s < states_of m → value_at z s ≡ value_at w s
  reach_max_unique z w policy other s r t h = let p = reach_max_lies z z w policy other s (reach_max_between m goals z policy r) t h in ≤ℚ_antisymm _ _ p.0 p.1

  -- of two claims on the least probabilities, the lower values of one are at most the upper values of the other
  pub reach_min_at_most : (lower upper low high : List ℚ) (policy other : List ℕ) (s : ℕ) → ReachMinBetween m goals lower upper policy → ReachMinBetween m goals low high other → s < states_of m
      → value_at lower s ≤ℚ value_at high s
  reach_min_at_most lower upper low high policy other s r t h =
      le_of_parts (value_at lower s) (value_at high s)
      (λ k hk.
      let c = r.close s k h hk in
      let b = t.below c.0 s h in
      let a = c.1 c.0 1 (unfolded m other c.0 s) (omega arith) (unfolded_is_strategy m other c.0 s known_ t.takes h) in
      linear 4 (λ z w x q. z) (λ z w x q. w ⊕ q) (λ z w x q. known z (x ⊕ q) ∷ known x w ∷ []) refl (value_at lower s) (value_at high s) (hit m goals 1 c.0 (unfolded m other c.0 s) s) (part k) a b)

  -- the least probabilities lie between them
  pub reach_min_lies : (lower upper z : List ℚ) (policy other : List ℕ) (s : ℕ) → ReachMinBetween m goals lower upper policy → ReachMin m goals z other → s < states_of m
      → (value_at lower s ≤ℚ value_at z s) × (value_at z s ≤ℚ value_at upper s)
  reach_min_lies lower upper z policy other s r t h =
      (reach_min_at_most lower upper z z policy other s r (reach_min_between m goals z other t) h, reach_min_at_most z z lower upper other policy s (reach_min_between m goals z other t) r h)

  -- and are unique
  pub reach_min_unique : (z w : List ℚ) (policy other : List ℕ) (s : ℕ) → ReachMin m goals z policy → ReachMin m goals w other → s < states_of m → value_at z s ≡ value_at w s
  reach_min_unique z w policy other s r t h = let p = reach_min_lies z z w policy other s (reach_min_between m goals z policy r) t h in ≤ℚ_antisymm _ _ p.0 p.1
