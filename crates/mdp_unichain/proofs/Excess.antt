-- What an excess is good for. A chain earns r in each step and has the gain g' and the bias h'; and under some other pair g, h each of its steps earns
-- g and e more. Greater is better.
--     e at least 0 everywhere        g' is at least g
--     above 0 at some state of the closed class      g' is above g
--     g' = g, and the same reference      h' is at least h + e
use Rattle.std.proofs.Common.{◌≡◌, ◌≢◌, ℕ, zero, suc, ◌<◌, inl, inr, Bool, true, false, List, [], ◌∷◌, length, get_or, refl, sym, ◌∙◌, ap, subst, arith, pos, negsuc}
use Rattle.mdp_math.specs.Rational.{ℚ, ◌+ℚ◌, ◌*ℚ◌, ◌-ℚ◌, neg_ℚ, ◌≤ℚ◌, ◌<ℚ◌}
use Rattle.mdp_math.proofs.{Ring.{◌⊕◌, ◌⊗◌, ⊖, lit, ring}, Laws.{rat_ring}, Linear.{linear, linear_lt, combine, equal, at_most, known}}
use Rattle.mdp_math.proofs.Order.{0ℚ, 1ℚ, ≤ℚ_of_lt, ≤ℚ_or_gt, clash_ℚ, sub-pos, sub-nonneg, add-nonneg, add-pos-nonneg, mul-pos_ℚ}
use Rattle.mdp_math.proofs.Kernel.{weigh-add, weigh-sub, weigh-scale, weigh-const, weigh-neg, weigh-nonneg, weigh-pos}
use Rattle.mdp_math.proofs.Solutions.{Solves, solution-nonneg, solution-pos, solution-pos_by_entry}
use Rattle.mdp_spec.specs.Mdp.{Entry}
use Rattle.mdp_unichain.specs.{Chain.{IsChain, AllLeadTo}, Evaluation.{mean, IsEarned}}
use Rattle.mdp_unichain.proofs.Chains.{target, prob, same_or_other, active-state, active-from, active-reference, inactive, masked, masked-at, masked-outside, mean-masked, entries-nonneg}
use Rattle.mdp_unichain.proofs.{Chains.{chain-shrinks, active-bound, earned_by, earned-is}, Gains.{steps-pos}}

-- g times p is at least 0, p above 0
nonneg_of_mul : (g p : ℚ) → 0ℚ <ℚ p → 0ℚ ≤ℚ g *ℚ p → 0ℚ ≤ℚ g
nonneg_of_mul g p hp h = elim (≤ℚ_or_gt 0ℚ g) as (λ _. 0ℚ ≤ℚ g) [
  | inl l ↦ l
  | inr l ↦ absurd (clash_ℚ (g *ℚ p) 0ℚ (negative l) h)
]
  where
    negative : g <ℚ 0ℚ → g *ℚ p <ℚ 0ℚ
    negative l = linear_lt 2 (λ g p. g ⊗ p) (λ g p. lit (pos 0)) (λ g p. (lit (pos 0) ⊕ ⊖ g) ⊗ p) (λ g p. []) refl g p (mul-pos_ℚ _ _ (sub-pos g 0ℚ l) hp)

pos_of_mul : (g p : ℚ) → 0ℚ <ℚ p → 0ℚ <ℚ g *ℚ p → 0ℚ <ℚ g
pos_of_mul g p hp h = elim (≤ℚ_or_gt g 0ℚ) as (λ _. 0ℚ <ℚ g) [
  | inl l ↦ absurd (clash_ℚ 0ℚ (g *ℚ p) h (linear 2 (λ g p. g ⊗ p) (λ g p. lit (pos 0)) (λ g p. at_most p g (lit (pos 0)) ∷ []) refl g p (≤ℚ_of_lt 0ℚ p hp) l))
  | inr l ↦ l
]

module _ (states : ℕ → Bool) (n : ℕ) (row : ℕ → List Entry) (chain : IsChain states n row) (t : ℕ) (leads : AllLeadTo states row t) where
  module _ (r : ℕ → ℚ) (g g' : ℚ) (h h' : ℕ → ℚ) (own : (s : ℕ) → states s ≡ true → r s +ℚ mean (row s) h' ≡ g' +ℚ h' s) where
    pub excess : ℕ → ℚ
    excess s = (r s +ℚ mean (row s) h) -ℚ (g +ℚ h s)

    y : ℕ → ℚ
    y = earned_by states n row t (λ s. 1ℚ)

    y_is : IsEarned states row t (λ s. 1ℚ) y
    unfolding y
    y_is = earned-is states n row chain t leads (λ s. 1ℚ)

    -- the difference of the biases, from t on, and the difference of the gains for each step
    abbrev d : ℕ → ℚ
    d v = h' v -ℚ h v

    abbrev free : ℕ → ℚ
    free v = (d v -ℚ d t) +ℚ (g' -ℚ g) *ℚ y v

    abbrev phi : ℕ → ℚ
    phi = masked states free

    mean_d : (s : ℕ) → mean (row s) d ≡ mean (row s) h' -ℚ mean (row s) h
    mean_d s = weigh-sub target prob h' h (row s)

    mean_free : (s : ℕ) → states s ≡ true → mean (row s) free ≡ ((mean (row s) h' -ℚ mean (row s) h) -ℚ d t) +ℚ (g' -ℚ g) *ℚ mean (row s) y
    mean_free s k =
        combine 9 (λ f a b dh dc sm mh mk my. f) (λ f a b dh dc sm mh mk my. ((mh ⊕ ⊖ mk) ⊕ ⊖ dc) ⊕ dh)
        (λ f a b dh dc sm mh mk my. equal (lit (pos 1)) f (a ⊕ dh) ∷ equal (lit (pos 1)) a (b ⊕ ⊖ sm) ∷ equal (lit (pos 1)) b (mh ⊕ ⊖ mk) ∷ equal (lit (negsuc 0)) sm dc ∷ []) refl
        (mean (row s) free) (mean (row s) (λ v. d v -ℚ d t)) (mean (row s) d) ((g' -ℚ g) *ℚ mean (row s) y) (d t) (mean (row s) (λ v. d t)) (mean (row s) h') (mean (row s) h) (mean (row s) y)
        (weigh-add target prob (λ v. d v -ℚ d t) (λ v. (g' -ℚ g) *ℚ y v) (row s) ∙ ap (λ (u : ℚ). mean (row s) (λ v. d v -ℚ d t) +ℚ u) (weigh-scale target prob (g' -ℚ g) y (row s)))
        (weigh-sub target prob d (λ v. d t) (row s)) (mean_d s)
        (weigh-const target prob (d t) (row s) ∙ ap (λ (u : ℚ). d t *ℚ u) (chain.rows s k).total ∙ times_one (d t))
      where
        times_one : (x : ℚ) → x *ℚ 1ℚ ≡ x
        times_one x = ring rat_ring 1 (λ x. x ⊗ lit (pos 1)) (λ x. x) refl x

    -- so the difference is what is earned of the excess
    phi_solves : IsEarned states row t excess phi
    unfolding excess
    phi_solves = record {
      outside = λ s a. elim (inactive states t s a) as (λ _. phi s ≡ 0ℚ) [
        | inl o ↦ masked-outside states free s o
        | inr q ↦ ap phi q ∙ masked-at states free t leads.state
            ∙ combine 3 (λ d k y. (d ⊕ ⊖ d) ⊕ k ⊗ y) (λ d k y. lit (pos 0)) (λ d k y. equal k y (lit (pos 0)) ∷ []) refl (d t) (g' -ℚ g) (y t) (Solves.outside y_is t (active-reference states t))
      ];
      inside = λ s a.
          let k = active-state states t s a in
          masked-at states free s k
          ∙ combine 11 (λ hn hs dt gn g ys r mn m my mf. ((hn ⊕ ⊖ hs) ⊕ ⊖ dt) ⊕ (gn ⊕ ⊖ g) ⊗ ys) (λ hn hs dt gn g ys r mn m my mf. ((r ⊕ m) ⊕ ⊖ (g ⊕ hs)) ⊕ mf)
          (λ hn hs dt gn g ys r mn m my mf. equal (gn ⊕ ⊖ g) ys (lit (pos 1) ⊕ my) ∷ equal (lit (negsuc 0)) (r ⊕ mn) (gn ⊕ hn) ∷ equal (lit (negsuc 0)) mf
          (((mn ⊕ ⊖ m) ⊕ ⊖ dt) ⊕ (gn ⊕ ⊖ g) ⊗ my) ∷ []) refl
          (h' s) (h s) (d t) g' g (y s) (r s) (mean (row s) h') (mean (row s) h) (mean (row s) y) (mean (row s) free)
          (Solves.inside y_is s a) (own s k) (mean_free s k)
          ∙ ap (λ (u : ℚ). excess s +ℚ u) (sym (mean-masked states n row chain free s k));
    }

    -- and the gains differ by what is earned of it from t back to t, per step
    gap : (g' -ℚ g) *ℚ (1ℚ +ℚ mean (row t) y) ≡ excess t +ℚ mean (row t) phi
    unfolding excess
    gap =
        combine 11 (λ hn hs dt gn g r mn m my mf mp. (gn ⊕ ⊖ g) ⊗ (lit (pos 1) ⊕ my)) (λ hn hs dt gn g r mn m my mf mp. ((r ⊕ m) ⊕ ⊖ (g ⊕ hs)) ⊕ mp)
        (λ hn hs dt gn g r mn m my mf mp. equal (lit (negsuc 0)) (r ⊕ mn) (gn ⊕ hn) ∷ equal (lit (negsuc 0)) mf (((mn ⊕ ⊖ m) ⊕ ⊖ (hn ⊕ ⊖ hs)) ⊕ (gn ⊕ ⊖ g) ⊗ my) ∷ equal
        (lit (negsuc 0)) mp mf ∷ []) refl
        (h' t) (h t) (d t) g' g (r t) (mean (row t) h') (mean (row t) h) (mean (row t) y) (mean (row t) free) (mean (row t) phi)
        (own t leads.state) (mean_free t leads.state) (mean-masked states n row chain free t leads.state)

    module _ (helps : (s : ℕ) → states s ≡ true → g +ℚ h s ≤ℚ r s +ℚ mean (row s) h) where
      excess-nonneg : (s : ℕ) → states s ≡ true → 0ℚ ≤ℚ excess s
      unfolding excess
      excess-nonneg s k = sub-nonneg _ _ (helps s k)

      phi-nonneg : (s : ℕ) → 0ℚ ≤ℚ phi s
      phi-nonneg s =
          solution-nonneg (chain-shrinks states n row chain t leads) n (active-bound states n row chain t leads) row (λ s a. refl) excess phi
          (λ s a. excess-nonneg s (active-state states t s a)) phi_solves s

      mean_phi-nonneg : (s : ℕ) → states s ≡ true → 0ℚ ≤ℚ mean (row s) phi
      mean_phi-nonneg s k = weigh-nonneg target prob phi (row s) (entries-nonneg states n row chain s k) phi-nonneg

      pub gain-le : g ≤ℚ g'
      gain-le =
          linear 2 (λ g k. g) (λ g k. k) (λ g k. known (lit (pos 0)) (k ⊕ ⊖ g) ∷ []) refl g g'
          (nonneg_of_mul (g' -ℚ g) (1ℚ +ℚ mean (row t) y) (steps-pos states n row chain t leads y y_is)
          (subst (λ (u : ℚ). 0ℚ ≤ℚ u) (sym gap) (add-nonneg _ _ (excess-nonneg t leads.state) (mean_phi-nonneg t leads.state))))

      -- ---- a state u of the closed class where the excess is above 0

      module _ (u : ℕ) (to_u : AllLeadTo states row u) (more : g +ℚ h u <ℚ r u +ℚ mean (row u) h) where
        excess-pos : 0ℚ <ℚ excess u
        unfolding excess
        excess-pos = sub-pos _ _ more

        -- on the way from t to u the difference is above 0
        abbrev Before : ℕ → Type 0
        Before s = (states s ≡ true) × (to_u.rank s < to_u.rank t)

        found : (s k : ℕ) (x : Entry) → states s ≡ true → get_or (row s) k x ≡ x → k < length (row s) → (0ℚ <ℚ x.prob) × (states x.target ≡ true)
        found s k x h e l =
            (subst (λ (y : Entry). 0ℚ <ℚ y.prob) e ((chain.rows s h).positive k x l), subst (λ (y : Entry). states y.target ≡ true) e (chain.stays s h k x l))

        phi-pos : (fuel s : ℕ) → to_u.rank s < fuel → Before s → 0ℚ <ℚ phi s
        phi-pos zero s l b = absurd (omega arith)
        phi-pos (suc fuel) s l b =
            let other : s ≢ t = λ e. (let q : to_u.rank s ≡ to_u.rank t = ap to_u.rank e in absurd (omega (arith, b.1))) in
            let a = active-from states t s b.0 other in
            elim (same_or_other s u) as (λ _. 0ℚ <ℚ phi s) [
              | inl e ↦ solution-pos (chain-shrinks states n row chain t leads) n (active-bound states n row chain t leads) row (λ s a. refl) excess phi
                  (λ s a. excess-nonneg s (active-state states t s a)) phi_solves s a
                  (subst (λ k. 0ℚ <ℚ excess k) (sym e) excess-pos)
              | inr o ↦
                  let any = to_u.falls s b.0 o in
                  let f = found s any.0 any.1 b.0 any.3 any.2 in
                  solution-pos_by_entry (chain-shrinks states n row chain t leads) n (active-bound states n row chain t leads) row (λ s a. refl) excess phi
                  (λ s a. excess-nonneg s (active-state states t s a)) phi_solves s a
                  (any.0, any.1, any.2, any.3, (f.0, phi-pos fuel (target any.1) (omega (arith, any.4, l)) (f.1, omega (arith, any.4, b.1))))
            ]

        right-pos : 0ℚ <ℚ excess t +ℚ mean (row t) phi
        right-pos = elim (same_or_other t u) as (λ _. 0ℚ <ℚ excess t +ℚ mean (row t) phi) [
          | inl e ↦ add-pos-nonneg _ _ (subst (λ k. 0ℚ <ℚ excess k) (sym e) excess-pos) (mean_phi-nonneg t leads.state)
          | inr o ↦
              let any = to_u.falls t leads.state o in
              let f = found t any.0 any.1 leads.state any.3 any.2 in
              linear_lt 2 (λ e m. lit (pos 0)) (λ e m. e ⊕ m) (λ e m. m) (λ e m. known (lit (pos 0)) e ∷ []) refl (excess t) (mean (row t) phi)
              (weigh-pos target prob phi (row t) (entries-nonneg states n row chain t leads.state) phi-nonneg
              (any.0, any.1, any.2, any.3, (f.0, phi-pos (suc (to_u.rank (target any.1))) (target any.1) (omega arith) (f.1, any.4))))
              (excess-nonneg t leads.state)
        ]

        pub gain-lt : g <ℚ g'
        gain-lt =
            linear_lt 2 (λ g k. g) (λ g k. k) (λ g k. k ⊕ ⊖ g) (λ g k. []) refl g g'
            (pos_of_mul (g' -ℚ g) (1ℚ +ℚ mean (row t) y) (steps-pos states n row chain t leads y y_is) (subst (λ (u : ℚ). 0ℚ <ℚ u) (sym gap) right-pos))

      -- ---- the same gain, and both biases 0 at t and outside

      module _ (same : g' ≡ g) (at_t : h' t ≡ h t) (outside : (s : ℕ) → states s ≡ false → h' s ≡ h s) where
        d_solves : IsEarned states row t excess d
        unfolding excess
        d_solves = record {
          outside = λ s a.
              let e : h' s ≡ h s = elim (inactive states t s a) as (λ _. h' s ≡ h s) [ inl o ↦ outside s o | inr q ↦ ap h' q ∙ at_t ∙ ap h (sym q) ] in
              combine 2 (λ a b. a ⊕ ⊖ b) (λ a b. lit (pos 0)) (λ a b. equal (lit (pos 1)) a b ∷ []) refl (h' s) (h s) e;
          inside = λ s a.
              combine 7 (λ hn hs r m mn gn g. hn ⊕ ⊖ hs) (λ hn hs r m mn gn g. ((r ⊕ m) ⊕ ⊖ (g ⊕ hs)) ⊕ (mn ⊕ ⊖ m))
              (λ hn hs r m mn gn g. equal (lit (negsuc 0)) (r ⊕ mn) (gn ⊕ hn) ∷ equal (lit (negsuc 0)) gn g ∷ []) refl
              (h' s) (h s) (r s) (mean (row s) h) (mean (row s) h') g' g (own s (active-state states t s a)) same
              ∙ ap (λ (u : ℚ). excess s +ℚ u) (sym (mean_d s));
        }

        pub bias-le : (s : ℕ) → h s ≤ℚ h' s
        bias-le s =
            linear 2 (λ g k. g) (λ g k. k) (λ g k. known (lit (pos 0)) (k ⊕ ⊖ g) ∷ []) refl (h s) (h' s)
            (solution-nonneg (chain-shrinks states n row chain t leads) n (active-bound states n row chain t leads) row (λ s a. refl) excess d
            (λ s a. excess-nonneg s (active-state states t s a)) d_solves s)

        pub bias-lt : (s : ℕ) → states s ≡ true → s ≢ t → g +ℚ h s <ℚ r s +ℚ mean (row s) h → h s <ℚ h' s
        unfolding excess
        bias-lt s k o more =
            linear_lt 2 (λ g k. g) (λ g k. k) (λ g k. k ⊕ ⊖ g) (λ g k. []) refl (h s) (h' s)
            (solution-pos (chain-shrinks states n row chain t leads) n (active-bound states n row chain t leads) row (λ s a. refl) excess d
            (λ s a. excess-nonneg s (active-state states t s a)) d_solves s (active-from states t s k o)
            (sub-pos _ _ more))

-- the same from above: what no step passes, the gain doesn't pass
pub gain-ge : (states : ℕ → Bool) (n : ℕ) (row : ℕ → List Entry) → IsChain states n row → (t : ℕ) → AllLeadTo states row t → (r : ℕ → ℚ) (g g' : ℚ) (h h' : ℕ → ℚ)
    → ((s : ℕ) → states s ≡ true → r s +ℚ mean (row s) h' ≡ g' +ℚ h' s) → ((s : ℕ) → states s ≡ true → r s +ℚ mean (row s) h ≤ℚ g +ℚ h s) → g' ≤ℚ g
gain-ge states n row chain t leads r g g' h h' own hurts =
    linear 2 (λ g k. k) (λ g k. g) (λ g k. known (⊖ g) (⊖ k) ∷ []) refl g g'
    (gain-le states n row chain t leads (λ s. neg_ℚ (r s)) (neg_ℚ g) (neg_ℚ g') (λ s. neg_ℚ (h s)) (λ s. neg_ℚ (h' s))
    (λ s k.
    combine 5 (λ r m w g h. ⊖ r ⊕ w) (λ r m w g h. ⊖ g ⊕ ⊖ h) (λ r m w g h. equal (lit (negsuc 0)) (r ⊕ m) (g ⊕ h) ∷ equal (lit (pos 1)) w (⊖ m) ∷ []) refl
    (r s) (mean (row s) h') (mean (row s) (λ v. neg_ℚ (h' v))) g' (h' s) (own s k) (weigh-neg target prob h' (row s)))
    (λ s k.
    linear 5 (λ r m w g h. ⊖ g ⊕ ⊖ h) (λ r m w g h. ⊖ r ⊕ w) (λ r m w g h. known (r ⊕ m) (g ⊕ h) ∷ equal (lit (negsuc 0)) w (⊖ m) ∷ []) refl
    (r s) (mean (row s) h) (mean (row s) (λ v. neg_ℚ (h v))) g (h s) (hurts s k) (weigh-neg target prob h (row s))))
