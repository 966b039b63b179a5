-- The gain and the bias exist, there is one pair of them, and they solve their equations at each state.
use Rattle.std.proofs.Common.{◌≡◌, ◌≢◌, ℕ, ◌⊎◌, inl, inr, Bool, true, false, List, [], ◌∷◌, refl, sym, ◌∙◌, ap, subst, pos, negsuc}
use Rattle.mdp_math.specs.Rational.{ℚ, ◌+ℚ◌, ◌*ℚ◌, ◌-ℚ◌, ◌≤ℚ◌, ◌<ℚ◌}
use Rattle.mdp_math.proofs.{Ring.{◌⊕◌, ◌⊗◌, ⊖, lit}, Linear.{linear, combine, equal, known}, Whole.{one-pos}}
use Rattle.mdp_math.proofs.{Order.{0ℚ, 1ℚ, ◌/ℚ◌, ≤ℚ_of_lt, <ℚ-≤ℚ_trans, ne-zero_of_pos}, Division.{div-mul, div-unique}}
use Rattle.mdp_math.proofs.Kernel.{weigh-same, weigh-sub, weigh-scale, weigh-nonneg}
use Rattle.mdp_math.proofs.Solutions.{Solves, Solves-sub, Solves-scale, one_solution, solution-nonneg}
use Rattle.mdp_spec.specs.Mdp.{Entry}
use Rattle.mdp_unichain.specs.{Chain.{IsChain, AllLeadTo}, Evaluation.{mean, active, IsEarned, IsEvaluation, IsGain}}
use Rattle.mdp_unichain.proofs.Chains.{target, prob, same_or_other, active-state, active-from, active-outside, active-reference, entries-nonneg, inactive, chain-shrinks, active-bound, earned_by}
use Rattle.mdp_unichain.proofs.Chains.{earned-is}

-- the gain and the bias by exact elimination; numbers for each chain, also where not all lead to t
unfoldable pub gain_by : (ℕ → Bool) → ℕ → (ℕ → List Entry) → ℕ → (ℕ → ℚ) → ℚ
gain_by states n row t reward = (reward t +ℚ mean (row t) (earned_by states n row t reward)) /ℚ (1ℚ +ℚ mean (row t) (earned_by states n row t (λ s. 1ℚ)))

unfoldable pub bias_by : (ℕ → Bool) → ℕ → (ℕ → List Entry) → ℕ → (ℕ → ℚ) → ℕ → ℚ
bias_by states n row t reward s = earned_by states n row t reward s -ℚ gain_by states n row t reward *ℚ earned_by states n row t (λ s. 1ℚ) s

module _ (states : ℕ → Bool) (n : ℕ) (row : ℕ → List Entry) (chain : IsChain states n row) (t : ℕ) (leads : AllLeadTo states row t) where
  -- ---- the number of steps

  pub steps-nonneg : (y : ℕ → ℚ) → IsEarned states row t (λ s. 1ℚ) y → (s : ℕ) → 0ℚ ≤ℚ y s
  steps-nonneg y steps s = solution-nonneg (chain-shrinks states n row chain t leads) n (active-bound states n row chain t leads) row (λ s a. refl) (λ s. 1ℚ) y (λ s a. ≤ℚ_of_lt _ _ one-pos) steps s

  -- from t back to t there is at least one
  pub steps-ge_one : (y : ℕ → ℚ) → IsEarned states row t (λ s. 1ℚ) y → 1ℚ ≤ℚ 1ℚ +ℚ mean (row t) y
  steps-ge_one y steps =
      linear 1 (λ w. lit (pos 1)) (λ w. lit (pos 1) ⊕ w) (λ w. known (lit (pos 0)) w ∷ []) refl (mean (row t) y)
      (weigh-nonneg target prob y (row t) (entries-nonneg states n row chain t leads.state) (steps-nonneg y steps))

  pub steps-pos : (y : ℕ → ℚ) → IsEarned states row t (λ s. 1ℚ) y → 0ℚ <ℚ 1ℚ +ℚ mean (row t) y
  steps-pos y steps = <ℚ-≤ℚ_trans 0ℚ 1ℚ _ one-pos (steps-ge_one y steps)

  module _ (reward : ℕ → ℚ) where
    -- ---- they exist

    pub has_evaluation : IsEvaluation states row reward t (gain_by states n row t reward) (bias_by states n row t reward)
    unfolding gain_by bias_by
    has_evaluation = record {
      x = earned_by states n row t reward;
      y = earned_by states n row t (λ s. 1ℚ);
      earned = earned-is states n row chain t leads reward;
      steps = earned-is states n row chain t leads (λ s. 1ℚ);
      gain_is = refl;
      bias_is = λ s. refl;
    }

    -- ---- they solve their equations

    module _ (gain : ℚ) (bias : ℕ → ℚ) (e : IsEvaluation states row reward t gain bias) where
      mean_bias : (s : ℕ) → mean (row s) bias ≡ mean (row s) e.x -ℚ gain *ℚ mean (row s) e.y
      mean_bias s =
          mean_same s
          ∙ weigh-sub target prob e.x (λ v. gain *ℚ e.y v) (row s)
          ∙ ap (λ (u : ℚ). mean (row s) e.x -ℚ u) (weigh-scale target prob gain e.y (row s))
        where
          mean_same : (s : ℕ) → mean (row s) bias ≡ mean (row s) (λ v. e.x v -ℚ gain *ℚ e.y v)
          mean_same s = weigh-same target prob bias (λ v. e.x v -ℚ gain *ℚ e.y v) (row s) (λ k d l. e.bias_is _)

      across : gain *ℚ (1ℚ +ℚ mean (row t) e.y) ≡ reward t +ℚ mean (row t) e.x
      across = ap (λ (u : ℚ). u *ℚ (1ℚ +ℚ mean (row t) e.y)) e.gain_is ∙ div-mul _ _ (ne-zero_of_pos _ (steps-pos e.y e.steps))

      bias-inactive : (s : ℕ) → active states t s ≡ false → bias s ≡ 0ℚ
      bias-inactive s a =
          combine 4 (λ b x y g. b) (λ b x y g. lit (pos 0)) (λ b x y g. equal (lit (pos 1)) b (x ⊕ ⊖ (g ⊗ y)) ∷ equal (lit (pos 1)) x (lit (pos 0)) ∷ equal (⊖ g) y (lit (pos 0)) ∷ []) refl
          (bias s) (e.x s) (e.y s) gain (e.bias_is s) (Solves.outside e.earned s a) (Solves.outside e.steps s a)

      step_by : (s : ℕ) → states s ≡ true → (s ≡ t) ⊎ (s ≢ t) → reward s +ℚ mean (row s) bias ≡ gain +ℚ bias s
      step_by s h (inr o) =
          let a = active-from states t s h o in
          combine 8 (λ r m g b x y mx my. r ⊕ m) (λ r m g b x y mx my. g ⊕ b)
          (λ r m g b x y mx my. equal (lit (pos 1)) m (mx ⊕ ⊖ (g ⊗ my)) ∷ equal (lit (negsuc 0)) b (x ⊕ ⊖ (g ⊗ y)) ∷ equal (lit (negsuc 0)) x (r ⊕ mx) ∷ equal g y (lit (pos 1) ⊕ my) ∷ []) refl
          (reward s) (mean (row s) bias) gain (bias s) (e.x s) (e.y s) (mean (row s) e.x) (mean (row s) e.y)
          (mean_bias s) (e.bias_is s) (Solves.inside e.earned s a) (Solves.inside e.steps s a)
      step_by s h (inl q) = subst (λ (k : ℕ). reward k +ℚ mean (row k) bias ≡ gain +ℚ bias k) (sym q)
          (combine 6 (λ r m g b mx my. r ⊕ m) (λ r m g b mx my. g ⊕ b)
          (λ r m g b mx my. equal (lit (pos 1)) m (mx ⊕ ⊖ (g ⊗ my)) ∷ equal (lit (negsuc 0)) b (lit (pos 0)) ∷ equal (lit (negsuc 0)) (g ⊗ (lit (pos 1) ⊕ my)) (r ⊕ mx) ∷ []) refl
          (reward t) (mean (row t) bias) gain (bias t) (mean (row t) e.x) (mean (row t) e.y)
          (mean_bias t) (bias-inactive t (active-reference states t)) across)

      pub is-gain : IsGain states row reward t gain bias
      is-gain = record {
        reference = bias-inactive t (active-reference states t);
        outside = λ s h. bias-inactive s (active-outside states t s h);
        step = λ s h. step_by s h (same_or_other s t);
      }

    -- ---- and no other pair does

    module _ (gain g : ℚ) (bias h : ℕ → ℚ) (e : IsEvaluation states row reward t gain bias) (k : IsGain states row reward t g h) where
      out : (s : ℕ) → active states t s ≡ false → h s ≡ 0ℚ
      out s a = elim (inactive states t s a) as (λ _. h s ≡ 0ℚ) [ inl o ↦ k.outside s o | inr q ↦ ap h q ∙ k.reference ]

      -- both x - g y and h are earned where g less is paid in each step
      abbrev rest : ℕ → ℚ
      rest s = e.x s -ℚ g *ℚ e.y s

      rest_solves : IsEarned states row t (λ s. reward s -ℚ g *ℚ 1ℚ) rest
      rest_solves = Solves-sub reward (λ s. g *ℚ 1ℚ) e.x (λ s. g *ℚ e.y s) e.earned (Solves-scale g (λ s. 1ℚ) e.y e.steps)

      h_solves : IsEarned states row t (λ s. reward s -ℚ g *ℚ 1ℚ) h
      h_solves = record {
        outside = out;
        inside = λ s a.
            combine 4 (λ r m g h. h) (λ r m g h. (r ⊕ ⊖ (g ⊗ lit (pos 1))) ⊕ m) (λ r m g h. equal (lit (negsuc 0)) (r ⊕ m) (g ⊕ h) ∷ []) refl
            (reward s) (mean (row s) h) g (h s) (k.step s (active-state states t s a));
      }

      h-rest : (s : ℕ) → h s ≡ rest s
      h-rest s = one_solution (chain-shrinks states n row chain t leads) n (active-bound states n row chain t leads) row (λ s a. refl) (λ s. reward s -ℚ g *ℚ 1ℚ) h rest h_solves rest_solves s

      mean_h : mean (row t) h ≡ mean (row t) e.x -ℚ g *ℚ mean (row t) e.y
      mean_h =
          weigh-same target prob h rest (row t) (λ k d l. h-rest _)
          ∙ weigh-sub target prob e.x (λ v. g *ℚ e.y v) (row t)
          ∙ ap (λ (u : ℚ). mean (row t) e.x -ℚ u) (weigh-scale target prob g e.y (row t))

      pub one_gain : g ≡ gain
      one_gain =
          div-unique (reward t +ℚ mean (row t) e.x) (1ℚ +ℚ mean (row t) e.y) g (ne-zero_of_pos _ (steps-pos e.y e.steps))
          (combine 6 (λ r m g b mx my. g ⊗ (lit (pos 1) ⊕ my)) (λ r m g b mx my. r ⊕ mx)
          (λ r m g b mx my. equal (lit (negsuc 0)) (r ⊕ m) (g ⊕ b) ∷ equal (lit (pos 1)) m (mx ⊕ ⊖ (g ⊗ my)) ∷ equal (lit (negsuc 0)) b (lit (pos 0)) ∷ []) refl
          (reward t) (mean (row t) h) g (h t) (mean (row t) e.x) (mean (row t) e.y) (k.step t leads.state) mean_h k.reference)
          ∙ sym e.gain_is

      pub one_bias : (s : ℕ) → h s ≡ bias s
      one_bias s = h-rest s ∙ ap (λ (u : ℚ). e.x s -ℚ u *ℚ e.y s) one_gain ∙ sym (e.bias_is s)
