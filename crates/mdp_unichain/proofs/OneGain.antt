-- There is one best gain: a policy with such a gain, bias and choices has this gain, whatever constant its bias is shifted by.
use Rattle.std.proofs.Common.{◌≡◌, ℕ, ◌<◌, ◌≤◌, ◌⊎◌, inl, inr, Bool, true, false, if◌then◌else◌, List, [], ◌∷◌, length, map, refl, sym, ◌∙◌, ap, subst, arith, pos, zero-add}
use Rattle.std.proofs.{Math.ListN.{get_or-eq_default}, lemmas.List.FromFn.{get_or-map-range_with_len, length-map-range_with_len}}
use Rattle.std.specs.{List.{Any, range_with_len}, Prelude.{slice_index}}
use Rattle.mdp_math.specs.Rational.{ℚ, ◌+ℚ◌, ◌-ℚ◌}
use Rattle.mdp_math.proofs.{Ring.{◌⊕◌, ⊖, lit}, Linear.{combine, equal}, Order.{≤ℚ_antisymm}, Numbers.{le_or}, Kernel.{weigh-sub}}
use Rattle.mdp_spec.specs.Mdp.{Entry}
use Rattle.mdp_spec.proofs.Rows.{row_weigh-const}
use Rattle.mdp_rows.specs.{declared.dir.Dir.{Dir}, declared.dir.Dir.TheVariants.{Max, Min}, Better.{IsAsGood}}
use Rattle.mdp_unichain.specs.{BestGain.{HasBestGain}, Chain.{IsChain, AllLeadTo, IsReference}}
use Rattle.mdp_unichain.specs.Component.{Component, Choice, count, choice_at, is_state, IsInner, row_by, reward_by, IsPolicy, IsComponent}
use Rattle.mdp_unichain.specs.{Evaluation.{mean, IsGain}, Improvement.{IsEvaluated}}
use Rattle.mdp_unichain.proofs.{Chains.{masked, masked-at, masked-outside, mean-masked}, Deciding.{has_reference}}
use Rattle.mdp_unichain.proofs.Improving.{has_one_evaluation, meets_equations, best_of_all, policy-chain, state-below}

both_ways : (dir : Dir) (x y : ℚ) → IsAsGood dir x y → IsAsGood dir y x → x ≡ y
both_ways Max x y a b = ≤ℚ_antisymm x y b a
both_ways Min x y a b = ≤ℚ_antisymm x y a b

module _ (p : Component) (known : IsComponent p) (gain : ℚ) (bias : ℕ → ℚ) (choice : ℕ → ℕ) (best : HasBestGain p gain bias choice) where
  taken : ℕ → ℕ
  taken s = if is_state p s then choice s else 0

  taken_by : (s : ℕ) (b : Bool) → b ≡ true → (if b then choice s else 0) ≡ choice s
  taken_by s true e = refl
  taken_by s false e = cc

  untaken_by : (s : ℕ) (b : Bool) → b ≡ false → (if b then choice s else 0) ≡ 0
  untaken_by s true e = cc
  untaken_by s false e = refl

  policy : List ℕ
  policy = map taken (range_with_len 0 (count p))

  policy-at : (s : ℕ) → s < count p → slice_index policy s ≡ taken s
  unfolding policy
  policy-at s l = get_or-map-range_with_len taken 0 (count p) s s 0 l (zero-add s)

  policy-state : (s : ℕ) → is_state p s ≡ true → slice_index policy s ≡ choice s
  unfolding taken
  policy-state s h = policy-at s (state-below p s h) ∙ taken_by s (is_state p s) h

  policy-len : length policy ≡ count p
  unfolding policy
  policy-len = length-map-range_with_len taken 0 (count p)

  outside_by : (s : ℕ) → is_state p s ≡ false → (count p ≤ s) ⊎ (s < count p) → slice_index policy s ≡ 0
  unfolding taken
  outside_by s h (inl l) = let n = policy-len in get_or-eq_default policy 0 (omega (arith, n, l))
  outside_by s h (inr l) = policy-at s l ∙ untaken_by s (is_state p s) h

  is_policy : IsPolicy p policy
  is_policy = record {
    len = policy-len;
    inner = λ s h. subst (IsInner p s) (sym (policy-state s h)) (HasBestGain.takes best s h);
    outside = λ s h. outside_by s h (le_or (count p) s);
  }

  chain : IsChain (is_state p) (count p) (row_by p policy)
  chain = policy-chain p policy known is_policy

  leads : AllLeadTo (is_state p) (row_by p policy) (HasBestGain.one_class best).0
  leads =
      let a = (HasBestGain.one_class best).1 in
      record {
        state = AllLeadTo.state a;
        rank = AllLeadTo.rank a;
        falls = λ s h o. subst (λ c. Any (λ y. AllLeadTo.rank a y.target < AllLeadTo.rank a s) (Choice.row (choice_at p s c))) (sym (policy-state s h)) (AllLeadTo.falls a s h o);
      }

  reference : (u : ℕ) × IsReference (is_state p) (row_by p policy) u
  reference = has_reference p policy (HasBestGain.one_class best).0 known is_policy leads

  -- the bias, shifted so that it is 0 at the reference, and 0 outside
  abbrev shifted : ℕ → ℚ
  shifted = masked (is_state p) (λ s. bias s -ℚ bias reference.0)

  earned : (s : ℕ) → is_state p s ≡ true → reward_by p policy s +ℚ mean (row_by p policy s) bias ≡ gain +ℚ bias s
  earned s h =
      subst (λ c. Choice.reward (choice_at p s c) +ℚ mean (Choice.row (choice_at p s c)) bias ≡ gain +ℚ bias s) (sym (policy-state s h)) (HasBestGain.earns best s h)

  mean-shifted : (s : ℕ) → is_state p s ≡ true → mean (row_by p policy s) shifted ≡ mean (row_by p policy s) bias -ℚ bias reference.0
  mean-shifted s h =
      mean-masked (is_state p) (count p) (row_by p policy) chain (λ s. bias s -ℚ bias reference.0) s h
      ∙ weigh-sub (λ (y : Entry). y.target) (λ (y : Entry). y.prob) bias (λ v. bias reference.0) (row_by p policy s)
      ∙ ap (λ (w : ℚ). mean (row_by p policy s) bias -ℚ w)
      (row_weigh-const (count p) (row_by p policy s) (bias reference.0) (record { distribution = chain.rows s h; in_range = λ k d l. state-below p _ (chain.stays s h k d l) }))

  shifted-gain : IsGain (is_state p) (row_by p policy) (reward_by p policy) reference.0 gain shifted
  shifted-gain = record {
    reference =
        masked-at (is_state p) (λ s. bias s -ℚ bias reference.0) reference.0 (AllLeadTo.state (IsReference.leads reference.1))
        ∙ combine 1 (λ b. b ⊕ ⊖ b) (λ b. lit (pos 0)) (λ b. []) refl (bias reference.0);
    outside = λ s h. masked-outside (is_state p) (λ s. bias s -ℚ bias reference.0) s h;
    step = λ s h.
        combine 7 (λ r m g b c x y. r ⊕ x) (λ r m g b c x y. g ⊕ y)
        (λ r m g b c x y. equal (lit (pos 1)) x (m ⊕ ⊖ c) ∷ equal (lit (pos 1)) (r ⊕ m) (g ⊕ b) ∷ equal (lit (pos 1)) (b ⊕ ⊖ c) y ∷ []) refl
        (reward_by p policy s) (mean (row_by p policy s) bias) gain (bias s) (bias reference.0) (mean (row_by p policy s) shifted) (shifted s)
        (mean-shifted s h) (earned s h) (sym (masked-at (is_state p) (λ s. bias s -ℚ bias reference.0) s h));
  }

  -- so the policy has this gain
  pub policy_gain : (q : List ℕ) × (u : ℕ) × (g : ℚ) × (h : ℕ → ℚ) × IsEvaluated p q u g h × (gain ≡ g)
  policy_gain =
      let e = has_one_evaluation p policy reference.0 known is_policy (IsReference.leads reference.1) in
      let m = meets_equations p policy reference.0 e.0 e.1 known is_policy (IsReference.leads reference.1) e.2 in
      (policy, reference.0, e.0, e.1, record { is = is_policy; reference = reference.1; values = e.2 }, (m.2 gain shifted shifted-gain).0)

pub one_best_gain : (p : Component) → IsComponent p → (g k : ℚ) (h j : ℕ → ℚ) (c d : ℕ → ℕ) → HasBestGain p g h c → HasBestGain p k j d → k ≡ g
one_best_gain p known g k h j c d a b =
    let x = policy_gain p known g h c a in
    let y = policy_gain p known k j d b in
    both_ways p.dir k g
    (subst (λ (w : ℚ). IsAsGood p.dir k w) (sym x.5) (best_of_all p k j known (HasBestGain.none_better b) x.0 x.1 x.2 x.3 x.4))
    (subst (λ (w : ℚ). IsAsGood p.dir g w) (sym y.5) (best_of_all p g h known (HasBestGain.none_better a) y.0 y.1 y.2 y.3 y.4))
