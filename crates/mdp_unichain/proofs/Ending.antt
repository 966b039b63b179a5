-- No policy comes twice. With each next policy the number of references and policies that are better falls: those whose gain by exact elimination is
-- better, or as good with the same reference and a bias that is at least as good everywhere and better somewhere.
use Rattle.std.proofs.Common.{◌≡◌, ℕ, zero, suc, ◌+◌, ◌<◌, inl, inr, Bool, true, false, ◌&&◌, ◌||◌, eqb, List, [], ◌∷◌, length, get_or, refl, sym, ◌∙◌, ap, subst, arith}
use Rattle.std.proofs.lemmas.Bool.{or_left, or_right, or_cases}
use Rattle.std.specs.Prelude.{slice_index}
use Rattle.mdp_math.specs.Rational.{ℚ, le_ℚ, lt_ℚ, ◌≤ℚ◌, ◌<ℚ◌}
use Rattle.mdp_math.proofs.{Numbers.{eqb-same}, Order.{≤ℚ_of_eq, <ℚ-≤ℚ_trans, <ℚ_trans}, Extremes.{le_of_test, test_of_le, lt_of_test, test_of_lt}}
use Rattle.mdp_math.proofs.Booleans.{and-left, and-right, and-both}
use Rattle.mdp_unichain.specs.{Chain.{AllLeadTo, IsReference}, Component.{Component, count, choices_at, is_state, row_by, reward_by, IsPolicy, IsComponent}}
use Rattle.mdp_unichain.specs.{Improvement.{IsEvaluated, IsImproved, IsChanged, IsNext}, Laws.{NoneTwice}}
use Rattle.mdp_unichain.proofs.{Gains.{gain_by, bias_by, has_evaluation, is-gain, one_gain, one_bias}, Reaching.{test_or_not}}
use Rattle.mdp_unichain.proofs.Improving.{up, ups, state-below, inner-below, policy-chain, gain_rises_next, bias_rises}
use Rattle.mdp_policy_iteration.proofs.{Turned.{turn_better, turn_as_good}, LeavesAgain.{test_irrefl}}
use Rattle.mdp_policy_iteration.proofs.{Ordered.{less_all, less_all-after, less_all-own, less_all-from}, Products.{number, number-lt, within_from}}

or_none : (a b : Bool) → a ≡ false → b ≡ false → (a || b) ≡ false
or_none true b e h = cc
or_none false b e h = h

-- ---- one gain and bias is less than another

-- the gain counts first, and the bias where the reference is the same
abbrev less : ℕ → ℕ → ℚ → (ℕ → ℚ) → ℕ → ℚ → (ℕ → ℚ) → Bool
less n t g h u k j = lt_ℚ g k || (le_ℚ g k && (eqb t u && less_all h j n))

record Rises (n t : ℕ) (g : ℚ) (h : ℕ → ℚ) (u : ℕ) (k : ℚ) (j : ℕ → ℚ) : Type 0 where
  gain : g ≡ k
  reference : t ≡ u
  bias : (s : ℕ) → h s ≤ℚ j s

module _ (n t u v : ℕ) (g k m : ℚ) (h j l : ℕ → ℚ) where
  less-after_gain : g <ℚ k → less n u k j v m l ≡ true → less n t g h v m l ≡ true
  less-after_gain a e = or_left (lt_ℚ g m) _ (elim (or_cases (lt_ℚ k m) _ e) as (λ _. lt_ℚ g m ≡ true) [
    | inl b ↦ test_of_lt g m (<ℚ_trans g k m a (lt_of_test k m b))
    | inr b ↦ test_of_lt g m (<ℚ-≤ℚ_trans g k m a (le_of_test k m (and-left (le_ℚ k m) (eqb u v && less_all j l n) b)))
  ])

  less-after_bias : Rises n t g h u k j → less n u k j v m l ≡ true → less n t g h v m l ≡ true
  less-after_bias r e = elim (or_cases (lt_ℚ k m) _ e) as (λ _. less n t g h v m l ≡ true) [
    | inl b ↦ or_left (lt_ℚ g m) _ (ap (λ (q : ℚ). lt_ℚ q m) r.gain ∙ b)
    | inr b ↦
        let rest = and-right (le_ℚ k m) (eqb u v && less_all j l n) b in
        or_right (lt_ℚ g m) _
        (and-both (le_ℚ g m) (eqb t v && less_all h l n) (ap (λ (q : ℚ). le_ℚ q m) r.gain ∙ and-left (le_ℚ k m) (eqb u v && less_all j l n) b)
        (and-both (eqb t v) (less_all h l n) (ap (λ (i : ℕ). eqb i v) r.reference ∙ and-left (eqb u v) (less_all j l n) rest)
        (less_all-after h j l n (λ s i. r.bias s) (and-right (eqb u v) (less_all j l n) rest))))
  ]

less-own : (n t : ℕ) (g : ℚ) (h : ℕ → ℚ) → less n t g h t g h ≡ false
less-own n t g h = or_none (lt_ℚ g g) _ (test_irrefl g) (none (le_ℚ g g) (eqb t t) (less_all h h n) (less_all-own h n))
  where
    none : (a b c : Bool) → c ≡ false → (a && (b && c)) ≡ false
    none true true c e = e
    none true false c e = refl
    none false b c e = refl

module _ (n t u : ℕ) (g k : ℚ) (h j : ℕ → ℚ) where
  less-gain : g <ℚ k → less n t g h u k j ≡ true
  less-gain a = or_left (lt_ℚ g k) _ (test_of_lt g k a)

  less-bias : Rises n t g h u k j → (s : ℕ) → s < n → h s <ℚ j s → less n t g h u k j ≡ true
  less-bias r s l a =
      or_right (lt_ℚ g k) _
      (and-both (le_ℚ g k) (eqb t u && less_all h j n) (test_of_le g k (≤ℚ_of_eq g k r.gain))
      (and-both (eqb t u) (less_all h j n) (ap (λ (i : ℕ). eqb i u) r.reference ∙ eqb-same u) (less_all-from h j n s (λ v i. r.bias v) l a)))

-- ---- the number of references and policies that are better

module _ (p : Component) where
  abbrev gain_at : ℕ → List ℕ → ℚ
  gain_at t policy = up p (gain_by (is_state p) (count p) (row_by p policy) t (reward_by p policy))

  abbrev bias_at : ℕ → List ℕ → ℕ → ℚ
  bias_at t policy = ups p (bias_by (is_state p) (count p) (row_by p policy) t (reward_by p policy))

  -- the reference is below the number of states, and a choice at most the number of choices
  abbrev bound : ℕ → ℕ
  bound zero = count p
  bound (suc s) = suc (length (choices_at p s))

  abbrev is_better : ℕ → List ℕ → List ℕ → Bool
  is_better t policy [] = false
  is_better t policy (u ∷ other) = less (count p) t (gain_at t policy) (bias_at t policy) u (gain_at u other) (bias_at u other)

  pub better_left : ℕ → List ℕ → ℕ
  better_left t policy = number bound 0 (suc (count p)) (is_better t policy)

  module _ (known : IsComponent p) where
    within_at : (t : ℕ) (policy : List ℕ) → IsPolicy p policy → is_state p t ≡ true → (j : ℕ) → get_or (t ∷ policy) j 0 < bound j
    within_at t policy is h zero = state-below p t h
    within_at t policy is h (suc j) = elim (test_or_not (is_state p j)) as (λ _. slice_index policy j < suc (length (choices_at p j))) [
      | inl k ↦ let l = inner-below p j (slice_index policy j) (is.inner j k) in omega arith
      | inr k ↦ let e = is.outside j k in omega arith
    ]

    gain_at-is : (policy : List ℕ) (t : ℕ) (gain : ℚ) (bias : ℕ → ℚ) → IsEvaluated p policy t gain bias → (gain_at t policy ≡ up p gain) × ((s : ℕ) → bias_at t policy s ≡ ups p bias s)
    gain_at-is policy t gain bias e =
        let chain = policy-chain p policy known e.is in
        let leads = IsReference.leads e.reference in
        let own = has_evaluation (is_state p) (count p) (row_by p policy) chain t leads (reward_by p policy) in
        let k = is-gain (is_state p) (count p) (row_by p policy) chain t leads (reward_by p policy) _ _ own in (
          ap (up p) (one_gain (is_state p) (count p) (row_by p policy) chain t leads (reward_by p policy) gain _ bias _ e.values k),
          λ s. ap (up p) (one_bias (is_state p) (count p) (row_by p policy) chain t leads (reward_by p policy) gain _ bias _ e.values k s),
        )

    module _ (policy improved after : List ℕ) (t u : ℕ) (gain g : ℚ) (bias h : ℕ → ℚ) (e : IsEvaluated p policy t gain bias) (i : IsImproved p policy gain bias improved) (s : ℕ)
        (c : IsChanged p policy improved s) (k : IsEvaluated p after u g h) where
      falls : ((other : List ℕ) → is_better u after other ≡ true → is_better t policy other ≡ true) → is_better t policy (u ∷ after) ≡ true → better_left u after < better_left t policy
      unfolding better_left
      falls more one =
          number-lt bound 0 (suc (count p)) (is_better u after) (is_better t policy) (u ∷ after) more
          (let n = IsPolicy.len k.is in omega arith)
          (within_from bound 0 (u ∷ after) (λ j l. let e : j ≡ 0 + j = omega arith in subst (λ (q : ℕ). get_or (u ∷ after) j 0 < bound q) e
          (within_at u after k.is (AllLeadTo.state (IsReference.leads k.reference)) j)))
          (less-own (count p) u (gain_at u after) (bias_at u after))
          one

      falls_gain : gain_at t policy <ℚ gain_at u after → better_left u after < better_left t policy
      falls_gain a = falls (λ other. after_gain other) (less-gain (count p) t u (gain_at t policy) (gain_at u after) (bias_at t policy) (bias_at u after) a)
        where
          after_gain : (other : List ℕ) → is_better u after other ≡ true → is_better t policy other ≡ true
          after_gain [] q = cc
          after_gain (v ∷ other) q = less-after_gain (count p) t u v (gain_at t policy) (gain_at u after) (gain_at v other) (bias_at t policy) (bias_at u after) (bias_at v other) a q

      falls_bias : Rises (count p) t (gain_at t policy) (bias_at t policy) u (gain_at u after) (bias_at u after) → bias_at t policy s <ℚ bias_at u after s → better_left u after < better_left t policy
      falls_bias r a = falls (λ other. after_bias other) (less-bias (count p) t u (gain_at t policy) (gain_at u after) (bias_at t policy) (bias_at u after) r s (state-below p s c.0) a)
        where
          after_bias : (other : List ℕ) → is_better u after other ≡ true → is_better t policy other ≡ true
          after_bias [] q = cc
          after_bias (v ∷ other) q = less-after_bias (count p) t u v (gain_at t policy) (gain_at u after) (gain_at v other) (bias_at t policy) (bias_at u after) (bias_at v other) r q

      before_is : (gain_at t policy ≡ up p gain) × ((s : ℕ) → bias_at t policy s ≡ ups p bias s)
      before_is = gain_at-is policy t gain bias e

      after_is : (gain_at u after ≡ up p g) × ((s : ℕ) → bias_at u after s ≡ ups p h s)
      after_is = gain_at-is after u g h k

      pub next_by : IsNext p policy improved after → better_left u after < better_left t policy
      next_by (inr toward) =
          falls_gain
          (subst (λ (q : ℚ). q <ℚ gain_at u after) (sym before_is.0)
          (subst (λ (q : ℚ). up p gain <ℚ q) (sym after_is.0) (turn_better p.dir g gain (gain_rises_next p policy improved after t u gain g bias h toward.0 known e i toward.1 k))))
      next_by (inl keeps) =
          let rose = bias_rises p policy improved t u gain g bias h known e i keeps.1 (subst (λ (q : List ℕ). IsEvaluated p q u g h) keeps.0 k) in
          falls_bias
          (record {
            gain = before_is.0 ∙ ap (up p) (sym rose.gain_stays) ∙ sym after_is.0;
            reference = sym rose.reference;
            bias =
                λ v. subst (λ (q : ℚ). q ≤ℚ bias_at u after v) (sym (before_is.1 v))
                (subst (λ (q : ℚ). ups p bias v ≤ℚ q) (sym (after_is.1 v)) (turn_as_good p.dir (h v) (bias v) (rose.as_good v)));
          })
          (subst (λ (q : ℚ). q <ℚ bias_at u after s) (sym (before_is.1 s)) (subst (λ (q : ℚ). ups p bias s <ℚ q) (sym (after_is.1 s)) (turn_better p.dir (h s) (bias s) (rose.better s c))))

pub none_twice : NoneTwice
none_twice p known = (better_left p, λ policy improved after t u gain g bias h e i s c n k. next_by p known policy improved after t u gain g bias h e i s c k n)
