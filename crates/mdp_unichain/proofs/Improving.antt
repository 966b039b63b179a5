-- One round: the next policy has one closed class again, and its gain is better, or its gain is the same and its bias is better.
use Rattle.std.proofs.{Common.{◌≡◌, ℕ, ◌<◌, ◌≤◌, ◌⊎◌, inl, inr, Bool, true, false, List, [], length, refl, sym, ◌∙◌, ap, subst}, Math.ListN.{get_or-eq_default}}
use Rattle.std.proofs.lemmas.List.Folds.{list_any_at}
use Rattle.std.specs.{List.{list_any}, Prelude.{slice_index}}
use Rattle.mdp_math.specs.Rational.{ℚ, ◌+ℚ◌, ◌≤ℚ◌, ◌<ℚ◌}
use Rattle.mdp_math.proofs.{Numbers.{le_or}, Order.{≤ℚ_of_lt, ≤ℚ_of_eq, ≤ℚ_antisymm, clash_ℚ}}
use Rattle.mdp_unichain.specs.Chain.{IsChain, IsReference, IsClosedClass}
use Rattle.mdp_unichain.specs.Component.{Component, Choice, no_choice, count, choices_at, choice_at, chosen, IsInner, is_state, row_by, reward_by, IsPolicy, IsComponent}
use Rattle.mdp_unichain.specs.Evaluation.{mean, IsEvaluation, IsGain}
use Rattle.mdp_unichain.specs.Improvement.{IsEvaluated, worth, IsBetterChoice, IsImproved, IsChanged, KeepsClasses, GoesToward}
use Rattle.mdp_unichain.specs.Laws.{HasOneEvaluation, MeetsEquations, NextIsEvaluated, GainRises, BiasRose, BiasRises, EndsAtNoneBetter, BestOfAll}
use Rattle.mdp_rows.specs.Better.{IsBetter, IsAsGood}
use Rattle.mdp_unichain.proofs.Gains.{has_evaluation, gain_by, bias_by, is-gain, one_gain, one_bias, steps-ge_one}
use Rattle.mdp_unichain.proofs.Excess.{gain-le, gain-ge, gain-lt, bias-le, bias-lt}
use Rattle.mdp_unichain.proofs.Classes.{holds, class-chain, class-reference, class-same, still_reference, class_of_t, one_reference}
use Rattle.mdp_unichain.proofs.Turned.{turn-mean, turn-back}
use Rattle.mdp_policy_iteration.proofs.Turned.{turn, turn-add, turn_better, turn_as_good, better_turned, as_good_turned}

module _ (p : Component) where
  below_by : (s : ℕ) → (count p ≤ s) ⊎ (s < count p) → is_state p s ≡ true → s < count p
  below_by s (inr l) h = l
  below_by s (inl l) h =
      absurd (let e : choices_at p s ≡ [] = get_or-eq_default p.states [] l in let k : list_any (λ c. c.inner) (choices_at p s) ≡ false = ap
      (λ (cs : List Choice). list_any (λ c. c.inner) cs) e in cc)

  pub state-below : (s : ℕ) → is_state p s ≡ true → s < count p
  state-below s h = below_by s (le_or (count p) s) h

  inner_by : (s c : ℕ) → IsInner p s c → (length (choices_at p s) ≤ c) ⊎ (c < length (choices_at p s)) → c < length (choices_at p s)
  inner_by s c h (inr l) = l
  inner_by s c h (inl l) = absurd (let e : choice_at p s c ≡ no_choice = get_or-eq_default (choices_at p s) no_choice l in let k : Choice.inner (choice_at p s c) ≡ false = ap Choice.inner e in cc)

  -- a choice of the component is one of the state's, and makes it one of the component's states
  pub inner-below : (s c : ℕ) → IsInner p s c → c < length (choices_at p s)
  inner-below s c h = inner_by s c h (le_or (length (choices_at p s)) c)

  pub state-of : (s c : ℕ) → IsInner p s c → is_state p s ≡ true
  state-of s c k = list_any_at (λ c. Choice.inner c) (choices_at p s) c no_choice (inner-below s c k) k

  -- a policy's chain
  pub policy-chain : (policy : List ℕ) → IsComponent p → IsPolicy p policy → IsChain (is_state p) (count p) (row_by p policy)
  policy-chain policy known is = record {
    below = state-below;
    rows = λ s h. known.rows s (slice_index policy s) (is.inner s h);
    stays = λ s h. known.stays s (slice_index policy s) (is.inner s h);
  }

  -- ---- turned numbers

  abbrev pub up : ℚ → ℚ
  up = turn p.dir

  abbrev pub ups : (ℕ → ℚ) → ℕ → ℚ
  ups f s = turn p.dir (f s)

  turn-worth : (bias : ℕ → ℚ) (c : Choice) → up (worth bias c) ≡ up c.reward +ℚ mean c.row (ups bias)
  turn-worth bias c = turn-add p.dir c.reward (mean c.row bias) ∙ ap (λ (u : ℚ). up c.reward +ℚ u) (turn-mean p.dir c.row bias)

  -- the equations, turned
  own_by : (policy : List ℕ) (t : ℕ) (gain : ℚ) (bias : ℕ → ℚ) → IsGain (is_state p) (row_by p policy) (reward_by p policy) t gain bias → (s : ℕ) → is_state p s ≡ true
      → ups (reward_by p policy) s +ℚ mean (row_by p policy s) (ups bias) ≡ up gain +ℚ ups bias s
  own_by policy t gain bias g s h = sym (turn-worth bias (chosen p policy s)) ∙ ap up (g.step s h) ∙ turn-add p.dir gain (bias s)

-- ---- evaluation

pub has_one_evaluation : HasOneEvaluation
has_one_evaluation p policy t known is leads =
    let chain = policy-chain p policy known is in
    let e = has_evaluation (is_state p) (count p) (row_by p policy) chain t leads (reward_by p policy) in (
      gain_by (is_state p) (count p) (row_by p policy) t (reward_by p policy),
      bias_by (is_state p) (count p) (row_by p policy) t (reward_by p policy),
      e,
      λ g h other.
          let k = is-gain (is_state p) (count p) (row_by p policy) chain t leads (reward_by p policy) g h other in (
            one_gain (is_state p) (count p) (row_by p policy) chain t leads (reward_by p policy) _ g _ h e k,
            one_bias (is_state p) (count p) (row_by p policy) chain t leads
                (reward_by p policy) _ g _ h e k,
          ),
    )

pub meets_equations : MeetsEquations
meets_equations p policy t gain bias known is leads e =
    let chain = policy-chain p policy known is in (
      is-gain (is_state p) (count p) (row_by p policy) chain t leads (reward_by p policy) gain bias e,
      steps-ge_one (is_state p) (count p) (row_by p policy) chain t leads (IsEvaluation.y e) (IsEvaluation.steps e),
      λ g h k. (
        one_gain (is_state p) (count p) (row_by p policy) chain t leads (reward_by p policy) gain g bias h e k,
        one_bias (is_state p) (count p) (row_by p policy) chain t leads
            (reward_by p policy) gain g bias h e k,
      ),
    )

module _ (p : Component) (known : IsComponent p) where
  -- the equations of a policy of the path, turned
  pub own : (policy : List ℕ) (t : ℕ) (gain : ℚ) (bias : ℕ → ℚ) → IsEvaluated p policy t gain bias → (s : ℕ) → is_state p s ≡ true
      → ups p (reward_by p policy) s +ℚ mean (row_by p policy s) (ups p bias) ≡ up p gain +ℚ ups p bias s
  own policy t gain bias e s h = own_by p policy t gain bias (meets_equations p policy t gain bias known e.is (IsReference.leads e.reference) e.values).0 s h

  pub gain_of : (policy : List ℕ) (t : ℕ) (gain : ℚ) (bias : ℕ → ℚ) → IsEvaluated p policy t gain bias → IsGain (is_state p) (row_by p policy) (reward_by p policy) t gain bias
  gain_of policy t gain bias e = (meets_equations p policy t gain bias known e.is (IsReference.leads e.reference) e.values).0

  pub evaluated_by : (policy : List ℕ) (t : ℕ) → IsPolicy p policy → IsReference (is_state p) (row_by p policy) t → (g : ℚ) × (h : ℕ → ℚ) × IsEvaluated p policy t g h
  evaluated_by policy t is reference =
      let e = has_one_evaluation p policy t known is (IsReference.leads reference) in (e.0, e.1, record { is = is; reference = reference; values = e.2 })

  module _ (policy improved : List ℕ) (t : ℕ) (gain : ℚ) (bias : ℕ → ℚ) (e : IsEvaluated p policy t gain bias) (i : IsImproved p policy gain bias improved) where
    -- ---- the improved choices are worth at least what the policy has, and more where they are changed

    abbrev Gains : List ℕ → ℕ → Type 0
    Gains q s = up p gain +ℚ ups p bias s ≤ℚ ups p (reward_by p q) s +ℚ mean (row_by p q s) (ups p bias)

    abbrev GainsMore : List ℕ → ℕ → Type 0
    GainsMore q s = up p gain +ℚ ups p bias s <ℚ ups p (reward_by p q) s +ℚ mean (row_by p q s) (ups p bias)

    same_worth : (q : List ℕ) (s : ℕ) → is_state p s ≡ true → slice_index q s ≡ slice_index policy s → ups p (reward_by p q) s +ℚ mean (row_by p q s) (ups p bias) ≡ up p gain +ℚ ups p bias s
    same_worth q s h k = ap (λ (c : ℕ). up p (Choice.reward (choice_at p s c)) +ℚ mean (Choice.row (choice_at p s c)) (ups p bias)) k ∙ own policy t gain bias e s h

    more_by : (s : ℕ) → IsBetterChoice p gain bias s (slice_index improved s) → GainsMore improved s
    more_by s b =
        subst (λ (u : ℚ). u <ℚ ups p (reward_by p improved) s +ℚ mean (row_by p improved s) (ups p bias)) (turn-add p.dir gain (bias s))
        (subst (λ (u : ℚ). up p (gain +ℚ bias s) <ℚ u) (turn-worth p bias (chosen p improved s)) (turn_better p.dir _ _ b.1))

    gains : (s : ℕ) → is_state p s ≡ true → Gains improved s
    gains s h = elim (i.better s h) as (λ _. Gains improved s) [
      | inl k ↦ ≤ℚ_of_eq _ _ (sym (same_worth improved s h k.0))
      | inr b ↦ ≤ℚ_of_lt _ _ (more_by s b)
    ]

    gains_more : (s : ℕ) → IsChanged p policy improved s → GainsMore improved s
    gains_more s c = elim (i.better s c.0) as (λ _. GainsMore improved s) [ inl k ↦ absurd (c.1 k.0) | inr b ↦ more_by s b ]

    -- ---- a class that holds a changed state

    module _ (after : List ℕ) (class : ℕ → Bool) (g : GoesToward p policy improved after class) where
      at_class : (P : ℕ → Type 0) (s : ℕ) → class s ≡ true → P (slice_index improved s) → P (slice_index after s)
      at_class P s h x = subst P (sym (g.kept s h)) x

      pub class_after : IsClosedClass (is_state p) (row_by p after) class
      class_after = class-same (is_state p) (row_by p improved) (row_by p after) class (λ s h. ap (λ (c : ℕ). Choice.row (choice_at p s c)) (sym (g.kept s h))) g.class_is

      toward_reference : (u : ℕ) × (class u ≡ true) × IsReference (is_state p) (row_by p after) u
      toward_reference = class-reference (is_state p) (count p) (row_by p after) (policy-chain p after known g.is) class class_after g.toward

      pub gain_rises : (u : ℕ) (gain' : ℚ) (bias' : ℕ → ℚ) → IsEvaluated p after u gain' bias' → IsBetter p.dir gain' gain
      gain_rises u gain' bias' k =
          let c = class_after in
          let chain = policy-chain p after known g.is in
          let some = IsClosedClass.some c in
          let is : class u ≡ true = holds (is_state p) (count p) (row_by p after) chain class (IsClosedClass.states c) (IsClosedClass.closed c) u (IsReference.leads k.reference) some.0 some.1 in
          better_turned p.dir gain' gain
          (gain-lt class (count p) (row_by p after) (class-chain (is_state p) (count p) (row_by p after) chain class c) u (IsClosedClass.connected c u is)
          (ups p (reward_by p after)) (up p gain) (up p gain') (ups p bias) (ups p bias') (λ s h. own after u gain' bias' k s (IsClosedClass.states c s h))
          (λ s h. at_class (λ (a : ℕ). up p gain +ℚ ups p bias s ≤ℚ up p (Choice.reward (choice_at p s a)) +ℚ mean (Choice.row (choice_at p s a)) (ups p bias)) s h
          (gains s (IsClosedClass.states c s h)))
          g.changed.0 (IsClosedClass.connected c g.changed.0 g.changed.1)
          (at_class (λ (a : ℕ). up p gain +ℚ ups p bias g.changed.0 <ℚ up p (Choice.reward (choice_at p g.changed.0 a)) +ℚ mean (Choice.row (choice_at p g.changed.0 a))
          (ups p bias)) g.changed.0 g.changed.1
          (gains_more g.changed.0 (IsClosedClass.states c g.changed.0 g.changed.1, g.changed.2))))

    -- ---- no class holds a changed state

    module _ (keeps : KeepsClasses p policy improved) where
      chain_before : IsChain (is_state p) (count p) (row_by p policy)
      chain_before = policy-chain p policy known e.is

      chain_after : IsChain (is_state p) (count p) (row_by p improved)
      chain_after = policy-chain p improved known i.is

      untouched : (class : ℕ → Bool) → IsClosedClass (is_state p) (row_by p improved) class → (s : ℕ) → class s ≡ true → row_by p improved s ≡ row_by p policy s
      untouched class c s h = ap (λ (a : ℕ). Choice.row (choice_at p s a)) (keeps class c s h)

      pub kept_reference : IsReference (is_state p) (row_by p improved) t
      kept_reference = still_reference (is_state p) (count p) (row_by p policy) (row_by p improved) chain_before chain_after untouched t e.reference

      module _ (gain' : ℚ) (bias' : ℕ → ℚ) (k : IsEvaluated p improved t gain' bias') where
        class : (class : ℕ → Bool) × IsClosedClass (is_state p) (row_by p improved) class × (class t ≡ true)
        class = class_of_t (is_state p) (count p) (row_by p policy) (row_by p improved) chain_before chain_after untouched t e.reference

        -- in the class of t the old gain and bias meet the new equations, so the gains are the same
        old_own : (s : ℕ) → class.0 s ≡ true → ups p (reward_by p improved) s +ℚ mean (row_by p improved s) (ups p bias) ≡ up p gain +ℚ ups p bias s
        old_own s h = same_worth improved s (IsClosedClass.states class.1 s h) (keeps class.0 class.1 s h)

        new_own : (s : ℕ) → class.0 s ≡ true → ups p (reward_by p improved) s +ℚ mean (row_by p improved s) (ups p bias') ≡ up p gain' +ℚ ups p bias' s
        new_own s h = own improved t gain' bias' k s (IsClosedClass.states class.1 s h)

        class_is_chain : IsChain class.0 (count p) (row_by p improved)
        class_is_chain = class-chain (is_state p) (count p) (row_by p improved) chain_after class.0 class.1

        same_gain : up p gain' ≡ up p gain
        same_gain =
            ≤ℚ_antisymm _ _
            (gain-le class.0 (count p) (row_by p improved) class_is_chain t (IsClosedClass.connected class.1 t class.2) (ups p (reward_by p improved)) (up p gain') (up p gain) (ups p bias')
            (ups p bias) old_own
            (λ s h. ≤ℚ_of_eq _ _ (sym (new_own s h))))
            (gain-le class.0 (count p) (row_by p improved) class_is_chain t (IsClosedClass.connected class.1 t class.2) (ups p (reward_by p improved)) (up p gain) (up p gain') (ups p bias)
            (ups p bias') new_own
            (λ s h. ≤ℚ_of_eq _ _ (sym (old_own s h))))

        unchanged_t : slice_index improved t ≡ slice_index policy t
        unchanged_t = keeps class.0 class.1 t class.2

        outside : (s : ℕ) → is_state p s ≡ false → ups p bias' s ≡ ups p bias s
        outside s h = ap (up p) (IsGain.outside (gain_of improved t gain' bias' k) s h ∙ sym (IsGain.outside (gain_of policy t gain bias e) s h))

        at_t : ups p bias' t ≡ ups p bias t
        at_t = ap (up p) (IsGain.reference (gain_of improved t gain' bias' k) ∙ sym (IsGain.reference (gain_of policy t gain bias e)))

        bias_rises_at : BiasRose p policy improved t t gain gain' bias bias'
        bias_rises_at = record {
          reference = refl;
          gain_stays = turn-back p.dir gain' gain same_gain;
          as_good = λ s.
              as_good_turned p.dir (bias' s) (bias s)
              (bias-le (is_state p) (count p) (row_by p improved) chain_after t (IsReference.leads kept_reference) (ups p (reward_by p improved)) (up p gain) (up p gain') (ups p bias)
              (ups p bias') (own improved t gain' bias' k) gains
              same_gain at_t outside s);
          better = λ s c.
              better_turned p.dir (bias' s) (bias s)
              (bias-lt (is_state p) (count p) (row_by p improved) chain_after t (IsReference.leads kept_reference) (ups p (reward_by p improved)) (up p gain) (up p gain') (ups p bias)
              (ups p bias') (own improved t gain' bias' k) gains
              same_gain at_t outside s c.0 (λ q. c.1 (subst (λ (v : ℕ). slice_index improved v ≡ slice_index policy v) (sym q) unchanged_t)) (gains_more s c));
        }

-- ---- the laws

pub next_is_evaluated : NextIsEvaluated
next_is_evaluated p policy improved after t gain bias known e i (inl k) =
    let r = kept_reference p known policy improved t gain bias e i k.1 in
    let v = evaluated_by p known improved t i.is r in
    (t, v.0, v.1, subst (λ (q : List ℕ). IsEvaluated p q t v.0 v.1) (sym k.0) v.2)
next_is_evaluated p policy improved after t gain bias known e i (inr g) =
    let r = toward_reference p known policy improved t gain bias e i after g.0 g.1 in
    let v = evaluated_by p known after r.0 (GoesToward.is g.1) r.2 in (r.0, v.0, v.1, v.2)

pub gain_rises_next : GainRises
gain_rises_next p policy improved after t u gain g bias h class known e i toward k = gain_rises p known policy improved t gain bias e i after class toward u g h k

pub bias_rises : BiasRises
bias_rises p policy improved t u gain g bias h known e i keeps k =
    let q : u ≡ t = one_reference (is_state p) (row_by p improved) u t k.reference (kept_reference p known policy improved t gain bias e i keeps) in
    let k' : IsEvaluated p improved t g h = subst (λ (v : ℕ). IsEvaluated p improved v g h) q k in
    subst (λ (v : ℕ). BiasRose p policy improved t v gain g bias h) (sym q) (bias_rises_at p known policy improved t gain bias e i keeps g h k')

pub ends_at_none_better : EndsAtNoneBetter
ends_at_none_better p policy improved t gain bias known e i same s c k =
    let h = state-of p s c k in
    elim (i.better s h) as (λ _. IsAsGood p.dir (gain +ℚ bias s) (worth bias (choice_at p s c))) [
      | inl q ↦ q.1 c k
      | inr b ↦ absurd (clash_ℚ _ _ (turn_better p.dir _ _ (subst (λ (d : ℕ). IsBetter p.dir (worth bias (choice_at p s d)) (gain +ℚ bias s)) (same s h) b.1))
          (≤ℚ_of_eq _ _ (ap (turn p.dir) (IsGain.step (gain_of p known policy t gain bias e) s h))))
    ]

pub best_of_all : BestOfAll
best_of_all p gain bias known none other u g h k =
    as_good_turned p.dir gain g
    (gain-ge (is_state p) (count p) (row_by p other) (policy-chain p other known k.is) u (IsReference.leads k.reference) (ups p (reward_by p other)) (up p gain) (up p g) (ups p bias) (ups p h)
    (own p known other u g h k)
    (λ s i.
    subst (λ (w : ℚ). ups p (reward_by p other) s +ℚ mean (row_by p other s) (ups p bias) ≤ℚ w) (turn-add p.dir gain (bias s))
    (subst (λ (w : ℚ). w ≤ℚ up p (gain +ℚ bias s)) (turn-worth p bias (chosen p other s)) (turn_as_good p.dir _ _ (none s (slice_index other s) (IsPolicy.inner k.is s i))))))
