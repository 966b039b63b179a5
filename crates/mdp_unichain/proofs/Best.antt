-- The choices that are better can be found, so rounds can be made until there are none.
use Rattle.std.proofs.Common.{◌≡◌, ◌≢◌, ℕ, zero, suc, ◌<◌, ◌≤◌, ◌⊎◌, inl, inr, Bool, true, false, List, length, map, refl, sym, ◌∙◌, ap, subst, arith, zero-add}
use Rattle.std.proofs.{lemmas.List.FromFn.{get_or-map-range_with_len, length-map-range_with_len}, lemmas.List.Folds.{Any-from_list_any}}
use Rattle.std.proofs.{lemmas.List.{get_or_default}, Math.ListN.{get_or-eq_default}}
use Rattle.std.specs.{List.{Any, range_with_len}, Prelude.{slice_index}}
use Rattle.mdp_math.specs.Rational.{ℚ, ◌+ℚ◌}
use Rattle.mdp_math.proofs.{Numbers.{le_or}, Order.{≤ℚ_or_gt, ≤ℚ_of_eq, clash_ℚ}}
use Rattle.mdp_unichain.specs.Chain.{AllLeadTo}
use Rattle.mdp_unichain.specs.Component.{Component, Choice, no_choice, count, choices_at, choice_at, IsInner, is_state, row_by, IsPolicy, CanReach, IsComponent}
use Rattle.mdp_unichain.specs.{Evaluation.{IsGain}, Improvement.{IsEvaluated, worth, IsBetterChoice, IsImproved, IsChanged, NoneBetter}, Laws.{HasBest}}
use Rattle.mdp_rows.specs.Better.{IsAsGood}
use Rattle.mdp_unichain.proofs.{Chains.{same_or_other}, Reaching.{search_below, test_or_not, clash_test}}
use Rattle.mdp_unichain.proofs.{Improving.{gain_of, evaluated_by, next_is_evaluated, state-below, inner-below, state-of}, Ending.{none_twice}}
use Rattle.mdp_unichain.proofs.Deciding.{has_next, has_reference}
use Rattle.mdp_policy_iteration.proofs.Turned.{turn, turn_better, turn_as_good, better_turned, as_good_turned}

-- a list of choices from a function, 0 where it is past the end
module _ (p : Component) (f : ℕ → ℕ) where
  pub listed : List ℕ
  listed = map f (range_with_len 0 (count p))

  pub listed-len : length listed ≡ count p
  unfolding listed
  listed-len = length-map-range_with_len f 0 (count p)

  pub listed-at : (s : ℕ) → s < count p → slice_index listed s ≡ f s
  unfolding listed
  listed-at s l = get_or-map-range_with_len f 0 (count p) s s 0 l (zero-add s)

  past_by : (s : ℕ) → (count p ≤ s) ⊎ (s < count p) → f s ≡ 0 → slice_index listed s ≡ 0
  past_by s (inl l) e = let n = listed-len in let i : length listed ≤ s = omega arith in get_or-eq_default listed 0 i
  past_by s (inr l) e = listed-at s l ∙ e

  -- it is a policy, where f takes the component's choices at states, and 0 elsewhere
  pub listed-policy : ((s : ℕ) → is_state p s ≡ true → IsInner p s (f s)) → ((s : ℕ) → is_state p s ≡ false → f s ≡ 0) → IsPolicy p listed
  listed-policy inner outside = record {
    len = listed-len;
    inner = λ s h. subst (IsInner p s) (sym (listed-at s (state-below p s h))) (inner s h);
    outside = λ s h. past_by s (le_or (count p) s) (outside s h);
  }

-- a state has a choice
pub inner_of_state : (p : Component) (s : ℕ) → is_state p s ≡ true → (c : ℕ) × IsInner p s c
inner_of_state p s h =
    let a = Any-from_list_any (λ c. Choice.inner c) (choices_at p s) h in
    (a.0, ap Choice.inner (get_or_default (choices_at p s) a.0 no_choice a.1 a.2 ∙ a.3) ∙ a.4)

module _ (p : Component) (known : IsComponent p) where
  -- ---- a policy that leads to t

  module _ (t : ℕ) (is : is_state p t ≡ true) where
    start_by : (s : ℕ) → (is_state p s ≡ true) ⊎ (is_state p s ≡ false) → (s ≡ t) ⊎ (s ≢ t) → ℕ
    start_by s (inl h) (inl e) = (inner_of_state p s h).0
    start_by s (inl h) (inr o) = (CanReach.falls (known.connected t is) s h o).0
    start_by s (inr h) b = 0

    start_inner : (s : ℕ) (a : (is_state p s ≡ true) ⊎ (is_state p s ≡ false)) (b : (s ≡ t) ⊎ (s ≢ t)) → is_state p s ≡ true → IsInner p s (start_by s a b)
    unfolding start_by
    start_inner s (inl h) (inl e) k = (inner_of_state p s h).1
    start_inner s (inl h) (inr o) k = (CanReach.falls (known.connected t is) s h o).1
    start_inner s (inr h) b k = absurd (clash_test (is_state p s) k h)

    start_outside : (s : ℕ) (a : (is_state p s ≡ true) ⊎ (is_state p s ≡ false)) (b : (s ≡ t) ⊎ (s ≢ t)) → is_state p s ≡ false → start_by s a b ≡ 0
    unfolding start_by
    start_outside s (inl h) b k = absurd (clash_test (is_state p s) h k)
    start_outside s (inr h) b k = refl

    Falls : ℕ → ℕ → Type 0
    Falls s c = Any (λ y. CanReach.rank (known.connected t is) y.target < CanReach.rank (known.connected t is) s) (Choice.row (choice_at p s c))

    start_falls : (s : ℕ) (a : (is_state p s ≡ true) ⊎ (is_state p s ≡ false)) (b : (s ≡ t) ⊎ (s ≢ t)) → is_state p s ≡ true → s ≢ t → Falls s (start_by s a b)
    unfolding start_by Falls
    start_falls s (inl h) (inl e) k o = absurd (o e)
    start_falls s (inl h) (inr q) k o = (CanReach.falls (known.connected t is) s h q).2
    start_falls s (inr h) b k o = absurd (clash_test (is_state p s) k h)

    start_at : ℕ → ℕ
    start_at s = start_by s (test_or_not (is_state p s)) (same_or_other s t)

    start : List ℕ
    start = listed p start_at

    start_is : IsPolicy p start
    unfolding start start_at
    start_is = listed-policy p start_at (λ s h. start_inner s (test_or_not (is_state p s)) (same_or_other s t) h) (λ s h. start_outside s (test_or_not (is_state p s)) (same_or_other s t) h)

    start_leads : AllLeadTo (is_state p) (row_by p start) t
    unfolding start start_at Falls
    start_leads = record {
      state = is;
      rank = CanReach.rank (known.connected t is);
      falls = λ s h o. subst (Falls s) (sym (listed-at p start_at s (state-below p s h))) (start_falls s (test_or_not (is_state p s)) (same_or_other s t) h o);
    }

    pub start_evaluated : (policy : List ℕ) × (u : ℕ) × (g : ℚ) × (h : ℕ → ℚ) × IsEvaluated p policy u g h
    start_evaluated =
        let r = has_reference p start t known start_is start_leads in
        let e = evaluated_by p known start r.0 start_is r.1 in (start, r.0, e.0, e.1, e.2)

  -- ---- better choices

  module _ (policy : List ℕ) (t : ℕ) (gain : ℚ) (bias : ℕ → ℚ) (e : IsEvaluated p policy t gain bias) where
    abbrev Better : ℕ → Type 0
    Better s = (c : ℕ) × IsBetterChoice p gain bias s c

    abbrev NoneAt : ℕ → Type 0
    NoneAt s = (c : ℕ) → IsInner p s c → IsAsGood p.dir (gain +ℚ bias s) (worth bias (choice_at p s c))

    decide : (s c : ℕ) (b : Bool) → Choice.inner (choice_at p s c) ≡ b → IsBetterChoice p gain bias s c ⊎ (IsInner p s c → IsAsGood p.dir (gain +ℚ bias s) (worth bias (choice_at p s c)))
    decide s c false h = inr (λ k. absurd (clash_test _ k h))
    decide s c true h =
        elim (≤ℚ_or_gt (turn p.dir (worth bias (choice_at p s c))) (turn p.dir (gain +ℚ bias s))) as
        (λ _. IsBetterChoice p gain bias s c ⊎ (IsInner p s c → IsAsGood p.dir (gain +ℚ bias s) (worth bias (choice_at p s c)))) [
          | inl l ↦ inr (λ k. as_good_turned p.dir _ _ l)
          | inr l ↦ inl (h, better_turned p.dir _ _ l)
        ]

    better_at : (s : ℕ) → Better s ⊎ NoneAt s
    better_at s =
        elim (search_below (λ c. IsBetterChoice p gain bias s c) (λ c. IsInner p s c → IsAsGood p.dir (gain +ℚ bias s) (worth bias (choice_at p s c))) (length (choices_at p s))
        (λ c l. decide s c (Choice.inner (choice_at p s c)) refl)) as (λ _. Better s ⊎ NoneAt s) [
          | inl f ↦ inl (f.0, f.2)
          | inr q ↦ inr (λ c k. q c (inner-below p s c k) k)
        ]

    take_by : (s : ℕ) → Better s ⊎ NoneAt s → ℕ
    take_by s (inl b) = b.0
    take_by s (inr q) = slice_index policy s

    take_inner : (s : ℕ) (o : Better s ⊎ NoneAt s) → is_state p s ≡ true → IsInner p s (take_by s o)
    unfolding take_by
    take_inner s (inl b) h = b.1.0
    take_inner s (inr q) h = IsPolicy.inner e.is s h

    take_outside : (s : ℕ) (o : Better s ⊎ NoneAt s) → is_state p s ≡ false → take_by s o ≡ 0
    unfolding take_by
    take_outside s (inl b) h = absurd (clash_test (is_state p s) (state-of p s b.0 b.1.0) h)
    take_outside s (inr q) h = IsPolicy.outside e.is s h

    take_better : (s : ℕ) (o : Better s ⊎ NoneAt s) → ((take_by s o ≡ slice_index policy s) × NoneAt s) ⊎ IsBetterChoice p gain bias s (take_by s o)
    unfolding take_by
    take_better s (inl b) = inr b.1
    take_better s (inr q) = inl (refl, q)

    take_changed : (s : ℕ) (o : Better s ⊎ NoneAt s) → Better s → IsBetterChoice p gain bias s (take_by s o)
    unfolding take_by
    take_changed s (inl b) k = b.1
    take_changed s (inr q) k = absurd (clash_ℚ _ _ (turn_better p.dir _ _ k.1.1) (turn_as_good p.dir _ _ (q k.0 k.1.0)))

    take_at : ℕ → ℕ
    take_at s = take_by s (better_at s)

    improved : List ℕ
    improved = listed p take_at

    at : (s : ℕ) → is_state p s ≡ true → slice_index improved s ≡ take_by s (better_at s)
    unfolding improved take_at
    at s h = listed-at p take_at s (state-below p s h)

    improved_is : IsImproved p policy gain bias improved
    unfolding improved take_at
    improved_is = record {
      is = listed-policy p take_at (λ s h. take_inner s (better_at s) h) (λ s h. take_outside s (better_at s) h);
      better = λ s h. subst (λ c. ((c ≡ slice_index policy s) × NoneAt s) ⊎ IsBetterChoice p gain bias s c) (sym (at s h)) (take_better s (better_at s));
    }

    -- the policy's own choice isn't better
    own_not : (s : ℕ) → is_state p s ≡ true → IsBetterChoice p gain bias s (slice_index policy s) → ⊥
    own_not s h b = clash_ℚ _ _ (turn_better p.dir _ _ b.1) (≤ℚ_of_eq _ _ (ap (turn p.dir) (IsGain.step (gain_of p known policy t gain bias e) s h)))

    changed_or_none : ((s : ℕ) × IsChanged p policy improved s) ⊎ NoneBetter p gain bias
    changed_or_none = elim (search_below Better NoneAt (count p) (λ s l. better_at s)) as (λ _. ((s : ℕ) × IsChanged p policy improved s) ⊎ NoneBetter p gain bias) [
      | inl f ↦
          let h = state-of p f.0 f.2.0 f.2.1.0 in
          inl (f.0, (h, λ q. own_not f.0 h (subst (IsBetterChoice p gain bias f.0) (sym (at f.0 h) ∙ q) (take_changed f.0 (better_at f.0) f.2))))
      | inr q ↦ inr (λ s c k. q s (state-below p s (state-of p s c k)) c k)
    ]

  -- ---- rounds until there are none

  abbrev Best : Type 0
  Best = (policy : List ℕ) × (u : ℕ) × (gain : ℚ) × (bias : ℕ → ℚ) × IsEvaluated p policy u gain bias × NoneBetter p gain bias

  rounds : (fuel : ℕ) (policy : List ℕ) (t : ℕ) (gain : ℚ) (bias : ℕ → ℚ) → IsEvaluated p policy t gain bias → (none_twice p known).0 t policy < fuel → Best
  rounds zero policy t gain bias e l = absurd (omega arith)
  rounds (suc fuel) policy t gain bias e l = elim (changed_or_none policy t gain bias e) as (λ _. Best) [
    | inr none ↦ (policy, t, gain, bias, e, none)
    | inl c ↦
        let i = improved_is policy t gain bias e in
        let n = has_next p policy (improved policy t gain bias e) known i.is in
        let k = next_is_evaluated p policy (improved policy t gain bias e) n.0 t gain bias known e i n.1 in
        let f = (none_twice p known).1 policy (improved policy t gain bias e) n.0 t k.0 gain k.1 bias k.2 e i c.0 c.1 n.1 k.3 in
        rounds fuel n.0 k.0 k.1 k.2 k.3 (omega arith)
  ]

pub has_best : HasBest
has_best p t known is =
    let s = start_evaluated p known t is in
    rounds p known (suc ((none_twice p known).0 s.1 s.0)) s.0 s.1 s.2 s.3 s.4 (omega arith)
