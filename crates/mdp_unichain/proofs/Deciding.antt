-- A state is in a closed class or in none, and which: so there is a next policy. And a policy of which all states lead to one has a reference.
use Rattle.std.proofs.Common.{◌≡◌, ◌≢◌, ℕ, zero, suc, ◌<◌, ◌≤◌, ◌⊎◌, inl, inr, Bool, true, false, not}
use Rattle.std.proofs.Common.{◌&&◌, eqb, if◌then◌else◌, List, length, map, refl, sym, ◌∙◌, ap, subst, arith, zero-add}
use Rattle.std.proofs.{lemmas.List.FromFn.{get_or-map-range_with_len, length-map-range_with_len}, Math.ListN.{get_or-eq_default}}
use Rattle.std.specs.{List.{All, Any, range_with_len}, Prelude.{slice_index}}
use Rattle.mdp_math.proofs.{Booleans.{and-left, and-right, and-both}, Numbers.{le_or, eqb-same}}
use Rattle.mdp_spec.specs.Mdp.{Entry}
use Rattle.mdp_unichain.specs.Chain.{IsChain, AllLeadTo, IsReference, IsClosedClass, AllLeadInto}
use Rattle.mdp_unichain.specs.Component.{Component, Choice, count, choice_at, IsInner, is_state, row_by, IsPolicy, CanReach, IsComponent}
use Rattle.mdp_unichain.specs.{Improvement.{GoesToward, IsNext}, Laws.{HasReference, HasNext}}
use Rattle.mdp_unichain.proofs.Chains.{target, same_number, same_or_other}
use Rattle.mdp_unichain.proofs.Reaching.{search_below, test_or_not, clash_test, and_true, rank_then, rank_else, IsPart, part-chain, Split, others, others-part, others-not, reached_of, split}
use Rattle.mdp_unichain.proofs.{Reaching.{split_to, to_falls, alone, has_class}, Classes.{holds, class-chain, class-reference, into_class}}
use Rattle.mdp_unichain.proofs.Improving.{policy-chain, state-below}

-- ---- whether a state is in a closed class

module _ (states : ℕ → Bool) (n : ℕ) (row : ℕ → List Entry) (chain : IsChain states n row) (u : ℕ) (is : states u ≡ true) where
  abbrev In : Type 0
  In = (class : ℕ → Bool) × IsClosedClass states row class × (class u ≡ true)

  abbrev Out : Type 0
  Out = (class : ℕ → Bool) → IsClosedClass states row class → class u ≡ false

  -- the states that don't lead to u, and those that lead to such a one
  lost : ℕ → Bool
  lost = others states n row chain (alone states n row chain u) (split_to states n row chain u)

  to_lost : Split states row lost
  to_lost = split states n row chain lost

  not_lost : lost u ≡ false
  unfolding lost
  not_lost = others-not states n row chain (alone states n row chain u) (split_to states n row chain u) u (eqb-same u)

  lost-closed : (s : ℕ) → lost s ≡ true → All (λ y. lost y.target ≡ true) (row s)
  unfolding lost
  lost-closed s h = IsPart.closed (others-part states n row chain (alone states n row chain u) (split_to states n row chain u) s h) s h

  leads_if : (s : ℕ) → states s ≡ true → lost s ≡ false → Split.reached (split_to states n row chain u) s ≡ true
  unfolding lost
  leads_if s h e = reached_of states n row chain (alone states n row chain u) (split_to states n row chain u) s h e

  -- a class that leads to a lost state doesn't hold u
  module _ (class : ℕ → Bool) (c : IsClosedClass states row class) where
    comes : (fuel s : ℕ) → Split.rank to_lost s < fuel → Split.reached to_lost s ≡ true → class s ≡ true → (v : ℕ) × (class v ≡ true) × (lost v ≡ true)
    comes zero s l h k = absurd (omega arith)
    comes (suc fuel) s l h k = elim (test_or_not (lost s)) as (λ _. (v : ℕ) × (class v ≡ true) × (lost v ≡ true)) [
      | inl e ↦ (s, k, e)
      | inr e ↦
          let a = Split.falls to_lost s h e in
          comes fuel (target a.1) (omega (arith, a.4.1, l)) a.4.0 (subst (λ (y : Entry). class y.target ≡ true) a.3 (c.closed s k a.0 a.1 a.2))
    ]

    both : ℕ → Bool
    both s = class s && lost s

    not_in : Split.reached to_lost u ≡ true → class u ≡ true → ⊥
    unfolding both
    not_in h k =
        let v = comes (suc (Split.rank to_lost u)) u (omega arith) h k in
        let e : (class u && lost u) ≡ true = holds class n row (class-chain states n row chain class c) (λ s. class s && lost s) (λ s q. and-left (class s) (lost s) q)
        (λ s q j d l. and-both _ _ (c.closed s (and-left (class s) (lost s) q) j d l) (lost-closed s (and-right (class s) (lost s) q) j d l)) u (c.connected u k) v.0
        (and-both (class v.0) (lost v.0) v.1 v.2) in
        clash_test (lost u) (and-right (class u) (lost u) e) not_lost

  -- else the states that lead to no lost one all lead to u, and hold a class
  abbrev near : ℕ → Bool
  near = others states n row chain lost to_lost

  in_near : near u ≡ true → In
  in_near h =
      let part = others-part states n row chain lost to_lost u h in
      let chain_near = part-chain states n row near chain part in
      let leads : AllLeadTo near row u = record {
        state = h;
        rank = Split.rank (split_to states n row chain u);
        falls = λ s k o.
            let free : lost s ≡ false = not_start s (lost s) (others-not states n row chain lost to_lost s) k in
            let a = to_falls states n row chain u s (leads_if s (IsPart.inside part s k) free) o in (a.0, a.1, a.2, a.3, a.4.1);
      } in
      let c = has_class near n row chain_near u h in (
        c.0,
        record { some = IsClosedClass.some c.1; states = λ s k. IsPart.inside part s (IsClosedClass.states c.1 s k); closed = IsClosedClass.closed c.1; connected = IsClosedClass.connected c.1 },
        let s = IsClosedClass.some c.1 in holds near n row chain_near c.0 (IsClosedClass.states c.1) (IsClosedClass.closed c.1) u leads s.0 s.1,
      )
    where
      not_start : (s : ℕ) (b : Bool) → (b ≡ true → near s ≡ false) → near s ≡ true → b ≡ false
      not_start s true h k = absurd (clash_test _ k (h refl))
      not_start s false h k = refl

  pub in_class : In ⊎ Out
  in_class = elim (test_or_not (Split.reached to_lost u)) as (λ _. In ⊎ Out) [
    | inl h ↦ inr (λ class c. out class c h (class u) refl)
    | inr h ↦ inl (in_near (and_true (states u) (Split.reached to_lost u) is h))
  ]
    where
      out : (class : ℕ → Bool) (c : IsClosedClass states row class) → Split.reached to_lost u ≡ true → (b : Bool) → class u ≡ b → b ≡ false
      out class c h true e = absurd (not_in class c h e)
      out class c h false e = refl

-- some class holds a marked state, or none does
pub marked_class : (states : ℕ → Bool) (n : ℕ) (row : ℕ → List Entry) → IsChain states n row → (marked : ℕ → Bool)
    → ((class : ℕ → Bool) × IsClosedClass states row class × ((s : ℕ) × (class s ≡ true) × (marked s ≡ true))) ⊎
    ((class : ℕ → Bool) → IsClosedClass states row class → (s : ℕ) → class s ≡ true → marked s ≡ false)
marked_class states n row chain marked =
    elim (search_below Some None n (λ s l. decide s (marked s) (states s) refl refl)) as
    (λ _. ((class : ℕ → Bool) × IsClosedClass states row class × ((s : ℕ) × (class s ≡ true) × (marked s ≡ true))) ⊎
    ((class : ℕ → Bool) → IsClosedClass states row class → (s : ℕ) → class s ≡ true → marked s ≡ false)) [
      | inl f ↦ inl (f.2.0, f.2.1, (f.0, f.2.2, f.2.3))
      | inr q ↦ inr (λ class c s h. q s (chain.below s (IsClosedClass.states c s h)) class c h)
    ]
  where
    Some : ℕ → Type 0
    Some s = (class : ℕ → Bool) × IsClosedClass states row class × (class s ≡ true) × (marked s ≡ true)

    None : ℕ → Type 0
    None s = (class : ℕ → Bool) → IsClosedClass states row class → class s ≡ true → marked s ≡ false

    decide : (s : ℕ) (a b : Bool) → marked s ≡ a → states s ≡ b → Some s ⊎ None s
    decide s false b e h = inr (λ class c k. e)
    decide s true false e h = inr (λ class c k. absurd (clash_test (states s) (IsClosedClass.states c s k) h))
    decide s true true e h = elim (in_class states n row chain s h) as (λ _. Some s ⊎ None s) [
      | inl i ↦ inl (i.0, i.1, i.2, e)
      | inr o ↦ inr (λ class c k. absurd (clash_test (class s) k (o class c)))
    ]

-- ---- the reference

pub reference_of : (states : ℕ → Bool) (n : ℕ) (row : ℕ → List Entry) → IsChain states n row → (t : ℕ) → AllLeadTo states row t → (u : ℕ) × IsReference states row u
reference_of states n row chain t leads =
    let c = has_class states n row chain t leads.state in
    let some = IsClosedClass.some c.1 in
    let r =
    class-reference states n row chain c.0 c.1 (into_class states n row chain c.0 t
    (holds states n row chain c.0 (IsClosedClass.states c.1) (IsClosedClass.closed c.1) t leads some.0 some.1) leads) in
    (r.0, r.2)

pub has_reference : HasReference
has_reference p policy t known is leads = reference_of (is_state p) (count p) (row_by p policy) (policy-chain p policy known is) t leads

-- ---- the next policy

module _ (p : Component) (known : IsComponent p) (policy improved : List ℕ) (is : IsPolicy p improved) where
  changed : ℕ → Bool
  changed s = not (eqb (slice_index improved s) (slice_index policy s))

  not_changed : (s : ℕ) → changed s ≡ false → slice_index improved s ≡ slice_index policy s
  unfolding changed
  not_changed s e = same_number (slice_index improved s) (slice_index policy s) (not_not (eqb (slice_index improved s) (slice_index policy s)) e)
    where
      not_not : (b : Bool) → not b ≡ false → b ≡ true
      not_not true e = refl
      not_not false e = cc

  is_changed : (s : ℕ) → changed s ≡ true → slice_index improved s ≢ slice_index policy s
  unfolding changed
  is_changed s e q =
      let k : eqb (slice_index improved s) (slice_index policy s) ≡ true = ap (λ c. eqb c (slice_index policy s)) q ∙ eqb-same (slice_index policy s) in clash_test (changed s) e (ap not k)

  -- the improved choices on a class, and toward one of its states elsewhere
  module _ (class : ℕ → Bool) (c : IsClosedClass (is_state p) (row_by p improved) class) (u : ℕ) (holds_u : class u ≡ true) where
    reach : CanReach p u
    reach = known.connected u (c.states u holds_u)

    toward_by : (s : ℕ) → (is_state p s ≡ true) ⊎ (is_state p s ≡ false) → (s ≡ u) ⊎ (s ≢ u) → ℕ
    toward_by s (inl h) (inl e) = 0
    toward_by s (inl h) (inr o) = (CanReach.falls reach s h o).0
    toward_by s (inr h) q = 0

    toward : ℕ → ℕ
    toward s = if class s then slice_index improved s else toward_by s (test_or_not (is_state p s)) (same_or_other s u)

    after : List ℕ
    after = map toward (range_with_len 0 (count p))

    after-at : (s : ℕ) → s < count p → slice_index after s ≡ toward s
    unfolding after
    after-at s l = get_or-map-range_with_len toward 0 (count p) s s 0 l (zero-add s)

    on_class : (s : ℕ) → class s ≡ true → slice_index after s ≡ slice_index improved s
    unfolding toward
    on_class s h = after-at s (state-below p s (c.states s h)) ∙ rank_then (class s) (slice_index improved s) _ h

    off_class : (s : ℕ) → s < count p → class s ≡ false → slice_index after s ≡ toward_by s (test_or_not (is_state p s)) (same_or_other s u)
    unfolding toward
    off_class s l h = after-at s l ∙ rank_else (class s) (slice_index improved s) _ h

    Falls : ℕ → ℕ → Type 0
    Falls s c = IsInner p s c × Any (λ y. CanReach.rank reach y.target < CanReach.rank reach s) (Choice.row (choice_at p s c))

    falls_by : (s : ℕ) (a : (is_state p s ≡ true) ⊎ (is_state p s ≡ false)) (b : (s ≡ u) ⊎ (s ≢ u)) → is_state p s ≡ true → class s ≡ false → Falls s (toward_by s a b)
    unfolding Falls toward_by
    falls_by s (inl h) (inl e) k o = absurd (clash_test (class s) (ap class e ∙ holds_u) o)
    falls_by s (inl h) (inr q) k o = ((CanReach.falls reach s h q).1, (CanReach.falls reach s h q).2)
    falls_by s (inr h) b k o = absurd (clash_test (is_state p s) k h)

    falls_off : (s : ℕ) → is_state p s ≡ true → class s ≡ false → Falls s (slice_index after s)
    falls_off s k o = subst (Falls s) (sym (off_class s (state-below p s k) o)) (falls_by s (test_or_not (is_state p s)) (same_or_other s u) k o)

    outside_by : (s : ℕ) (a : (is_state p s ≡ true) ⊎ (is_state p s ≡ false)) (b : (s ≡ u) ⊎ (s ≢ u)) → is_state p s ≡ false → toward_by s a b ≡ 0
    unfolding toward_by
    outside_by s (inl h) b k = absurd (clash_test (is_state p s) h k)
    outside_by s (inr h) b k = refl

    class_out : (s : ℕ) → is_state p s ≡ false → (b : Bool) → class s ≡ b → b ≡ false
    class_out s k true e = absurd (clash_test (is_state p s) (c.states s e) k)
    class_out s k false e = refl

    after_len : length after ≡ count p
    unfolding after
    after_len = length-map-range_with_len toward 0 (count p)

    outside_at : (s : ℕ) → is_state p s ≡ false → (count p ≤ s) ⊎ (s < count p) → slice_index after s ≡ 0
    outside_at s k (inl l) = let n = after_len in let i : length after ≤ s = omega arith in get_or-eq_default after 0 i
    outside_at s k (inr l) = off_class s l (class_out s k (class s) refl) ∙ outside_by s (test_or_not (is_state p s)) (same_or_other s u) k

    after_is : IsPolicy p after
    unfolding Falls
    after_is = record {
      len = after_len;
      inner = λ s k. elim (test_or_not (class s)) as (λ _. IsInner p s (slice_index after s)) [
        | inl h ↦ subst (IsInner p s) (sym (on_class s h)) (is.inner s k)
        | inr o ↦ (falls_off s k o).0
      ];
      outside = λ s k. outside_at s k (le_or (count p) s);
    }

    leads : AllLeadInto (is_state p) (row_by p after) class
    unfolding Falls
    leads = record { rank = CanReach.rank reach; falls = λ s k o. let a = (falls_off s k o).1 in (a.0, a.1, a.2, a.3, inr a.4) }

    toward_class : changed u ≡ true → GoesToward p policy improved after class
    toward_class e = record { class_is = c; changed = (u, holds_u, is_changed u e); kept = on_class; toward = leads; is = after_is }

  pub next_of : (after : List ℕ) × IsNext p policy improved after
  next_of = elim (marked_class (is_state p) (count p) (row_by p improved) (policy-chain p improved known is) changed) as (λ _. (after : List ℕ) × IsNext p policy improved after) [
    | inl f ↦ (after f.0 f.1 f.2.0 f.2.1, inr (f.0, toward_class f.0 f.1 f.2.0 f.2.1 f.2.2))
    | inr q ↦ (improved, inl (refl, λ class c s h. not_changed s (q class c s h)))
  ]

pub has_next : HasNext
has_next p policy improved known is = next_of p known policy improved is
