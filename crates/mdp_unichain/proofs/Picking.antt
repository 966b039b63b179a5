-- The reference and the class that is picked, from the parts of a policy's chain.
use Rattle.std.proofs.Common.{◌≡◌, ◌≢◌, ℕ, ◌<◌, ◌≤◌, ◌⊎◌, inl, inr, Bool, true, false, not, ◌&&◌, ◌==◌, List, length, map, Some, refl, sym, ◌∙◌, ap, arith}
use Rattle.std.proofs.{lemmas.Bool.{false≢true, and_parts, and_from, eqb-true, eq-eqb, ne_eqb}, Math.ListN.{get_or-eq_default}}
use Rattle.std.proofs.lemmas.List.FromFn.{length-map-range_with_len}
use Rattle.std.specs.{List.{range_with_len}, Prelude.{slice_index}}
use Rattle.mdp_math.proofs.Numbers.{le_or}
use Rattle.mdp_spec.specs.Mdp.{Entry}
use Rattle.mdp_graph.specs.Sets.{marked}
use Rattle.mdp_unichain.specs.{Chain.{IsChain, AllLeadTo, IsReference, IsClosedClass}, Component.{Component, count, is_state, row_by, IsPolicy, IsComponent}}
use Rattle.mdp_unichain.specs.{Improvement.{KeepsClasses}, Next.{HoldsChanged}}
use Rattle.mdp_unichain.specs.Classes.{differs, has_flag, shares_part, AreClasses, is_in_class, is_in_changed_class, Picks}
use Rattle.mdp_unichain.proofs.{Chains.{same_or_other}, Classes.{holds, leads_into, into_class}, ClassesFound.{flag-is, flag_from, flag_by}}
use Rattle.mdp_unichain.proofs.{Improving.{policy-chain, state-below}, Reaching.{test_or_not, clash_test, has_class}}

-- the first number below n that passes a test, where one does
pub record IsFirst (test : ℕ → Bool) (n t : ℕ) : Type 0 where
  pub below : t < n
  pub passes : test t ≡ true
  pub least : (u : ℕ) → u < n → test u ≡ true → t ≤ u

-- the same class
pub class-as : (states : ℕ → Bool) (row : ℕ → List Entry) (a b : ℕ → Bool) → ((s : ℕ) → a s ≡ b s) → IsClosedClass states row a → IsClosedClass states row b
class-as states row a b same c = record {
  some = (c.some.0, sym (same c.some.0) ∙ c.some.1);
  states = λ s h. c.states s (same s ∙ h);
  closed = λ s h j d l. sym (same _) ∙ c.closed s (same s ∙ h) j d l;
  connected = λ t h. let k = c.connected t (same t ∙ h) in record {
    state = h;
    rank = k.rank;
    falls = λ s e o. k.falls s (same s ∙ e) o;
  };
}

module _ (p : Component) (known : IsComponent p) (policy : List ℕ) (is : IsPolicy p policy) (parts : List ℕ) (left : List Bool) (a : AreClasses p policy parts left) where
  chain : IsChain (is_state p) (count p) (row_by p policy)
  chain = policy-chain p policy known is

  in_class-parts : (s : ℕ) → is_in_class p parts left s ≡ true → (is_state p s ≡ true) × (marked left (slice_index parts s) ≡ false)
  in_class-parts s h =
      let b = and_parts (is_state p s) (not (marked left (slice_index parts s))) h in (b.0, not_false (marked left (slice_index parts s)) b.1)
    where
      not_false : (b : Bool) → not b ≡ true → b ≡ false
      not_false true e = sym e
      not_false false e = refl

  in_class-from : (s : ℕ) → is_state p s ≡ true → marked left (slice_index parts s) ≡ false → is_in_class p parts left s ≡ true
  in_class-from s h o = and_from (is_state p s) (not (marked left (slice_index parts s))) h (ap not o)

  shares_own : (s : ℕ) → is_state p s ≡ true → shares_part p parts s s ≡ true
  shares_own s h = and_from (is_state p s) (slice_index parts s == slice_index parts s) h (eq-eqb (slice_index parts s) (slice_index parts s) refl)

  -- a closed class's state is in a class
  in_class-of : (class : ℕ → Bool) → IsClosedClass (is_state p) (row_by p policy) class → (s : ℕ) → class s ≡ true → is_in_class p parts left s ≡ true
  in_class-of class c s h = in_class-from s (IsClosedClass.states c s h) (AreClasses.only a class c s h).0

  -- ---- the reference

  module _ (u : ℕ) (leads : AllLeadTo (is_state p) (row_by p policy) u) where
    -- some state is in a class
    pub some_in_class : (s : ℕ) × (s < count p) × (is_in_class p parts left s ≡ true)
    some_in_class =
        let c = has_class (is_state p) (count p) (row_by p policy) chain u (AllLeadTo.state leads) in
        let s = IsClosedClass.some c.1 in
        (s.0, state-below p s.0 (IsClosedClass.states c.1 s.0 s.1), in_class-of c.0 c.1 s.0 s.1)

    pub reference-first : (t : ℕ) → IsFirst (is_in_class p parts left) (count p) t → IsReference (is_state p) (row_by p policy) t
    reference-first t f =
        let b = in_class-parts t (IsFirst.passes f) in
        let class = shares_part p parts t in
        let c : IsClosedClass (is_state p) (row_by p policy) class = AreClasses.closed a t b.0 b.1 in
        let own = shares_own t b.0 in
        record {
          leads =
              leads_into (is_state p) (count p) (row_by p policy) chain class c
              (into_class (is_state p) (count p) (row_by p policy) chain class u
              (holds (is_state p) (count p) (row_by p policy) chain class (IsClosedClass.states c) (IsClosedClass.closed c) u leads t own) leads) t own;
          least = λ v to.
              let j = holds (is_state p) (count p) (row_by p policy) chain class (IsClosedClass.states c) (IsClosedClass.closed c) v to t own in
              IsFirst.least f v (state-below p v (IsClosedClass.states c v j)) (in_class-of class c v j);
        }

-- ---- the class that is picked

module _ (p : Component) (known : IsComponent p) (policy improved : List ℕ) (before : IsPolicy p policy) (is : IsPolicy p improved) (parts : List ℕ) (left : List Bool)
    (a : AreClasses p improved parts left) (changed : List Bool)
    (changed_is : (s : ℕ) → s < count p → marked changed (slice_index parts s) ≡ has_flag (map (differs policy improved) (range_with_len 0 (count p))) parts (count p) (slice_index parts s)) where
  differs_of : (s : ℕ) → differs policy improved s ≡ true → slice_index improved s ≢ slice_index policy s
  differs_of s h e = false≢true (sym (ap not (eq-eqb (slice_index improved s) (slice_index policy s) e)) ∙ h)

  of_differs : (s : ℕ) → slice_index improved s ≢ slice_index policy s → differs policy improved s ≡ true
  of_differs s o = ap not (ne_eqb (slice_index improved s) (slice_index policy s) o)

  -- policies differ at states alone
  differs_at : (s : ℕ) → slice_index improved s ≢ slice_index policy s → (is_state p s ≡ true) ⊎ (is_state p s ≡ false) → is_state p s ≡ true
  differs_at s o (inl h) = h
  differs_at s o (inr h) = absurd (o (IsPolicy.outside is s h ∙ sym (IsPolicy.outside before s h)))

  -- a state of a closed class with a changed state
  in_changed_of : (class : ℕ → Bool) → IsClosedClass (is_state p) (row_by p improved) class → (s : ℕ) → class s ≡ true → slice_index improved s ≢ slice_index policy s
      → (t : ℕ) → class t ≡ true → is_in_changed_class p parts left changed t ≡ true
  in_changed_of class c s h o t j =
      let st = IsClosedClass.states c s h in
      let e = (AreClasses.only a class c t j).1 s ∙ h in
      let q = eqb-true (slice_index parts s) (slice_index parts t) (and_parts (is_state p s) (slice_index parts s == slice_index parts t) e).1 in
      let tt_ = state-below p t (IsClosedClass.states c t j) in
      and_from (is_in_class p parts left t) (marked changed (slice_index parts t)) (in_class-of p known improved is parts left a class c t j)
      (changed_is t tt_ ∙ flag_by (differs policy improved) parts (count p) (slice_index parts t) s (state-below p s st) (of_differs s o) q)

  pub none_changed : ((s : ℕ) → s < count p → is_in_changed_class p parts left changed s ≡ false) → KeepsClasses p policy improved
  none_changed none class c s h = by (same_or_other (slice_index improved s) (slice_index policy s))
    where
      by : (slice_index improved s ≡ slice_index policy s) ⊎ (slice_index improved s ≢ slice_index policy s) → slice_index improved s ≡ slice_index policy s
      by (inl e) = e
      by (inr o) =
          absurd (clash_test (is_in_changed_class p parts left changed s) (in_changed_of class c s h o s h) (none s (state-below p s (IsClosedClass.states c s h))))

  module _ (t : ℕ) (f : IsFirst (is_in_changed_class p parts left changed) (count p) t) (class : List Bool) (class_is : class ≡ map (shares_part p parts t) (range_with_len 0 (count p))) where
    marked_by : (s : ℕ) → (count p ≤ s) ⊎ (s < count p) → (is_state p s ≡ true) ⊎ (is_state p s ≡ false) → shares_part p parts t s ≡ marked class s
    marked_by s (inr l) q = sym (flag-is (shares_part p parts t) (count p) s l) ∙ ap (λ (xs : List Bool). marked xs s) (sym class_is)
    marked_by s (inl l) (inl h) = absurd (let b = state-below p s h in omega arith)
    marked_by s (inl l) (inr h) =
        let n : length class ≡ count p = ap (λ (xs : List Bool). length xs) class_is ∙ length-map-range_with_len (shares_part p parts t) 0 (count p) in
        ap (λ b. b && (slice_index parts s == slice_index parts t)) h ∙ sym (get_or-eq_default class false (omega (arith, n, l)))

    marked-is : (s : ℕ) → shares_part p parts t s ≡ marked class s
    marked-is s = marked_by s (le_or (count p) s) (test_or_not (is_state p s))

    tests : (is_in_class p parts left t ≡ true) × (marked changed (slice_index parts t) ≡ true)
    tests = and_parts (is_in_class p parts left t) (marked changed (slice_index parts t)) (IsFirst.passes f)

    state_t : (is_state p t ≡ true) × (marked left (slice_index parts t) ≡ false)
    state_t = in_class-parts p known improved is parts left a t tests.0

    closed_class : IsClosedClass (is_state p) (row_by p improved) (marked class)
    closed_class = class-as (is_state p) (row_by p improved) (shares_part p parts t) (marked class) marked-is (AreClasses.closed a t state_t.0 state_t.1)

    holds_changed : HoldsChanged policy improved (marked class)
    holds_changed =
        let w = flag_from (differs policy improved) parts (count p) (slice_index parts t) (sym (changed_is t (IsFirst.below f)) ∙ tests.1) in
        let o = differs_of w.0 w.2 in
        let h = differs_at w.0 o (test_or_not (is_state p w.0)) in
        (w.0, sym (marked-is w.0) ∙ and_from (is_state p w.0) (slice_index parts w.0 == slice_index parts t) h (eq-eqb (slice_index parts w.0) (slice_index parts t) w.3), o)

    pub picked_class : Picks p policy improved (Some class)
    picked_class = (
      ap (λ (xs : List Bool). length xs) class_is ∙ length-map-range_with_len (shares_part p parts t) 0 (count p),
      record {
        class_is = closed_class;
        changed = holds_changed;
        least = (
          t,
          sym (marked-is t) ∙ shares_own p known improved is parts left a t state_t.0,
          λ other c h u j.
              IsFirst.least f u (state-below p u (IsClosedClass.states c u j)) (in_changed_of other c h.0 h.1 h.2 u j),
        );
      },
    )
