-- The policy that keeps a class and goes toward it is the next one.
use Rattle.std.proofs.Common.{◌≡◌, ℕ, ◌<◌, ◌≤◌, ◌⊎◌, inl, inr, Bool, true, false, ◌&&◌, if◌then◌else◌, List, length, refl, sym, ◌∙◌, ap, subst, arith, zero-add}
use Rattle.std.proofs.{Math.ListN.{get_or-eq_default}, lemmas.Bool.{cond-true, cond-false}, lemmas.List.FromFn.{get_or-map-range_with_len, length-map-range_with_len}}
use Rattle.std.specs.Prelude.{slice_index}
use Rattle.mdp_math.proofs.Numbers.{le_or}
use Rattle.mdp_spec.specs.Mdp.{states_of}
use Rattle.mdp_graph.specs.{Sets.{marked}, Choices.{AreLeast}}
use Rattle.mdp_ends.specs.{Ends.{in_part}, Toward.{target_in, IsToward}}
use Rattle.mdp_unichain.specs.{Chain.{IsClosedClass}, Component.{Component, count, is_state, IsInner, IsPolicy}, Next.{IsPicked, IsNearest, IsExactNext}}
use Rattle.mdp_unichain.proofs.{Improving.{state-below}, Reaching.{test_or_not, clash_test}, Toward.{ranks_toward, nearest_choice, outside_choice}}
use Rattle.mdp_gain.specs.{Code.{component_in, HasEnds, joined}, declared.chosen.Chosen.{Chosen}, declared.component.EndComponent.{EndComponent}}
use Rattle.mdp_gain.proofs.Given.{count-is, part-of, member-is}

module _ (y : Chosen) (ends : HasEnds y.component) (policy : List ℕ) (class : List Bool) (pick : IsPicked (component_in y.component) policy y.policy.now (marked class)) where
  abbrev x : EndComponent
  x = y.component

  abbrev p : Component
  p = component_in x

  abbrev improved : List ℕ
  improved = y.policy.now

  class_state : (s : ℕ) → marked class s ≡ true → is_state p s ≡ true
  class_state s h = IsClosedClass.states (IsPicked.class_is pick) s h

  class_member : (s : ℕ) → marked class s ≡ true → in_part x.ends.now.parts x.number s ≡ true
  class_member s h = sym (member-is x s) ∙ class_state s h

  -- some state of the part is a target
  pub some_target : (s : ℕ) × (s < states_of y.component.model.now) × (in_part y.component.ends.now.parts y.component.number s ≡ true) × (marked class s ≡ true)
  some_target =
      let s = IsClosedClass.some (IsPicked.class_is pick) in
      let n = count-is x in
      let l = state-below p s.0 (class_state s.0 s.1) in
      (s.0, omega (arith, n, l), class_member s.0 s.1, s.1)

  same_by : (a b : Bool) → (b ≡ true → a ≡ true) → (a && b) ≡ b
  same_by true b h = refl
  same_by false true h = h refl
  same_by false false h = refl

  same : (s : ℕ) → target_in x.ends.now.parts x.number class s ≡ marked class s
  same s = same_by (in_part x.ends.now.parts x.number s) (marked class s) (class_member s)

  module _ (marks : List Bool) (ranks choices : List ℕ) (pass : IsToward y.component.model.now y.component.ends.now.parts y.component.number class marks ranks choices)
      (marks_are : (s : ℕ) → s < states_of y.component.model.now → marked marks s ≡ in_part y.component.ends.now.parts y.component.number s) (after : List ℕ)
      (made : after ≡ joined class y.policy.now choices) where
    choices-len : length choices ≡ count p
    choices-len = AreLeast.count (IsToward.chosen pass) ∙ sym (count-is x)

    after-len : length after ≡ count p
    after-len = ap (λ (xs : List ℕ). length xs) made ∙ length-map-range_with_len (λ s. if marked class s then slice_index improved s else slice_index choices s) 0 (length choices) ∙ choices-len

    after-at : (s : ℕ) → s < count p → slice_index after s ≡ (if marked class s then slice_index improved s else slice_index choices s)
    after-at s l =
        ap (λ (xs : List ℕ). slice_index xs s) made
        ∙ get_or-map-range_with_len (λ s. if marked class s then slice_index improved s else slice_index choices s) 0 (length choices) s s 0 (let n = choices-len in omega arith) (zero-add s)

    after_in : (s : ℕ) → marked class s ≡ true → slice_index after s ≡ slice_index improved s
    after_in s h = after-at s (state-below p s (class_state s h)) ∙ cond-true (marked class s) (slice_index improved s) (slice_index choices s) h

    after_out : (s : ℕ) → s < count p → marked class s ≡ false → slice_index after s ≡ slice_index choices s
    after_out s l h = after-at s l ∙ cond-false (marked class s) (slice_index improved s) (slice_index choices s) h

    nearest : (s : ℕ) → is_state p s ≡ true → marked class s ≡ false → IsNearest p (slice_index ranks) s (slice_index after s)
    nearest s h o =
        subst (λ c. IsNearest p (slice_index ranks) s c) (sym (after_out s (state-below p s h) o))
        (nearest_choice x.dir x.model.now x.ends.now.parts x.number x.name (part-of x ends) class marks ranks choices pass marks_are (marked class) same s h o)

    inner_by : (s : ℕ) → is_state p s ≡ true → (marked class s ≡ true) ⊎ (marked class s ≡ false) → IsInner p s (slice_index after s)
    inner_by s h (inl e) = subst (IsInner p s) (sym (after_in s e)) (IsPolicy.inner y.is s h)
    inner_by s h (inr o) = (IsNearest.nearer (nearest s h o)).0

    not_in : (s : ℕ) → is_state p s ≡ false → (marked class s ≡ true) ⊎ (marked class s ≡ false) → marked class s ≡ false
    not_in s h (inl e) = absurd (clash_test (is_state p s) (class_state s e) h)
    not_in s h (inr o) = o

    outside_by : (s : ℕ) → is_state p s ≡ false → (count p ≤ s) ⊎ (s < count p) → slice_index after s ≡ 0
    outside_by s h (inl l) = let n = after-len in get_or-eq_default after 0 (omega (arith, n, l))
    outside_by s h (inr l) =
        after_out s l (not_in s h (test_or_not (marked class s)))
        ∙ outside_choice x.dir x.model.now x.ends.now.parts x.number x.name (part-of x ends) class marks ranks choices pass marks_are (marked class) same s
        (let n = count-is x in omega arith) h

    pub exact_next : IsExactNext (component_in y.component) policy y.policy.now after
    exact_next = inr (
      marked class,
      slice_index ranks,
      record {
        picked = pick;
        ranks = ranks_toward x.dir x.model.now x.ends.now.parts x.number x.name (part-of x ends) class marks ranks choices pass marks_are (marked class) same;
        kept = after_in;
        toward = nearest;
        is = record {
          len = after-len;
          inner = λ s h. inner_by s h (test_or_not (marked class s));
          outside = λ s h. outside_by s h (le_or (count p) s);
        };
      },
    )
