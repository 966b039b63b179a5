-- The start policy: it goes toward the least state of the component, which takes its least choice.
use Rattle.std.proofs.Common.{◌≡◌, ◌≢◌, ℕ, ◌<◌, ◌≤◌, ◌⊎◌, inl, inr, Bool, true, false, ◌&&◌, ◌==◌, List, length, map, set, refl, sym, ◌∙◌, ap, subst, arith, zero-add}
use Rattle.std.proofs.{Math.ListN.{get_or-eq_default}, lemmas.Bool.{cases_eq, and_from, eq-eqb, ne_eqb}, lemmas.List.{length-set, get_or-set_other}}
use Rattle.std.proofs.{lemmas.List.FromFn.{get_or-map-range_with_len, length-map-range_with_len}, lemmas.Grind.{get_or-set_at}}
use Rattle.std.specs.{List.{find, range_with_len}, Option.{unwrap_or}, Prelude.{slice_index}}
use Rattle.mdp_math.proofs.{Booleans.{and-false}, Numbers.{le_or}}
use Rattle.mdp_spec.specs.Mdp.{states_of}
use Rattle.mdp_graph.specs.{Sets.{marked}, Choices.{AreLeast}}
use Rattle.mdp_ends.specs.{Ends.{in_part, IsEnd, IsMaximal, AreEnds}, Toward.{target_in, IsToward}}
use Rattle.mdp_unichain.specs.{Component.{Component, count, choices_at, choice_at, is_state, IsInner}, Next.{IsNearest}}
use Rattle.mdp_unichain.specs.Path as path
use Rattle.mdp_unichain.proofs.{Best.{inner_of_state}, Chains.{same_or_other}, Improving.{state-below, inner-below}, Picking.{IsFirst}, Reaching.{clash_test}}
use Rattle.mdp_unichain.proofs.Toward.{ranks_toward, nearest_choice, outside_choice}
use Rattle.mdp_gain.specs.{Code.{component_in, HasEnds}, declared.component.EndComponent.{EndComponent}}
use Rattle.mdp_gain.proofs.{Flagging.{find-or}, Given.{count-is, part-of, member-is}}

pub choices-len : (x : EndComponent) {target marks : List Bool} {ranks choices : List ℕ} → IsToward x.model.now x.ends.now.parts x.number target marks ranks choices
    → length choices ≡ count (component_in x)
choices-len x pass = AreLeast.count (IsToward.chosen pass) ∙ sym (count-is x)

module _ (x : EndComponent) (ends : HasEnds x) where
  abbrev p : Component
  p = component_in x

  some_state : (s : ℕ) × (is_state p s ≡ true)
  some_state =
      let e = IsEnd.some (IsMaximal.is_end (AreEnds.maximal ends.ends x.number x.below)) in
      (e.0, member-is x e.0 ∙ e.2)

  -- the least state
  least-first : IsFirst (is_state p) (count p) (unwrap_or (find (is_state p) (range_with_len 0 (count p))) 0)
  least-first = let s = some_state in find-or (is_state p) (count p) s.0 0 (state-below p s.0 s.1) s.1

  pub first_state : (t : ℕ) → t ≡ unwrap_or (find (is_state (component_in x)) (range_with_len 0 (count (component_in x)))) 0
      → IsFirst (is_state (component_in x)) (count (component_in x)) t
  first_state t is = subst (λ (t : ℕ). IsFirst (is_state p) (count p) t) (sym is) least-first

  module _ (t : ℕ) (is : t ≡ unwrap_or (find (is_state (component_in x)) (range_with_len 0 (count (component_in x)))) 0)
      (target : List Bool) (target_is : target ≡ map (λ s. s == t) (range_with_len 0 (count p))) where
    f : IsFirst (is_state p) (count p) t
    f = first_state t is

    target-at : (s : ℕ) → s < count p → marked target s ≡ (s == t)
    target-at s l = ap (λ (xs : List Bool). marked xs s) target_is ∙ get_or-map-range_with_len (λ s. s == t) 0 (count p) s s false l (zero-add s)

    pub target-len : length target ≡ states_of x.model.now
    target-len = ap (λ (xs : List Bool). length xs) target_is ∙ length-map-range_with_len (λ s. s == t) 0 (count p) ∙ count-is x

    member_t : in_part x.ends.now.parts x.number t ≡ true
    member_t = sym (member-is x t) ∙ IsFirst.passes f

    pub some_target : (s : ℕ) × (s < states_of x.model.now) × (in_part x.ends.now.parts x.number s ≡ true) × (marked target s ≡ true)
    some_target =
        let n = count-is x in
        let l = IsFirst.below f in
        (t, omega (arith, n, l), member_t, target-at t l ∙ eq-eqb t t refl)

    other_by : (s : ℕ) → (s ≡ t → ⊥) → (count p ≤ s) ⊎ (s < count p) → target_in x.ends.now.parts x.number target s ≡ (s == t)
    other_by s o (inl l) =
        let n = target-len in
        let m = count-is x in
        ap (λ b. in_part x.ends.now.parts x.number s && b) (get_or-eq_default target false (omega (arith, n, m, l))) ∙ and-false (in_part x.ends.now.parts x.number s) ∙ sym (ne_eqb s t o)
    other_by s o (inr l) =
        ap (λ b. in_part x.ends.now.parts x.number s && b) (target-at s l ∙ ne_eqb s t o) ∙ and-false (in_part x.ends.now.parts x.number s) ∙ sym (ne_eqb s t o)

    same : (s : ℕ) → target_in x.ends.now.parts x.number target s ≡ (s == t)
    same s = elim (cases_eq s t) [
      | inl e ↦
          (let both : target_in x.ends.now.parts x.number target t ≡ true =
          and_from (in_part x.ends.now.parts x.number t) (marked target t) member_t (target-at t (IsFirst.below f) ∙ eq-eqb t t refl) in
          ap (target_in x.ends.now.parts x.number target) e ∙ both ∙ sym (eq-eqb s t e))
      | inr o ↦ other_by s o (le_or (count p) s)
    ]

    -- its least choice
    pub choice-first : IsFirst (λ c. (choice_at p t c).inner) (length (choices_at p t)) (unwrap_or (find (λ c. (choice_at p t c).inner) (range_with_len 0 (length (choices_at p t)))) 0)
    choice-first =
        let c = inner_of_state p t (IsFirst.passes f) in
        find-or (λ c. (choice_at p t c).inner) (length (choices_at p t)) c.0 0 (inner-below p t c.0 c.1) c.1

    module _ (marks : List Bool) (ranks choices : List ℕ) (pass : IsToward x.model.now x.ends.now.parts x.number target marks ranks choices)
        (marks_are : (s : ℕ) → s < states_of x.model.now → marked marks s ≡ in_part x.ends.now.parts x.number s)
        (own : ℕ) (own_is : own ≡ unwrap_or (find (λ c. (choice_at p t c).inner) (range_with_len 0 (length (choices_at p t)))) 0)
        (start : List ℕ) (made : start ≡ set choices t own) where
      choices_len : length choices ≡ count p
      choices_len = choices-len x pass

      own-first : IsFirst (λ c. (choice_at p t c).inner) (length (choices_at p t)) own
      own-first = subst (λ (c : ℕ). IsFirst (λ c. (choice_at p t c).inner) (length (choices_at p t)) c) (sym own_is) choice-first

      start-len : length start ≡ count p
      start-len = ap (λ (xs : List ℕ). length xs) made ∙ length-set choices t own ∙ choices_len

      own-at : slice_index start t ≡ own
      own-at =
          let n = choices_len in
          let l = IsFirst.below f in
          ap (λ (xs : List ℕ). slice_index xs t) made ∙ get_or-set_at choices t t own 0 refl (omega (arith, n, l))

      other-at : (s : ℕ) → s ≢ t → slice_index start s ≡ slice_index choices s
      other-at s o = ap (λ (xs : List ℕ). slice_index xs s) made ∙ get_or-set_other choices t s own 0 o

      nearest : (s : ℕ) → is_state p s ≡ true → s ≢ t → IsNearest p (slice_index ranks) s (slice_index start s)
      nearest s h o =
          subst (λ (c : ℕ). IsNearest p (slice_index ranks) s c) (sym (other-at s o))
          (nearest_choice x.dir x.model.now x.ends.now.parts x.number x.name (part-of x ends) target marks ranks choices pass marks_are (λ s. s == t) same s h (ne_eqb s t o))

      own_inner : IsInner p t (slice_index start t)
      own_inner = subst (IsInner p t) (sym own-at) (IsFirst.passes own-first)

      inner_by : (s : ℕ) → is_state p s ≡ true → (s ≡ t) ⊎ (s ≢ t) → IsInner p s (slice_index start s)
      inner_by s h (inl e) = subst (λ (u : ℕ). IsInner p u (slice_index start u)) (sym e) own_inner
      inner_by s h (inr o) = (IsNearest.nearer (nearest s h o)).0

      outside_by : (s : ℕ) → is_state p s ≡ false → (count p ≤ s) ⊎ (s < count p) → slice_index start s ≡ 0
      outside_by s h (inl l) = let n = start-len in get_or-eq_default start 0 (omega (arith, n, l))
      outside_by s h (inr l) =
          other-at s (λ e. clash_test (is_state p s) (ap (is_state p) e ∙ IsFirst.passes f) h)
          ∙ outside_choice x.dir x.model.now x.ends.now.parts x.number x.name (part-of x ends) target marks ranks choices pass marks_are (λ s. s == t) same s
          (let n = count-is x in omega arith) h

      pub first_start : path.IsFirst p start
      first_start = record {
        least = t;
        is_least = (IsFirst.passes f, λ s h. IsFirst.least f s (state-below p s h) h);
        own = (own_inner, λ c h. let l = IsFirst.least own-first c (inner-below p t c h) h in subst (λ (d : ℕ). d ≤ c) (sym own-at) l);
        rank = slice_index ranks;
        ranks = ranks_toward x.dir x.model.now x.ends.now.parts x.number x.name (part-of x ends) target marks ranks choices pass marks_are (λ s. s == t) same;
        toward = nearest;
        is = record {
          len = start-len;
          inner = λ s h. inner_by s h (same_or_other s t);
          outside = λ s h. outside_by s h (le_or (count p) s);
        };
      }
