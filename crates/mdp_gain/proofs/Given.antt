-- The component that the code holds, in terms of its model.
use Rattle.std.proofs.{Common.{◌≡◌, ℕ, ◌<◌, true, false, ◌&&◌, List, [], length, Option, Some, None, refl, sym, ◌∙◌, ap, arith}, Math.Bool.{Bool-set}}
use Rattle.std.proofs.{Math.Logic.{∥∥₁_elim}, Math.Nat.{ℕ_set}, Common.{eqb, ◌⊎◌, inl, inr, map, zero-add}, lemmas.List.FromFn.{get_or-map-range_with_len}}
use Rattle.mdp_spec.specs.Mdp as mdp
use Rattle.mdp_spec.specs.{Mdp.{Entry, Mdp, states_of, row_at}, Unit.{reward_of}}
use Rattle.mdp_graph.specs.Sets.{marked}
use Rattle.std.specs.{List.{range_with_len}, Prelude.{slice_index, slice_index_or}, Option.{option_eq}}
use Rattle.mdp_spec.specs.Tree as tree
use Rattle.mdp_unichain.proofs.{Improving.{inner-below, state-below as state-below-of}, Reaching.{test_or_not}}
use Rattle.mdp_unichain.proofs.Parts.{part-component, part-state, part-count, part-choices, part-choice}
use Rattle.mdp_ends.specs.Ends.{has_number, in_part, is_inside}
use Rattle.mdp_unichain.specs.{Component.{Choice, count, choices_at, choice_at, is_state, row_by, IsComponent}, Part.{IsPart, is_inner}}
use Rattle.mdp_gain.specs.{Code.{component_in, HasEnds}, declared.chosen.Chosen.{Chosen}, declared.component.EndComponent.{EndComponent}}

module _ (x : EndComponent) where
  abbrev m : Mdp
  m = x.model.now

  pub count-is : count (component_in x) ≡ states_of m
  count-is = part-count x.dir m x.ends.now.parts x.number x.name

  pub state-below : (s : ℕ) → s < count (component_in x) → s < states_of m
  state-below s l = let n = count-is in omega arith

  pub choices-are : (s : ℕ) → s < count (component_in x) → length (choices_at (component_in x) s) ≡ length (mdp.choices_at m s)
  choices-are s l = part-choices x.dir m x.ends.now.parts x.number x.name s (state-below s l)

  pub choice-below : (s c : ℕ) → s < count (component_in x) → c < length (choices_at (component_in x) s) → c < length (mdp.choices_at m s)
  choice-below s c l k = let n = choices-are s l in omega arith

  module _ (s c : ℕ) (l : s < count (component_in x)) (k : c < length (choices_at (component_in x) s)) where
    pub reward-is : (choice_at (component_in x) s c).reward ≡ reward_of (mdp.choice_at m s c) x.name
    reward-is = ap Choice.reward (part-choice x.dir m x.ends.now.parts x.number x.name s c (state-below s l) (choice-below s c l k))

    pub row-is : (choice_at (component_in x) s c).row ≡ row_at m s c
    row-is = ap Choice.row (part-choice x.dir m x.ends.now.parts x.number x.name s c (state-below s l) (choice-below s c l k))

    pub inner-is : (choice_at (component_in x) s c).inner ≡ is_inner m x.ends.now.parts x.number s c
    inner-is = ap Choice.inner (part-choice x.dir m x.ends.now.parts x.number x.name s c (state-below s l) (choice-below s c l k))

  pub part-of : HasEnds x → IsPart x.model.now x.ends.now.parts x.number
  part-of ends = record { model = x.mdp; ends = ends.ends; below = x.below }

  pub is-component : HasEnds x → IsComponent (component_in x)
  is-component ends = part-component m x.ends.now.parts x.number (part-of ends) x.dir x.name

  pub parts-len : length x.ends.now.parts ≡ states_of m
  parts-len = ∥∥₁_elim x.found (ℕ_set _ _) (λ (ends : HasEnds x). ends.ends.count)

  pub member-is : (s : ℕ) → is_state (component_in x) s ≡ in_part x.ends.now.parts x.number s
  member-is s = ∥∥₁_elim x.found (Bool-set _ _) (λ (ends : HasEnds x). part-state m x.ends.now.parts x.number (part-of ends) x.dir x.name s)

  pub inner-count : length x.ends.now.inner ≡ states_of m
  inner-count = ∥∥₁_elim x.found (ℕ_set _ _) (λ (ends : HasEnds x). ends.count)

  pub inner-width : (s : ℕ) → s < states_of x.model.now → length (slice_index_or x.ends.now.inner s []) ≡ length (mdp.choices_at x.model.now s)
  inner-width s l = ∥∥₁_elim x.found (ℕ_set _ _) (λ (ends : HasEnds x). ends.width s l)

  inside-is : (s c : ℕ) → s < states_of m → c < length (mdp.choices_at m s) → marked (slice_index_or x.ends.now.inner s []) c ≡ is_inside m x.ends.now.parts s c
  inside-is s c l k = ∥∥₁_elim x.found (Bool-set _ _) (λ (ends : HasEnds x). ends.inner s c l k)

-- the test of a part's number
pub number-eq : (n : ℕ) (o : Option ℕ) → option_eq eqb o (Some n) ≡ has_number n o
number-eq n None = refl
number-eq n (Some j) = refl

module _ (x : EndComponent) (s c : ℕ) (l : s < count (component_in x)) (k : c < length (choices_at (component_in x) s)) where
  pub inner-in : is_state (component_in x) s ≡ true → marked (slice_index_or x.ends.now.inner s []) c ≡ (choice_at (component_in x) s c).inner
  inner-in h =
      inside-is x s c (state-below x s l) (choice-below x s c l k)
      ∙ ap (λ b. b && is_inside x.model.now x.ends.now.parts s c) (sym (sym (member-is x s) ∙ h))
      ∙ sym (inner-is x s c l k)

  pub inner-out : is_state (component_in x) s ≡ false → false ≡ (choice_at (component_in x) s c).inner
  inner-out h = ap (λ b. b && is_inside x.model.now x.ends.now.parts s c) (sym (sym (member-is x s) ∙ h)) ∙ sym (inner-is x s c l k)

-- a policy has a choice for each state of the model
module _ (y : Chosen) where
  abbrev x : EndComponent
  x = y.component

  abbrev policy : List ℕ
  policy = y.policy.now

  policy_by : (s : ℕ) → s < count (component_in x) → (is_state (component_in x) s ≡ true) ⊎ (is_state (component_in x) s ≡ false)
      → slice_index policy s < length (choices_at (component_in x) s)
  policy_by s l (inl h) = inner-below (component_in x) s (slice_index policy s) (y.is.inner s h)
  policy_by s l (inr h) =
      let n = choices-are x s l in
      let e = y.is.outside s h in
      let some = x.mdp.choice s (state-below x s l) in
      omega arith

  pub policy-below : (s : ℕ) → s < count (component_in y.component) → slice_index y.policy.now s < length (choices_at (component_in y.component) s)
  policy-below s l = policy_by s l (test_or_not (is_state (component_in x) s))

  pub model-policy : tree.IsPolicy y.component.model.now y.policy.now
  model-policy = record {
    one_each = y.is.len ∙ count-is x;
    in_range = λ s l.
        let n = count-is x in
        let b : s < count (component_in x) = omega (arith, l, n) in
        choice-below x s (slice_index policy s) b (policy-below s b);
  }

  pub row-of-policy : (s : ℕ) → is_state (component_in y.component) s ≡ true
      → slice_index_or (map (λ s. row_at y.component.model.now s (slice_index y.policy.now s)) (range_with_len 0 (states_of y.component.model.now))) s [] ≡ row_by (component_in y.component) y.policy.now s
  row-of-policy s h =
      let b = state-below-of (component_in x) s h in
      get_or-map-range_with_len (λ s. row_at x.model.now s (slice_index policy s)) 0 (states_of x.model.now) s s [] (state-below x s b) (zero-add s)
      ∙ sym (row-is x s (slice_index policy s) b (policy-below s b))
