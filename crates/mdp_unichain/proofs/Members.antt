-- An end component of a model is a component whose states are its members.
use Rattle.std.proofs.Common.{◌≡◌, ℕ, ◌<◌, Bool, true, List, [], length, map, sym, ◌∙◌, ap, subst, arith, zero-add}
use Rattle.std.proofs.lemmas.List.FromFn.{get_or-map-range_with_len, length-map-range_with_len}
use Rattle.std.specs.List.{All, Any, range_with_len}
use Rattle.mdp_spec.specs.{Mdp.{Entry, Mdp, states_of, choices_at, row_at}, Row.{IsDistribution, IsRow, IsMdp}}
use Rattle.mdp_rows.specs.declared.dir.Dir.{Dir}
use Rattle.mdp_unichain.specs.Component as component
use Rattle.mdp_unichain.specs.Component.{Component, Choice, IsInner, is_state, IsComponent}
use Rattle.mdp_unichain.specs.Model.{choice_of, component_of, IsInside, IsEndComponent, EndComponentIs}
use Rattle.mdp_unichain.proofs.{Nexts.{same_tests}, Improving.{state-below, inner-below, state-of}, Best.{inner_of_state}, Trees.{choice_of-at}}

module _ (dir : Dir) (m : Mdp) (r : ℕ) (inner : ℕ → ℕ → Bool) where
  abbrev p : Component
  p = component_of dir m r inner

  abbrev listed_choices : ℕ → List Choice
  listed_choices s = map (choice_of m r inner s) (range_with_len 0 (length (choices_at m s)))

  pub count-is : component.count p ≡ states_of m
  count-is = length-map-range_with_len listed_choices 0 (states_of m)

  pub choices-at : (s : ℕ) → s < states_of m → component.choices_at p s ≡ listed_choices s
  choices-at s l = get_or-map-range_with_len listed_choices 0 (states_of m) s s [] l (zero-add s)

  pub choices-len : (s : ℕ) → s < states_of m → length (component.choices_at p s) ≡ length (choices_at m s)
  choices-len s l = ap (λ (cs : List Choice). length cs) (choices-at s l) ∙ length-map-range_with_len (choice_of m r inner s) 0 (length (choices_at m s))

  -- a choice of the component is one of the model that passes the test
  pub inside_of : (s c : ℕ) → IsInner p s c → IsInside m inner s c
  inside_of s c h =
      let n = count-is in
      let b = state-below p s (state-of p s c h) in
      let l : s < states_of m = omega arith in
      let q = choices-len s l in
      let d = inner-below p s c h in
      let k : c < length (choices_at m s) = omega arith in
      (l, k, sym (ap Choice.inner (choice_of-at dir m r inner s c l k)) ∙ h)

  pub inner_of : (s c : ℕ) → IsInside m inner s c → IsInner p s c
  inner_of s c h = ap Choice.inner (choice_of-at dir m r inner s c h.0 h.1) ∙ h.2

  pub row-is : (s c : ℕ) → IsInside m inner s c → Choice.row (component.choice_at p s c) ≡ row_at m s c
  row-is s c h = ap Choice.row (choice_of-at dir m r inner s c h.0 h.1)

  module _ (member : ℕ → Bool) (known : IsMdp m) (e : IsEndComponent m member inner) where
    state_member : (s : ℕ) → is_state p s ≡ true → member s ≡ true
    state_member s h = let c = inner_of_state p s h in e.from s c.0 (inside_of s c.0 c.1)

    member_state : (s : ℕ) → member s ≡ true → is_state p s ≡ true
    member_state s h = let c = e.choice s h in state-of p s c.0 (inner_of s c.0 c.1)

    pub states-are : (s : ℕ) → is_state p s ≡ member s
    states-are s = same_tests (is_state p s) (member s) (state_member s) (member_state s)

    pub is_component : IsComponent p
    is_component = record {
      rows = λ s c h. let i = inside_of s c h in subst IsDistribution (sym (row-is s c i)) (IsRow.distribution (known.row s c i.0 i.1));
      stays = λ s c h.
          let i = inside_of s c h in
          subst (λ (es : List Entry). All (λ y. is_state p y.target ≡ true) es) (sym (row-is s c i)) (λ k d l. member_state _ (e.stays s c i k d l));
      connected = λ t h.
          let k = e.connected t (state_member t h) in
          record {
            rank = k.0;
            falls = λ s i o.
                let c = k.1 s (state_member s i) o in
                (c.0, inner_of s c.0 c.1, subst (λ (es : List Entry). Any (λ y. k.0 y.target < k.0 s) es) (sym (row-is s c.0 c.1)) c.2);
          };
    }

pub end_component_is : EndComponentIs
end_component_is dir m r member inner known e = (is_component dir m r inner member known e, states-are dir m r inner member known e)
