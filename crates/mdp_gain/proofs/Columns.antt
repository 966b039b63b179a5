-- The two columns of a policy, as the code hands them over and gets them back.
use Rattle.std.proofs.Common.{◌≡◌, ℕ, zero, suc, ◌<◌, Bool, List, [], ◌∷◌, length, map, get_or, Result, Ok, pos, refl, sym, ◌∙◌, ap, ap₂, subst, arith}
use Rattle.std.proofs.{lemmas.List.Elements.{All-nil, All-cons}, lemmas.List.FromFn.{length-map-range_with_len}}
use Rattle.std.specs.{List.{All, range_with_len}, Prelude.{slice_index, slice_index_or}}
use Rattle.mdp_math.specs.Rational.{ℚ, of_int, ◌+ℚ◌, ◌≤ℚ◌}
use Rattle.mdp_spec.specs.Mdp.{Entry, states_of, row_at, value_at}
use Rattle.mdp_elim.specs.{System.{Leaves}, Solve.{written_solution}, Laws.{GivesSolutions}}
use Rattle.mdp_unichain.specs.{Evaluation.{mean}, Chain.{AllLeadTo}, Component.{Component, count, is_state, row_by, reward_by}}
use Rattle.mdp_unichain.specs.Written.{active_of, columns_of, written_columns}
use Rattle.mdp_policy_iteration.specs.Path.{placed}
use Rattle.mdp_unichain.proofs.Exact.{rows-leave, same-solution, steps-least}
use Rattle.mdp_gain.specs.{Code.{component_in, HasEnds}, Policies.{under}, declared.chosen.Chosen.{Chosen}, declared.referred.Referred.{Referred}}
use Rattle.mdp_gain.proofs.Given.{count-is, is-component, row-of-policy}

module _ {V : Type 0} (f : V → List ℚ) where
  pub each_long : (vs : List V) (n : ℕ) → ((k : ℕ) → k < length (map f vs) → length (slice_index_or (map f vs) k []) ≡ n) → All (λ v. length (f v) ≡ n) vs
  each_long [] n h = All-nil (λ v. length (f v) ≡ n)
  each_long (v ∷ vs) n h = All-cons (λ v. length (f v) ≡ n) v vs (h 0 (omega arith)) (each_long vs n (λ k l. h (suc k) (omega arith)))

module _ (r : Referred) where
  abbrev y : Chosen
  y = r.chosen

  abbrev p : Component
  p = component_in y.component

  abbrev policy : List ℕ
  policy = y.policy.now

  abbrev rows : List (List Entry)
  rows = map (λ s. row_at y.component.model.now s (slice_index policy s)) (range_with_len 0 (states_of y.component.model.now))

  pub rows-count : length (map (λ s. row_at r.chosen.component.model.now s (slice_index r.chosen.policy.now s)) (range_with_len 0 (states_of r.chosen.component.model.now)))
      ≡ count (component_in r.chosen.component)
  rows-count = length-map-range_with_len (λ s. row_at y.component.model.now s (slice_index policy s)) 0 (states_of y.component.model.now) ∙ sym (count-is y.component)

  each-side : (k : ℕ) → k < length (columns_of p policy) → length (slice_index_or (columns_of p policy) k []) ≡ length rows
  each-side zero l = length-map-range_with_len (reward_by p policy) 0 (count p) ∙ sym rows-count
  each-side (suc zero) l = length-map-range_with_len (λ s. of_int (pos 1)) 0 (count p) ∙ sym rows-count
  each-side (suc (suc k)) l = absurd (omega (arith, l))

  pub sides_long : {V : Type 0} (f : V → List ℚ) (vs : List V) → map f vs ≡ under r.chosen columns_of
      → All (λ v. length (f v)
      ≡ length (map (λ s. row_at r.chosen.component.model.now s (slice_index r.chosen.policy.now s)) (range_with_len 0 (states_of r.chosen.component.model.now)))) vs
  sides_long f vs e =
      each_long f vs (length rows) (subst (λ (cs : List (List ℚ)). (k : ℕ) → k < length cs → length (slice_index_or cs k []) ≡ length rows) (sym e) each-side)

  module _ (ends : HasEnds r.chosen.component) (leads : AllLeadTo (is_state (component_in r.chosen.component)) (under r.chosen row_by) r.t) where
    module _ (active : List Bool) (e : active ≡ active_of (component_in r.chosen.component) r.t) where
      pub leave : (ranks : List ℕ)
          × Leaves (map (λ s. row_at r.chosen.component.model.now s (slice_index r.chosen.policy.now s)) (range_with_len 0 (states_of r.chosen.component.model.now))) active ranks
      leave =
          subst (λ (a : List Bool). (ranks : List ℕ) × Leaves rows a ranks) (sym e)
          (rows-leave p policy r.t (is-component y.component ends) y.is leads rows rows-count (row-of-policy y))

      pub solution-told : (columns : List (List ℚ)) → columns ≡ under r.chosen columns_of → (found : Result (List (List ℚ)) ℕ)
          → written_solution (map (λ s. row_at r.chosen.component.model.now s (slice_index r.chosen.policy.now s)) (range_with_len 0 (states_of r.chosen.component.model.now))) active columns
          ≡ found → under r.chosen written_columns r.t ≡ placed r.chosen.policy.now found
      solution-told columns f found h =
          ap (placed policy)
          (sym (same-solution p policy r.t (is-component y.component ends) y.is leads rows rows-count (row-of-policy y) (columns_of p policy))
          ∙ ap₂ (λ (a : List Bool) (cs : List (List ℚ)). written_solution rows a cs) (sym e) (sym f) ∙ h)

    pub steps-positive : GivesSolutions → (xs : List (List ℚ)) → under r.chosen written_columns r.t ≡ Ok xs → (steps : List ℚ)
        → steps ≡ slice_index_or xs 1 [] → of_int (pos 1) ≤ℚ of_int (pos 1) +ℚ mean (under r.chosen row_by r.t) (value_at steps)
    steps-positive gives xs h steps e =
        subst (λ (z : List ℚ). of_int (pos 1) ≤ℚ of_int (pos 1) +ℚ mean (row_by p policy r.t) (value_at z)) (sym e)
        (steps-least p policy r.t (is-component y.component ends) y.is leads gives xs h)

pub second_of : {V : Type 0} (f : V → List ℚ) (vs : List V) (d : V) → length vs ≡ 2 → slice_index_or (map f vs) 1 [] ≡ f (get_or vs 1 d)
second_of f [] d h = absurd (omega arith)
second_of f (v ∷ []) d h = absurd (omega arith)
second_of f (v ∷ w ∷ vs) d h = refl
