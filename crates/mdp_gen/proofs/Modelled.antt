-- A layered model keeps what each model keeps.
use Rattle.std.proofs.Common.{◌≡◌, ℕ, zero, suc, ◌+◌, ◌*◌, ◌≤◌, ◌<◌, Bool, true, false, ◌&&◌, cond, eqb}
use Rattle.std.proofs.Common.{List, [], ◌∷◌, ◌++◌, length, map, codes, refl, sym, ap, subst, ◌∙◌, arith, sum_by, length-append}
use Rattle.std.proofs.{lemmas.Bool.Decides.{nat_tests}, lemmas.List.Elements.{All-from_recursion, All-get_or}, lemmas.List.FromFn.{length-map-range_with_len}}
use Rattle.std.proofs.lemmas.List.Sums.{sum_by-cons}
use Rattle.std.specs.List.{All, AllByRecursion, range_with_len}
use Rattle.mdp_spec.specs.{Mdp.{Choice, State, no_state, no_choice, states_of}, Row.{IsMdp}}
use Rattle.mdp_rows.specs.{Name.{IsName, IsRewardName, AreRewardNames}, Limits.{known_after, all_below, in_order_of_sight, IsModel}}
use Rattle.mdp_rows.specs.Sound.{IsClosedState, choice_count, entry_count}
use Rattle.mdp_gen.specs.{Draws.{draw}, Layered.{IsShape, goal, failing, state_behind, layer_states, last_states, layered_model}}
use Rattle.mdp_gen.proofs.Rows.{state-closed, loop-closed, no-labels, goal-labels, state-entries, loop-entries}

module _ (number layers width : ℕ) where
  abbrev state : ℕ → State
  state s = state_behind layers width s (draw number (4 * s))

  -- the states from s on, and those behind the layers
  abbrev from : ℕ → ℕ → List State
  from s n = map state (range_with_len s n) ++ last_states layers width

  closed-from : (s n : ℕ) → IsShape layers width → AllByRecursion (IsClosedState (layers * width + 2) 1) (from s n)
  closed-from s zero shape =
      (loop-closed (layers * width + 2) (goal layers width) (1 ∷ []) goal-labels (omega arith), (loop-closed (layers * width + 2) (failing layers width) [] no-labels (omega arith), tt))
  closed-from s (suc n) shape = (state-closed layers width s (draw number (4 * s)) shape, closed-from (s + 1) n shape)

  choices-from : (s n : ℕ) → choice_count (from s n) ≡ 2 * n + 2
  choices-from s zero = refl
  choices-from s (suc n) =
      let e : choice_count (from s (suc n)) ≡ 2 + choice_count (from (s + 1) n) = sum_by-cons (λ (x : State). length x.choices) (state s) (from (s + 1) n) in
      let h = choices-from (s + 1) n in
      omega (arith, e, h)

  entries-from : (s n : ℕ) → entry_count (from s n) ≤ 4 * n + 4
  entries-from s zero =
      let a = loop-entries (goal layers width) (1 ∷ []) in
      let b = loop-entries (failing layers width) [] in
      omega (arith, a, b)
  entries-from s (suc n) =
      let e : entry_count (from s (suc n)) ≡ sum_by (λ (c : Choice). length c.row) (State.choices (state s)) + entry_count (from (s + 1) n) =
      sum_by-cons (λ (x : State). sum_by (λ (c : Choice). length c.row) x.choices) (state s) (from (s + 1) n) in
      let g = state-entries layers width s (draw number (4 * s)) in
      let h = entries-from (s + 1) n in
      omega (arith, e, g, h)

  -- behind state 0, `init` is known, and the next label is that of the goal
  sight-from : (s n : ℕ) → 0 < s → in_order_of_sight 1 (from s n) 2 ≡ true
  sight-from s zero h = refl
  sight-from s (suc n) h =
      let e : eqb s 0 ≡ false = grind (arith, nat_tests) in
      ap (λ (b : Bool). all_below (known_after 1 (cond b (0 ∷ []) [])) (cond b (0 ∷ []) []) && in_order_of_sight (known_after 1 (cond b (0 ∷ []) [])) (from (s + 1) n) 2) e
      ∙ sight-from (s + 1) n (omega arith)

  sight-all : (n : ℕ) → 0 < n → in_order_of_sight 0 (from 0 n) 2 ≡ true
  sight-all zero h = absurd (omega arith)
  sight-all (suc n) h = sight-from (0 + 1) n (omega arith)

  pub length-layered : states_of (layered_model number layers width) ≡ layers * width + 2
  length-layered = length-append (layer_states number layers width) (last_states layers width) ∙ ap (λ (n : ℕ). n + 2) (length-map-range_with_len state 0 (layers * width))

  some-states : IsShape layers width → 0 < layers * width
  some-states shape = let a = shape.some_layers in let b = shape.some_width in grind arith

  names-good : AreRewardNames (codes "-" ∷ [])
  names-good = record { some = omega arith; few = omega arith; each = All-from_recursion IsRewardName (codes "-" ∷ []) (refl, tt); different = refl; first = refl }

  all-closed : IsShape layers width → All (IsClosedState (states_of (layered_model number layers width)) 1) (layered_model number layers width).states
  all-closed shape =
      subst (λ (k : ℕ). All (IsClosedState k 1) (from 0 (layers * width))) (sym length-layered)
      (All-from_recursion (IsClosedState (layers * width + 2) 1) (from 0 (layers * width)) (closed-from 0 (layers * width) shape))

  pub layered-mdp : IsShape layers width → IsMdp (layered_model number layers width)
  layered-mdp shape =
      let m = layered_model number layers width in
      let n = length-layered in
      let few = shape.few_states in
      record {
        some = omega (arith, n);
        few = omega (arith, n, few);
        choice = λ s h. IsClosedState.some (All-get_or (IsClosedState (states_of m) 1) m.states s no_state h (all-closed shape));
        row = λ s c h l. IsClosedState.rows (All-get_or (IsClosedState (states_of m) 1) m.states s no_state h (all-closed shape)) c no_choice l;
      }

  pub layered-choices : choice_count (layered_model number layers width).states ≡ 2 * (layers * width) + 2
  layered-choices = choices-from 0 (layers * width)

  pub layered-model : IsShape layers width → IsModel (layered_model number layers width)
  layered-model shape =
      let all = all-closed shape in
      let few = shape.few_states in
      record {
        mdp = layered-mdp shape;
        names = names-good;
        labels = All-from_recursion IsName (codes "init" ∷ codes "goal" ∷ []) (refl, (refl, tt));
        different = refl;
        few_labels = omega arith;
        sight = sight-all (layers * width) (some-states shape);
        states = λ k d l. IsClosedState.within (all k d l);
        few_choices = let h = layered-choices in omega (arith, h, few);
        few_entries = let h = entries-from 0 (layers * width) in omega (arith, h, few);
      }
