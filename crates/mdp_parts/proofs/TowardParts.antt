-- The pass toward targets in all end components at once: which states it marks, and what it is where all targets are in one component.
use Rattle.std.proofs.Common.{◌≡◌, ◌↔◌, inl, inr, ℕ, suc, zero, ◌<◌, Bool, true, false, ◌&&◌, ◌==◌, List, map, get_or, sym, ap, ◌∙◌, arith, Option, None}
use Rattle.std.proofs.{lemmas.Bool.{false≢true, cases_Bool, cases_lt, or_cases, and_from, eqb-true}, lemmas.List.{get_or_past}}
use Rattle.std.proofs.lemmas.List.FromFn.{get_or-map-range_with_len, length-map-range_with_len}
use Rattle.std.specs.List.{range_with_len}
use Rattle.mdp_math.proofs.Booleans.{and-false}
use Rattle.mdp_spec.specs.{Mdp.{Mdp, states_of, row_at}, Row.{IsMdp}}
use Rattle.mdp_rows.specs.Preds.{leads_to}
use Rattle.mdp_graph.specs.{Sets.{marked}, Layers.{reached, AreReached}}
use Rattle.mdp_ends.specs.{Ends.{part_of, in_part, has_number, is_inside, stays_with, count_of, AreEnds}, Quotient.{ShareAPart}}
use Rattle.mdp_ends.specs.Toward.{inner_step, target_in, IsToward}
use Rattle.mdp_ends.proofs.{Walking.{stays-at, step-has, target-below}, Numbering.{case-number, numbered-below}}
use Rattle.mdp_ends.proofs.{RoundLaws.{has-number, number-has, inside-stays}, TowardLaws.{wider, steps_rise, toward_marks}}
use Rattle.mdp_parts.specs.TowardTargets.{IsTowardTargets, HasTarget}

module _ (m : Mdp) (ok : IsMdp m) (ends : List (Option ℕ)) (are : AreEnds m ends) where
  -- an inner choice leads to states of the same component
  pub inner_shares : (s c t : ℕ) → is_inside m ends s c ≡ true → leads_to t (row_at m s c) ≡ true → ShareAPart ends s t
  inner_shares s c t e to = elim (case-number (part_of ends s)) [
    | inl none ↦ absurd (false≢true (sym (ap (λ o. stays_with ends o (row_at m s c)) none) ∙ e))
    | inr w ↦ (w.0, w.1, number-has w.0 (part_of ends t) (stays-at (in_part ends w.0) (row_at m s c) t (inside-stays m ends s c w.0 w.1 e) to))
  ]

  module _ (target : List Bool) where
    -- a state with a step to one that has a target has it too
    shared : (s t : ℕ) → t < states_of m → ShareAPart ends s t → HasTarget m ends target t → HasTarget m ends target s
    shared s t h w (inl it) = inr (t, h, w, it)
    shared s t h w (inr v) = inr (v.0, v.1, (w.0, w.1, v.2.2 ∙ sym v.2.1 ∙ w.2), v.3)

    reached_has : (k s : ℕ) → s < states_of m → reached (inner_step m ends) (marked target) k s ≡ true → HasTarget m ends target s
    unfolding reached
    reached_has zero s h e = inl e
    reached_has (suc k) s h e = elim (or_cases (reached (inner_step m ends) (marked target) k s) (inner_step m ends (reached (inner_step m ends) (marked target) k) s) e) [
      | inl before ↦ reached_has k s h before
      | inr stepped ↦
          (let w = step-has m (is_inside m ends) (reached (inner_step m ends) (marked target) k) s stepped in
          let b = target-below m ok s w.0 w.1 h w.2 w.4 in shared s w.1 b (inner_shares s w.0 w.1 w.3 w.4) (reached_has k w.1 b w.5))
    ]

    has_reached : (s : ℕ) → s < states_of m → HasTarget m ends target s → (k : ℕ) × (reached (inner_step m ends) (marked target) k s ≡ true)
    unfolding reached
    has_reached s h (inl it) = (0, it)
    has_reached s h (inr v) =
        let i : ℕ = v.2.0 in
        let below = numbered-below 0 ends s i are.numbered v.2.1 in
        let part = are.maximal i below in
        let walk = part.is_end.joined s v.0 h v.1 (has-number i (part_of ends s) v.2.1) (has-number i (part_of ends v.0) v.2.2) in (
          walk.0,
          wider (inner_step m ends) (steps_rise m ok ends are i below target) (λ y. y == v.0) (marked target) (λ y e. ap (marked target) (eqb-true y v.0 e) ∙ v.3) walk.0 s walk.1,
        )

    pub marks_targets : (marks : List Bool) → AreReached (inner_step m ends) (marked target) (states_of m) marks → (s : ℕ) → s < states_of m → (marked marks s ≡ true) ↔ HasTarget m ends target s
    marks_targets marks a s h = let w = a.marks_reached s h in ((λ e. (let v = w.0 e in reached_has v.0 s h v.1)), (λ t. w.1 (has_reached s h t)))

-- ---- the targets of one component alone

module _ (m : Mdp) (ok : IsMdp m) (ends : List (Option ℕ)) (are : AreEnds m ends) (i : ℕ) (below : i < count_of ends)
    (target : List Bool) (some : (s : ℕ) × (s < states_of m) × (in_part ends i s ≡ true) × (marked target s ≡ true))
    (first marks : List Bool) (ranks choices : List ℕ) (is : first ≡ map (target_in ends i target) (range_with_len 0 (states_of m))) (pass : IsTowardTargets m ends first marks ranks choices) where
  first-at : (s : ℕ) → marked first s ≡ target_in ends i target s
  first-at s = ap (λ (xs : List Bool). get_or xs s false) is ∙ elim (cases_lt s (states_of m)) as (λ _. get_or (map (target_in ends i target) (range_with_len 0 (states_of m))) s false ≡ target_in ends i target s) [
    | inl h ↦ get_or-map-range_with_len (target_in ends i target) 0 (states_of m) s s false h (omega arith)
    | inr past ↦
        (let n = length-map-range_with_len (target_in ends i target) 0 (states_of m) in
        let none : part_of ends s ≡ None = get_or_past ends s None (omega (arith, past, are.count)) in
        get_or_past (map (target_in ends i target) (range_with_len 0 (states_of m))) s false (omega (arith, past, n)) ∙ sym (ap (λ o. has_number i o && marked target s) none))
  ]

  to_target : (k s : ℕ) → reached (inner_step m ends) (marked first) k s ≡ true → reached (inner_step m ends) (target_in ends i target) k s ≡ true
  to_target = wider (inner_step m ends) (steps_rise m ok ends are i below target) (marked first) (target_in ends i target) (λ s e. sym (first-at s) ∙ e)

  from_target : (k s : ℕ) → reached (inner_step m ends) (target_in ends i target) k s ≡ true → reached (inner_step m ends) (marked first) k s ≡ true
  from_target = wider (inner_step m ends) (steps_rise m ok ends are i below target) (target_in ends i target) (marked first) (λ s e. first-at s ∙ e)

  reaches_it : AreReached (inner_step m ends) (target_in ends i target) (states_of m) marks
  reaches_it = record {
    count = pass.reaches.count;
    marks_reached = λ s h. (let w = pass.reaches.marks_reached s h in ((λ e. (let v = w.0 e in (v.0, to_target v.0 s v.1))), (λ v. w.1 (v.0, from_target v.0 s v.1))));
  }

  pub part_marked : (s : ℕ) → s < states_of m → marked marks s ≡ in_part ends i s
  part_marked = toward_marks m ok ends are i below target marks reaches_it some.0 some.1 some.2 some.3

  pub is_toward : IsToward m ends i target marks ranks choices
  is_toward = record {
    reaches = reaches_it;
    ranked = record {
      count = pass.ranked.count;
      reaches = λ s h e. to_target (get_or ranks s 0) s (pass.ranked.reaches s h e);
      least = λ s k h e. pass.ranked.least s k h (from_target k s e);
      zero = pass.ranked.zero;
    };
    chosen = record {
      count = pass.chosen.count;
      in_range = pass.chosen.in_range;
      passes = λ s h e not_target. pass.chosen.passes s h e (first-at s ∙ ap (λ b. in_part ends i s && b) not_target ∙ and-false (in_part ends i s));
      least = pass.chosen.least;
      zero = λ s h why. (elim (cases_Bool (marked marks s)) [
        | inr out ↦ pass.chosen.zero s h (inl out)
        | inl it ↦ (elim why [
          | inl out ↦ pass.chosen.zero s h (inl out)
          | inr is_target ↦ pass.chosen.zero s h (inr (first-at s ∙ and_from (in_part ends i s) (marked target s) (sym (part_marked s h) ∙ it) is_target))
        ])
      ]);
    };
  }
