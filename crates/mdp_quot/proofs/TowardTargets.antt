-- Within an end component with one target alone, the pass toward targets has the ranks and choices that are computed for this state.
use Rattle.std.proofs.Common.{◌≡◌, inl, inr, ℕ, zero, suc, ◌<◌, Bool, true, ◌==◌, List, get_or, ap, ◌∙◌, arith, Option}
use Rattle.std.proofs.lemmas.Bool.{or_cases, or_left, or_right, eqb-true, eq-eqb}
use Rattle.mdp_spec.specs.{Mdp.{Mdp, states_of, row_at}, Row.{IsMdp}}
use Rattle.mdp_graph.specs.{Sets.{marked}, Layers.{reached, AreLeastRanks}}
use Rattle.mdp_ends.specs.{Walks.{comes_to}, Ends.{part_of, in_part, is_inside, count_of, AreEnds}, Toward.{inner_step, rank_to, choice_to}}
use Rattle.mdp_ends.proofs.{Walking.{stays-at, step-has, step-by}, RoundLaws.{number-has, inside-stays}, Closing.{reaches_by}, TowardLaws.{wider, steps_rise}}
use Rattle.mdp_ends.proofs.{Firsts.{first-least, first-found}, TowardOne.{one_choice}}
use Rattle.mdp_parts.specs.TowardTargets.{IsTowardTargets}

module _ (m : Mdp) (ok : IsMdp m) (ends : List (Option ℕ)) (are : AreEnds m ends) (target marks : List Bool) (ranks choices : List ℕ) (pass : IsTowardTargets m ends target marks ranks choices) (i : ℕ)
    (below : i < count_of ends) (x : ℕ) (hx : x < states_of m) (x_in : in_part ends i x ≡ true) (x_is : marked target x ≡ true)
    (alone : (s : ℕ) → in_part ends i s ≡ true → marked target s ≡ true → s ≡ x) where
  to_x : (k s : ℕ) → in_part ends i s ≡ true → reached (inner_step m ends) (marked target) k s ≡ true → comes_to m (is_inside m ends) x k s ≡ true
  unfolding reached
  to_x zero s is e = eq-eqb s x (alone s is e)
  to_x (suc k) s is e = elim (or_cases (reached (inner_step m ends) (marked target) k s) (inner_step m ends (reached (inner_step m ends) (marked target) k) s) e) [
    | inl before ↦ or_left (comes_to m (is_inside m ends) x k s) (inner_step m ends (comes_to m (is_inside m ends) x k) s) (to_x k s is before)
    | inr stepped ↦
        (let w = step-has m (is_inside m ends) (reached (inner_step m ends) (marked target) k) s stepped in
        let there = stays-at (in_part ends i) (row_at m s w.0) w.1 (inside-stays m ends s w.0 i (number-has i (part_of ends s) is) w.3) w.4 in
        or_right (comes_to m (is_inside m ends) x k s) (inner_step m ends (comes_to m (is_inside m ends) x k) s)
        (step-by m (is_inside m ends) (comes_to m (is_inside m ends) x k) s w.0 w.1 w.2 w.3 w.4 (to_x k w.1 there w.5)))
  ]

  from_x : (k s : ℕ) → comes_to m (is_inside m ends) x k s ≡ true → reached (inner_step m ends) (marked target) k s ≡ true
  from_x = wider (inner_step m ends) (steps_rise m ok ends are i below target) (λ s. s == x) (marked target) (λ s e. ap (marked target) (eqb-true s x e) ∙ x_is)

  walk_to_x : (s : ℕ) → s < states_of m → in_part ends i s ≡ true → (k : ℕ) × (comes_to m (is_inside m ends) x k s ≡ true)
  walk_to_x s h is = let part = are.maximal i below in part.is_end.joined s x h hx is x_in

  marked_in : (s : ℕ) → s < states_of m → in_part ends i s ≡ true → marked marks s ≡ true
  marked_in s h is = let walk = walk_to_x s h is in let w = pass.reaches.marks_reached s h in w.1 (walk.0, from_x walk.0 s walk.1)

  rank_is : (s : ℕ) → s < states_of m → in_part ends i s ≡ true → get_or ranks s 0 ≡ rank_to m ends x s
  rank_is s h is =
      let n : ℕ = states_of m in
      let test : ℕ → Bool = λ k. comes_to m (is_inside m ends) x k s in
      let w = first-found test (suc n) n (omega arith) (reaches_by m ok (is_inside m ends) s x h (walk_to_x s h is)) in
      let low = AreLeastRanks.least pass.ranked s (rank_to m ends x s) h (from_x (rank_to m ends x s) s w.1) in
      let reached_it = to_x (get_or ranks s 0) s is (AreLeastRanks.reaches pass.ranked s h (marked_in s h is)) in
      let high = first-least test (suc n) (get_or ranks s 0) (omega (arith, low, w.0)) reached_it in
      omega (arith, low, high)

  pub targets_choice : (s : ℕ) → s < states_of m → in_part ends i s ≡ true → (s ≡ x → ⊥) → get_or choices s 0 ≡ choice_to m ends x s
  targets_choice = one_choice m ok ends i target marks ranks choices pass.chosen x marked_in rank_is alone
