-- A pass toward states of a part marks the part.
use Rattle.std.proofs.Common.{◌≡◌, inl, inr, ℕ, suc, zero, ◌<◌, Bool, true, not, ◌||◌, ◌==◌, List, length, get_or, sym, ap, ◌∙◌, Option}
use Rattle.std.proofs.lemmas.Bool.{false≢true, cases_Bool, cases_lt, or_cases, or_left, or_right, and_parts, and_from, eqb-true, not_from_true}
use Rattle.mdp_spec.specs.{Mdp.{Mdp, states_of, row_at}, Row.{IsMdp}}
use Rattle.mdp_graph.specs.{Sets.{marked}, Layers.{reached, AreReached, AreLeastRanks}}
use Rattle.mdp_ends.specs.{Walks.{chosen_step}, Ends.{part_of, in_part, is_inside, stays_with, count_of, AreEnds}, Toward.{inner_step, target_in}}
use Rattle.mdp_ends.proofs.{Walking.{stays-at, step-has, step-by}, Numbering.{case-number}, RoundLaws.{has-number, number-has, inside-stays}}
use Rattle.mdp_ends.proofs.{Saturating.{saturated}, Closing.{chosen-rises}, ByTest.{each_below, agree, each-at, agreed}}
use Rattle.mdp_rows.specs.Preds.{leads_to}

-- what is reached from one state of the first set is reached from the set
pub wider : (step : (ℕ → Bool) → ℕ → Bool) (rises : (p q : ℕ → Bool) → ((t : ℕ) → p t ≡ true → q t ≡ true) → (s : ℕ)
    → step p s ≡ true → step q s ≡ true) (first second : ℕ → Bool) → ((s : ℕ) → first s ≡ true → second s ≡ true)
    → (k s : ℕ) → reached step first k s ≡ true → reached step second k s ≡ true
unfolding reached
wider step rises first second more zero s e = more s e
wider step rises first second more (suc k) s e = elim (or_cases (reached step first k s) (step (reached step first k) s) e) [
  | inl before ↦ or_left (reached step second k s) (step (reached step second k) s) (wider step rises first second more k s before)
  | inr stepped ↦ or_right (reached step second k s) (step (reached step second k) s) (rises (reached step first k) (reached step second k) (wider step rises first second more k) s stepped)
]

module _ (m : Mdp) (ok : IsMdp m) (ends : List (Option ℕ)) (are : AreEnds m ends) (i : ℕ) (below : i < count_of ends) (target : List Bool) where
  pub steps_rise : (p q : ℕ → Bool) → ((t : ℕ) → p t ≡ true → q t ≡ true) → (s : ℕ) → inner_step m ends p s ≡ true → inner_step m ends q s ≡ true
  steps_rise p q more s e = let w = step-has m (is_inside m ends) p s e in step-by m (is_inside m ends) q s w.0 w.1 w.2 w.3 w.4 (more w.1 w.5)

  -- an inner choice into a part is one of the part
  inner_into : (s c t : ℕ) → is_inside m ends s c ≡ true → leads_to t (row_at m s c) ≡ true → in_part ends i t ≡ true → in_part ends i s ≡ true
  inner_into s c t e to is = elim (case-number (part_of ends s)) [
    | inl none ↦ absurd (false≢true (sym (ap (λ o. stays_with ends o (row_at m s c)) none) ∙ e))
    | inr w ↦
        (let own = number-has w.0 (part_of ends t) (stays-at (in_part ends w.0) (row_at m s c) t (inside-stays m ends s c w.0 w.1 e) to) in
        has-number i (part_of ends s) (w.1 ∙ sym own ∙ number-has i (part_of ends t) is))
  ]

  reached_in : (k s : ℕ) → reached (inner_step m ends) (target_in ends i target) k s ≡ true → in_part ends i s ≡ true
  unfolding reached
  reached_in zero s e = (and_parts (in_part ends i s) (marked target s) e).0
  reached_in (suc k) s e = elim (or_cases (reached (inner_step m ends) (target_in ends i target) k s) (inner_step m ends (reached (inner_step m ends) (target_in ends i target) k) s) e) [
    | inl before ↦ reached_in k s before
    | inr stepped ↦ (let w = step-has m (is_inside m ends) (reached (inner_step m ends) (target_in ends i target) k) s stepped in inner_into s w.0 w.1 w.3 w.4 (reached_in k w.1 w.5))
  ]

  part_reached : (x : ℕ) → x < states_of m → in_part ends i x ≡ true → marked target x ≡ true → (s : ℕ)
      → s < states_of m → in_part ends i s ≡ true → (k : ℕ) × (reached (inner_step m ends) (target_in ends i target) k s ≡ true)
  part_reached x hx ix tx s h is =
      let part = are.maximal i below in
      let walk = part.is_end.joined s x h hx is ix in (
        walk.0,
        wider (inner_step m ends) steps_rise (λ y. y == x) (target_in ends i target)
            (λ y e. (let same = eqb-true y x e in ap (target_in ends i target) same ∙ and_from (in_part ends i x) (marked target x) ix tx)) walk.0 s walk.1,
      )

  -- with a target in the part exactly its states are marked
  pub toward_marks : (marks : List Bool) → AreReached (inner_step m ends) (target_in ends i target) (states_of m) marks → (x : ℕ) → x < states_of m → in_part ends i x ≡ true → marked target x ≡ true
      → (s : ℕ) → s < states_of m → marked marks s ≡ in_part ends i s
  toward_marks marks a x hx ix tx s h =
      let w = a.marks_reached s h in
      elim (cases_Bool (in_part ends i s)) as (λ _. marked marks s ≡ in_part ends i s) [
        | inl is ↦ w.1 (part_reached x hx ix tx s h is) ∙ sym is
        | inr out ↦ (elim (cases_Bool (marked marks s)) as (λ _. marked marks s ≡ in_part ends i s) [
          | inr no_mark ↦ no_mark ∙ sym out
          | inl it ↦ (let v = w.0 it in absurd (false≢true (sym out ∙ reached_in v.0 s v.1)))
        ])
      ]

-- ---- reached states and ranks, tested

module _ (m : Mdp) (ok : IsMdp m) (chosen : ℕ → ℕ → Bool) (first : ℕ → Bool) where
  pub reached_by_test : (marks : List Bool) → length marks ≡ states_of m
      → each_below (λ s. agree (marked marks s) (reached (chosen_step m chosen) first (states_of m) s)) (states_of m) ≡ true → AreReached (chosen_step m chosen) first (states_of m) marks
  reached_by_test marks count e = record {
    count = count;
    marks_reached = λ s h.
        (let a = agreed (marked marks s) (reached (chosen_step m chosen) first (states_of m) s) (each-at (λ s. agree (marked marks s) (reached (chosen_step m chosen) first (states_of m) s)) (states_of m) e s h) in (
          (λ q. (states_of m, sym a ∙ q)),
          (λ w. a ∙ saturated (chosen_step m chosen) first (states_of m) (chosen-rises m ok chosen) w.0 s h w.1),
        ));
  }

  -- ranks that are reached, and before which nothing is
  pub ranks_by_test : (marks : List Bool) (ranks : List ℕ) → length ranks ≡ states_of m
      → each_below (λ s. not (marked marks s) || reached (chosen_step m chosen) first (get_or ranks s 0) s) (states_of m) ≡ true
      → each_below (λ s. each_below (λ k. not (reached (chosen_step m chosen) first k s)) (get_or ranks s 0)) (states_of m) ≡ true
      → each_below (λ s. marked marks s || (get_or ranks s 0 == 0)) (states_of m) ≡ true
      → AreLeastRanks (chosen_step m chosen) first (states_of m) marks ranks
  ranks_by_test marks ranks count e f g = record {
    count = count;
    reaches = λ s h it. (elim (or_cases (not (marked marks s)) (reached (chosen_step m chosen) first (get_or ranks s 0) s)
        (each-at (λ s. not (marked marks s) || reached (chosen_step m chosen) first (get_or ranks s 0) s) (states_of m) e s h)) [
          | inl out ↦ absurd (false≢true (sym (not_from_true (marked marks s) it) ∙ out))
          | inr is ↦ is
        ]);
    least = λ s k h is. (elim (cases_lt k (get_or ranks s 0)) [
      | inr le ↦ le
      | inl less ↦
          absurd
          (false≢true
          (sym (not_from_true (reached (chosen_step m chosen) first k s) is)
          ∙ each-at (λ k. not (reached (chosen_step m chosen) first k s)) (get_or ranks s 0)
          (each-at (λ s. each_below (λ k. not (reached (chosen_step m chosen) first k s)) (get_or ranks s 0)) (states_of m) f s h) k less))
    ]);
    zero = λ s h out. (elim (or_cases (marked marks s) (get_or ranks s 0 == 0) (each-at (λ s. marked marks s || (get_or ranks s 0 == 0)) (states_of m) g s h)) [
      | inl it ↦ absurd (false≢true (sym out ∙ it))
      | inr is ↦ eqb-true (get_or ranks s 0) 0 is
    ]);
  }
