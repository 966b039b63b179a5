-- The rounds of the states outside the greatest sure set exist.
use Rattle.std.proofs.Common.{◌≡◌, ℕ, zero, suc, ◌+◌, ◌-◌, ◌<◌, ◌↔◌, inl, inr, Bool, true, false, not}
use Rattle.std.proofs.Common.{◌||◌, ◌==◌, nat_lt, lt-ltb, List, map, is_some, refl, sym, ◌∙◌, ap, arith, zero-add}
use Rattle.std.proofs.{lemmas.Bool.{false≢true, cases_Bool, cases_lt, ne_eqb}, lemmas.List.FromFn.{get_or-map-range_with_len, length-map-range_with_len}}
use Rattle.std.specs.List.{range_with_len}
use Rattle.mdp_math.proofs.Booleans.{not-not, not_true, same_truth}
use Rattle.mdp_spec.specs.{Mdp.{Mdp, states_of}, Row.{IsMdp}}
use Rattle.mdp_graph.specs.{Sets.{marked}, Layers.{rank_at}, Rounds.{left_after, CanStay, AreRounds}, Sure.{inside_step}}
use Rattle.mdp_graph.proofs.{LeftAfter.{stays-alike}, Passes.{has_rank}, Reached.{rank_of, at_most-some}, StepsInside.{reached-more}, Rising.{inside_rises}}
use Rattle.mdp_graph.proofs.Settling.{NoneOrLeast, least_below, ranks_exist, settles}
use Rattle.mdp_reward.proofs.Rows.{lt_of_test}

not_false : (b : Bool) → not b ≡ false → b ≡ true
not_false b e = sym (not-not b) ∙ ap not e

abbrev round_by : (test : ℕ → Bool) (n : ℕ) → NoneOrLeast test n → ℕ
round_by test n (inl none) = 0
round_by test n (inr w) = w.0

module _ (m : Mdp) (ok : IsMdp m) (goals : List Bool) where
  -- ---- whether a goal can be reached by choices that stay in a set

  can_stay : (ℕ → Bool) → ℕ → Bool
  can_stay set s = let w = ranks_exist (inside_step m set) (marked goals) (states_of m) (inside_rises m ok set) in is_some (rank_at w.0 s)

  can-stay : (set : ℕ → Bool) (s : ℕ) → s < states_of m → (can_stay set s ≡ true) ↔ CanStay m goals set s
  unfolding can_stay
  can-stay set s h =
      let w = ranks_exist (inside_step m set) (marked goals) (states_of m) (inside_rises m ok set) in (
        (λ e. (let r = has_rank (rank_at w.0 s) e in (r.0, sym (w.1.least r.0 s h) ∙ at_most-some r.0 r.0 (rank_at w.0 s) r.1 (omega arith)))),
        (λ k. (let r = rank_of k.0 (rank_at w.0 s) (w.1.least k.0 s h ∙ k.1) in ap is_some r.1)),
      )

  stay-more : (p q : ℕ → Bool) → ((t : ℕ) → t < states_of m → p t ≡ true → q t ≡ true) → (s : ℕ) → s < states_of m → can_stay p s ≡ true → can_stay q s ≡ true
  stay-more p q wider s h e = let k = (can-stay p s h).0 e in (can-stay q s h).1 (k.0, reached-more m ok p q (marked goals) wider k.0 s h k.1)

  -- ---- the states that are left after rounds

  left : ℕ → ℕ → Bool
  left zero s = true
  left (suc i) s = can_stay (left i) s

  left-falls : (i s : ℕ) → s < states_of m → left (suc i) s ≡ true → left i s ≡ true
  unfolding left
  left-falls zero s h e = refl
  left-falls (suc i) s h e = stay-more (left (suc i)) (left i) (left-falls i) s h e

  left-before : (d i s : ℕ) → s < states_of m → left (d + i) s ≡ true → left i s ≡ true
  left-before zero i s h e = let z : 0 + i ≡ i = omega arith in sym (ap (λ k. left k s) z) ∙ e
  left-before (suc d) i s h e = let z : suc d + i ≡ suc (d + i) = omega arith in left-before d i s h (left-falls (d + i) s h (sym (ap (λ k. left k s) z) ∙ e))

  removed-grows : (k s : ℕ) → s < states_of m → not (left k s) ≡ true → not (left (suc k) s) ≡ true
  removed-grows k s h e = elim (cases_Bool (left (suc k) s)) [
    | inl is ↦ absurd (false≢true (sym (not_true (left k s) e) ∙ left-falls k s h is))
    | inr out ↦ ap not out
  ]

  module _ (most : ℕ) (settled : (s : ℕ) → s < states_of m → not (left (suc most) s) ≡ true → not (left most s) ≡ true) where
    last_left : (s : ℕ) → s < states_of m → left most s ≡ true → left (suc most) s ≡ true
    last_left s h e = elim (cases_Bool (left (suc most) s)) [
      | inl is ↦ is
      | inr out ↦ absurd (false≢true (sym (not_true (left most s) (settled s h (ap not out))) ∙ e))
    ]

    left-on : (d s : ℕ) → s < states_of m → left most s ≡ true → left (d + most) s ≡ true
    unfolding left
    left-on zero s h e = let z : 0 + most ≡ most = omega arith in ap (λ k. left k s) z ∙ e
    left-on (suc d) s h e =
        let z : suc d + most ≡ suc (d + most) = omega arith in
        ap (λ k. left k s) z ∙ stay-more (left most) (left (d + most)) (left-on d) s h (last_left s h e)

    abbrev removed : ℕ → ℕ → Bool
    removed s i = not (left i s)

    zero_left : (s i : ℕ) → i ≡ 0 → left i s ≡ true
    unfolding left
    zero_left s i e = ap (λ k. left k s) e

    left-is : (i s : ℕ) (found : NoneOrLeast (removed s) (suc most)) → s < states_of m
        → ((round_by (removed s) (suc most) found == 0) || nat_lt i (round_by (removed s) (suc most) found)) ≡ left i s
    left-is i s (inl none) h =
        let z : i + most ≡ most + i = omega arith in
        sym (left-before most i s h (sym (ap (λ k. left k s) z) ∙ left-on i s h (not_false (left most s) (none most (omega arith)))))
    left-is i s (inr w) h =
        let out : left w.0 s ≡ false = not_true (left w.0 s) w.2 in
        ap (λ b. b || nat_lt i w.0) (ne_eqb w.0 0 (λ e. false≢true (sym out ∙ zero_left s w.0 e)))
        ∙ same_truth (nat_lt i w.0) (left i s)
        (λ e. not_false (left i s) (w.3 i (lt_of_test i w.0 e)))
        (λ e. elim (cases_lt i w.0) [
          | inl less ↦ lt-ltb i w.0 less
          | inr l ↦ absurd (false≢true (let z : i - w.0 + w.0 ≡ i = omega (arith, l) in sym out ∙ left-before (i - w.0) w.0 s h (ap (λ k. left k s) z ∙ e)))
        ])

    round : ℕ → ℕ
    round s = round_by (removed s) (suc most) (least_below (removed s) (suc most))

    abbrev rounds : List ℕ
    rounds = map round (range_with_len 0 (states_of m))

    after : (i s : ℕ) → s < states_of m → left_after rounds i s ≡ left i s
    unfolding round
    after i s h =
        ap (λ (r : ℕ). (r == 0) || nat_lt i r) (get_or-map-range_with_len round 0 (states_of m) s s 0 h (zero-add s)) ∙ left-is i s (least_below (removed s) (suc most)) h

    are_rounds : AreRounds m goals rounds
    unfolding left
    are_rounds = record {
      count = length-map-range_with_len round 0 (states_of m);
      next = λ i s h.
          let z : i + 1 ≡ suc i = omega arith in
          let same : left_after rounds (i + 1) s ≡ left (suc i) s = ap (λ k. left_after rounds k s) z ∙ after (suc i) s h in (
            (λ e. stays-alike m ok goals (left i) (left_after rounds i) (λ t l. sym (after i t l)) s h ((can-stay (left i) s h).0 (sym same ∙ e))),
            (λ e. same ∙ (can-stay (left i) s h).1 (stays-alike m ok goals (left_after rounds i) (left i) (λ t l. after i t l) s h e)),
          );
    }

  pub rounds_exist : (rounds : List ℕ) × AreRounds m goals rounds
  rounds_exist = let w = settles (λ i s. not (left i s)) (states_of m) removed-grows in (rounds w.0 w.1, are_rounds w.0 w.1)
