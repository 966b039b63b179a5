-- The lifted policy reaches the gain, and with its own bias the gain and the bias.
use Rattle.std.proofs.Common.{◌≡◌, ◌⊎◌, inl, inr, ℕ, suc, ◌<◌, true, false, ◌==◌, List, [], ◌∷◌, length, get_or, refl, sym, ap, ◌∙◌, subst, arith, Option, pos}
use Rattle.std.proofs.{lemmas.Bool.{cases_Bool, eqb-true}, lemmas.List.FromFn.{get_or-map-range_with_len}}
use Rattle.mdp_math.specs.Rational.{ℚ, ◌+ℚ◌, ◌-ℚ◌}
use Rattle.mdp_math.proofs.{Kernel.{weigh-same}, Linear.{combine, equal}, Ring.{◌⊕◌, ⊖, lit}}
use Rattle.mdp_spec.specs.{Mdp.{Entry, Mdp, states_of, choices_at, row_at}, Row.{IsMdp}}
use Rattle.mdp_rows.specs.{declared.dir.Dir.{Dir}, declared.preds.Pred.{Pred}}
use Rattle.mdp_ends.specs.{Ends.{part_of, in_part, is_inside, AreEnds}, Quotient.{AreNodes, nodes_in, node_row}, Selection.{exit_row}}
use Rattle.mdp_ends.specs.{Toward.{IsOuter, lifted_choice, lifted}, Join.{over, IsReachedBy}}
use Rattle.mdp_ends.proofs.{Walking.{stays-at}, RoundLaws.{number-has, inside-stays}, Leaving.{node_of-below, same_node}}
use Rattle.mdp_ends.proofs.{Joining.{leads-to_entry, over-node_row, over-inside, part_inside}, Lifting.{less_one, exit_of, goes-on, lifted_falls}}

module _ (m : Mdp) (ok : IsMdp m) (ends : List (Option ℕ)) (are : AreEnds m ends) (nodes : List ℕ) (numbered : AreNodes ends nodes) (outer : List ℕ) (o : IsOuter m ends nodes outer) (inner : List ℕ)
    (inner_in : (s : ℕ) → s < states_of m → get_or outer (get_or nodes s 0) 0 ≡ 0 → (get_or inner s 0 < length (choices_at m s)) × (is_inside m ends s (get_or inner s 0) ≡ true)) where
  abbrev taken : List ℕ
  taken = lifted m ends nodes outer inner

  abbrev of : ℕ → ℕ
  of s = get_or nodes s 0

  at_stop : (s : ℕ) → s < states_of m → get_or outer (of s) 0 ≡ 0 → get_or taken s 0 ≡ get_or inner s 0
  at_stop s h e =
      get_or-map-range_with_len (λ s. lifted_choice m ends nodes s (get_or inner s 0) (get_or outer (get_or nodes s 0) 0)) 0 (states_of m) s s 0 h (omega arith)
      ∙ ap (lifted_choice m ends nodes s (get_or inner s 0)) e

  -- each choice is one that the state has, and is inside or the exit that its node takes
  pub choice-kind : (s : ℕ) → s < states_of m → (get_or taken s 0 < length (choices_at m s)) × ((is_inside m ends s (get_or taken s 0) ≡ true)
      ⊎ ((get_or outer (of s) 0 == 0) ≡ false) × (Pred.state (exit_of m ok ends are nodes numbered outer o (of s)) ≡ s) × (Pred.choice (exit_of m ok ends are nodes numbered outer o (of s)) ≡ get_or taken s 0))
  choice-kind s h = elim (cases_Bool (get_or outer (of s) 0 == 0)) [
    | inl stop ↦
        (let e = eqb-true (get_or outer (of s) 0) 0 stop in
        let w = inner_in s h e in
        let same = sym (at_stop s h e) in
        (subst (λ c. c < length (choices_at m s)) same w.0, inl (subst (λ c. is_inside m ends s c ≡ true) same w.1)))
    | inr on ↦
        (let w = lifted_falls m ok ends are nodes numbered outer o inner s h on in
        (w.0, elim w.4 [ inl is ↦ inl is | inr x ↦ inr (on, x.0, x.1) ]))
  ]

  module _ (dir : Dir) (reward : ℕ → ℕ → ℚ) (gain : ℕ → ℚ)
      (gain_taken : (q i : ℕ) → q < nodes_in nodes → get_or outer q 0 ≡ suc i → gain q ≡ over gain (exit_row m ends nodes q i)) where
    gain_reached : (s : ℕ) → s < states_of m → gain (of s) ≡ over (λ t. gain (of t)) (row_at m s (get_or taken s 0))
    gain_reached s h =
        let k = choice-kind s h in
        elim k.1 as (λ _. gain (of s) ≡ over (λ t. gain (of t)) (row_at m s (get_or taken s 0))) [
          | inl is ↦ (let p = part_inside m ok ends are nodes numbered s (get_or taken s 0) is in sym (over-inside m ok ends are nodes numbered gain s (get_or taken s 0) p.0 h k.0 is p.1))
          | inr x ↦
              (let w = goes-on m ok ends are nodes numbered outer o (of s) x.0 in
              let hq = node_of-below m ok ends are nodes numbered s h in
              let state_is : Pred.state (exit_of m ok ends are nodes numbered outer o (of s)) ≡ s = x.1 in
              gain_taken (of s) w.0 hq w.1 ∙ ap (λ i. over gain (exit_row m ends nodes (of s) i)) (sym (ap less_one w.1))
              ∙ ap (λ y. over gain (node_row m nodes y (Pred.choice (exit_of m ok ends are nodes numbered outer o (of s))))) state_is ∙ ap (λ c. over gain (node_row m nodes s c)) x.2
              ∙ over-node_row m ok ends are nodes numbered gain s (get_or taken s 0) h k.0)
        ]

    -- with the inner bias where nodes stop, and the solution of the policy's chain elsewhere
    module _ (bias inner_bias : ℕ → ℚ) (stopped : (s : ℕ) → s < states_of m → get_or outer (of s) 0 ≡ 0 → bias s ≡ inner_bias s)
        (inner_reached : (s : ℕ) → s < states_of m → get_or outer (of s) 0 ≡ 0 → gain (of s) +ℚ inner_bias s ≡ reward s (get_or inner s 0) +ℚ over inner_bias (row_at m s (get_or inner s 0)))
        (solved : (s : ℕ) → s < states_of m → (get_or outer (of s) 0 == 0) ≡ false → bias s ≡ (reward s (get_or taken s 0) -ℚ gain (of s)) +ℚ over bias (row_at m s (get_or taken s 0))) where
      -- an inner choice of a node that stops leads to states of it
      same_over : (s c : ℕ) → s < states_of m → c < length (choices_at m s) → is_inside m ends s c ≡ true → get_or outer (of s) 0 ≡ 0 → over bias (row_at m s c) ≡ over inner_bias (row_at m s c)
      same_over s c h l is e =
          let p = part_inside m ok ends are nodes numbered s c is in
          let row = ok.row s c h l in
          weigh-same (λ (y : Entry). y.target) (λ (y : Entry). y.prob) bias inner_bias (row_at m s c)
          (λ k x u.
          (let t : ℕ = Entry.target (get_or (row_at m s c) k x) in
          let ht = row.in_range k x u in
          let et = number-has p.0 (part_of ends t) (stays-at (in_part ends p.0) (row_at m s c) t (inside-stays m ends s c p.0 p.1 is) (leads-to_entry (row_at m s c) k x u)) in
          stopped t ht (ap (λ q. get_or outer q 0) (same_node m ok ends are nodes numbered t s p.0 ht h et p.1) ∙ e)))

      bias_reached : (s : ℕ) → s < states_of m → gain (of s) +ℚ bias s ≡ reward s (get_or taken s 0) +ℚ over bias (row_at m s (get_or taken s 0))
      bias_reached s h = elim (cases_Bool (get_or outer (of s) 0 == 0)) as (λ _. gain (of s) +ℚ bias s ≡ reward s (get_or taken s 0) +ℚ over bias (row_at m s (get_or taken s 0))) [
        | inl stop ↦
            (let e = eqb-true (get_or outer (of s) 0) 0 stop in
            let w = inner_in s h e in
            ap (λ (z : ℚ). gain (of s) +ℚ z) (stopped s h e) ∙ inner_reached s h e ∙ ap (λ (z : ℚ). reward s (get_or inner s 0) +ℚ z) (sym (same_over s (get_or inner s 0) h w.0 w.1 e))
            ∙ ap (λ c. reward s c +ℚ over bias (row_at m s c)) (sym (at_stop s h e)))
        | inr on ↦
            combine 4 (λ g b r o. g ⊕ b) (λ g b r o. r ⊕ o) (λ g b r o. equal (lit (pos 1)) b ((r ⊕ ⊖ g) ⊕ o) ∷ []) refl
            (gain (of s)) (bias s) (reward s (get_or taken s 0)) (over bias (row_at m s (get_or taken s 0))) (solved s h on)
      ]

      pub lifted_reaches : IsReachedBy m ends nodes dir reward (λ s. gain (of s)) bias taken
      lifted_reaches = record { in_range = λ s h. (let k = choice-kind s h in k.0); gains = gain_reached; biases = bias_reached }
