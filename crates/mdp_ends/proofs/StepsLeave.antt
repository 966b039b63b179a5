-- A selection of exits is a policy of the nodes that stops only where there is no exit.
use Rattle.std.proofs.Common.{◌≡◌, inl, inr, ℕ, suc, ◌<◌, true, cond, List, length, get_or, map, sym, ◌∙◌, arith, Option, Some}
use Rattle.std.proofs.lemmas.Bool.{false≢true, cases_Bool, eqb-true, cond-true, cond-false}
use Rattle.std.proofs.lemmas.List.FromFn.{length-map-range_with_len, get_or-map-range_with_len}
use Rattle.std.specs.List.{range_with_len}
use Rattle.mdp_spec.specs.{Mdp.{Mdp, states_of}, Row.{IsMdp}}
use Rattle.mdp_elim.specs.System.{Leaves}
use Rattle.mdp_ends.specs.{Ends.{part_of, is_inside, AreEnds}, Quotient.{AreNodes, nodes_in, exits_of}, Selection.{is_exitless, IsSelection}, Toward.{IsOuter}}
use Rattle.mdp_ends.proofs.{Exits.{exit_found}, Leaving.{node_of-below}, Joining.{part_inside}, Lifting.{outer_rows, active_nodes, node_ranks, outer_leaves}}

module _ (m : Mdp) (ok : IsMdp m) (ends : List (Option ℕ)) (are : AreEnds m ends) (nodes : List ℕ) (numbered : AreNodes ends nodes) where
  -- a state of a node without exits is in a part
  pub exitless-part : (s : ℕ) → s < states_of m → is_exitless m ends nodes (get_or nodes s 0) ≡ true → (i : ℕ) × (part_of ends s ≡ Some i)
  exitless-part s h e = elim (cases_Bool (is_inside m ends s 0)) [
    | inl is ↦ part_inside m ok ends are nodes numbered s 0 is
    | inr out ↦
        (let w = exit_found m ends nodes s 0 h (ok.choice s h) out in
        let none = eqb-true (length (exits_of m ends nodes (get_or nodes s 0))) 0 e in absurd (omega (arith, w.1, none)))
  ]

  module _ (selected : List ℕ) (sel : IsSelection m ends nodes selected) where
    abbrev taken : ℕ → ℕ
    taken q = cond (is_exitless m ends nodes q) 0 (suc (get_or selected q 0))

    abbrev pub steps_policy : List ℕ
    steps_policy = map taken (range_with_len 0 (nodes_in nodes))

    policy-at : (q : ℕ) → q < nodes_in nodes → get_or steps_policy q 0 ≡ taken q
    policy-at q h = get_or-map-range_with_len taken 0 (nodes_in nodes) q q 0 h (omega arith)

    pub steps_outer : IsOuter m ends nodes steps_policy
    steps_outer = record {
      count = length-map-range_with_len taken 0 (nodes_in nodes);
      leaves = λ q i h e. elim (cases_Bool (is_exitless m ends nodes q)) [
        | inl none ↦ (let z : get_or steps_policy q 0 ≡ 0 = policy-at q h ∙ cond-true (is_exitless m ends nodes q) 0 (suc (get_or selected q 0)) none in absurd (omega (arith, z, e)))
        | inr some ↦
            (let z : get_or steps_policy q 0 ≡ suc (get_or selected q 0) = policy-at q h ∙ cond-false (is_exitless m ends nodes q) 0 (suc (get_or selected q 0)) some in
            elim (sel.at q h) [ inl none ↦ absurd (false≢true (sym some ∙ none.0)) | inr l ↦ omega (arith, l, z, e) ])
      ];
      stops = λ s h e.
          (let hq = node_of-below m ok ends are nodes numbered s h in
          elim (cases_Bool (is_exitless m ends nodes (get_or nodes s 0))) [
            | inl none ↦ exitless-part s h none
            | inr some ↦ (let z : get_or steps_policy (get_or nodes s 0) 0 ≡ suc (get_or selected (get_or nodes s 0) 0) = policy-at (get_or nodes s 0) hq
                ∙ cond-false (is_exitless m ends nodes (get_or nodes s 0)) 0 (suc (get_or selected (get_or nodes s 0) 0)) some in absurd (omega (arith, z, e)))
          ]);
    }

    -- so every selection leaves its nodes that have exits
    pub steps_leave : Leaves (outer_rows m ok ends are nodes numbered steps_policy steps_outer)
        (active_nodes m ok ends are nodes numbered steps_policy steps_outer) (node_ranks m ok ends are nodes numbered steps_policy steps_outer)
    steps_leave = outer_leaves m ok ends are nodes numbered steps_policy steps_outer
