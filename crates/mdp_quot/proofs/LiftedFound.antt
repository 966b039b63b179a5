-- The states of the exits that are taken, the choices toward them, and the policy that a policy of the nodes is lifted to.
use Rattle.std.proofs.Common.{◌≡◌, ◌⊎◌, inl, inr, ℕ, suc, ◌+◌, ◌-◌, ◌<◌, Bool, true, false, cond, List, length, get_or, refl, sym, ap, ◌∙◌, arith, Option, Some, None}
use Rattle.std.proofs.{lemmas.Bool.{cases_eq, eq-eqb, ne_eqb}, lemmas.List.{get_or_default, get_or-set_same, get_or-set_other, length-set}}
use Rattle.std.specs.Prelude.{slice_set}
use Rattle.mdp_spec.specs.{Mdp.{Mdp, states_of}, Row.{IsMdp}}
use Rattle.mdp_rows.specs.{declared.preds.Pred.{Pred}, Preds.{pair}}
use Rattle.mdp_graph.specs.{Sets.{marked}, Choices.{AreLeast}}
use Rattle.mdp_ends.specs.{Ends.{part_of, in_part, has_number, AreEnds}, Quotient.{ShareAPart, nodes_in, exits_of}, Selection.{exit_at}}
use Rattle.mdp_ends.specs.Toward.{choice_to, lifted_choice, IsOuter}
use Rattle.mdp_ends.proofs.{Exits.{exit_known, node-below}, RoundLaws.{number-has}}
use Rattle.mdp_parts.specs.TowardTargets.{IsTowardTargets}
use Rattle.mdp_quot.proofs.{NodesFound.{part-below}, TowardTargets.{targets_choice}, Selected.{are_selected}}
use Rattle.mdp_quot.specs.{Quotient.{Quotient, IsQuotient, exits_at}, Lifting.{AreTaken, AreWays}, Laws.{AreSelected}}

pub in_part-by : (parts : List (Option ℕ)) (i s : ℕ) → part_of parts s ≡ Some i → in_part parts i s ≡ true
in_part-by parts i s e = ap (has_number i) e ∙ eq-eqb i i refl

module _ (m : Mdp) (parts : List (Option ℕ)) (as_many : length parts ≡ states_of m) (q : Quotient) (is : IsQuotient m parts q) where
  pub part-at : (s n : ℕ) → s < states_of m → get_or q.nodes s 0 ≡ n → part_of parts s ≡ get_or q.components n None
  part-at s n h e = sym (is.components s h) ∙ ap (λ k. get_or q.components k None) e

  pub exit_is : (n k : ℕ) (d : Pred) → n < length q.exits → k < length (exits_at q n) → get_or (exits_at q n) k d ≡ exit_at m parts q.nodes n k
  exit_is n k d h l =
      let a = are_selected m parts q is in
      get_or_default (exits_at q n) k d (pair 0 0) l ∙ ap (λ (xs : List Pred). get_or xs k (pair 0 0)) (AreSelected.exits a n (omega (arith, h, AreSelected.count a)))

  many_exits : (n : ℕ) → n < length q.exits → length (exits_at q n) ≡ length (exits_of m parts q.nodes n)
  many_exits n h = let a = are_selected m parts q is in ap length (AreSelected.exits a n (omega (arith, h, AreSelected.count a)))

  -- the state of an exit is one of its node
  pub exit-in : (n k : ℕ) → n < length q.exits → k < length (exits_at q n) → ((exit_at m parts q.nodes n k).state < states_of m) × (get_or q.nodes (exit_at m parts q.nodes n k).state 0 ≡ n)
  exit-in n k h l = let w = exit_known m parts q.nodes n k (omega (arith, l, many_exits n h)) in (w.0, w.2)

  many_nodes : length q.exits ≡ nodes_in q.nodes
  many_nodes = let a = are_selected m parts q is in AreSelected.count a

  pub node-in : (s : ℕ) → s < states_of m → get_or q.nodes s 0 < length q.exits
  node-in s h = let l = node-below parts q.nodes is.nodes s (omega (arith, h, as_many)) in omega (arith, l, many_nodes)

  pub exit-there : (outer : List ℕ) → IsOuter m parts q.nodes outer → (n k : ℕ) → n < length q.exits → get_or outer n 0 ≡ k + 1 → k < length (exits_at q n)
  exit-there outer o n k h e = let l = o.leaves n k (omega (arith, h, many_nodes)) (e ∙ omega arith) in omega (arith, l, many_exits n h)

  pub exit-taken : (outer : List ℕ) → IsOuter m parts q.nodes outer → (n : ℕ) → n < length q.exits → 0 < get_or outer n 0 → get_or outer n 0 - 1 < length (exits_at q n)
  exit-taken outer o n h some = exit-there outer o n (get_or outer n 0 - 1) h (omega (arith, some))

  pub read-exit : (n k : ℕ) (xs : List Pred) (d : Pred) → n < length q.exits → k < length (exits_at q n) → xs ≡ exits_at q n → Pred.state (get_or xs k d) ≡ (exit_at m parts q.nodes n k).state
  read-exit n k xs d h l e = ap (λ (x : Pred). x.state) (ap (λ (ys : List Pred). get_or ys k d) e ∙ exit_is n k d h l)

  -- ---- the states of the exits that are taken

  module _ (outer : List ℕ) where
    module _ (n : ℕ) (states : List Bool) (a : AreTaken m parts q.nodes outer n states) where
      -- a node that stops
      pub taken_none : get_or outer n 0 ≡ 0 → AreTaken m parts q.nodes outer (n + 1) states
      taken_none stops = record {
        count = a.count;
        taken = λ k j l takes. elim (cases_eq k n) [
          | inl same ↦ (let e = ap (λ x. get_or outer x 0) same in absurd (omega (arith, e, stops, takes)))
          | inr other ↦ a.taken k j (omega (arith, l, other)) takes
        ];
        from = a.from;
      }

      -- a node that takes an exit
      pub taken_more : (j : ℕ) → n < length q.exits → j < length (exits_at q n) → get_or outer n 0 ≡ suc j → (x : ℕ) → x ≡ (exit_at m parts q.nodes n j).state
          → AreTaken m parts q.nodes outer (n + 1) (slice_set states x true)
      taken_more j hn l takes x is_x =
          let w = exit-in n j hn l in
          let hx : x < length states = omega (arith, w.0, is_x, a.count) in
          record {
            count = length-set states x true ∙ a.count;
            taken = λ k i l t. (elim (cases_eq ((exit_at m parts q.nodes k i).state) x) [
              | inl same ↦ ap (λ y. get_or (slice_set states x true) y false) same ∙ get_or-set_same states x true false hx
              | inr differs ↦ get_or-set_other states x ((exit_at m parts q.nodes k i).state) true false differs ∙ (elim (cases_eq k n) [
                | inr other ↦ a.taken k i (omega (arith, l, other)) t
                | inl same ↦
                    (let e = ap (λ y. get_or outer y 0) same in
                    let ij : i ≡ j = omega (arith, e, takes, t) in
                    absurd (differs (ap (λ y. (exit_at m parts q.nodes y i).state) same ∙ ap (λ y. (exit_at m parts q.nodes n y).state) ij ∙ sym is_x)))
              ])
            ]);
            from = λ s is. (elim (cases_eq s x) [
              | inr other ↦ a.from s (sym (get_or-set_other states x s true false other) ∙ is)
              | inl same ↦
                  (let node : get_or q.nodes s 0 ≡ n = ap (λ y. get_or q.nodes y 0) (same ∙ is_x) ∙ w.1 in (
                    j,
                    omega (arith, same, hx, a.count),
                    ap (λ y. get_or outer y 0) node ∙ takes,
                    ap (λ y. (exit_at m parts q.nodes y j).state) node ∙ sym (same ∙ is_x),
                  ))
            ]);
          }

  -- ---- the pass toward them

  module _ (ok : IsMdp m) (are : AreEnds m parts) (outer : List ℕ) (o : IsOuter m parts q.nodes outer) (states marks : List Bool) (ranks choices : List ℕ) (a : AreTaken m parts q.nodes outer (length q.exits) states)
      (pass : IsTowardTargets m parts states marks ranks choices) where
    one_taken : (s t i k : ℕ) → s < states_of m → part_of parts s ≡ Some i → get_or outer (get_or q.nodes s 0) 0 ≡ suc k → marked states t ≡ true → part_of parts t ≡ Some i
        → t ≡ (exit_at m parts q.nodes (get_or q.nodes s 0) k).state
    one_taken s t i k h at takes is_t at_t =
        let w = a.from t is_t in
        let node : get_or q.nodes t 0 ≡ get_or q.nodes s 0 = (is.nodes.same t s (omega (arith, w.1, as_many)) (omega (arith, h, as_many))).1 (inr (i, at_t, at)) in
        let e = ap (λ y. get_or outer y 0) node in
        let jk : w.0 ≡ k = omega (arith, e, w.2, takes) in
        sym w.3 ∙ ap (λ y. (exit_at m parts q.nodes y w.0).state) node ∙ ap (λ y. (exit_at m parts q.nodes (get_or q.nodes s 0) y).state) jk

    pub ways_are : AreWays m parts q.nodes outer (length q.exits) choices
    ways_are = record {
      count = AreLeast.count pass.chosen;
      toward = λ s i k h low at takes other.
          (let n : ℕ = get_or q.nodes s 0 in
          let l = exit-there outer o n k low (takes ∙ omega arith) in
          let x = exit-in n k low l in
          let z : ℕ = (exit_at m parts q.nodes n k).state in
          let z_at : part_of parts z ≡ Some i = part-at z n x.0 x.1 ∙ sym (part-at s n h refl) ∙ at in
          targets_choice m ok parts are states marks ranks choices pass i (part-below parts s are.numbered i at) z x.0 (in_part-by parts i z z_at) (a.taken n k low takes)
          (λ t in_i is_t. one_taken s t i k h at takes is_t (number-has i (part_of parts t) in_i)) s h (in_part-by parts i s at) (λ e. other (sym e)));
    }

  -- at the end: the choice of the lifted policy
  module _ (outer ways : List ℕ) (a : AreWays m parts q.nodes outer (length q.exits) ways) (s : ℕ) (h : s < states_of m) (low : get_or q.nodes s 0 < length q.exits) where
    pub lifted-stop : (inner : ℕ) → get_or outer (get_or q.nodes s 0) 0 ≡ 0 → inner ≡ lifted_choice m parts q.nodes s inner (get_or outer (get_or q.nodes s 0) 0)
    lifted-stop inner e = ap (lifted_choice m parts q.nodes s inner) (sym e)

    module _ (inner k : ℕ) (takes : get_or outer (get_or q.nodes s 0) 0 ≡ suc k) (l : k < length (exits_at q (get_or q.nodes s 0))) where
      pub lifted-exit : (exit_at m parts q.nodes (get_or q.nodes s 0) k).state ≡ s
          → (exit_at m parts q.nodes (get_or q.nodes s 0) k).choice ≡ lifted_choice m parts q.nodes s inner (get_or outer (get_or q.nodes s 0) 0)
      lifted-exit same =
          sym (ap (λ (b : Bool). cond b (exit_at m parts q.nodes (get_or q.nodes s 0) k).choice (choice_to m parts (exit_at m parts q.nodes (get_or q.nodes s 0) k).state s))
          (eq-eqb (exit_at m parts q.nodes (get_or q.nodes s 0) k).state s same))
          ∙ ap (lifted_choice m parts q.nodes s inner) (sym takes)

      pub lifted-way : ((exit_at m parts q.nodes (get_or q.nodes s 0) k).state ≡ s → ⊥) → get_or ways s 0 ≡ lifted_choice m parts q.nodes s inner (get_or outer (get_or q.nodes s 0) 0)
      lifted-way other =
          let x = exit-in (get_or q.nodes s 0) k low l in
          by_part ((is.nodes.same s (exit_at m parts q.nodes (get_or q.nodes s 0) k).state (omega (arith, h, as_many)) (omega (arith, x.0, as_many))).0 (sym x.1)) where
            by_part : (s ≡ (exit_at m parts q.nodes (get_or q.nodes s 0) k).state) ⊎ ShareAPart parts s (exit_at m parts q.nodes (get_or q.nodes s 0) k).state
                → get_or ways s 0 ≡ lifted_choice m parts q.nodes s inner (get_or outer (get_or q.nodes s 0) 0)
            by_part (inl same) = absurd (other (sym same))
            by_part (inr w) =
                a.toward s w.0 k h low w.1 takes other
                ∙ sym (ap (λ (b : Bool). cond b (exit_at m parts q.nodes (get_or q.nodes s 0) k).choice (choice_to m parts (exit_at m parts q.nodes (get_or q.nodes s 0) k).state s))
                (ne_eqb (exit_at m parts q.nodes (get_or q.nodes s 0) k).state s other))
                ∙ ap (lifted_choice m parts q.nodes s inner) (sym takes)

    -- as the code has it
    module _ (o : IsOuter m parts q.nodes outer) (inner n : ℕ) (xs : List Pred) (d : Pred) (en : n ≡ get_or q.nodes s 0) (exs : xs ≡ exits_at q n) (goes : get_or outer n 0 ≡ 0 → ⊥) where
      pub goes-on : get_or outer (get_or q.nodes s 0) 0 ≡ suc (get_or outer n 0 - 1)
      goes-on = ap (λ j. get_or outer j 0) (sym en) ∙ omega (arith, goes)

      pub in-exits : get_or outer n 0 - 1 < length (exits_at q (get_or q.nodes s 0))
      in-exits = exit-there outer o (get_or q.nodes s 0) (get_or outer n 0 - 1) low (goes-on ∙ omega arith)

      pub in-list : get_or outer n 0 - 1 < length xs
      in-list = let e = ap length (exs ∙ ap (exits_at q) en) in omega (arith, in-exits, e)

      found : get_or xs (get_or outer n 0 - 1) d ≡ exit_at m parts q.nodes (get_or q.nodes s 0) (get_or outer n 0 - 1)
      found = ap (λ (ys : List Pred). get_or ys (get_or outer n 0 - 1) d) (exs ∙ ap (exits_at q) en) ∙ exit_is (get_or q.nodes s 0) (get_or outer n 0 - 1) d low in-exits

      pub at-exit : Pred.state (get_or xs (get_or outer n 0 - 1) d) ≡ s → Pred.choice (get_or xs (get_or outer n 0 - 1) d) ≡ lifted_choice m parts q.nodes s inner (get_or outer (get_or q.nodes s 0) 0)
      at-exit same = ap (λ (x : Pred). x.choice) found ∙ lifted-exit inner (get_or outer n 0 - 1) goes-on in-exits (sym (ap (λ (x : Pred). x.state) found) ∙ same)

      pub on-way : (Pred.state (get_or xs (get_or outer n 0 - 1) d) ≡ s → ⊥) → get_or ways s 0 ≡ lifted_choice m parts q.nodes s inner (get_or outer (get_or q.nodes s 0) 0)
      on-way other = lifted-way inner (get_or outer n 0 - 1) goes-on in-exits (λ e. other (ap (λ (x : Pred). x.state) found ∙ e))
