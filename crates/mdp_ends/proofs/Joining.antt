-- Joined values meet the rules of mean payoff.
use Rattle.std.proofs.Common.{◌≡◌, inl, inr, ℕ, ◌<◌, true, ◌==◌, List, [], ◌∷◌, length, get_or, refl, sym, ap, ◌∙◌, subst, Option, Some, pos, negsuc}
use Rattle.std.proofs.lemmas.Bool.{false≢true, cases_Bool, eq-eqb}
use Rattle.mdp_math.specs.Rational.{ℚ, ◌+ℚ◌, ◌-ℚ◌, ◌*ℚ◌, ◌≤ℚ◌}
use Rattle.mdp_math.proofs.{Kernel.{weigh-same, weigh-add, weigh-sub, weigh-scale, weigh-const}, Laws.{rat_ring}, Linear.{linear, known, at_most, equal}}
use Rattle.mdp_math.proofs.{Order.{1ℚ, ≤ℚ_of_eq}, Ring.{◌⊕◌, ◌⊗◌, ⊖, lit, ring}}
use Rattle.mdp_spec.specs.{Mdp.{Entry, Mdp, states_of, choices_at, row_at}, Row.{IsMdp}}
use Rattle.mdp_spec.proofs.Rows.{probs_nonneg}
use Rattle.mdp_rows.specs.{Preds.{leads_to}, declared.dir.Dir.{Dir}, declared.dir.Dir.TheVariants.{Max, Min}}
use Rattle.mdp_ends.specs.{Ends.{part_of, in_part, is_inside, stays_with, AreEnds}, Quotient.{AreNodes, nodes_in, node_row}}
use Rattle.mdp_ends.specs.Join.{over, CanJoin, bound_of, IsCoveredBy}
use Rattle.mdp_ends.proofs.{Walking.{some-any, stays-at}, Numbering.{case-number}, RoundLaws.{number-has, inside-stays}, MergedRows.{over-merged}}
use Rattle.mdp_ends.proofs.Leaving.{node_of-below, same_node}

-- what an entry leads to
pub leads-to_entry : (row : List Entry) (k : ℕ) (x : Entry) → k < length row → leads_to (Entry.target (get_or row k x)) row ≡ true
leads-to_entry row k x l = let t : ℕ = Entry.target (get_or row k x) in some-any (λ (y : Entry). y.target == t) row x k l (eq-eqb t t refl)

module _ (m : Mdp) (ok : IsMdp m) (ends : List (Option ℕ)) (are : AreEnds m ends) (nodes : List ℕ) (numbered : AreNodes ends nodes) where
  abbrev node : ℕ → ℕ
  node s = get_or nodes s 0

  -- a value of nodes, over a row and over the merged row
  pub over-node_row : (f : ℕ → ℚ) (s c : ℕ) → s < states_of m → c < length (choices_at m s) → over f (node_row m nodes s c) ≡ over (λ t. f (node t)) (row_at m s c)
  over-node_row f s c h l =
      let row = ok.row s c h l in
      over-merged (nodes_in nodes) node (row_at m s c) f (probs_nonneg (states_of m) (row_at m s c) row)
      (λ k x u. node_of-below m ok ends are nodes numbered (Entry.target (get_or (row_at m s c) k x)) (row.in_range k x u))

  -- inner choices stay in their node
  pub over-inside : (f : ℕ → ℚ) (s c i : ℕ) → s < states_of m → c < length (choices_at m s)
      → is_inside m ends s c ≡ true → part_of ends s ≡ Some i → over (λ t. f (node t)) (row_at m s c) ≡ f (node s)
  over-inside f s c i h l is e =
      let row = ok.row s c h l in
      weigh-same (λ (y : Entry). y.target) (λ (y : Entry). y.prob) (λ t. f (node t)) (λ t. f (node s)) (row_at m s c)
      (λ k x u.
      (let t : ℕ = Entry.target (get_or (row_at m s c) k x) in
      let to = leads-to_entry (row_at m s c) k x u in
      let et = number-has i (part_of ends t) (stays-at (in_part ends i) (row_at m s c) t (inside-stays m ends s c i e is) to) in
      ap f (same_node m ok ends are nodes numbered t s i (row.in_range k x u) h et e)))
      ∙ weigh-const (λ (y : Entry). y.target) (λ (y : Entry). y.prob) (f (node s)) (row_at m s c) ∙ ap (λ (z : ℚ). f (node s) *ℚ z) row.distribution.total
      ∙ ring rat_ring 1 (λ x. x ⊗ lit (pos 1)) (λ x. x) refl (f (node s))

  -- an inner choice is one of a state of a part
  pub part_inside : (s c : ℕ) → is_inside m ends s c ≡ true → (i : ℕ) × (part_of ends s ≡ Some i)
  part_inside s c is = elim (case-number (part_of ends s)) [
    | inl none ↦ absurd (false≢true (sym (ap (λ o. stays_with ends o (row_at m s c)) none) ∙ is))
    | inr some ↦ some
  ]

  over-bound : (h N : ℕ → ℚ) (d : ℚ) (row : List Entry) → over (λ t. h t +ℚ d *ℚ N (node t)) row ≡ over h row +ℚ d *ℚ over (λ t. N (node t)) row
  over-bound h N d row =
      weigh-add (λ (y : Entry). y.target) (λ (y : Entry). y.prob) h (λ t. d *ℚ N (node t)) row
      ∙ ap (λ (z : ℚ). over h row +ℚ z) (weigh-scale (λ (y : Entry). y.target) (λ (y : Entry). y.prob) d (λ t. N (node t)) row)

  over-bound_less : (h N : ℕ → ℚ) (d : ℚ) (row : List Entry) → over (λ t. h t -ℚ d *ℚ N (node t)) row ≡ over h row -ℚ d *ℚ over (λ t. N (node t)) row
  over-bound_less h N d row =
      weigh-sub (λ (y : Entry). y.target) (λ (y : Entry). y.prob) h (λ t. d *ℚ N (node t)) row
      ∙ ap (λ (z : ℚ). over h row -ℚ z) (weigh-scale (λ (y : Entry). y.target) (λ (y : Entry). y.prob) d (λ t. N (node t)) row)

  module _ (reward : ℕ → ℕ → ℚ) (gain inner bias steps : ℕ → ℚ) (excess : ℚ) where
    -- ---- the greatest gain

    max_gains : CanJoin m ends nodes Max reward gain inner bias steps excess → (s c : ℕ) → s < states_of m → c < length (choices_at m s) → over (λ t. gain (node t)) (row_at m s c) ≤ℚ gain (node s)
    max_gains j s c h l = elim (cases_Bool (is_inside m ends s c)) [
      | inl is ↦ (let p = part_inside s c is in ≤ℚ_of_eq _ (gain (node s)) (over-inside gain s c p.0 h l is p.1))
      | inr out ↦ subst (λ (z : ℚ). z ≤ℚ gain (node s)) (over-node_row gain s c h l) (j.at_exit s c (h, l, out))
    ]

    max_bounds : CanJoin m ends nodes Max reward gain inner bias steps excess → (s c : ℕ) → s < states_of m → c < length (choices_at m s)
        → reward s c +ℚ over (λ t. bias t +ℚ excess *ℚ steps (node t)) (row_at m s c) ≤ℚ gain (node s) +ℚ (bias s +ℚ excess *ℚ steps (node s))
    max_bounds j s c h l = elim (cases_Bool (is_inside m ends s c)) [
      | inl is ↦
          (let p = part_inside s c is in
          linear 9 (λ r b o i g h d n w. r ⊕ b) (λ r b o i g h d n w. g ⊕ (h ⊕ d ⊗ n))
          (λ r b o i g h d n w. equal (lit (pos 1)) b (o ⊕ d ⊗ w) ∷ known i g ∷ known (r ⊕ o) (i ⊕ h) ∷ equal d w n ∷ []) refl
          (reward s c) (over (λ t. bias t +ℚ excess *ℚ steps (node t)) (row_at m s c)) (over bias (row_at m s c))
          (inner p.0) (gain (node s)) (bias s) excess (steps (node s)) (over (λ t. steps (node t)) (row_at m s c))
          (over-bound bias steps excess (row_at m s c)) (j.at_part s p.0 h p.1) (j.bias_inside s c p.0 (h, l, is) p.1) (over-inside steps s c p.0 h l is p.1))
      | inr out ↦
          linear 8 (λ r b o g h d n w. r ⊕ b) (λ r b o g h d n w. g ⊕ (h ⊕ d ⊗ n))
          (λ r b o g h d n w. equal (lit (pos 1)) b (o ⊕ d ⊗ w) ∷ known (r ⊕ o) ((g ⊕ h) ⊕ d) ∷ at_most d (lit (pos 1) ⊕ w) n ∷ []) refl
          (reward s c) (over (λ t. bias t +ℚ excess *ℚ steps (node t)) (row_at m s c)) (over bias (row_at m s c)) (gain (node s)) (bias s) excess (steps (node s)) (over (λ t. steps (node t)) (row_at m s c))
          (over-bound bias steps excess (row_at m s c)) (j.bias_leaving s c (h, l, out)) j.nonneg
          (subst (λ (z : ℚ). 1ℚ +ℚ z ≤ℚ steps (node s)) (over-node_row steps s c h l) (j.falls s c (h, l, out)))
    ]

    pub joined_max : CanJoin m ends nodes Max reward gain inner bias steps excess → IsCoveredBy m ends nodes Max reward (λ s. gain (node s)) (bound_of m ends nodes Max reward bias steps excess)
    joined_max j = record { gains = max_gains j; bounds = max_bounds j }

    -- ---- the least gain

    min_gains : CanJoin m ends nodes Min reward gain inner bias steps excess → (s c : ℕ) → s < states_of m → c < length (choices_at m s) → gain (node s) ≤ℚ over (λ t. gain (node t)) (row_at m s c)
    min_gains j s c h l = elim (cases_Bool (is_inside m ends s c)) [
      | inl is ↦ (let p = part_inside s c is in ≤ℚ_of_eq (gain (node s)) _ (sym (over-inside gain s c p.0 h l is p.1)))
      | inr out ↦ subst (λ (z : ℚ). gain (node s) ≤ℚ z) (over-node_row gain s c h l) (j.at_exit s c (h, l, out))
    ]

    min_bounds : CanJoin m ends nodes Min reward gain inner bias steps excess → (s c : ℕ) → s < states_of m → c < length (choices_at m s)
        → gain (node s) +ℚ (bias s -ℚ excess *ℚ steps (node s)) ≤ℚ reward s c +ℚ over (λ t. bias t -ℚ excess *ℚ steps (node t)) (row_at m s c)
    min_bounds j s c h l = elim (cases_Bool (is_inside m ends s c)) [
      | inl is ↦
          (let p = part_inside s c is in
          linear 9 (λ r b o i g h d n w. g ⊕ (h ⊕ ⊖ (d ⊗ n))) (λ r b o i g h d n w. r ⊕ b)
          (λ r b o i g h d n w. equal (lit (negsuc 0)) b (o ⊕ ⊖ (d ⊗ w)) ∷ known g i ∷ known (i ⊕ h) (r ⊕ o) ∷ equal d w n ∷ []) refl
          (reward s c) (over (λ t. bias t -ℚ excess *ℚ steps (node t)) (row_at m s c)) (over bias (row_at m s c))
          (inner p.0) (gain (node s)) (bias s) excess (steps (node s)) (over (λ t. steps (node t)) (row_at m s c))
          (over-bound_less bias steps excess (row_at m s c)) (j.at_part s p.0 h p.1) (j.bias_inside s c p.0 (h, l, is) p.1) (over-inside steps s c p.0 h l is p.1))
      | inr out ↦
          linear 8 (λ r b o g h d n w. g ⊕ (h ⊕ ⊖ (d ⊗ n))) (λ r b o g h d n w. r ⊕ b)
          (λ r b o g h d n w. equal (lit (negsuc 0)) b (o ⊕ ⊖ (d ⊗ w)) ∷ known ((g ⊕ h) ⊕ ⊖ d) (r ⊕ o) ∷ at_most d (lit (pos 1) ⊕ w) n ∷ []) refl
          (reward s c) (over (λ t. bias t -ℚ excess *ℚ steps (node t)) (row_at m s c)) (over bias (row_at m s c)) (gain (node s)) (bias s) excess (steps (node s)) (over (λ t. steps (node t)) (row_at m s c))
          (over-bound_less bias steps excess (row_at m s c)) (j.bias_leaving s c (h, l, out)) j.nonneg
          (subst (λ (z : ℚ). 1ℚ +ℚ z ≤ℚ steps (node s)) (over-node_row steps s c h l) (j.falls s c (h, l, out)))
    ]

    pub joined_min : CanJoin m ends nodes Min reward gain inner bias steps excess → IsCoveredBy m ends nodes Min reward (λ s. gain (node s)) (bound_of m ends nodes Min reward bias steps excess)
    joined_min j = record { gains = min_gains j; bounds = min_bounds j }

  pub joined : (dir : Dir) (reward : ℕ → ℕ → ℚ) (gain inner bias steps : ℕ → ℚ) (excess : ℚ) → CanJoin m ends nodes dir reward gain inner bias steps excess
      → IsCoveredBy m ends nodes dir reward (λ s. gain (node s)) (bound_of m ends nodes dir reward bias steps excess)
  joined Max reward gain inner bias steps excess j = joined_max reward gain inner bias steps excess j
  joined Min reward gain inner bias steps excess j = joined_min reward gain inner bias steps excess j
