-- The scope of a changed policy, from the nodes that the search finds.
use Rattle.std.proofs.Common.{◌≡◌, ℕ, ◌<◌, inl, inr, Bool, true, false, ◌&&◌, List, [], length, get_or, refl, sym, ◌∙◌, ap, ap₂, subst, arith}
use Rattle.std.proofs.{lemmas.List.Elements.{All-nil, All-cons}, lemmas.List.Folds.{list_any_at}, lemmas.List.{get_or_default}}
use Rattle.std.specs.{List.{All}, Prelude.{slice_index, slice_index_or}}
use Rattle.mdp_math.specs.Rational.{ℚ}
use Rattle.mdp_math.proofs.Numbers.{eqb-same}
use Rattle.mdp_spec.specs.Mdp.{Entry}
use Rattle.mdp_rows.specs.{Preds.{is_among}, declared.preds.Pred.{Pred}}
use Rattle.mdp_policy_iteration.specs.Problem.{Problem, Node, given, decision, Move, stop, go, IsPolicy, IsCandidate, count, node_at, choices_of, choices_at, choice_at, no_choice, move_by, taken, row_from}
use Rattle.mdp_policy_iteration.specs.{Dependents.{is_choice, depends, AreComingTo, AreWithDependents}, DependentsOf.{AreDependents}}
use Rattle.mdp_policy_iteration.specs.{Reads.{IsGiven, LeadsTo}, Changes.{Ascend, IsChangeOf, nodes_of}, Scope.{IsScope}}
use Rattle.mdp_policy_iteration.proofs.{Collected.{nodes_of-at, length-nodes_of}, Unchanged.{unchanged-elsewhere}, Among.{all-among}}
use Rattle.mdp_policy_iteration.proofs.Searching.{coming-changed, coming-closed, coming-depends}

module _ (p : Problem) (dependents : List (List Pred)) (are : AreDependents p dependents) where
  -- each choice in the lists is one of a node
  pub dependents-below : (t : ℕ) → All (λ x. x.state < length dependents) (slice_index_or dependents t [])
  dependents-below t = λ k d l.
      let x = get_or (slice_index_or dependents t []) k d in
      let is : depends dependents x.state x.choice t ≡ true =
      list_any_at (is_choice x.state x.choice) (slice_index_or dependents t []) k d l (ap₂ (λ (a b : Bool). a && b) (eqb-same x.state) (eqb-same x.choice)) in
      let below = (are.choices x.state x.choice t is).0 in
      let n = are.each_node in
      omega arith

-- the nodes of changes are nodes, and have choices
pub changed-below : (p : Problem) (changes : List Pred) → All (IsChangeOf p) changes → All (λ s. s < count p) (nodes_of changes)
changed-below p changes each = λ k d l.
    let m = length-nodes_of changes in
    let x : Pred = record { state = d; choice = 0 } in
    subst (λ s. s < count p) (sym (nodes_of-at changes k x (omega (arith, l))) ∙ get_or_default (nodes_of changes) k 0 d l) (each k x (omega (arith, l))).0

-- a node with choices has no given value
no_choices : (node : Node) (v : ℚ) → node ≡ given v → length (choices_of node) ≡ 0
no_choices node v e = ap (λ (n : Node). length (choices_of n)) e

module _ (p : Problem) (dependents : List (List Pred)) (are : AreDependents p dependents) (policy : List ℕ) (is : IsPolicy p policy) (changes : List Pred) (each : All (IsChangeOf p) changes)
    (found : List ℕ) (coming : AreComingTo dependents policy (nodes_of changes) found) where
  pub decides : (t c : ℕ) → c < length (choices_at p t) → IsGiven p t → ⊥
  decides t c l g = let n = no_choices (node_at p t) g.0 g.1 in omega arith

  changed_decides : All (λ t. IsGiven p t → ⊥) (nodes_of changes)
  changed_decides = λ k d l g.
      let m = length-nodes_of changes in
      let x : Pred = record { state = d; choice = 0 } in
      let h = each k x (omega (arith, l)) in
      decides (get_or changes k x).state (get_or changes k x).choice h.1 (subst (λ t. IsGiven p t) (sym (get_or_default (nodes_of changes) k 0 d l) ∙ nodes_of-at changes k x (omega (arith, l))) g)

  pub not_given : (t : ℕ) → is_among t found ≡ true → IsGiven p t → ⊥
  not_given t e g = elim (coming-depends dependents policy (nodes_of changes) found coming t e) as (λ _. ⊥) [
    | inl h ↦ all-among (λ t. IsGiven p t → ⊥) t (nodes_of changes) changed_decides h g
    | inr r ↦ decides t r.0 (are.choices t r.0 r.1 r.2).1 g
  ]

  -- ---- no node outside leads to one that was found

  module _ (s : ℕ) (l : s < count p) (out : is_among s found ≡ false) where
    target_out : (t : ℕ) (b : Bool) → is_among t found ≡ b → (is_among t found ≡ true → ⊥) → b ≡ false
    target_out t false e h = refl
    target_out t true e h = absurd (h e)

    not_both : is_among s found ≡ true → ⊥
    not_both e = cc

    row_out : (c : ℕ) (nodes : List ℕ) (m : Move) → c ≡ slice_index policy s → ((t : ℕ) → is_among t nodes ≡ true → depends dependents s c t ≡ true) → LeadsTo p nodes m
        → All (λ x. is_among x.target found ≡ false) (row_from s m)
    row_out c nodes (stop v) same listed h = All-cons (λ (x : Entry). is_among x.target found ≡ false) _ [] out (All-nil (λ (x : Entry). is_among x.target found ≡ false))
    row_out c nodes (go r row) same listed h = λ k d m.
        let t = (get_or row k d).target in
        target_out t (is_among t found) refl
        (λ e. elim (h k d m) as (λ _. ⊥) [
          | inl among ↦ not_both (coming-closed dependents policy (nodes_of changes) found coming s t e (subst (λ c. depends dependents s c t ≡ true) same (listed t among)))
          | inr g ↦ not_given t e g
        ])

    by_node : (node : Node) → node_at p s ≡ node → IsCandidate node (slice_index policy s) → All (λ x. is_among x.target found ≡ false) (row_from s (move_by node (slice_index policy s)))
    by_node (given v) e h = All-cons (λ (x : Entry). is_among x.target found ≡ false) _ [] out (All-nil (λ (x : Entry). is_among x.target found ≡ false))
    by_node (decision choices) e h =
        let c = slice_index policy s in
        let n : length (choices_at p s) ≡ length choices = ap (λ (k : Node). length (choices_of k)) e in
        let r = are.complete s c l (let q = h.0 in omega arith) in
        subst (λ (k : Node). All (λ x. is_among x.target found ≡ false) (row_from s (slice_index_or (choices_of k) c no_choice).move)) e
        (row_out c r.0 (choice_at p s c).move refl r.2 r.1.row)

    pub closed-at : All (λ x. is_among x.target found ≡ false) (row_from s (taken p policy s))
    closed-at = by_node (node_at p s) refl (is.candidate s l)

  module _ (compared : List ℕ) (with_dependents : AreWithDependents dependents found compared) where
    pub scope-is : All (λ s. s < count p) found → Ascend found → All (λ s. s < count p) compared → Ascend compared
        → IsScope p policy changes (record { affected = found; compared = compared })
    scope-is below ascend below_too ascend_too = record {
      affected_below = below;
      affected_ascend = ascend;
      compared_below = below_too;
      compared_ascend = ascend_too;
      changed = λ k d l.
          let m = length-nodes_of changes in
          subst (λ s. is_among s found ≡ true) (nodes_of-at changes k d l) (coming-changed dependents policy (nodes_of changes) found coming k 0 (omega (arith, l)));
      closed = closed-at;
      within = λ s e. all-among (λ s. is_among s compared ≡ true) s found with_dependents.holds_nodes e;
      unread = λ x y agree s l out. unchanged-elsewhere p dependents are found compared not_given with_dependents x y agree s l out;
    }
