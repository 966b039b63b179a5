-- From a search in depth and the groups that are taken backwards to the strong components.
use Rattle.std.proofs.Common.{◌≡◌, ℕ, suc, ◌<◌, Bool, ◌==◌, List, [], ◌∷◌, length, get_or, map, refl, sym, ap, ◌∙◌, subst, arith, Option, Some, None}
use Rattle.std.proofs.{lemmas.Bool.{eqb-true}, lemmas.List.{get_or-map, length-map}}
use Rattle.mdp_spec.specs.{Mdp.{Mdp, states_of}, Row.{IsMdp}}
use Rattle.mdp_graph.specs.{Edges.{AreEdges}, Layers.{rank_at}, Choices.{plain_rank}}
use Rattle.mdp_ends.specs.{Walks.{AreComponents}, Numbers.{is_numbered}, DepthFirst.{StandsIn}}
use Rattle.mdp_ends.proofs.Walking.{step-has, target-below}
use Rattle.mdp_parts.specs.{Targets.{AreTargets, AreReversed}, Searched.{IsOrder}, Numbered.{AreSources, AreClasses, AreGrouped, IsRenumbered}}
use Rattle.mdp_graph.proofs.RankFacts.{some-same, none-some}

all_some : (xs : List (Option ℕ)) → ((s : ℕ) → s < length xs → rank_at xs s ≡ None → ⊥) → map Some (map plain_rank xs) ≡ xs
all_some [] h = refl
all_some (None ∷ xs) h = absurd (h 0 (omega arith) refl)
all_some (Some i ∷ xs) h = ap (λ (ys : List (Option ℕ)). Some i ∷ ys) (all_some xs (λ s l e. h (suc s) (omega (arith, l)) e))

pub targets_edges : (m : Mdp) → IsMdp m → (chosen : ℕ → ℕ → Bool) (edges : List (List ℕ)) (n : ℕ) → AreTargets m chosen edges → n ≡ states_of m → AreEdges n edges
targets_edges m ok chosen edges n are e = record {
  count = are.count ∙ sym e;
  below = λ s t h is.
      (let ht : t < states_of m = omega (arith, h, e) in
      let z = step-has m chosen (λ x. x == s) t (sym (are.leads t s ht) ∙ is) in
      let b = target-below m ok t z.0 z.1 ht z.2 z.4 in
      let same = eqb-true z.1 s z.5 in
      omega (arith, b, same, e));
}

pub edges_all : (m : Mdp) → IsMdp m → (chosen : ℕ → ℕ → Bool) (edges : List (List ℕ)) → AreTargets m chosen edges → AreEdges (length edges) edges
edges_all m ok chosen edges are = targets_edges m ok chosen edges (length edges) are are.count

pub sources : (m : Mdp) (chosen : ℕ → ℕ → Bool) (edges back : List (List ℕ)) → AreTargets m chosen edges → AreReversed edges back → AreSources m chosen back
sources m chosen edges back are rev = record {
  count = rev.edges_back.count ∙ are.count;
  leads = λ s t hs ht. rev.same s t (omega (arith, hs, are.count)) (omega (arith, ht, are.count)) ∙ are.leads s t hs;
}

pub back_edges : (edges back : List (List ℕ)) (n : ℕ) → AreReversed edges back → length edges ≡ n → AreEdges n back
back_edges edges back n rev e = subst (λ (k : ℕ). AreEdges k back) e rev.edges_back

pub order_below : (edges : List (List ℕ)) (order seen : List ℕ) (n : ℕ) → IsOrder edges order → seen ≡ order → length edges ≡ n → (k : ℕ) → k < length seen → get_or seen k 0 < n
order_below edges order seen n are is e = subst (λ (xs : List ℕ). (k : ℕ) → k < length xs → get_or xs k 0 < n) (sym is) (λ k h. let b = are.below k h in omega (arith, b, e))

pub order_all : (edges : List (List ℕ)) (order seen : List ℕ) (n : ℕ) → IsOrder edges order → seen ≡ order → length edges ≡ n → (s : ℕ) → s < n → StandsIn s seen
order_all edges order seen n are is e = subst (λ (xs : List ℕ). (s : ℕ) → s < n → StandsIn s xs) (sym is) (λ s h. are.all s (omega (arith, h, e)))

pub groups_below : (back : List (List ℕ)) (order : List ℕ) (n : ℕ) (groups seen : List (Option ℕ)) → AreGrouped back order n groups → seen ≡ groups → (s k : ℕ) → s < length seen
    → rank_at seen s ≡ Some k → k < n
groups_below back order n groups seen a is = subst (λ (xs : List (Option ℕ)). (s k : ℕ) → s < length xs → rank_at xs s ≡ Some k → k < n) (sym is)
    (λ s k h e. let w = a.each s (omega (arith, h, a.count)) in let same = some-same k w.0 (rank_at groups s) e w.1 in omega (arith, same, w.2))

module _ (m : Mdp) (ok : IsMdp m) (chosen : ℕ → ℕ → Bool) (edges back : List (List ℕ)) (order : List ℕ) (groups new : List (Option ℕ)) (n : ℕ) (size : n ≡ states_of m)
    (are : AreTargets m chosen edges) (rev : AreReversed edges back) (ordered : IsOrder edges order) (a : AreGrouped back order n groups) (r : IsRenumbered groups new) where
  classes : AreClasses m chosen groups
  classes = a.classes m chosen ok (sources m chosen edges back are rev) (ordered.searched m chosen ok are)

  both : (s : ℕ) → s < states_of m → (k i : ℕ) × (rank_at groups s ≡ Some k) × (rank_at new s ≡ Some i) × (get_or (map plain_rank new) s 0 ≡ i)
  both s h =
      let g = a.each s (omega (arith, h, size)) in
      let w = r.some s g.0 (omega (arith, h, size, a.count)) g.1 in
      (g.0, w.0, g.1, w.1, get_or-map plain_rank new s None 0 (omega (arith, h, size, a.count, r.count)) ∙ ap plain_rank w.1)

  places : (s : ℕ) → s < states_of m → s < length groups
  places s h = omega (arith, h, size, a.count)

  pub components_found : AreComponents m chosen (map plain_rank new)
  components_found = record {
    count = length-map new plain_rank ∙ r.count ∙ a.count ∙ size;
    same = λ s t hs ht.
        (let p = both s hs in
        let q = both t ht in
        let w = r.same s t p.0 q.0 p.1 q.1 (places s hs) (places t ht) p.2 q.2 p.3 q.3 in (
          (λ e. (let k : p.0 ≡ q.0 = w.0 (sym p.4 ∙ e ∙ q.4) in classes.same s t q.0 hs ht (p.2 ∙ ap Some k) q.2)),
          (λ j. (let k : p.0 ≡ q.0 = some-same p.0 q.0 (rank_at groups s) p.2 (classes.joined s t q.0 hs ht j q.2) in p.4 ∙ w.1 k ∙ sym q.4)),
        ));
    numbered = ap (is_numbered 0) (all_some new (λ s h none. (let p = both s (omega (arith, h, r.count, a.count, size)) in none-some p.1 (rank_at new s) none p.3))) ∙ r.in_order;
  }
