-- A policy of exits leaves the nodes that go on, in whatever problem over the nodes it is taken.
use Rattle.std.proofs.Common.{◌≡◌, ℕ, zero, suc, ◌<◌, Bool, false, not, ◌==◌, List, [], length, map, get_or, refl, sym, ◌∙◌, ap, subst, arith, zero-add}
use Rattle.std.proofs.lemmas.List.FromFn.{get_or-map-range_with_len, length-map-range_with_len, fill_by_all}
use Rattle.std.specs.List.{range_with_len}
use Rattle.mdp_math.specs.Rational.{ℚ}
use Rattle.mdp_spec.specs.{Mdp.{Entry}, Row.{IsMdp}}
use Rattle.mdp_elim.specs.System.{Leaves}
use Rattle.mdp_ends.specs.{Quotient.{nodes_in}, Toward.{IsOuter, outer_row}}
use Rattle.mdp_ends.proofs.Lifting.{outer_rows, active_nodes, node_ranks, outer_leaves}
use Rattle.mdp_policy_iteration.specs.{Problem.{Problem, Move, go, count, goes_on, row_from, taken, rows_of, active_of}, Values.{CanLeave}}
use Rattle.mdp_policy_iteration.proofs.Chain.{row-stops}
use Rattle.mdp_quot.specs.{Quotient.{Quotient, row_of}, OfModel.{IsOfModel}, Outer.{IsOuterPolicy}}
use Rattle.mdp_quot.proofs.{Selected.{are_selected}, OuterNodes.{suc_eqb}, InModel.{row-same, outer-policy}}

-- a move does what entry c says: 0 stops, 1 + i goes on by the row of exit i
abbrev pub Does : Quotient → ℕ → ℕ → Move → Type 0
Does q k zero move = goes_on move ≡ false
Does q k (suc i) move = (r : ℚ) × (move ≡ go r (row_of q k i))

module _ (q : Quotient) (of : IsOfModel q) (p : Problem) (policy outer : List ℕ) (n : count p ≡ length q.exits) (o : IsOuterPolicy q outer)
    (does : (k : ℕ) → k < count p → Does q k (get_or outer k 0) (taken p policy k)) where
  abbrev ok : IsMdp of.m
  ok = of.model.mdp

  abbrev nodes : List ℕ
  nodes = q.nodes

  is_outer : IsOuter of.m of.parts q.nodes outer
  is_outer = outer-policy of.m ok of.parts of.ends q of.quotient outer o

  count-is : count p ≡ nodes_in q.nodes
  count-is = n ∙ (are_selected of.m of.parts q of.quotient).count

  -- ---- node by node

  row_by : (k c : ℕ) (move : Move) → k < length q.exits → get_or outer k 0 ≡ c → Does q k c move → row_from k move ≡ outer_row of.m of.parts q.nodes k c
  row_by k zero move l e d = row-stops k move d
  row_by k (suc i) move l e d = ap (row_from k) d.1 ∙ row-same of.m ok of.parts of.ends q of.quotient k i l (o.exits k i l e)

  active_by : (k c : ℕ) (move : Move) → Does q k c move → goes_on move ≡ not (c == 0)
  active_by k zero move d = d
  active_by k (suc i) move d = rw (suc_eqb i) (ap goes_on d.1)

  -- ---- the chain

  map_same : {A : Type 0} (f g : ℕ → A) (d : A) → ((k : ℕ) → k < count p → f k ≡ g k) → map f (range_with_len 0 (count p)) ≡ map g (range_with_len 0 (nodes_in q.nodes))
  map_same f g d same =
      fill_by_all g (map f (range_with_len 0 (count p))) (count p) d (length-map-range_with_len f 0 (count p))
      (λ k l. get_or-map-range_with_len f 0 (count p) k k d l (zero-add k) ∙ same k l)
      ∙ ap (λ (n : ℕ). map g (range_with_len 0 n)) count-is

  rows-same : rows_of p policy ≡ outer_rows of.m ok of.parts of.ends q.nodes of.quotient.nodes outer is_outer
  rows-same =
      map_same (λ k. row_from k (taken p policy k)) (λ k. outer_row of.m of.parts q.nodes k (get_or outer k 0)) []
      (λ k l. row_by k (get_or outer k 0) (taken p policy k) (omega (arith, l, n)) refl (does k l))

  active-same : active_of p policy ≡ active_nodes of.m ok of.parts of.ends q.nodes of.quotient.nodes outer is_outer
  active-same =
      map_same (λ k. goes_on (taken p policy k)) (λ k. not (get_or outer k 0 == 0)) false (λ k l. active_by k (get_or outer k 0) (taken p policy k) (does k l))

  abbrev ranks : List ℕ
  ranks = node_ranks of.m ok of.parts of.ends q.nodes of.quotient.nodes outer is_outer

  pub can-leave : CanLeave p policy
  can-leave = (
    ranks,
    length-map-range_with_len _ 0 (nodes_in q.nodes) ∙ sym count-is,
    subst (λ (rows : List (List Entry)). Leaves rows (active_of p policy) ranks) (sym rows-same)
        (subst (λ (active : List Bool). Leaves (outer_rows of.m ok of.parts of.ends q.nodes of.quotient.nodes outer is_outer) active ranks) (sym active-same)
        (outer_leaves of.m ok of.parts of.ends q.nodes of.quotient.nodes outer is_outer)),
  )
