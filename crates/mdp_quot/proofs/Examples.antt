-- Small models, computed.
use Rattle.std.proofs.{Common.{◌≡◌, ℕ, ◌==◌, length, List, [], ◌∷◌, refl, sym, ap, arith, ◌%◌, Option, Some, None}, lemmas.Bool.{false≢true}}
use Rattle.mdp_math.specs.{Gcd.{gcd, gcd_with_fuel}, Rational.{of_int, ratio, ◌+ℚ◌, le_ℚ}}
use Rattle.mdp_spec.specs.Mdp.{Entry, Mdp}
use Rattle.mdp_spec.proofs.Small.{choice, entry, half, one, quarter, state}
use Rattle.mdp_rows.specs.Preds.{pair}
use Rattle.mdp_ends.specs.Quotient.{exits_of, nodes_in, merged, node_row}
use Rattle.mdp_quot.specs.Quotient.{Quotient, IsChosen, node_rows, chosen_rows, loop_row}

-- ---- state 0 stays, or goes on to states 1 and 2, which stay: three end components, three nodes

abbrev three : Mdp
three = record {
  names = [];
  labels = [];
  states = state (choice (entry 0 one ∷ []) ∷ choice (entry 1 half ∷ entry 2 half ∷ []) ∷ []) ∷ state (choice (entry 1 one ∷ []) ∷ []) ∷ state (choice (entry 2 one ∷ []) ∷ []) ∷ [];
}

abbrev three_parts : List (Option ℕ)
three_parts = Some 0 ∷ Some 1 ∷ Some 2 ∷ []

abbrev three_nodes : List ℕ
three_nodes = 0 ∷ 1 ∷ 2 ∷ []

three_count : nodes_in three_nodes ≡ 3
three_count = refl

three_exits : exits_of three three_parts three_nodes 0 ≡ pair 0 1 ∷ []
three_exits = refl

three_rows : node_rows three three_parts three_nodes 0 ≡ (entry 1 half ∷ entry 2 half ∷ []) ∷ []
unfolding ratio of_int ◌+ℚ◌ gcd gcd_with_fuel le_ℚ
three_rows = refl

-- node 1 has no exits: it stays
three_stays : node_rows three three_parts three_nodes 1 ≡ (entry 1 one ∷ []) ∷ []
three_stays = refl

-- ---- states 0 and 1 go to one another, and state 0 may leave to state 2: two end components, two nodes

abbrev two : Mdp
two = record {
  names = [];
  labels = [];
  states = state (choice (entry 1 one ∷ []) ∷ choice (entry 2 one ∷ []) ∷ []) ∷ state (choice (entry 0 one ∷ []) ∷ []) ∷ state (choice (entry 2 one ∷ []) ∷ []) ∷ [];
}

abbrev two_parts : List (Option ℕ)
two_parts = Some 0 ∷ Some 0 ∷ Some 1 ∷ []

abbrev two_nodes : List ℕ
two_nodes = 0 ∷ 0 ∷ 1 ∷ []

two_exits : (exits_of two two_parts two_nodes 0 ≡ pair 0 1 ∷ []) × (exits_of two two_parts two_nodes 1 ≡ [])
two_exits = (refl, refl)

two_rows : node_rows two two_parts two_nodes 0 ≡ (entry 1 one ∷ []) ∷ []
unfolding ratio of_int ◌+ℚ◌ gcd gcd_with_fuel le_ℚ
two_rows = refl

-- ---- state 0 is in no end component: a node with two exits

abbrev splits : Mdp
splits = record {
  names = [];
  labels = [];
  states =
      state (choice (entry 1 half ∷ entry 2 half ∷ []) ∷ choice (entry 0 half ∷ entry 1 quarter ∷ entry 2 quarter ∷ []) ∷ [])
      ∷ state (choice (entry 1 one ∷ []) ∷ []) ∷ state (choice (entry 2 one ∷ []) ∷ []) ∷ [];
}

abbrev split_parts : List (Option ℕ)
split_parts = None ∷ Some 0 ∷ Some 1 ∷ []

split_exits : exits_of splits split_parts three_nodes 0 ≡ pair 0 0 ∷ pair 0 1 ∷ []
split_exits = refl

split_row : node_row splits three_nodes 0 1 ≡ entry 0 half ∷ entry 1 quarter ∷ entry 2 quarter ∷ []
unfolding ratio of_int ◌+ℚ◌ gcd gcd_with_fuel le_ℚ
split_row = refl

-- ---- entries to one node are summed, and targets ascend though nodes come in another order

summed : merged 2 (λ s. s % 2) (entry 1 quarter ∷ entry 2 half ∷ entry 3 quarter ∷ []) ≡ entry 0 half ∷ entry 1 half ∷ []
unfolding ratio of_int ◌+ℚ◌ gcd gcd_with_fuel le_ℚ
summed = refl

-- two entries to one node that aren't summed are no merged row
not_summed : merged 1 (λ s. 0) (entry 0 half ∷ entry 1 half ∷ []) ≡ entry 0 half ∷ entry 0 half ∷ [] → ⊥
unfolding ratio of_int ◌+ℚ◌ gcd gcd_with_fuel le_ℚ
not_summed e = false≢true (ap (λ (xs : List Entry). length xs == 2) e)

-- ---- a choice of exits

abbrev two_quotient : Quotient
two_quotient = record { nodes = two_nodes; components = Some 0 ∷ Some 1 ∷ []; exits = (pair 0 1 ∷ []) ∷ [] ∷ []; rows = ((entry 1 one ∷ []) ∷ []) ∷ (loop_row 1 ∷ []) ∷ [] }

two_chosen : chosen_rows two_quotient (0 ∷ 0 ∷ []) ≡ (entry 1 one ∷ []) ∷ (entry 1 one ∷ []) ∷ []
two_chosen = refl

-- a node without exits has 0, and no other number
no_other : IsChosen two_quotient (0 ∷ 1 ∷ []) → ⊥
no_other c = false≢true (ap (λ k. k == 1) (sym (c.none 1 (omega arith) refl)))
