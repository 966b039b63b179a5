-- Small models, computed.
use Rattle.std.proofs.Common.{◌≡◌, ℕ, zero, suc, ◌<◌, ◌≤◌, length, get_or, sym, arith, Bool, true, false, List, [], ◌∷◌, refl, pos, Option, Some, None}
use Rattle.std.proofs.{lemmas.List.Elements.{All-from_recursion}, lemmas.Bool.{false≢true}}
use Rattle.mdp_math.specs.{Gcd.{gcd, gcd_with_fuel}, Rational.{ℚ, of_int, ratio, ◌+ℚ◌, ◌<ℚ◌, le_ℚ, lt_ℚ}}
use Rattle.mdp_spec.specs.{Mdp.{Mdp, choices_at, row_at}, Row.{IsRow, IsMdp}}
use Rattle.mdp_rows.specs.Preds.{pair}
use Rattle.mdp_graph.proofs.ModelBy.{model_by, one_row}
use Rattle.mdp_ends.specs.{Ends.{is_inside, count_of, AreEnds}, Quotient.{AreNodes, exits_of, nodes_in, node_row}}
use Rattle.mdp_ends.specs.Toward.{target_in, inner_falls, IsToward, first_below, lifted}
use Rattle.mdp_graph.specs.{Layers.{reached}, Sets.{marked}}
use Rattle.mdp_ends.proofs.ByTest.{each_below, agree, components_test, settled_test, has_test, numbers_test, nodes_test, ends_by_test, nodes_by_test}
use Rattle.mdp_ends.proofs.TowardLaws.{reached_by_test, ranks_by_test}
use Rattle.mdp_spec.proofs.Small.{choice, entry, half, one, quarter, state}

-- ---- state 0 stays, or goes on to states 1 and 2, which stay: three parts

abbrev three_parts : Mdp
three_parts = record {
  names = [];
  labels = [];
  states = state (choice (entry 0 one ∷ []) ∷ choice (entry 1 half ∷ entry 2 half ∷ []) ∷ [])
      ∷ state (choice (entry 1 one ∷ []) ∷ []) ∷ state (choice (entry 2 one ∷ []) ∷ []) ∷ [];
}

abbrev three_ends : List (Option ℕ)
three_ends = Some 0 ∷ Some 1 ∷ Some 2 ∷ []

abbrev three_nodes : List ℕ
three_nodes = 0 ∷ 1 ∷ 2 ∷ []

three_nodes-counted : (count_of three_ends ≡ 3) × (nodes_in three_nodes ≡ 3)
three_nodes-counted = (refl, refl)

three_exits : (exits_of three_parts three_ends three_nodes 0 ≡ pair 0 1 ∷ []) × (exits_of three_parts three_ends three_nodes 1 ≡ [])
three_exits = (refl, refl)

three_row : node_row three_parts three_nodes 0 1 ≡ entry 1 half ∷ entry 2 half ∷ []
unfolding ratio of_int ◌+ℚ◌ gcd gcd_with_fuel le_ℚ
three_row = refl

-- ---- states 0 and 1 go to one another, and state 0 may leave to state 2

abbrev two_parts : Mdp
two_parts = record {
  names = [];
  labels = [];
  states = state (choice (entry 1 one ∷ []) ∷ choice (entry 2 one ∷ []) ∷ [])
      ∷ state (choice (entry 0 one ∷ []) ∷ []) ∷ state (choice (entry 2 one ∷ []) ∷ []) ∷ [];
}

abbrev two_ends : List (Option ℕ)
two_ends = Some 0 ∷ Some 0 ∷ Some 1 ∷ []

abbrev two_nodes : List ℕ
two_nodes = 0 ∷ 0 ∷ 1 ∷ []

two_nodes-counted : (count_of two_ends ≡ 2) × (nodes_in two_nodes ≡ 2) × (is_inside two_parts two_ends 0 0 ≡ true) × (is_inside two_parts two_ends 0 1 ≡ false)
two_nodes-counted = (refl, refl, refl, refl)

two_exits : (exits_of two_parts two_ends two_nodes 0 ≡ pair 0 1 ∷ []) × (exits_of two_parts two_ends two_nodes 1 ≡ [])
two_exits = (refl, refl)

two_row : node_row two_parts two_nodes 0 1 ≡ entry 1 one ∷ []
unfolding ratio of_int ◌+ℚ◌ gcd gcd_with_fuel le_ℚ
two_row = refl

-- ---- state 0 is in no part

abbrev splits : Mdp
splits = record {
  names = [];
  labels = [];
  states = state (choice (entry 1 half ∷ entry 2 half ∷ []) ∷ choice (entry 0 half ∷ entry 1 quarter ∷ entry 2 quarter ∷ []) ∷ [])
      ∷ state (choice (entry 1 one ∷ []) ∷ []) ∷ state (choice (entry 2 one ∷ []) ∷ []) ∷ [];
}

abbrev split_ends : List (Option ℕ)
split_ends = None ∷ Some 0 ∷ Some 1 ∷ []

split_exits : exits_of splits split_ends three_nodes 0 ≡ pair 0 0 ∷ pair 0 1 ∷ []
split_exits = refl

split_row : node_row splits three_nodes 0 1 ≡ entry 0 half ∷ entry 1 quarter ∷ entry 2 quarter ∷ []
unfolding ratio of_int ◌+ℚ◌ gcd gcd_with_fuel le_ℚ
split_row = refl

-- ---- state 0 stays or goes to state 1, which stays: two parts, though one is reached from the other

abbrev one_way : Mdp
one_way = record { names = []; labels = []; states = state (choice (entry 0 one ∷ []) ∷ choice (entry 1 one ∷ []) ∷ []) ∷ state (choice (entry 1 one ∷ []) ∷ []) ∷ [] }

abbrev way_ends : List (Option ℕ)
way_ends = Some 0 ∷ Some 1 ∷ []

abbrev way_nodes : List ℕ
way_nodes = 0 ∷ 1 ∷ []

-- ---- all are models

row_halves : IsRow 3 (entry 1 half ∷ entry 2 half ∷ [])
unfolding gcd gcd_with_fuel ratio of_int ◌+ℚ◌ lt_ℚ
row_halves = record {
  distribution = record { ascending = refl; positive = All-from_recursion (λ x. of_int (pos 0) <ℚ x.prob) (entry 1 half ∷ entry 2 half ∷ []) (record { lt = tt }, (record { lt = tt }, tt)); total = refl };
  in_range = All-from_recursion (λ x. x.target < 3) (entry 1 half ∷ entry 2 half ∷ []) (omega arith, (omega arith, tt));
}

row_quarters : IsRow 3 (entry 0 half ∷ entry 1 quarter ∷ entry 2 quarter ∷ [])
unfolding gcd gcd_with_fuel ratio of_int ◌+ℚ◌ lt_ℚ
row_quarters = record {
  distribution = record {
    ascending = refl;
    positive = All-from_recursion (λ x. of_int (pos 0) <ℚ x.prob)
        (entry 0 half ∷ entry 1 quarter ∷ entry 2 quarter ∷ []) (record { lt = tt }, (record { lt = tt }, (record { lt = tt }, tt)));
    total = refl;
  };
  in_range = All-from_recursion (λ x. x.target < 3) (entry 0 half ∷ entry 1 quarter ∷ entry 2 quarter ∷ []) (omega arith, (omega arith, (omega arith, tt)));
}

three_parts-model : IsMdp three_parts
three_parts-model =
    model_by three_parts (omega arith) (omega arith)
    ((omega arith, (one_row 3 0 (omega arith), (row_halves, tt))), ((omega arith, (one_row 3 1 (omega arith), tt)), ((omega arith, (one_row 3 2 (omega arith), tt)), tt)))

two_parts-model : IsMdp two_parts
two_parts-model =
    model_by two_parts (omega arith) (omega arith)
    ((omega arith, (one_row 3 1 (omega arith), (one_row 3 2 (omega arith), tt))), ((omega arith, (one_row 3 0 (omega arith), tt)), ((omega arith, (one_row 3 2 (omega arith), tt)), tt)))

splits-model : IsMdp splits
splits-model = model_by splits (omega arith) (omega arith) ((omega arith, (row_halves, (row_quarters, tt))), ((omega arith, (one_row 3 1 (omega arith), tt)), ((omega arith, (one_row 3 2 (omega arith), tt)), tt)))

one_way-model : IsMdp one_way
one_way-model = model_by one_way (omega arith) (omega arith) ((omega arith, (one_row 2 0 (omega arith), (one_row 2 1 (omega arith), tt))), ((omega arith, (one_row 2 1 (omega arith), tt)), tt))

-- ---- their end components and nodes

pub three_ends-are : AreEnds three_parts three_ends
unfolding each_below agree components_test settled_test has_test numbers_test reached
three_ends-are = ends_by_test three_parts three_parts-model three_nodes three_ends refl refl refl refl refl refl refl refl

pub two_ends-are : AreEnds two_parts two_ends
unfolding each_below agree components_test settled_test has_test numbers_test reached
two_ends-are = ends_by_test two_parts two_parts-model two_nodes two_ends refl refl refl refl refl refl refl refl

pub split_ends-are : AreEnds splits split_ends
unfolding each_below agree components_test settled_test has_test numbers_test reached
split_ends-are = ends_by_test splits splits-model three_nodes split_ends refl refl refl refl refl refl refl refl

pub way_ends-are : AreEnds one_way way_ends
unfolding each_below agree components_test settled_test has_test numbers_test reached
way_ends-are = ends_by_test one_way one_way-model way_nodes way_ends refl refl refl refl refl refl refl refl

pub three_nodes-are : AreNodes three_ends three_nodes
unfolding each_below agree nodes_test
three_nodes-are = nodes_by_test three_ends three_nodes refl refl refl

pub two_nodes-are : AreNodes two_ends two_nodes
unfolding each_below agree nodes_test
two_nodes-are = nodes_by_test two_ends two_nodes refl refl refl

pub split_nodes-are : AreNodes split_ends three_nodes
unfolding each_below agree nodes_test
split_nodes-are = nodes_by_test split_ends three_nodes refl refl refl

-- ---- within the part of states 0 and 1, toward state 0; and what leaving by state 0 is lifted to

abbrev toward_marks : List Bool
toward_marks = true ∷ true ∷ false ∷ []

abbrev toward_ranks : List ℕ
toward_ranks = 0 ∷ 1 ∷ 0 ∷ []

abbrev no_choices : List ℕ
no_choices = 0 ∷ 0 ∷ 0 ∷ []

abbrev state_0 : List Bool
state_0 = true ∷ false ∷ false ∷ []

pub toward_0 : IsToward two_parts two_ends 0 state_0 toward_marks toward_ranks no_choices
unfolding each_below agree reached
toward_0 = record {
  reaches = reached_by_test two_parts two_parts-model (is_inside two_parts two_ends) (target_in two_ends 0 state_0) toward_marks refl refl;
  ranked = ranks_by_test two_parts two_parts-model (is_inside two_parts two_ends) (target_in two_ends 0 state_0) toward_marks toward_ranks refl refl refl refl;
  chosen = record {
    count = refl;
    in_range = in_range;
    passes = passes;
    least = λ s c h e l. at_zero s c;
    zero = λ s h e. is_zero s;
  };
} where
  is_zero : (s : ℕ) → get_or no_choices s 0 ≡ 0
  is_zero zero = refl
  is_zero (suc zero) = refl
  is_zero (suc (suc zero)) = refl
  is_zero (suc (suc (suc s))) = refl

  at_zero : (s c : ℕ) → get_or no_choices s 0 ≤ c
  at_zero s c = let z = is_zero s in omega (arith, z)

  in_range : (s : ℕ) → s < 3 → get_or no_choices s 0 < length (choices_at two_parts s)
  in_range zero h = omega arith
  in_range (suc zero) h = omega arith
  in_range (suc (suc zero)) h = omega arith
  in_range (suc (suc (suc s))) h = absurd (omega (arith, h))

  passes : (s : ℕ) → s < 3 → marked toward_marks s ≡ true → marked state_0 s ≡ false → inner_falls two_parts two_ends toward_marks toward_ranks s (get_or no_choices s 0) ≡ true
  passes zero h e f = absurd (false≢true (sym f))
  passes (suc zero) h e f = refl
  passes (suc (suc zero)) h e f = absurd (false≢true e)
  passes (suc (suc (suc s))) h e f = absurd (omega (arith, h))

abbrev leaving : List ℕ
leaving = 1 ∷ 0 ∷ []

abbrev lifted_policy : List ℕ
lifted_policy = 1 ∷ 0 ∷ 0 ∷ []

lifts : lifted two_parts two_ends two_nodes leaving no_choices ≡ lifted_policy
unfolding first_below reached
lifts = refl
