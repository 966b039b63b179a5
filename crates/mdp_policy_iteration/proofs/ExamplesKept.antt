-- Three nodes, computed: what a choice reads, what is kept of a policy's evaluation, and the scope of a change.
use Rattle.std.proofs.{Common.{◌≡◌, ◌⊎◌, inl, inr, ℕ, zero, suc, ◌<◌, List, [], ◌∷◌, true, false, Some, None, Ok, refl, arith}, lemmas.Bool.{false≢true}}
use Rattle.std.proofs.lemmas.List.Elements.{All-from_recursion}
use Rattle.std.specs.{List.{All}, Prelude.{slice_index}}
use Rattle.mdp_math.specs.{Gcd.{gcd, gcd_with_fuel}, Rational.{of_int, ratio, ◌+ℚ◌, ◌*ℚ◌, neg_ℚ, inv_ℚ}}
use Rattle.mdp_math.specs.Written.{written_add, written_mul, written_compare, narrow, narrow_ℚ}
use Rattle.mdp_spec.specs.Mdp.{Entry, value_at}
use Rattle.mdp_spec.proofs.Small.{entry, half, number}
use Rattle.mdp_rows.specs.{Preds.{is_among, pair}, declared.dir.Dir.TheVariants.{Max}}
use Rattle.mdp_elim.specs.{Equation.{Equation, no_equation}, Elimination.{divided_rest, plus_equation, eliminated, evaluated}, Entries.{Between}}
use Rattle.mdp_elim.specs.{Predecessors.{at}, System.{equation_of}, Kept.{HasValue, solved_at}}
use Rattle.mdp_elim.proofs.Others.{written_sum-agree}
use Rattle.mdp_policy_iteration.specs.{Problem.{Problem, given, decision, stop, go, choice_at, row_from, taken}, Path.{fits, improvement}}
use Rattle.mdp_policy_iteration.specs.{Reads.{IsGiven, Reads}, DependentsOf.{AreDependents}, Evaluated.{Evaluation, IsEvaluated, DifferAt, equations_of}}
use Rattle.mdp_policy_iteration.specs.Scope.{IsScope}
use Rattle.mdp_policy_iteration.proofs.{Reading.{reads-by}, AllNodes.{all-below, all-ascend}, Examples.{may}}

-- node 0 goes to 1 and 2 with 1/2 each, or to 2; node 1 stops with 1/2, or goes to 2; node 2 is worth 1
abbrev three : Problem
three = record {
  dir = Max;
  nodes =
      decision (may (go (number 0) (entry 1 half ∷ entry 2 half ∷ [])) ∷ may (go (number 0) (entry 2 (number 1) ∷ [])) ∷ [])
      ∷ decision (may (stop half) ∷ may (go (number 0) (entry 2 (number 1) ∷ [])) ∷ []) ∷ given (number 1) ∷ [];
}

-- an entry to none of these nodes
abbrev IsOut : List ℕ → Entry → Type 0
IsOut nodes x = is_among x.target nodes ≡ false

-- what holds of the three nodes
each_of_three : (P : ℕ → Type 0) → P 0 → P 1 → P 2 → (s : ℕ) → s < 3 → P s
each_of_three P a b c zero l = a
each_of_three P a b c (suc zero) l = b
each_of_three P a b c (suc (suc zero)) l = c
each_of_three P a b c (suc (suc (suc s))) l = absurd (omega arith)

-- choice 0 of node 0 reads node 1; node 2 is given
both-read : Reads three 0 0 (1 ∷ [])
both-read =
    reads-by three 0 0 (1 ∷ []) (All-from_recursion (λ t. t < 3) (1 ∷ []) (omega arith, tt)) (choice_at three 0 0) refl
    (All-from_recursion (λ x. (is_among x.target (1 ∷ []) ≡ true) ⊎ IsGiven three x.target) (entry 1 half ∷ entry 2 half ∷ []) (inl refl, (inr (number 1, refl), tt)))
    (λ x y agree. written_sum-agree x y (number 0) (entry 1 half ∷ entry 2 half ∷ [])
    (All-from_recursion (λ e. value_at x e.target ≡ value_at y e.target) (entry 1 half ∷ entry 2 half ∷ []) (agree.listed 1 refl, (agree.fixed 2 (number 1, refl), tt))))

-- choice 0 of node 0 leads to node 1, which isn't given: so node 1 is listed
lists-one : (nodes : List ℕ) → Reads three 0 0 nodes → is_among 1 nodes ≡ true
lists-one nodes h = elim (h.row 0 (entry 1 half) (omega arith)) as (λ _. is_among 1 nodes ≡ true) [ inl e ↦ e | inr g ↦ absurd (let e = g.1 in cc) ]

not-nothing : Reads three 0 0 [] → ⊥
not-nothing h = false≢true (lists-one [] h)

-- dependents that leave it out aren't all of them
not-dependents : AreDependents three ([] ∷ [] ∷ [] ∷ []) → ⊥
not-dependents h = let r = h.complete 0 0 (omega arith) (omega arith) in false≢true (r.2 1 (lists-one r.0 r.1))

-- a policy by which node 1 goes on, and what is kept of it: x0 = 1/2 + 1/2 * x1, x1 = 1
abbrev goes : List ℕ
goes = 0 ∷ 1 ∷ 0 ∷ []

abbrev by_goes : Evaluation
by_goes = record {
  active = true ∷ true ∷ false ∷ [];
  constants = half ∷ number 1 ∷ number 0 ∷ [];
  kept = record {
    solved = (let one : Equation = record { entries = []; first = number 1; second = number 0 } in one ∷ one ∷ no_equation ∷ []);
    first = number 1 ∷ number 1 ∷ number 0 ∷ [];
    second = number 0 ∷ number 0 ∷ number 0 ∷ [];
  };
  values = number 1 ∷ number 1 ∷ number 1 ∷ [];
}

is_evaluated : IsEvaluated three goes by_goes
unfolding equation_of divided_rest plus_equation eliminated evaluated written_add written_mul narrow narrow_ℚ ◌+ℚ◌ ◌*ℚ◌ neg_ℚ inv_ℚ ratio of_int gcd gcd_with_fuel
is_evaluated = record {
  fit = each_of_three (λ s. fits three goes s ≡ true) refl refl refl;
  marks = refl;
  constant = refl;
  value = refl;
  written = refl;
  kept = record {
    solved = record {
      count = refl;
      each = each_of_three (λ s. solved_at by_goes.kept.solved 3 s (at (equations_of three goes by_goes.constants) s) ≡ Some (at by_goes.kept.solved s)) refl refl refl;
      down = each_of_three (λ s. Between 0 s (at by_goes.kept.solved s).entries) tt tt tt;
    };
    first = record { count = refl; each = each_of_three (HasValue Equation.first by_goes.kept.solved by_goes.kept.first) refl refl refl };
    second = record { count = refl; each = each_of_three (HasValue Equation.second by_goes.kept.solved by_goes.kept.second) refl refl refl };
  };
}

-- it and another policy differ at node 0 alone, to which no other node leads
differ-at_0 : DifferAt three (0 ∷ []) goes (1 ∷ 1 ∷ 0 ∷ [])
differ-at_0 = record {
  same = each_of_three (λ s. is_among s (0 ∷ []) ≡ false → slice_index (1 ∷ 1 ∷ 0 ∷ []) s ≡ slice_index goes s) (λ h. cc) (λ h. refl) (λ h. refl);
  closed = each_of_three (λ s. is_among s (0 ∷ []) ≡ false → All (IsOut (0 ∷ [])) (row_from s (taken three (1 ∷ 1 ∷ 0 ∷ []) s))) (λ h. cc)
      (λ h. All-from_recursion (IsOut (0 ∷ [])) (entry 2 (number 1) ∷ []) (refl, tt)) (λ h. All-from_recursion (IsOut (0 ∷ [])) (entry 2 (number 1) ∷ []) (refl, tt));
}

-- it and the policy by which node 1 stops differ at node 1, but node 0 leads to it
not-closed : DifferAt three (1 ∷ []) (0 ∷ 0 ∷ 0 ∷ []) goes → ⊥
not-closed h = let e : true ≡ false = h.closed 0 (omega arith) refl 0 (entry 1 half) (omega arith) in cc

-- the scope of a change at node 1, to which node 0 comes
scope-goes : IsScope three goes (pair 1 1 ∷ []) (record { affected = 0 ∷ 1 ∷ []; compared = 0 ∷ 1 ∷ [] })
scope-goes = record {
  affected_below = λ k d l. (let h = all-below 2 k d l in omega (arith, h));
  affected_ascend = all-ascend 2;
  compared_below = λ k d l. (let h = all-below 2 k d l in omega (arith, h));
  compared_ascend = all-ascend 2;
  changed = All-from_recursion (λ x. is_among x.state (0 ∷ 1 ∷ []) ≡ true) (pair 1 1 ∷ []) (refl, tt);
  closed = each_of_three (λ s. is_among s (0 ∷ 1 ∷ []) ≡ false → All (IsOut (0 ∷ 1 ∷ [])) (row_from s (taken three goes s))) (λ h. cc) (λ h. cc)
      (λ h. All-from_recursion (IsOut (0 ∷ 1 ∷ [])) (entry 2 (number 1) ∷ []) (refl, tt));
  within = λ s h. h;
  unread = λ x y agree. each_of_three (λ s. is_among s (0 ∷ 1 ∷ []) ≡ false → improvement three x s ≡ improvement three y s) (λ h. cc) (λ h. cc) (λ h. refl);
}

-- so node 1 alone isn't what is affected
not-affected : IsScope three goes (pair 1 1 ∷ []) (record { affected = 1 ∷ []; compared = 0 ∷ 1 ∷ [] }) → ⊥
not-affected h = let e : true ≡ false = h.closed 0 (omega arith) refl 0 (entry 1 half) (omega arith) in cc

-- where node 0 goes to 2 no other node comes to node 1; but choice 0 of node 0 reads node 1, so node 0 is compared
not-compared : IsScope three (1 ∷ 1 ∷ 0 ∷ []) (pair 1 1 ∷ []) (record { affected = 1 ∷ []; compared = 1 ∷ [] }) → ⊥
unfolding written_add written_mul written_compare narrow narrow_ℚ ◌+ℚ◌ ◌*ℚ◌ neg_ℚ inv_ℚ ratio of_int gcd gcd_with_fuel
not-compared h =
    let same = h.unread (number 1 ∷ number 0 ∷ number 1 ∷ []) (number 1 ∷ number 2 ∷ number 1 ∷ []) agree 0 (omega arith) refl in
    let x : improvement three (number 1 ∷ number 0 ∷ number 1 ∷ []) 0 ≡ Ok None = refl in
    let y : improvement three (number 1 ∷ number 2 ∷ number 1 ∷ []) 0 ≡ Ok (Some 0) = refl in cc
  where
    agree : (t : ℕ) → is_among t (1 ∷ []) ≡ false → value_at (number 1 ∷ number 0 ∷ number 1 ∷ []) t ≡ value_at (number 1 ∷ number 2 ∷ number 1 ∷ []) t
    agree zero e = refl
    agree (suc zero) e = cc
    agree (suc (suc t)) e = refl
