-- Each policy of the problem of the best gains leaves its nodes, and a best one has the best gains.
use Rattle.std.proofs.Common.{◌≡◌, ℕ, zero, suc, ◌<◌, ◌+◌, inl, true, List, length, get_or, refl, sym, ◌∙◌, ap, subst, arith, zero-add, pos, Option, Some, None}
use Rattle.std.proofs.lemmas.List.FromFn.{get_or-map-range_with_len, length-map-range_with_len}
use Rattle.std.specs.Option.{is_some}
use Rattle.mdp_math.specs.Rational.{ℚ, of_int}
use Rattle.mdp_math.proofs.Laws.{zero-+ℚ}
use Rattle.mdp_spec.specs.{Mdp.{value_at}, Row.{row_sum}}
use Rattle.mdp_rows.specs.{declared.dir.Dir.{Dir}, Better.{IsAsGood}}
use Rattle.mdp_policy_iteration.specs.Problem.{Problem, Node, Choice, Move, worth, count, goes_on, taken, choices_at, IsCandidate, IsPolicy}
use Rattle.mdp_policy_iteration.specs.{Values.{CanLeave}, Laws.{IsSolvable, IsBest}}
use Rattle.mdp_policy_iteration.proofs.Chain.{can_take}
use Rattle.mdp_quot.specs.{Quotient.{Quotient, row_of}, OfModel.{IsOfModel}}
use Rattle.mdp_quot.specs.{Problem.{component_of, gain_of, first_choice, outer_node, outer_problem, outer_start}, Outer.{Answer, IsOuterPolicy, IsBestOuter}}
use Rattle.mdp_quot.proofs.{Sizes.{is_shaped}, InModel.{exitless-component}, Chains.{Does, can-leave}}
use Rattle.mdp_quot.proofs.OuterNodes.{exit_count, entry, choices-len, choices-at, outer-count, outer-at, outer-choice, outer-choices, outer-can, outer-known}

-- a component that there is
pub some_component : (o : Option ℕ) → is_some o ≡ true → (i : ℕ) × (o ≡ Some i)
some_component None e = cc
some_component (Some i) e = (i, refl)

module _ (dir : Dir) (q : Quotient) (gains : List ℚ) where
  abbrev p : Problem
  p = outer_problem dir q gains

  is_node : (k : ℕ) → k < length q.exits → k < count p
  is_node k l = omega (arith, l, outer-count dir q gains)

  -- ---- a policy

  module _ (policy : List ℕ) (is : IsPolicy p policy) where
    abbrev chosen : ℕ → ℕ
    chosen k = get_or policy k 0

    pub taken-is : (k : ℕ) → k < length q.exits → taken p policy k ≡ (entry q gains k (chosen k)).move
    taken-is k l = (outer-can dir q gains k (is_node k l) (chosen k) (can_take p policy is k (is_node k l))).1

    in_range : (k : ℕ) → k < length q.exits → chosen k < exit_count q gains k + 1
    in_range k l = (outer-can dir q gains k (is_node k l) (chosen k) (can_take p policy is k (is_node k l))).0

    candidate : (k : ℕ) → k < length q.exits → (entry q gains k (chosen k)).candidate ≡ true
    candidate k l =
        let w : IsCandidate (outer_node q gains k) (chosen k) = subst (λ (n : Node). IsCandidate n (chosen k)) (outer-at dir q gains k (is_node k l)) (is.candidate k (is_node k l)) in
        sym (ap Choice.candidate (choices-at q gains k (chosen k) (in_range k l))) ∙ w.1

    -- it is a policy of exits
    pub is-outer : IsOuterPolicy q policy
    is-outer = record {
      count = is.one_each ∙ outer-count dir q gains;
      exits = λ k i l e. (let h = in_range k l in omega (arith, h, e));
      stops = λ k l e. some_component (component_of q k) (sym (ap (λ (c : ℕ). (entry q gains k c).candidate) e) ∙ candidate k l);
    }

    does_by : (k c : ℕ) (move : Move) → move ≡ (entry q gains k c).move → Does q k c move
    does_by k zero move e = ap goes_on e
    does_by k (suc i) move e = (of_int (pos 0), e)

    -- and leaves its nodes
    pub outer-leaves : IsOfModel q → CanLeave p policy
    outer-leaves of =
        can-leave q of p policy policy (outer-count dir q gains) is-outer
        (λ k l. does_by k (chosen k) (taken p policy k) (taken-is k (omega (arith, l, outer-count dir q gains))))

  -- ---- the start

  abbrev first_at : ℕ → ℕ
  first_at k = first_choice (component_of q k)

  start-at : (k : ℕ) → k < length q.exits → get_or (outer_start q) k 0 ≡ first_at k
  start-at k l = get_or-map-range_with_len first_at 0 (length q.exits) k k 0 l (zero-add k)

  -- a node that is no end component has an exit
  has_exit : IsOfModel q → (k : ℕ) → k < length q.exits → component_of q k ≡ None → 0 < exit_count q gains k
  has_exit of k l e = at (exit_count q gains k) refl where
    at : (n : ℕ) → exit_count q gains k ≡ n → 0 < exit_count q gains k
    at zero z = let w = exitless-component of.m of.model.mdp of.parts of.ends q of.quotient k l z in absurd (let h : None ≡ Some w.0 = sym e ∙ w.1 in cc)
    at (suc n) z = omega (arith, z)

  pub can_by : (k c : ℕ) → c < exit_count q gains k + 1 → (entry q gains k c).candidate ≡ true → IsCandidate (outer_node q gains k) c
  can_by k c l e = (omega (arith, l, choices-len q gains k), ap Choice.candidate (choices-at q gains k c l) ∙ e)

  first_by : IsOfModel q → (k : ℕ) (o : Option ℕ) → k < length q.exits → component_of q k ≡ o → IsCandidate (outer_node q gains k) (first_choice o)
  first_by of k None l e = can_by k 1 (omega (arith, has_exit of k l e)) refl
  first_by of k (Some i) l e = can_by k 0 (omega arith) (ap is_some e)

  start-policy : IsOfModel q → IsPolicy p (outer_start q)
  start-policy of = record {
    one_each = length-map-range_with_len first_at 0 (length q.exits) ∙ sym (outer-count dir q gains);
    candidate = λ k l.
        (let h : k < length q.exits = omega (arith, l, outer-count dir q gains) in
        subst (λ (n : Node). IsCandidate n (get_or (outer_start q) k 0)) (sym (outer-at dir q gains k l))
        (subst (λ (c : ℕ). IsCandidate (outer_node q gains k) c) (sym (start-at k h)) (first_by of k (component_of q k) h refl)));
  }

  pub outer-solvable : IsOfModel q → IsSolvable p (outer_start q)
  outer-solvable of = record {
    problem = outer-known dir q gains (is_shaped q of);
    policy = start-policy of;
    leaves = outer-leaves (outer_start q) (start-policy of) of;
    keeps = inl (λ policy is. outer-leaves policy is of);
  }

  -- ---- the end

  -- where nothing is earned an exit is worth what it leads to
  pub exit-worth : (x : List ℚ) (k i : ℕ) → worth x (entry q gains k (suc i)).move ≡ row_sum (row_of q k i) x
  exit-worth x k i = zero-+ℚ (row_sum (row_of q k i) x)

  pub stop-worth : (x : List ℚ) (k i : ℕ) → component_of q k ≡ Some i → worth x (entry q gains k 0).move ≡ value_at gains i
  stop-worth x k i e = ap (gain_of gains) e

  module _ (policy : List ℕ) (x : List ℚ) (best : IsBest p policy x) where
    abbrev answer : Answer
    answer = record { policy = policy; values = x }

    value-is : (k c : ℕ) → k < length q.exits → get_or policy k 0 ≡ c → value_at x k ≡ worth x (entry q gains k c).move
    value-is k c l e =
        best.values.at k (is_node k l) ∙ ap (worth x) (taken-is policy best.is k l) ∙ ap (λ (c : ℕ). worth x (entry q gains k c).move) e

    none-better : (k c : ℕ) → k < length q.exits → c < exit_count q gains k + 1 → (entry q gains k c).candidate ≡ true → IsAsGood dir (value_at x k) (worth x (entry q gains k c).move)
    none-better k c l h e =
        let j : c < length (choices_at p k) = omega (arith, h, outer-choices dir q gains k (is_node k l)) in
        let same = (outer-choice dir q gains k (is_node k l) c j).1 in
        subst (λ (y : Choice). IsAsGood dir (value_at x k) (worth x y.move)) same (best.none_better k c (is_node k l) j (ap Choice.candidate same ∙ e))

    pub outer-best : IsBestOuter dir q gains answer
    outer-best = record {
      policy = is-outer policy best.is;
      worth = record {
        count = best.values.len ∙ outer-count dir q gains;
        stopped = λ k i l e c. value-is k 0 l e ∙ stop-worth x k i c;
        left = λ k i l e. value-is k (suc i) l e ∙ exit-worth x k i;
      };
      gain = λ k i l c. subst (IsAsGood dir (value_at x k)) (stop-worth x k i c) (none-better k 0 l (omega arith) (ap is_some c));
      exit = λ k i l h. subst (IsAsGood dir (value_at x k)) (exit-worth x k i) (none-better k (suc i) l (omega (arith, h)) refl);
    }
