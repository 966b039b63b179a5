-- Each policy of the problem of the greatest number of exits leaves its nodes, and a best one gives the greatest number of exits.
use Rattle.std.proofs.Common.{◌≡◌, ℕ, zero, suc, ◌<◌, Bool, inl, inr, true, false, ◌==◌, if◌then◌else◌, List, length, map, get_or, refl, sym, ◌∙◌, ap, subst, arith, zero-add, pos}
use Rattle.std.proofs.{lemmas.Bool.{ne_eqb, eqb-true, eq-eqb, cases_Bool}, lemmas.List.FromFn.{get_or-map-range_with_len, length-map-range_with_len}}
use Rattle.std.specs.List.{range_with_len}
use Rattle.mdp_math.specs.Rational.{ℚ, of_int, ◌≤ℚ◌}
use Rattle.mdp_spec.specs.Mdp.{value_at}
use Rattle.mdp_policy_iteration.specs.Problem.{Problem, Node, Choice, stop, go, worth, count, goes_on, move_by, taken, choices_at, IsCandidate, IsPolicy}
use Rattle.mdp_policy_iteration.specs.{Values.{CanLeave}, Laws.{IsSolvable, IsBest}}
use Rattle.mdp_quot.specs.{Quotient.{Quotient, exits_at, row_of}, OfModel.{IsOfModel}, Problem.{steps_by, steps_node, steps_problem, steps_start}}
use Rattle.mdp_quot.specs.{Steps.{after_exit, IsLongest}, Outer.{IsOuterPolicy}}
use Rattle.mdp_quot.proofs.{Sizes.{is_shaped}, InModel.{exitless-component}, Chains.{Does, can-leave}}
use Rattle.mdp_quot.proofs.StepsNodes.{exit_count, is_exitless, going-at, goings-len, steps-count, steps-at, steps-choice, steps-candidate, steps-choices, steps-known}

pub positive : (n : ℕ) → (n == 0) ≡ false → 0 < n
positive zero e = cc
positive (suc n) e = omega arith

module _ (q : Quotient) where
  abbrev p : Problem
  p = steps_problem q

  is_node : (k : ℕ) → k < length q.exits → k < count p
  is_node k l = omega (arith, l, steps-count q)

  module _ (policy : List ℕ) (is : IsPolicy p policy) where
    -- ---- what it does at a node

    -- a node without exits stops with 0, any other earns 1 and goes on by its exit
    pub record Goes (k : ℕ) : Type 0 where
      pub exit : get_or policy k 0 < exit_count q k
      pub move : taken p policy k ≡ go (of_int (pos 1)) (row_of q k (get_or policy k 0))

    taken-is : (k : ℕ) → k < length q.exits → taken p policy k ≡ move_by (steps_node q k) (get_or policy k 0)
    taken-is k l = ap (λ (n : Node). move_by n (get_or policy k 0)) (steps-at q k (is_node k l))

    pub stays : (k : ℕ) → k < length q.exits → is_exitless q k ≡ true → taken p policy k ≡ stop (of_int (pos 0))
    stays k l e = taken-is k l ∙ ap (λ (b : Bool). move_by (steps_by q k b) (get_or policy k 0)) e

    pub goes : (k : ℕ) → k < length q.exits → is_exitless q k ≡ false → Goes k
    goes k l e =
        let can : IsCandidate (steps_by q k false) (get_or policy k 0) =
        subst (λ (b : Bool). IsCandidate (steps_by q k b) (get_or policy k 0)) e
        (subst (λ (n : Node). IsCandidate n (get_or policy k 0)) (steps-at q k (is_node k l)) (is.candidate k (is_node k l))) in
        let i : get_or policy k 0 < exit_count q k = omega (arith, can.0, goings-len q k) in
        record {
          exit = i;
          move = taken-is k l ∙ ap (λ (b : Bool). move_by (steps_by q k b) (get_or policy k 0)) e ∙ ap Choice.move (going-at q k (get_or policy k 0) i);
        }

    -- ---- it leaves its nodes

    -- the same as a policy of exits, in which a node without exits stops
    abbrev entry : ℕ → ℕ
    entry k = if is_exitless q k then 0 else suc (get_or policy k 0)

    abbrev outer : List ℕ
    outer = map entry (range_with_len 0 (length q.exits))

    outer-at : (k : ℕ) → k < length q.exits → get_or outer k 0 ≡ entry k
    outer-at k l = get_or-map-range_with_len entry 0 (length q.exits) k k 0 l (zero-add k)

    entry_none : (k : ℕ) → is_exitless q k ≡ true → entry k ≡ 0
    entry_none k e = ap (λ (b : Bool). if b then 0 else suc (get_or policy k 0)) e

    entry_some : (k : ℕ) → is_exitless q k ≡ false → entry k ≡ suc (get_or policy k 0)
    entry_some k e = ap (λ (b : Bool). if b then 0 else suc (get_or policy k 0)) e

    module _ (of : IsOfModel q) where
      is-outer : IsOuterPolicy q outer
      is-outer = record {
        count = length-map-range_with_len entry 0 (length q.exits);
        exits = λ k i l e. elim (cases_Bool (is_exitless q k)) [
          | inl none ↦ (let z : 0 ≡ suc i = sym (outer-at k l ∙ entry_none k none) ∙ e in absurd (omega (arith, z)))
          | inr some ↦ (let z : suc (get_or policy k 0) ≡ suc i = sym (outer-at k l ∙ entry_some k some) ∙ e in let g = (goes k l some).exit in omega (arith, z, g))
        ];
        stops = λ k l e. elim (cases_Bool (is_exitless q k)) [
          | inl none ↦ exitless-component of.m of.model.mdp of.parts of.ends q of.quotient k l (eqb-true (exit_count q k) 0 none)
          | inr some ↦ (let z : suc (get_or policy k 0) ≡ 0 = sym (outer-at k l ∙ entry_some k some) ∙ e in absurd (omega (arith, z)))
        ];
      }

      does : (k : ℕ) → k < length q.exits → Does q k (get_or outer k 0) (taken p policy k)
      does k l = elim (cases_Bool (is_exitless q k)) [
        | inl none ↦ subst (λ (c : ℕ). Does q k c (taken p policy k)) (sym (outer-at k l ∙ entry_none k none)) (ap goes_on (stays k l none))
        | inr some ↦ subst (λ (c : ℕ). Does q k c (taken p policy k)) (sym (outer-at k l ∙ entry_some k some)) (of_int (pos 1), (goes k l some).move)
      ]

      pub steps-leaves : CanLeave p policy
      steps-leaves = can-leave q of p policy outer (steps-count q) is-outer (λ k l. does k (omega (arith, l, steps-count q)))

  -- ---- the start

  start-at : (k : ℕ) → k < length q.exits → get_or (steps_start q) k 0 ≡ 0
  start-at k l = get_or-map-range_with_len (λ (k : ℕ). 0) 0 (length q.exits) k k 0 l (zero-add k)

  first_by : (k : ℕ) (b : Bool) → is_exitless q k ≡ b → IsCandidate (steps_by q k b) 0
  first_by k true e = tt
  first_by k false e = let some = positive (exit_count q k) e in (omega (arith, some, goings-len q k), ap Choice.candidate (going-at q k 0 some))

  start-policy : IsPolicy p (steps_start q)
  start-policy = record {
    one_each = length-map-range_with_len (λ (k : ℕ). 0) 0 (length q.exits) ∙ sym (steps-count q);
    candidate = λ k l.
        (let h : k < length q.exits = omega (arith, l, steps-count q) in
        subst (λ (n : Node). IsCandidate n (get_or (steps_start q) k 0)) (sym (steps-at q k l))
        (subst (λ (c : ℕ). IsCandidate (steps_node q k) c) (sym (start-at k h)) (first_by k (is_exitless q k) refl)));
  }

  pub steps-solvable : IsOfModel q → IsSolvable p (steps_start q)
  steps-solvable of = record {
    problem = steps-known q (is_shaped q of);
    policy = start-policy;
    leaves = steps-leaves (steps_start q) start-policy of;
    keeps = inl (λ policy is. steps-leaves policy is of);
  }

  -- ---- the end

  module _ (policy : List ℕ) (n : List ℚ) (best : IsBest p policy n) where
    value-is : (k : ℕ) → k < length q.exits → value_at n k ≡ worth n (taken p policy k)
    value-is k l = best.values.at k (is_node k l)

    some_exit : (k : ℕ) → k < length q.exits → is_exitless q k ≡ false → (i : ℕ) × (i < length (exits_at q k)) × (value_at n k ≡ after_exit q n k i)
    some_exit k l e = let g = goes policy best.is k l e in (get_or policy k 0, g.exit, value-is k l ∙ ap (worth n) g.move)

    pub steps-longest : IsLongest q n
    steps-longest = record {
      count = best.values.len ∙ steps-count q;
      none = λ k l e. value-is k l ∙ ap (worth n) (stays policy best.is k l (eq-eqb (exit_count q k) 0 e));
      each = λ k i l h.
          (let j : i < length (choices_at p k) = omega (arith, h, steps-choices q k (is_node k l)) in
          subst (λ (x : Choice). worth n x.move ≤ℚ value_at n k) (steps-choice q k i (is_node k l) j).1
          (best.none_better k i (is_node k l) j (steps-candidate q k (is_node k l) i j)));
      some = λ k l h. some_exit k l (ne_eqb (exit_count q k) 0 (λ z. omega (arith, h, z)));
    }
