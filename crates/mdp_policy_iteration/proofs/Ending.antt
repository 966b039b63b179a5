-- Policy iteration ends, and ends at a best policy. With each next policy the number of policies that are better than the present one falls: those
-- whose values by exact elimination are at least as good everywhere, and better somewhere.
use Rattle.std.proofs.Common.{◌≡◌, ℕ, suc, ◌+◌, ◌<◌, inl, inr, true, List, length, get_or, Option, None, refl, sym, ◌∙◌, ap, subst, arith}
use Rattle.std.proofs.{lemmas.List.Folds.{Any-from_list_any}, lemmas.List.{get_or_default}}
use Rattle.std.specs.{Option.{is_some}, Prelude.{slice_index}}
use Rattle.mdp_math.specs.Rational.{ℚ, ◌≤ℚ◌, ◌<ℚ◌}
use Rattle.mdp_math.proofs.Order.{≤ℚ_trans, ≤ℚ_of_eq}
use Rattle.mdp_spec.specs.Mdp.{value_at}
use Rattle.mdp_elim.specs.Laws.{GivesSolutions}
use Rattle.mdp_policy_iteration.specs.Iteration.{next, done}
use Rattle.mdp_policy_iteration.specs.Problem.{Problem, Node, given, decision, count, node_at, choice_at, worth, IsProblem, IsCandidate, IsPolicy}
use Rattle.mdp_policy_iteration.specs.{Values.{IsValue, CanLeave, KeepsLeaving}, Path.{Round, Found, improved, path_step}}
use Rattle.mdp_policy_iteration.specs.Laws.{IsSolvable, Improves, IsBestFrom, first, HasOneValue, EvaluatesExactly, StepsImprove, HasOneEnd, EndsAtBest}
use Rattle.mdp_policy_iteration.proofs.{Iterations.{one_end, has_end, holds_at_end}, Products.{number, number-lt, within_from}}
use Rattle.mdp_policy_iteration.proofs.{Ordered.{less_all, less_all-after, less_all-own, less_all-from}, Turned.{turn, as_good_turned, better_turned}}
use Rattle.mdp_policy_iteration.proofs.{Compares.{IsImprovement, AreImprovements, improvements-are}, Exact.{exact, exact-is, one_value, written-exact}}
use Rattle.mdp_policy_iteration.proofs.Improving.{after-is, given-kept, leaves_again, not_worse, better_at}
use Rattle.mdp_policy_iteration.proofs.Stepping.{GoesOn, goes_on, is_done, some_at, none_taken}

module _ (p : Problem) (start : List ℕ) where
  -- ---- the number of policies that are better

  -- a policy of the path has at each node one of so many choices
  abbrev bound_by : Node → ℕ → ℕ
  bound_by (given v) c = suc c
  bound_by (decision choices) c = length choices

  abbrev bound : ℕ → ℕ
  bound s = bound_by (node_at p s) (slice_index start s)

  pub turned : List ℕ → ℕ → ℚ
  turned policy s = turn p.dir (value_at (exact p policy) s)

  pub better_left : List ℕ → ℕ
  better_left policy = number bound 0 (count p) (λ other. less_all (turned policy) (turned other) (count p))

  -- it falls where no value is worse, and one is better
  better_left-falls : (policy after : List ℕ) → length after ≡ count p → ((s : ℕ) → s < count p → slice_index after s < bound s)
      → ((s : ℕ) → s < count p → turned policy s ≤ℚ turned after s) → (s : ℕ) → s < count p → turned policy s <ℚ turned after s
      → better_left after < better_left policy
  unfolding better_left
  better_left-falls policy after len within h s l q =
      number-lt bound 0 (count p) (λ other. less_all (turned after) (turned other) (count p)) (λ other. less_all (turned policy) (turned other) (count p)) after
      (λ other e. less_all-after (turned policy) (turned after) (turned other) (count p) h e)
      len
      (within_from bound 0 after (λ j i. let e : j ≡ 0 + j = omega arith in subst (λ k. get_or after j 0 < bound k) e (within j (omega arith))))
      (less_all-own (turned after) (count p))
      (less_all-from (turned policy) (turned after) (count p) s h l q)

  -- ---- what each policy of the path keeps

  pub record Keeps (policy : List ℕ) : Type 0 where
    pub is : IsPolicy p policy
    pub leaves : CanLeave p policy
    pub given_kept : (s : ℕ) (v : ℚ) → s < count p → node_at p s ≡ given v → slice_index policy s ≡ slice_index start s

  pub start-keeps : IsSolvable p start → Keeps start
  start-keeps ok = record { is = ok.policy; leaves = ok.leaves; given_kept = λ s v l e. refl }

  within_by : (node : Node) (c d : ℕ) → ((v : ℚ) → node ≡ given v → c ≡ d) → IsCandidate node c → c < bound_by node d
  within_by (given v) c d same h = let e = same v refl in omega arith
  within_by (decision choices) c d same h = h.0

  within : (policy : List ℕ) → Keeps policy → (s : ℕ) → s < count p → slice_index policy s < bound s
  within policy k s l = within_by (node_at p s) (slice_index policy s) (slice_index start s) (λ v e. k.given_kept s v l e) (k.is.candidate s l)

  module _ (known : IsProblem p) (keeps : KeepsLeaving p) (gives : GivesSolutions) where
    -- ---- a step that goes on

    module _ (a b : Round) (k : Keeps a.policy) (step : GoesOn p a b) where
      imp : AreImprovements p step.x step.takes
      imp = improvements-are p known step.x step.takes step.choices

      value : IsValue p a.policy step.x
      value = written-exact p a.policy known k.is gives k.leaves step.x step.values

      abbrev after : List ℕ
      after = improved a.policy step.takes

      after_is : IsPolicy p after
      after_is = after-is p a.policy known k.is step.x step.takes imp

      after_leaves : CanLeave p after
      after_leaves = elim keeps as (λ _. CanLeave p after) [
        | inl all ↦ all after after_is
        | inr none ↦ leaves_again p a.policy known k.is step.x step.takes imp value none k.leaves
      ]

      after_keeps : Keeps after
      after_keeps = record {
        is = after_is;
        leaves = after_leaves;
        given_kept = λ s v l e. given-kept p a.policy known k.is step.x step.takes imp s v l e ∙ k.given_kept s v l e;
      }

      -- the node at which a choice is taken
      changed : (s : ℕ) × (s < count p) × ((y : List ℚ) → IsValue p after y → turn p.dir (value_at step.x s) <ℚ turn p.dir (value_at y s))
      changed =
          let any = Any-from_list_any is_some step.takes step.some in
          let l : any.0 < count p = let n = imp.len in omega (arith, any.2) in
          let d : is_some (get_or step.takes any.0 None) ≡ true =
          subst (λ (o : Option ℕ). is_some o ≡ true) (sym (get_or_default step.takes any.0 None any.1 any.2 ∙ any.3)) any.4 in
          let c = some_at (get_or step.takes any.0 None) d in
          (any.0, l, λ y v. better_at p a.policy known k.is step.x step.takes imp value after_leaves y v any.0 c.0 l c.1)

      not_worse_after : (y : List ℚ) → IsValue p after y → (s : ℕ) → turn p.dir (value_at step.x s) ≤ℚ turn p.dir (value_at y s)
      not_worse_after y v s = not_worse p a.policy known k.is step.x step.takes imp value after_leaves y v s

      -- ---- fewer are better

      turned-is : (policy : List ℕ) (z : List ℚ) → IsPolicy p policy → CanLeave p policy → IsValue p policy z → (s : ℕ) → turned policy s ≡ turn p.dir (value_at z s)
      unfolding turned
      turned-is policy z is leaves v s =
          ap (λ (z : List ℚ). turn p.dir (value_at z s)) (one_value p policy known is (exact p policy) z leaves (exact-is p policy known is leaves) v)

      y : List ℚ
      y = exact p after

      value_after : IsValue p after y
      unfolding y
      value_after = exact-is p after known after_is after_leaves

      rises : (s : ℕ) → s < count p → turned a.policy s ≤ℚ turned after s
      rises s l =
          ≤ℚ_trans _ _ _ (≤ℚ_of_eq _ _ (turned-is a.policy step.x k.is k.leaves value s))
          (≤ℚ_trans _ _ _ (not_worse_after y value_after s) (≤ℚ_of_eq _ _ (sym (turned-is after y after_is after_leaves value_after s))))

      falls : better_left after < better_left a.policy
      falls =
          let s = changed.0 in
          better_left-falls a.policy after after_is.one_each (within after after_keeps) rises s changed.1
          (subst (λ (u : ℚ). u <ℚ turned after s) (sym (turned-is a.policy step.x k.is k.leaves value s))
          (subst (λ (u : ℚ). turn p.dir (value_at step.x s) <ℚ u) (sym (turned-is after y after_is after_leaves value_after s)) (changed.2 y value_after)))

      -- ---- what the next policy improves

      improves : Improves p a.policy after
      improves = record {
        solvable = record { problem = known; policy = after_is; leaves = after_leaves; keeps = keeps };
        given_kept = λ s v l e. given-kept p a.policy known k.is step.x step.takes imp s v l e;
        as_good = λ x z vx vz s.
            as_good_turned p.dir (value_at z s) (value_at x s)
            (subst (λ (x : List ℚ). turn p.dir (value_at x s) ≤ℚ turn p.dir (value_at z s)) (one_value p a.policy known k.is step.x x k.leaves value vx) (not_worse_after z vz s));
        better = λ x z vx vz.
            let s = changed.0 in (
              s,
              changed.1,
              better_turned p.dir (value_at z s) (value_at x s)
                  (subst (λ (x : List ℚ). turn p.dir (value_at x s) <ℚ turn p.dir (value_at z s)) (one_value p a.policy known k.is step.x x k.leaves value vx) (changed.2 z vz)),
            );
      }

    -- each next policy keeps this, and fewer are better
    pub next-keeps : (a b : Round) → Keeps a.policy → path_step p a ≡ next b → Keeps b.policy × (better_left b.policy < better_left a.policy)
    next-keeps a b k h =
        let step = goes_on p a b h in
        subst (λ (policy : List ℕ). Keeps policy × (better_left policy < better_left a.policy)) (sym step.policy) (after_keeps a b k step, falls a b k step)

    pub next-improves : (a b : Round) → Keeps a.policy → path_step p a ≡ next b → Improves p a.policy b.policy
    next-improves a b k h = let step = goes_on p a b h in subst (Improves p a.policy) (sym step.policy) (improves a b k step)

    -- ---- the end

    pub done-best : (a : Round) (found : Found) → Keeps a.policy → path_step p a ≡ done found → IsBestFrom p start found.policy found.values
    done-best a found k h =
        let d = is_done p a found h in
        let i = improvements-are p known d.x d.takes d.choices in
        subst (λ (f : Found). IsBestFrom p start f.policy f.values) d.found_is
        (record {
          best = record {
            is = k.is;
            leaves = k.leaves;
            values = written-exact p a.policy known k.is gives k.leaves d.x d.values;
            none_better = λ s c l m e.
                let n = i.len in
                let none : get_or d.takes s None ≡ None = none_taken d.takes s (get_or d.takes s None) refl (omega arith) d.none in
                as_good_turned p.dir (value_at d.x s) (worth d.x (choice_at p s c).move) (subst (IsImprovement p d.x s) none (i.at s l) c m e);
          };
          given_kept = k.given_kept;
        })

-- ---- the laws

pub has_one_value : HasOneValue
has_one_value p policy known is leaves =
    (exact p policy, exact-is p policy known is leaves, λ y v. one_value p policy known is y (exact p policy) leaves v (exact-is p policy known is leaves))

pub evaluates_exactly : GivesSolutions → EvaluatesExactly
evaluates_exactly gives p policy x known is leaves h = written-exact p policy known is gives leaves x h

pub steps_improve : GivesSolutions → StepsImprove
steps_improve gives p a b ok h = next-improves p a.policy ok.problem ok.keeps gives a b (start-keeps p a.policy ok) h

pub has_one_end : GivesSolutions → HasOneEnd
has_one_end gives p start ok =
    let e = has_end (path_step p) (λ (a : Round). Keeps p start a.policy) (λ (a : Round). better_left p start a.policy)
    (λ a b k h. next-keeps p start ok.problem ok.keeps gives a b k h) (first start) (start-keeps p start ok) in
    (e.0, e.1, λ q h. one_end (path_step p) (first start) q e.0 h e.1)

pub ends_at_best : GivesSolutions → EndsAtBest
ends_at_best gives p start found ok h =
    holds_at_end (path_step p) (λ (a : Round). Keeps p start a.policy) (λ (f : Found). IsBestFrom p start f.policy f.values)
    (λ a b k e. (next-keeps p start ok.problem ok.keeps gives a b k e).0)
    (λ a f k e. done-best p start ok.problem ok.keeps gives a f k e) (first start) found (start-keeps p start ok) h
