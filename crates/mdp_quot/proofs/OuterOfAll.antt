-- No policy of exits comes to better gains than the best ones.
use Rattle.std.proofs.Common.{◌≡◌, ℕ, zero, suc, ◌<◌, ◌+◌, true, List, length, get_or, refl, sym, ◌∙◌, ap, subst, arith}
use Rattle.std.specs.Option.{is_some}
use Rattle.mdp_math.specs.Rational.{ℚ}
use Rattle.mdp_spec.specs.Mdp.{value_at}
use Rattle.mdp_rows.specs.{declared.dir.Dir.{Dir}, Better.{IsAsGood}}
use Rattle.mdp_policy_iteration.specs.{Problem.{Problem, Node, Choice, worth, count, IsCandidate, IsPolicy}, Values.{IsValue}, Laws.{IsBest}}
use Rattle.mdp_policy_iteration.proofs.Optimal.{best_of_all}
use Rattle.mdp_quot.specs.{Quotient.{Quotient}, OfModel.{IsOfModel}, Problem.{component_of, outer_problem}, Outer.{Answer, IsOuterPolicy, IsWorth, IsBestOuter}}
use Rattle.mdp_quot.specs.ExitsLaws.{NoneIsBetter}
use Rattle.mdp_quot.proofs.{Sizes.{is_shaped}, OuterNodes.{exit_count, entry, outer-count, outer-at, outer-choice, outer-known}}
use Rattle.mdp_quot.proofs.OuterBest.{some_component, taken-is, can_by, outer-leaves, exit-worth, stop-worth}

module _ (dir : Dir) (q : Quotient) (gains : List ℚ) where
  abbrev p : Problem
  p = outer_problem dir q gains

  below : (k : ℕ) → k < count p → k < length q.exits
  below k l = omega (arith, l, outer-count dir q gains)

  -- ---- a policy of exits is one of the problem

  module _ (policy : List ℕ) (o : IsOuterPolicy q policy) where
    range_by : (k c : ℕ) → k < length q.exits → get_or policy k 0 ≡ c → c < exit_count q gains k + 1
    range_by k zero l e = omega arith
    range_by k (suc i) l e = omega (arith, o.exits k i l e)

    candidate_by : (k c : ℕ) → k < length q.exits → get_or policy k 0 ≡ c → (entry q gains k c).candidate ≡ true
    candidate_by k zero l e = ap is_some (o.stops k l e).1
    candidate_by k (suc i) l e = refl

    pub policy-is : IsPolicy p policy
    policy-is = record {
      one_each = o.count ∙ sym (outer-count dir q gains);
      candidate = λ k l.
          subst (λ (n : Node). IsCandidate n (get_or policy k 0)) (sym (outer-at dir q gains k l))
          (can_by dir q gains k (get_or policy k 0) (range_by k (get_or policy k 0) (below k l) refl) (candidate_by k (get_or policy k 0) (below k l) refl));
    }

    module _ (x : List ℚ) (w : IsWorth q gains (record { policy = policy; values = x })) where
      worth_by : (k c : ℕ) → k < length q.exits → get_or policy k 0 ≡ c → value_at x k ≡ worth x (entry q gains k c).move
      worth_by k zero l e = let i = o.stops k l e in w.stopped k i.0 l e i.1 ∙ sym (stop-worth dir q gains x k i.0 i.1)
      worth_by k (suc i) l e = w.left k i l e ∙ sym (exit-worth dir q gains x k i)

      value-is : IsValue p policy x
      value-is = record {
        len = w.count ∙ sym (outer-count dir q gains);
        at = λ k l. worth_by k (get_or policy k 0) (below k l) refl ∙ sym (ap (worth x) (taken-is dir q gains policy policy-is k (below k l)));
      }

  -- ---- the best one

  module _ (of : IsOfModel q) (a : Answer) (best : IsBestOuter dir q gains a) where
    none_by : (k c : ℕ) → k < length q.exits → c < exit_count q gains k + 1 → (entry q gains k c).candidate ≡ true → IsAsGood dir (value_at a.values k) (worth a.values (entry q gains k c).move)
    none_by k zero l h e =
        let i = some_component (component_of q k) e in
        subst (IsAsGood dir (value_at a.values k)) (sym (stop-worth dir q gains a.values k i.0 i.1)) (best.gain k i.0 l i.1)
    none_by k (suc i) l h e = subst (IsAsGood dir (value_at a.values k)) (sym (exit-worth dir q gains a.values k i)) (best.exit k i l (omega (arith, h)))

    best-is : IsBest p a.policy a.values
    best-is = record {
      is = policy-is a.policy best.policy;
      leaves = outer-leaves dir q gains a.policy (policy-is a.policy best.policy) of;
      values = value-is a.policy best.policy a.values best.worth;
      none_better = λ k c l h e.
          (let w = outer-choice dir q gains k l c h in
          subst (λ (x : Choice). IsAsGood dir (value_at a.values k) (worth a.values x.move)) (sym w.1) (none_by k c (below k l) w.0 (sym (ap Choice.candidate w.1) ∙ e)));
    }

pub none_is_better : NoneIsBetter
none_is_better dir q gains a b of best o w k l =
    let is = policy-is dir q gains b.policy o in
    best_of_all (outer_problem dir q gains) a.policy b.policy a.values b.values (outer-known dir q gains (is_shaped q of)) (best-is dir q gains of a best) is
    (outer-leaves dir q gains b.policy is of) (value-is dir q gains b.policy o b.values w) k
