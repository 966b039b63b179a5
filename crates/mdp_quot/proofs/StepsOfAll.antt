-- No choice of exits takes more of them than the greatest number.
use Rattle.std.proofs.Common.{◌≡◌, ℕ, ◌<◌, ◌≤◌, ◌⊎◌, inl, inr, Bool, true, false, List, length, map, get_or, refl, sym, ◌∙◌, ap, subst, arith, zero-add}
use Rattle.std.proofs.{lemmas.Bool.{eqb-true}, lemmas.List.FromFn.{get_or-map-range_with_len, length-map-range_with_len}}
use Rattle.std.specs.List.{range_with_len}
use Rattle.mdp_math.specs.Rational.{ℚ, ◌≤ℚ◌}
use Rattle.mdp_math.proofs.Numbers.{le_or}
use Rattle.mdp_spec.specs.Mdp.{value_at}
use Rattle.mdp_policy_iteration.specs.{Problem.{Problem, Node, Choice, worth, count, move_by, IsCandidate, IsPolicy}, Values.{IsValue}, Laws.{IsBest}}
use Rattle.mdp_policy_iteration.proofs.Optimal.{best_of_all}
use Rattle.mdp_quot.specs.{Quotient.{Quotient, IsChosen}, OfModel.{IsOfModel}, Problem.{steps_by, steps_node, steps_problem}}
use Rattle.mdp_quot.specs.{Steps.{after_exit, IsLongest, IsCounted}, ExitsLaws.{NoneTakesMore}}
use Rattle.mdp_quot.proofs.{Sizes.{is_shaped}, StepsNodes.{exit_count, is_exitless, going-at, goings-len, steps-count, steps-at, steps-choice, steps-known}}
use Rattle.mdp_quot.proofs.StepsBest.{positive, steps-leaves}

module _ (q : Quotient) where
  abbrev p : Problem
  p = steps_problem q

  below : (k : ℕ) → k < count p → k < length q.exits
  below k l = omega (arith, l, steps-count q)

  -- an exit that a node with exits may take
  can_by : (k c : ℕ) → c < exit_count q k → IsCandidate (steps_by q k false) c
  can_by k c h = (omega (arith, h, goings-len q k), ap Choice.candidate (going-at q k c h))

  move-worth : (x : List ℚ) (k c : ℕ) → c < exit_count q k → worth x (move_by (steps_by q k false) c) ≡ after_exit q x k c
  move-worth x k c h = ap (λ (y : Choice). worth x y.move) (going-at q k c h)

  -- ---- a list of choices with values, node by node, is a policy of the problem with its values

  abbrev Fits : List ℚ → ℕ → ℕ → Type 0
  Fits x k c = IsCandidate (steps_node q k) c × (value_at x k ≡ worth x (move_by (steps_node q k) c))

  module _ (policy : List ℕ) (x : List ℚ) (n : length policy ≡ length q.exits) (len : length x ≡ length q.exits) (fits : (k : ℕ) → k < length q.exits → Fits x k (get_or policy k 0)) where
    policy-is : IsPolicy p policy
    policy-is = record {
      one_each = n ∙ sym (steps-count q);
      candidate = λ k l. subst (λ (n : Node). IsCandidate n (get_or policy k 0)) (sym (steps-at q k l)) (fits k (below k l)).0;
    }

    value-is : IsValue p policy x
    value-is = record {
      len = len ∙ sym (steps-count q);
      at = λ k l. (fits k (below k l)).1 ∙ sym (ap (λ (n : Node). worth x (move_by n (get_or policy k 0))) (steps-at q k l));
    }

  -- ---- chosen exits

  module _ (chosen : List ℕ) (c : IsChosen q chosen) where
    candidate_by : (k : ℕ) (b : Bool) → k < length q.exits → is_exitless q k ≡ b → IsCandidate (steps_by q k b) (get_or chosen k 0)
    candidate_by k true l e = tt
    candidate_by k false l e = can_by k (get_or chosen k 0) (c.at k l (positive (exit_count q k) e))

    pub chosen-policy : IsPolicy p chosen
    chosen-policy = record {
      one_each = c.count ∙ sym (steps-count q);
      candidate = λ k l.
          subst (λ (n : Node). IsCandidate n (get_or chosen k 0)) (sym (steps-at q k l)) (candidate_by k (is_exitless q k) (below k l) refl);
    }

  module _ (chosen : List ℕ) (x : List ℚ) (c : IsCounted q chosen x) where
    chosen_by : (k : ℕ) (b : Bool) → k < length q.exits → is_exitless q k ≡ b
        → IsCandidate (steps_by q k b) (get_or chosen k 0) × (value_at x k ≡ worth x (move_by (steps_by q k b) (get_or chosen k 0)))
    chosen_by k true l e = (tt, c.none k l (eqb-true (exit_count q k) 0 e))
    chosen_by k false l e =
        let some = positive (exit_count q k) e in
        let h = c.policy.at k l some in
        (can_by k (get_or chosen k 0) h, c.some k l some ∙ sym (move-worth x k (get_or chosen k 0) h))

    chosen-fits : (k : ℕ) → k < length q.exits → Fits x k (get_or chosen k 0)
    chosen-fits k l = chosen_by k (is_exitless q k) l refl

  -- ---- the greatest number

  module _ (of : IsOfModel q) (n : List ℚ) (longest : IsLongest q n) where
    -- a choice at which the number is reached
    abbrev Reached : ℕ → Bool → ℕ → Type 0
    Reached k b c = IsCandidate (steps_by q k b) c × (value_at n k ≡ worth n (move_by (steps_by q k b) c))

    reached_by : (k : ℕ) (b : Bool) → k < length q.exits → is_exitless q k ≡ b → (c : ℕ) × Reached k b c
    reached_by k true l e = (0, (tt, longest.none k l (eqb-true (exit_count q k) 0 e)))
    reached_by k false l e =
        let w = longest.some k l (positive (exit_count q k) e) in
        (w.0, (can_by k w.0 w.1, w.2 ∙ sym (move-worth n k w.0 w.1)))

    choice_by : (k : ℕ) → (length q.exits ≤ k) ⊎ (k < length q.exits) → ℕ
    choice_by k (inl l) = 0
    choice_by k (inr l) = (reached_by k (is_exitless q k) l refl).0

    fits_by : (k : ℕ) (o : (length q.exits ≤ k) ⊎ (k < length q.exits)) → k < length q.exits → Fits n k (choice_by k o)
    unfolding choice_by reached_by
    fits_by k (inl h) l = absurd (omega (arith, h, l))
    fits_by k (inr h) l = (reached_by k (is_exitless q k) h refl).1

    abbrev pick : ℕ → ℕ
    pick k = choice_by k (le_or (length q.exits) k)

    abbrev picked : List ℕ
    picked = map pick (range_with_len 0 (length q.exits))

    picked-fits : (k : ℕ) → k < length q.exits → Fits n k (get_or picked k 0)
    picked-fits k l = subst (Fits n k) (sym (get_or-map-range_with_len pick 0 (length q.exits) k k 0 l (zero-add k))) (fits_by k (le_or (length q.exits) k) l)

    picked-len : length picked ≡ length q.exits
    picked-len = length-map-range_with_len pick 0 (length q.exits)

    best-is : IsBest p picked n
    best-is =
        let is = policy-is picked n picked-len longest.count picked-fits in
        record {
          is = is;
          leaves = steps-leaves q picked is of;
          values = value-is picked n picked-len longest.count picked-fits;
          none_better = λ k c l h e.
              (let w = steps-choice q k c l h in
              subst (λ (x : Choice). worth n x.move ≤ℚ value_at n k) (sym w.1) (longest.each k c (below k l) w.0));
        }

pub none_takes_more : NoneTakesMore
none_takes_more q n chosen x of longest c k l =
    let is = policy-is q chosen x c.policy.count c.count (chosen-fits q chosen x c) in
    best_of_all (steps_problem q) (picked q of n longest) chosen n x (steps-known q (is_shaped q of)) (best-is q of n longest) is (steps-leaves q chosen is of)
    (value-is q chosen x c.policy.count c.count (chosen-fits q chosen x c)) k
