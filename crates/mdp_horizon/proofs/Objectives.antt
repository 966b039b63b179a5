-- Each objective by the first step of the tree: a value where it stops or where the tree ends, and at any other state the average over the
-- choices, by the weights, of what the choice earns and the sum over the row of probability times what comes behind.
use Rattle.std.proofs.{Common.{◌≡◌, ℕ, suc, ◌≤◌, ⊎_elim, Bool, true, false, cond, Some, None, refl, sym, ◌∙◌, ap}, lemmas.Bool.{cases_Bool}}
use Rattle.mdp_math.specs.{Rational.{ℚ, ◌+ℚ◌, ◌*ℚ◌}, Sum.{sum_at}}
use Rattle.mdp_math.proofs.{Laws.{zero-+ℚ}, Options.{Some_same}, Order.{0ℚ, 1ℚ}, SumsAt.{sum_at-same, EachAt_all}}
use Rattle.mdp_spec.specs.{Mdp.{Entry, Mdp, choices_at}, Row.{IsMdp}, Tree.{Tree, is_marked}, Tree.Tree.{node}}
use Rattle.mdp_spec.proofs.{Earnings.{total-end}, Hits.{share, mixed}, Steps.{average, total_goes}}
use Rattle.mdp_horizon.specs.{Objective.{Objective, stops, ending, gain_of, value_of}, Objective.Objective.{until, total}}
use Rattle.mdp_spec.proofs.Untils.{until-goal, until-away, until-end, until-node}

-- an average without gains
mixed_average : (m : Mdp) (u : ℕ) (weights : ℕ → ℕ) (f : ℕ → ℕ → Entry → ℚ) (s : ℕ) → mixed m u weights f s ≡ average m u weights (λ x. 0ℚ) f s
mixed_average m u weights f s =
    sum_at-same (choices_at m s) (λ c x. share u weights c *ℚ sum_at x.row (λ e y. y.prob *ℚ f c e y))
    (λ c x. share u weights c *ℚ (0ℚ +ℚ sum_at x.row (λ e y. y.prob *ℚ f c e y)))
    (EachAt_all (choices_at m s) (λ c x. share u weights c *ℚ sum_at x.row (λ e y. y.prob *ℚ f c e y) ≡ share u weights c *ℚ (0ℚ +ℚ sum_at x.row (λ e y. y.prob *ℚ f c e y)))
    (λ c x. ap (λ (w : ℚ). share u weights c *ℚ w) (sym (zero-+ℚ (sum_at x.row (λ e y. y.prob *ℚ f c e y))))))

-- where a bounded until stops, by the two marks of the state
stop_at_goal : (g a : Bool) (x : ℚ) → g ≡ true → cond g (Some 1ℚ) (cond a None (Some 0ℚ)) ≡ Some x → 1ℚ ≡ x
stop_at_goal true a x g e = Some_same 1ℚ x e
stop_at_goal false a x g e = cc

stop_away : (g a : Bool) (x : ℚ) → g ≡ false → cond g (Some 1ℚ) (cond a None (Some 0ℚ)) ≡ Some x → (a ≡ false) × (0ℚ ≡ x)
stop_away true a x g e = cc
stop_away false true x g e = cc
stop_away false false x g e = (refl, Some_same 0ℚ x e)

goes_on : (g a : Bool) → cond g (Some 1ℚ) (cond a None (Some 0ℚ)) ≡ None → (g ≡ false) × (a ≡ true)
goes_on true a e = cc
goes_on false true e = (refl, refl)
goes_on false false e = cc

ends : (g : Bool) (b : Bool) → g ≡ b → (cond g 1ℚ 0ℚ) ≡ cond b 1ℚ 0ℚ
ends g b e = ap (λ (b : Bool). cond b 1ℚ 0ℚ) e

module _ (m : Mdp) (u : ℕ) (hu : 1 ≤ u) where
  -- where it stops
  pub value-stops : (o : Objective) (n : ℕ) (t : Tree) (s : ℕ) (x : ℚ) → stops m o s ≡ Some x → value_of m o u n t s ≡ x
  value-stops (until stay goals) n t s x e =
      ⊎_elim (λ g. until-goal m stay goals u n t s hu g ∙ stop_at_goal (is_marked goals s) (is_marked stay s) x g e)
      (λ g. let away = stop_away (is_marked goals s) (is_marked stay s) x g e in until-away m stay goals u n t s hu g away.0 ∙ away.1) (cases_Bool (is_marked goals s))
  value-stops (total r) n t s x e = cc

  -- with no step left
  pub value-ends : (o : Objective) (t : Tree) (s : ℕ) → value_of m o u 0 t s ≡ ending m o s
  value-ends (until stay goals) t s =
      ⊎_elim (λ g. until-goal m stay goals u 0 t s hu g ∙ sym (ends (is_marked goals s) true g)) (λ g. until-end m stay goals u t s hu g ∙ sym (ends (is_marked goals s) false g))
      (cases_Bool (is_marked goals s))
  value-ends (total r) t s = total-end m r u t s hu

  -- where it goes on
  pub value-node : (o : Objective) (n : ℕ) (weights : ℕ → ℕ) (kids : ℕ → ℕ → Tree) (s : ℕ) → IsMdp m → stops m o s ≡ None
      → value_of m o u (suc n) (node weights kids) s ≡ average m u weights (gain_of o) (λ c e y. value_of m o u n (kids c e) y.target) s
  value-node (until stay goals) n weights kids s known e =
      let on = goes_on (is_marked goals s) (is_marked stay s) e in
      until-node m stay goals u n weights kids s known hu on.0 on.1 ∙ mixed_average m u weights (λ c e y. value_of m (until stay goals) u n (kids c e) y.target) s
  value-node (total r) n weights kids s known e = total_goes m r u known hu n weights kids s refl
