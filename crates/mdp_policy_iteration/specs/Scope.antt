-- Where a round has anything to do: the nodes that come to a change, and those with a choice that leads to one of these.
use Rattle.std.specs.{Prelude.{◌≡◌, ℕ, ◌<◌, true, false, List, None, Ok}, List.{All}}
use Rattle.mdp_math.specs.Rational.{ℚ}
use Rattle.mdp_spec.specs.Mdp.{value_at}
use Rattle.mdp_rows.specs.{Preds.{is_among}, declared.preds.Pred.{Pred}}
use Rattle.mdp_policy_iteration.specs.{Problem.{Problem, count, taken, row_from}, Path.{improvement}, Changes.{Ascend}}

-- the nodes at which a policy is evaluated, and those at which choices are compared
pub record Scope : Type 0 where
  pub affected : List ℕ
  pub compared : List ℕ

-- the scope of a policy that was made by these changes: each changed node is affected, no other node comes to an affected one, and what improves a node
-- that isn't compared doesn't depend on the values of affected ones
pub record IsScope (p : Problem) (policy : List ℕ) (changes : List Pred) (scope : Scope) : Type 0 where
  pub affected_below : All (λ s. s < count p) scope.affected
  pub affected_ascend : Ascend scope.affected
  pub compared_below : All (λ s. s < count p) scope.compared
  pub compared_ascend : Ascend scope.compared
  pub changed : All (λ x. is_among x.state scope.affected ≡ true) changes
  pub closed : (s : ℕ) → s < count p → is_among s scope.affected ≡ false → All (λ x. is_among x.target scope.affected ≡ false) (row_from s (taken p policy s))
  pub within : (s : ℕ) → is_among s scope.affected ≡ true → is_among s scope.compared ≡ true
  pub unread :
      (x y : List ℚ) → ((t : ℕ) → is_among t scope.affected ≡ false → value_at x t ≡ value_at y t)
      → (s : ℕ) → s < count p → is_among s scope.compared ≡ false → improvement p x s ≡ improvement p y s

-- whatever the values of affected nodes are, no choice improves a node that isn't compared
abbrev pub NoneImprovesElsewhere : Problem → Scope → List ℚ → Type 0
NoneImprovesElsewhere p scope values =
    (x : List ℚ) → ((s : ℕ) → is_among s scope.affected ≡ false → value_at x s ≡ value_at values s)
    → (s : ℕ) → s < count p → is_among s scope.compared ≡ false → improvement p x s ≡ Ok None
