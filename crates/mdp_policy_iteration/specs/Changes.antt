-- Changes of a policy: nodes, each with the choice that improves it.
use Rattle.std.specs.{Prelude.{ℕ, ◌+◌, ◌<◌, ◌==◌, List, [], ◌∷◌, length, map, slice_index, Option, Some, None, if◌then◌else◌}, List.{range_with_len}}
use Rattle.mdp_math.specs.Rational.{ℚ}
use Rattle.mdp_rows.specs.declared.preds.Pred.{Pred}
use Rattle.mdp_policy_iteration.specs.{Iteration.{Step, next, done}, Problem.{Problem, count, choices_at}, Path.{Round, Found, Refusal, improved}}

-- the choice of node s among changes, where there is one
abbrev pub change_at : List Pred → ℕ → Option ℕ
change_at [] s = None
change_at (x ∷ changes) s = if x.state == s then Some x.choice else change_at changes s

-- the same for each of n nodes
abbrev pub spread : ℕ → List Pred → List (Option ℕ)
spread n changes = map (change_at changes) (range_with_len 0 n)

-- a change takes one of the choices of a node of the problem
abbrev pub IsChangeOf : Problem → Pred → Type 0
IsChangeOf p x = (x.state < count p) × (x.choice < length (choices_at p x.state))

-- numbers of nodes ascend
abbrev pub Ascend : List ℕ → Type 0
Ascend nodes = (i j : ℕ) → i < j → j < length nodes → slice_index nodes i < slice_index nodes j

abbrev pub nodes_of : List Pred → List ℕ
nodes_of changes = map (λ x. x.state) changes

-- what round n of a policy with these values makes, by its changes: the path's end where there are none, else the next policy
abbrev pub step_by : ℕ → List ℕ → List ℚ → List Pred → Step Round Found Refusal
step_by n policy values [] = done (record { number = n; policy = policy; values = values })
step_by n policy values (x ∷ changes) = next (record { number = n + 1; policy = improved policy (spread (length policy) (x ∷ changes)) })
