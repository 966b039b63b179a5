use Rattle.std.proofs.Common.{◌≡◌, ℕ, ◌-◌, ◌^◌, min, false, replicate}
use Rattle.mdp_policy_iteration.specs.Problem.{count}
use Rattle.mdp_policy_iteration.proofs.{Ending.{better_left}, Rounds.{Stands}}
use Rattle.mdp_policy_iteration.proofs.best_policy.improve_further.Given as goal

-- the loop stands before a round
abbrev pub invariant-rounds : goal.invariant-rounds
invariant-rounds g l =
    let p = g.P.ShortestPath.problem l.problem in
    record {
      marks : l.marks ≡ replicate (count p) false;
      stands : (n : ℕ) × (l.round ≡ min n (2 ^ 64 - 1)) × Stands p l.fn.start.items n l.policy.items l.evaluation l.changes.items;
    }

abbrev pub decreases-rounds : goal.decreases-rounds
decreases-rounds g l = better_left (g.P.ShortestPath.problem l.problem) l.fn.start.items l.policy.items
