-- What a query of reachability ends with, together with the round in which its path ends.
use Rattle.std.specs.Prelude.{◌≡◌, ℕ, Bool, List, Result, Ok, Err}
use Rattle.mdp_spec.specs.Mdp.{Mdp}
use Rattle.mdp_rows.specs.declared.dir.Dir.{Dir}
use Rattle.mdp_wide.specs.{Errors.{SolveError}, Term.{WideTerm, shown}}
use Rattle.mdp_wide.specs.declared.unfinished.Unfinished.TheVariants as solve
use Rattle.mdp_policy_iteration.specs.{Ends.{capped}, Path.{Found, Refusal}}
use Rattle.mdp_reach.specs.{declared.solve.ReachEnd.{ReachEnd}, Query.{Answer, plain, EndsSo}}

-- the round of the path's last policy
abbrev pub last_round : Result Found Refusal → ℕ
last_round (Ok found) = found.number
last_round (Err refusal) = refusal.number

-- the query ends so, and its path in round n
pub record EndsWithRound (dir : Dir) (m : Mdp) (goals : List Bool) (n : ℕ) (r : Result Answer WideTerm) : Type 0 where
  pub ends : EndsSo dir m goals r
  pub round : last_round ends.end ≡ n

-- what the code answers: a certificate with the round of its policy, or a term past width; a round above 2^64 - 1 is given as 2^64 - 1. Of want of
-- memory nothing is said
abbrev pub SolvesToEnd : Dir → Mdp → List Bool → Result ReachEnd SolveError → Type 0
SolvesToEnd dir m goals (Ok end) = (n : ℕ) × (end.round ≡ capped n) × EndsWithRound dir m goals n (Ok (plain end.cert))
SolvesToEnd dir m goals (Err (solve.TooWide w)) = (n : ℕ) × (w.round ≡ capped n) × EndsWithRound dir m goals n (Err (shown w n))
SolvesToEnd dir m goals (Err solve.Memory) = Unit {0}
