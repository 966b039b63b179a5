-- An answer to a query of reachability has a value and a rank for each state.
use Rattle.std.proofs.Common.{◌≡◌, ℕ, List, Bool, length, Result, Ok, Err, ◌∙◌, subst}
use Rattle.mdp_math.specs.Rational.{ℚ}
use Rattle.mdp_spec.specs.{Mdp.{Mdp, states_of}, Row.{IsMdp}}
use Rattle.mdp_rows.specs.{declared.dir.Dir.{Dir}, declared.dir.Dir.TheVariants.{Max, Min}}
use Rattle.mdp_graph.specs.Laws.{RestMeets}
use Rattle.mdp_policy_iteration.specs.{Path.{Found, Refusal, path_step}, Laws.{EndsAtBest, first}, Iteration.{EndsWith}}
use Rattle.mdp_farkas.specs.{Verdict.{verdict_of}, Reach.{reach_checks}}
use Rattle.mdp_claims.specs.{declared.verdict.Verdict.{Verdict}, declared.verdict.Verdict.TheVariants.{Yes, No, Wide}}
use Rattle.mdp_reach.specs.{Problem.{reach_problem}, Query.{Answer, AreRanks, Held, AfterPath, EndsSo}}
use Rattle.mdp_reach.proofs.{Nodes.{reach-count}, Starts.{start-solvable}}

pub record IsSized (m : Mdp) (a : Answer) : Type 0 where
  pub values : length a.values ≡ states_of m
  pub ranks : length a.ranks ≡ states_of m

held_answer : (f : Found) (ranks : List ℕ) (a : Answer) (v : Verdict) → Held f ranks v (Ok a) → (let b : Answer = record { values = f.values; choices = f.policy; ranks = ranks } in b) ≡ a
held_answer f ranks a Yes h = cc
held_answer f ranks a (No fault) h = absurd h
held_answer f ranks a (Wide state choice) h = cc

ranks_each : (dir : Dir) (m : Mdp) (goals : List Bool) (z : List ℚ) (policy ranks : List ℕ) → AreRanks dir m goals z policy ranks → length ranks ≡ states_of m
ranks_each Max m goals z policy ranks h = h.least.count
ranks_each Min m goals z policy ranks h = h.least.count

module _ (dir : Dir) (m : Mdp) (goals : List Bool) (a : Answer) (model : IsMdp m) (best : EndsAtBest) (meets : RestMeets) (end : EndsSo dir m goals (Ok a)) where
  sized_by : (e : Result Found Refusal) → EndsWith (path_step (reach_problem dir m goals end.marks)) (first end.start) e → AfterPath dir m goals e (Ok a) → IsSized m a
  sized_by (Err w) p h = cc
  sized_by (Ok f) p h =
      let b = best (reach_problem dir m goals end.marks) end.start f (start-solvable dir m goals end.marks end.start model meets end.is_start) p in
      subst (IsSized m) (held_answer f h.0 a (verdict_of (reach_checks dir m goals f.values f.policy h.0)) h.2)
      (record { values = b.best.values.len ∙ reach-count dir m goals end.marks; ranks = ranks_each dir m goals f.values f.policy h.0 h.1 })

  pub sized : IsSized m a
  sized = sized_by end.end end.path end.after
