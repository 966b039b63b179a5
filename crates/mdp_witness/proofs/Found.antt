-- How a subsystem was found: the query of the model, its first set, and what the trials left.
use Rattle.std.proofs.Common.{◌≡◌, ℕ, Bool, true, false, List, Option, Some, None, Result, Ok, Err, refl}
use Rattle.mdp_math.specs.Rational.{ℚ}
use Rattle.mdp_spec.specs.Mdp.{Mdp, value_at}
use Rattle.mdp_rows.specs.{declared.dir.Dir.{Dir}, declared.dir.Dir.TheVariants.{Max, Min}}
use Rattle.mdp_wide.specs.Term.{WideTerm}
use Rattle.mdp_farkas.specs.Compare.{is_at_least}
use Rattle.mdp_claims.specs.{declared.verdict.Verdict.{Verdict}, declared.verdict.Verdict.TheVariants.{Yes, No, Wide}}
use Rattle.mdp_reach.specs.{Query.{Answer}, Round.{EndsWithRound}}
use Rattle.mdp_reach.specs.Query as reach
use Rattle.mdp_witness.specs.{Evaluation.{Visited, visited, Visits, visited_value}, LeastEvaluation.{Evaluates, value_from}, Trial.{AreLeft}}
use Rattle.mdp_witness.specs.Query.{PlainSubsystem, Refusal, below, flow_of, floor_of, verdict_on, FlowHeld, FloorHeld, AfterVisits, AfterFirstQuery, FromFirst}
use Rattle.mdp_witness.specs.Query.{AfterComparison, AfterWhole, EndsSo}

module _ (m : Mdp) (goals : List Bool) (start : ℕ) (threshold : ℚ) where
  -- from the answer to the query of the model
  pub record IsFrom (dir : Dir) (r : Result PlainSubsystem Refusal) : Type 0 where
    pub answer : Answer
    pub solved : reach.EndsSo dir m goals (Ok answer)
    pub reaches : is_at_least (value_at answer.values start) threshold ≡ Some true
    pub from : FromFirst m goals start threshold dir answer r

  -- what the trials leave, and that its certificate holds
  pub record IsLeftMax (policy : List ℕ) (first : List Bool) (found : PlainSubsystem) : Type 0 where
    pub kept : List Bool
    pub wide : List Bool
    pub last : Visited
    pub left : AreLeft (Visits m goals policy start) visited_value threshold first kept wide last
    pub found_is : found ≡ flow_of m policy kept wide last
    pub yes : verdict_on m goals start threshold (flow_of m policy kept wide last) ≡ Yes

  pub record IsLeftMin (first : List Bool) (found : PlainSubsystem) : Type 0 where
    pub kept : List Bool
    pub wide : List Bool
    pub last : Answer
    pub left : AreLeft (Evaluates m goals) (value_from start) threshold first kept wide last
    pub found_is : found ≡ floor_of m kept wide last
    pub yes : verdict_on m goals start threshold (floor_of m kept wide last) ≡ Yes

  -- ---- a subsystem

  flow_yes : (policy : List ℕ) (x found : PlainSubsystem) (v : Verdict) → FlowHeld policy x v (Ok found) → (found ≡ x) × (v ≡ Yes)
  flow_yes policy x found Yes h = (cc, refl)
  flow_yes policy x found (Wide state choice) h = cc
  flow_yes policy x found (No fault) h = absurd h

  floor_yes : (x found : PlainSubsystem) (v : Verdict) → FloorHeld x v (Ok found) → (found ≡ x) × (v ≡ Yes)
  floor_yes x found Yes h = (cc, refl)
  floor_yes x found (Wide state choice) h = absurd h
  floor_yes x found (No fault) h = absurd h

  pub left-max : (policy : List ℕ) (first : List Bool) (found : PlainSubsystem) (v : Result Visited ℕ) → AfterVisits m goals start threshold policy first v (Ok found) → IsLeftMax policy first found
  left-max policy first found (Err s) h = cc
  left-max policy first found (Ok v) h =
      let x = flow_of m policy h.kept h.wide h.last in
      let y = flow_yes policy x found (verdict_on m goals start threshold x) h.held in
      record { kept = h.kept; wide = h.wide; last = h.last; left = h.left; found_is = y.0; yes = y.1 }

  pub left-min : (first : List Bool) (found : PlainSubsystem) (v : Result Answer WideTerm) → AfterFirstQuery m goals start threshold first v (Ok found) → IsLeftMin first found
  left-min first found (Err w) h = cc
  left-min first found (Ok a) h =
      let x = floor_of m h.kept h.wide h.last in
      let y = floor_yes x found (verdict_on m goals start threshold x) h.held in
      record { kept = h.kept; wide = h.wide; last = h.last; left = h.left; found_is = y.0; yes = y.1 }

  from_comparison : (dir : Dir) (n : ℕ) (a : Answer) (found : PlainSubsystem) (o : Option Bool) → reach.EndsSo dir m goals (Ok a) → is_at_least (value_at a.values start) threshold ≡ o
      → AfterComparison m goals start threshold dir n a o (Ok found) → IsFrom dir (Ok found)
  from_comparison dir n a found None s e h = cc
  from_comparison dir n a found (Some false) s e h = cc
  from_comparison dir n a found (Some true) s e h = record { answer = a; solved = s; reaches = e; from = h }

  from_whole : (dir : Dir) (n : ℕ) (found : PlainSubsystem) (w : Result Answer WideTerm) → EndsWithRound dir m goals n w → AfterWhole m goals start threshold dir n w (Ok found) → IsFrom dir (Ok found)
  from_whole dir n found (Err w) s h = cc
  from_whole dir n found (Ok a) s h = from_comparison dir n a found (is_at_least (value_at a.values start) threshold) s.ends refl h

  pub is-from : (dir : Dir) (found : PlainSubsystem) → EndsSo dir m goals start threshold (Ok found) → IsFrom dir (Ok found)
  is-from dir found end = from_whole dir end.round found end.whole end.solved end.after

  -- ---- a value below the threshold

  pub record IsBelowAt (dir : Dir) (v : ℚ) : Type 0 where
    pub answer : Answer
    pub solved : reach.EndsSo dir m goals (Ok answer)
    pub less : is_at_least (value_at answer.values start) threshold ≡ Some false
    pub value : v ≡ value_at answer.values start

  no_flow_below : (policy : List ℕ) (x : PlainSubsystem) (v : ℚ) (u : Verdict) → FlowHeld policy x u (Err (below v)) → ⊥
  no_flow_below policy x v Yes h = cc
  no_flow_below policy x v (Wide state choice) h = cc
  no_flow_below policy x v (No fault) h = h

  no_floor_below : (x : PlainSubsystem) (v : ℚ) (u : Verdict) → FloorHeld x u (Err (below v)) → ⊥
  no_floor_below x v Yes h = cc
  no_floor_below x v (Wide state choice) h = h
  no_floor_below x v (No fault) h = h

  no_visits_below : (policy : List ℕ) (first : List Bool) (v : ℚ) (e : Result Visited ℕ) → AfterVisits m goals start threshold policy first e (Err (below v)) → ⊥
  no_visits_below policy first v (Err s) h = cc
  no_visits_below policy first v (Ok y) h =
      no_flow_below policy (flow_of m policy h.kept h.wide h.last) v (verdict_on m goals start threshold (flow_of m policy h.kept h.wide h.last)) h.held

  no_query_below : (first : List Bool) (v : ℚ) (e : Result Answer WideTerm) → AfterFirstQuery m goals start threshold first e (Err (below v)) → ⊥
  no_query_below first v (Err w) h = cc
  no_query_below first v (Ok a) h = no_floor_below (floor_of m h.kept h.wide h.last) v (verdict_on m goals start threshold (floor_of m h.kept h.wide h.last)) h.held

  no_below : (dir : Dir) (a : Answer) (v : ℚ) → FromFirst m goals start threshold dir a (Err (below v)) → ⊥
  no_below Max a v h = no_visits_below a.choices h.0 v (visited m goals a.choices start h.0) h.2
  no_below Min a v h = no_query_below h.0 v h.2.0 h.2.2

  below_comparison : (dir : Dir) (n : ℕ) (a : Answer) (v : ℚ) (o : Option Bool) → reach.EndsSo dir m goals (Ok a) → is_at_least (value_at a.values start) threshold ≡ o
      → AfterComparison m goals start threshold dir n a o (Err (below v)) → IsBelowAt dir v
  below_comparison dir n a v None s e h = cc
  below_comparison dir n a v (Some false) s e h = record { answer = a; solved = s; less = e; value = cc }
  below_comparison dir n a v (Some true) s e h = absurd (no_below dir a v h)

  below_whole : (dir : Dir) (n : ℕ) (v : ℚ) (w : Result Answer WideTerm) → EndsWithRound dir m goals n w → AfterWhole m goals start threshold dir n w (Err (below v)) → IsBelowAt dir v
  below_whole dir n v (Err w) s h = cc
  below_whole dir n v (Ok a) s h = below_comparison dir n a v (is_at_least (value_at a.values start) threshold) s.ends refl h

  pub is-below : (dir : Dir) (v : ℚ) → EndsSo dir m goals start threshold (Err (below v)) → IsBelowAt dir v
  is-below dir v end = below_whole dir end.round v end.whole end.solved end.after
