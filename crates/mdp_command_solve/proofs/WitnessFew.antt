-- A subsystem that a query ends with has at most one flow for each state.
use Rattle.std.proofs.Common.{ℕ, ◌≤◌, Bool, true, false, cond, List, [], ◌∷◌, map, length, Ok, sym, subst, pos, arith}
use Rattle.std.proofs.lemmas.List.FromFn.{length-map-range_with_len}
use Rattle.std.specs.List.{filter, range_with_len}
use Rattle.mdp_math.specs.Rational.{ℚ, of_int, lt_ℚ}
use Rattle.mdp_spec.specs.Mdp.{Mdp, states_of}
use Rattle.mdp_rows.specs.{declared.dir.Dir.{Dir}, declared.dir.Dir.TheVariants.{Max, Min}}
use Rattle.mdp_claims.specs.declared.subsystem.Flow.{Flow}
use Rattle.mdp_subsystem_rules.specs.Visits.{visit_flow, visit_flows}
use Rattle.mdp_reach.specs.Query.{Answer}
use Rattle.mdp_witness.specs.{Evaluation.{visited}, Query.{PlainSubsystem, flow, floor, AfterFirst, EndsSo}}
use Rattle.mdp_witness.proofs.Found.{is-from, left-max, left-min}

abbrev pub HasFewFlows : Mdp → PlainSubsystem → Type 0
HasFewFlows m (flow kept wide flows) = length flows ≤ states_of m
HasFewFlows m (floor kept wide values ranks) = Unit {0}

filter-few : {A : Type 0} (p : A → Bool) (xs : List A) → length (filter p xs) ≤ length xs
filter-few p [] = omega arith
filter-few p (x ∷ xs) = by (p x) (filter-few p xs)
  where
    by : (b : Bool) → length (filter p xs) ≤ length xs → length (cond b (x ∷ filter p xs) (filter p xs)) ≤ length (x ∷ xs)
    by true l = omega (arith, l)
    by false l = omega (arith, l)

visits-few : (n : ℕ) (policy : List ℕ) (y : List ℚ) → length (visit_flows n policy y) ≤ n
visits-few n policy y =
    let l = filter-few (λ (f : Flow). lt_ℚ (of_int (pos 0)) f.amount) (map (visit_flow policy y) (range_with_len 0 n)) in
    let e = length-map-range_with_len (visit_flow policy y) 0 n in
    omega (arith, l, e)

module _ (m : Mdp) (goals : List Bool) (start : ℕ) (threshold : ℚ) (found : PlainSubsystem) where
  first_few : (dir : Dir) (a : Answer) (first : List Bool) → AfterFirst m goals start threshold dir a first (Ok found) → HasFewFlows m found
  first_few Max a first h =
      let left = left-max m goals start threshold a.choices first found (visited m goals a.choices start first) h in
      subst (HasFewFlows m) (sym left.found_is) (visits-few (states_of m) a.choices left.last.visits)
  first_few Min a first h = let left = left-min m goals start threshold first found h.0 h.2 in subst (HasFewFlows m) (sym left.found_is) tt

  pub few_flows : (dir : Dir) → EndsSo dir m goals start threshold (Ok found) → HasFewFlows m found
  few_flows dir end = let from = is-from m goals start threshold dir found end in first_few dir from.answer from.from.0 from.from.2
