-- What the trials leave meets the rules of a certificate: flows of its visits, or a floor of its least probabilities.
use Rattle.std.proofs.Common.{◌≡◌, ℕ, ◌<◌, Bool, true, false, List, length, sym, ◌∙◌, subst}
use Rattle.mdp_math.specs.Rational.{ℚ, ◌≤ℚ◌}
use Rattle.mdp_spec.specs.{Mdp.{Mdp, states_of, value_at}, Row.{IsMdp}, Rules.{MeetsReachMax, MeetsReachMin}, Sub.{sub_of}, Tree.{is_marked}}
use Rattle.mdp_spec.proofs.Subsystem.{sub_is_mdp}
use Rattle.mdp_rows.specs.declared.dir.Dir.TheVariants.{Max, Min}
use Rattle.mdp_elim.specs.System.{Leaves}
use Rattle.mdp_farkas.specs.Reach.{IsReach}
use Rattle.mdp_subsystem_rules.specs.{Flow.{flow_value}, Visits.{AreVisitsOn, visit_flows}}
use Rattle.mdp_subsystem_rules.proofs.Made.{floor_of_reach_min, flow_of_visits, visits_of_policy}
use Rattle.mdp_reach.specs.{Laws.{AnswersAreLeast, AnswersMeetRules, HasOneEnd}, Query.{Answer, policy_rows}}
use Rattle.mdp_witness.specs.{Evaluation.{Visited, Visits, visited_value}, First.{IsFirst}, TrialLaws.{CanBeFirst, CanBeLeastFirst, IsKeptFlow, IsKeptFloor}}
use Rattle.mdp_witness.specs.{LeastEvaluation.{Evaluates, value_from}, Trial.{AreLeft}}
use Rattle.mdp_witness.proofs.{FirstMin.{can_be_least_first}, FirstSet.{first-no_goal}, FirstMax.{first-leaves}, Left.{left_reaches}, Steps.{leaves_subset}}
use Rattle.mdp_witness.proofs.{Values.{visits_are, value-is, can_be_first}, Within.{left_within}}

-- ---- the greatest probability

module _ (m : Mdp) (goals : List Bool) (z : List ℚ) (policy ranks : List ℕ) (start : ℕ) (threshold : ℚ) (first kept wide : List Bool) (last : Visited) (known_ : IsMdp m)
    (rules : MeetsReachMax m goals z policy ranks) (is : IsFirst Max m goals z policy start first) (inside : start < states_of m) (reaches : threshold ≤ℚ value_at z start)
    (left : AreLeft (Visits m goals policy start) visited_value threshold first kept wide last) where
  within : (s : ℕ) → is_marked kept s ≡ true → is_marked first s ≡ true
  within = left_within (Visits m goals policy start) visited_value threshold first kept wide last left

  no_goal : (s : ℕ) → s < states_of m → is_marked kept s ≡ true → is_marked goals s ≡ false
  no_goal s l k = first-no_goal Max m goals z policy start first is s (within s k)

  leaves : Leaves (policy_rows m policy) kept ranks
  leaves = leaves_subset (policy_rows m policy) first kept ranks within (first-leaves m goals z policy ranks start first known_ rules is)

  size : length kept ≡ states_of m
  size = left.one_kept_each ∙ is.one_each

  visits : AreVisitsOn m kept policy start last.visits
  visits = visits_are m goals policy ranks start kept known_ rules.choices size leaves inside last (sym left.evaluated)

  value : last.value ≡ flow_value m goals (visit_flows (states_of m) policy last.visits) start
  value = value-is m goals policy ranks start kept known_ rules.choices size leaves inside last (sym left.evaluated)

  value_reaches : threshold ≤ℚ last.value
  value_reaches =
      left_reaches visited_value threshold (Visits m goals policy start) first kept wide last left (λ set r q h k. h ∙ sym k)
      (λ e h. CanBeFirst.reaches (can_be_first m goals z policy ranks start threshold first known_ rules is inside reaches) e (sym h))

  pub kept_flow : IsKeptFlow m goals policy start threshold first kept last
  kept_flow = record {
    one_each = size;
    included = λ s l k. within s k;
    flow = flow_of_visits m goals kept policy start last.visits known_ rules.choices visits threshold no_goal (subst (λ (v : ℚ). threshold ≤ℚ v) value value_reaches);
    of_policy = visits_of_policy m goals kept policy start last.visits known_ rules.choices visits;
  }

-- ---- the least probability

module _ (one : HasOneEnd) (meet : AnswersMeetRules) (are_least : AnswersAreLeast) (m : Mdp) (goals : List Bool) (z : List ℚ) (policy ranks : List ℕ) (start : ℕ) (threshold : ℚ)
    (first kept wide : List Bool) (last : Answer) (known_ : IsMdp m)
    (rules : MeetsReachMin m goals z policy ranks) (is : IsFirst Min m goals z policy start first) (inside : start < states_of m) (reaches : threshold ≤ℚ value_at z start)
    (left : AreLeft (Evaluates m goals) (value_from start) threshold first kept wide last) where
  abbrev sub : Mdp
  sub = sub_of m goals kept

  within_least : (s : ℕ) → is_marked kept s ≡ true → is_marked first s ≡ true
  within_least = left_within (Evaluates m goals) (value_from start) threshold first kept wide last left

  holds : IsReach Min sub goals last.values last.choices last.ranks
  holds = meet Min sub goals last (sub_is_mdp m goals kept known_) left.evaluated

  least_value_reaches : threshold ≤ℚ value_at last.values start
  least_value_reaches =
      left_reaches (value_from start) threshold (Evaluates m goals) first kept wide last left (λ set r q h k. one Min (sub_of m goals set) goals q r k h)
      (CanBeLeastFirst.reaches (can_be_least_first m goals z policy ranks start threshold first known_ rules is inside reaches are_least))

  pub kept_floor : IsKeptFloor m goals start threshold first kept last
  kept_floor = record {
    one_each = left.one_kept_each ∙ is.one_each;
    included = λ s l k. within_least s k;
    floor =
        floor_of_reach_min m goals kept last.values last.choices last.ranks start threshold known_ inside
        (λ s l k. first-no_goal Min m goals z policy start first is s (within_least s k)) holds.rules least_value_reaches;
  }
