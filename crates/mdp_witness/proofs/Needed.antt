-- On what is left without one of its states that isn't marked as wide a policy falls short of the threshold: it does so on the set in which that
-- state was tried, which has all the other states that are left.
use Rattle.std.proofs.{Common.{◌≡◌, ℕ, ◌<◌, ⊎_elim, Bool, true, false, ◌||◌, List, length, get_or, Ok, sym, ◌∙◌, ap, subst}, lemmas.Bool.{cases_Bool}}
use Rattle.mdp_math.specs.Rational.{ℚ, ◌<ℚ◌}
use Rattle.mdp_spec.specs.{Mdp.{Choice, Mdp, states_of}, Bounds.{ReachMin}, Row.{IsMdp}, Rules.{MeetsReachMax}, Sub.{sub_of, policy_on}}
use Rattle.mdp_spec.specs.Tree.{IsPolicy, is_marked}
use Rattle.mdp_spec.proofs.Subsystem.{stays, stays-goal, stays-kept, sub-states, sub-stays, sub_is_mdp, policy_on_is}
use Rattle.mdp_rows.specs.declared.dir.Dir.TheVariants.{Max, Min}
use Rattle.mdp_elim.specs.System.{Leaves}
use Rattle.mdp_subsystem_rules.specs.{Fewer.{IsIncluded}, Flow.{flow_value}, Policy.{FallsShort}, Visits.{AreVisitsOn, visit_flows}}
use Rattle.mdp_subsystem_rules.proofs.{Made.{visits_bound}, Policies.{short_of_bound, short_of_min}}
use Rattle.mdp_reach.specs.{Laws.{AnswersAreLeast, HasOneEnd}, Query.{Answer, policy_rows}}
use Rattle.mdp_witness.specs.{Evaluation.{Visited, Visits, visited_value}, First.{IsFirst}, LeastEvaluation.{Evaluates, value_from}}
use Rattle.mdp_witness.specs.Trial.{trial_set, without, AreLeft}
use Rattle.mdp_witness.proofs.{FirstMax.{first-leaves}, FirstSet.{first-no_goal}, Left.{left_below}, Steps.{leaves_subset}, Values.{visits_are, value-is}}
use Rattle.mdp_witness.proofs.Within.{trial_size, left_below_end, trial_within, without_within}

-- a policy of the larger subsystem, read on the smaller one
pub policy_on_smaller : (m : Mdp) (goals kept more : List Bool) (policy : List ℕ) → IsIncluded m kept more → IsPolicy (sub_of m goals more) policy
    → IsPolicy (sub_of m goals kept) (policy_on goals kept policy)
policy_on_smaller m goals kept more policy inc takes =
    policy_on_is m goals kept policy (takes.one_each ∙ sub-states m goals more)
    (λ s l e.
    subst (λ (cs : List Choice). get_or policy s 0 < length cs) (sub-stays m goals more s l (stays_on s l e))
    (takes.in_range s (subst (λ (n : ℕ). s < n) (sym (sub-states m goals more)) l)))
  where
    stays_on : (s : ℕ) → s < states_of m → stays goals kept s ≡ true → stays goals more s ≡ true
    stays_on s l e =
        ⊎_elim (λ g. stays-goal goals more s g) (λ g. stays-kept goals more s (inc s l (sym (ap (λ (b : Bool). b || is_marked kept s) g) ∙ e))) (cases_Bool (is_marked goals s))

-- ---- the greatest probability

module _ (m : Mdp) (goals : List Bool) (z : List ℚ) (policy ranks : List ℕ) (start : ℕ) (threshold : ℚ) (first kept wide : List Bool) (last : Visited) (x : ℕ) (known_ : IsMdp m)
    (rules : MeetsReachMax m goals z policy ranks) (is : IsFirst Max m goals z policy start first) (inside : start < states_of m)
    (left : AreLeft (Visits m goals policy start) visited_value threshold first kept wide last) (keeps : is_marked kept x ≡ true) (sure : is_marked wide x ≡ false) where
  abbrev tried : List Bool
  tried = trial_set first kept x

  within : (s : ℕ) → is_marked tried s ≡ true → is_marked first s ≡ true
  within = trial_within (Visits m goals policy start) visited_value threshold first kept wide last left x

  leaves : Leaves (policy_rows m policy) tried ranks
  leaves = leaves_subset (policy_rows m policy) first tried ranks within (first-leaves m goals z policy ranks start first known_ rules is)

  size : length tried ≡ states_of m
  size = trial_size first kept x ∙ is.one_each

  module _ (v : Visited) (evaluated : Visits m goals policy start tried (Ok v)) (less : v.value <ℚ threshold) where
    visits : AreVisitsOn m tried policy start v.visits
    visits = visits_are m goals policy ranks start tried known_ rules.choices size leaves inside v (sym evaluated)

    value : v.value ≡ flow_value m goals (visit_flows (states_of m) policy v.visits) start
    value = value-is m goals policy ranks start tried known_ rules.choices size leaves inside v (sym evaluated)

    falls_short : FallsShort m goals (without kept x) start threshold (policy_on goals (without kept x) policy)
    falls_short =
        short_of_bound m goals (without kept x) tried start threshold policy known_
        (λ s l k. without_within (Visits m goals policy start) visited_value threshold first kept wide last left x s keeps k) inside
        (flow_value m goals (visit_flows (states_of m) policy v.visits) start) rules.choices
        (visits_bound m goals tried policy start v.visits known_ rules.choices inside visits (λ s l k. first-no_goal Max m goals z policy start first is s (within s k)))
        (subst (λ (u : ℚ). u <ℚ threshold) value less)

  pub max_needed : FallsShort m goals (without kept x) start threshold (policy_on goals (without kept x) policy)
  max_needed =
      let n = left_below visited_value threshold (Visits m goals policy start) first kept wide last left (λ set r q h k. h ∙ sym k) x
      (left_below_end (Visits m goals policy start) visited_value threshold first kept wide last left x keeps) keeps sure in
      falls_short n.0 n.1 n.2

-- ---- the least probability

module _ (one : HasOneEnd) (are_least : AnswersAreLeast) (m : Mdp) (goals : List Bool) (start : ℕ) (threshold : ℚ) (first kept wide : List Bool) (last : Answer) (x : ℕ) (known_ : IsMdp m)
    (inside : start < states_of m) (left : AreLeft (Evaluates m goals) (value_from start) threshold first kept wide last) (keeps : is_marked kept x ≡ true) (sure : is_marked wide x ≡ false) where
  included : IsIncluded m (without kept x) (trial_set first kept x)
  included s l k = without_within (Evaluates m goals) (value_from start) threshold first kept wide last left x s keeps k

  pub min_needed : (policy : List ℕ) × IsPolicy (sub_of m goals (without kept x)) policy × FallsShort m goals (without kept x) start threshold policy
  min_needed =
      let n = left_below (value_from start) threshold (Evaluates m goals) first kept wide last left (λ set r q h k. one Min (sub_of m goals set) goals q r k h) x
      (left_below_end (Evaluates m goals) (value_from start) threshold first kept wide last left x keeps) keeps sure in
      let a : Answer = n.0 in
      let least : ReachMin (sub_of m goals (trial_set first kept x)) goals a.values a.choices =
      are_least (sub_of m goals (trial_set first kept x)) goals a (sub_is_mdp m goals (trial_set first kept x) known_) n.1
      in (
        policy_on goals (without kept x) a.choices,
        policy_on_smaller m goals (without kept x) (trial_set first kept x) a.choices included least.takes,
        short_of_min m goals (without kept x) (trial_set first kept x) start threshold a.choices known_ included inside a.values least n.2,
      )
