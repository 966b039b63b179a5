-- The value of a set in exact numbers: its visits are flows of the policy, and their value is what the evaluation gives.
use Rattle.std.proofs.Common.{◌≡◌, ℕ, zero, suc, ◌<◌, Bool, true, false, eqb, not, ◌&&◌, List, length, get_or, Result, Ok, Err, refl, sym, ◌∙◌, ap, subst, pos, if◌then◌else◌}
use Rattle.std.proofs.{lemmas.Bool.{eqb-true}, lemmas.List.FromFn.{length-map-range_with_len}}
use Rattle.std.specs.{Prelude.{replicate}, List.{range_with_len}}
use Rattle.mdp_math.specs.{Rational.{ℚ, lt_ℚ, ◌+ℚ◌, ◌*ℚ◌, ◌≤ℚ◌}, Result.{◌>>=◌}, Sum.{sum_of}}
use Rattle.mdp_math.proofs.{Extremes.{le_of_no_test}, Order.{0ℚ, 1ℚ, ≤ℚ_of_eq, ≤ℚ_trans}, Ring.{◌⊕◌, ◌⊗◌, lit, ring}, Laws.{rat_ring}}
use Rattle.mdp_math.proofs.Sums.{sum_of-same, sum_of-zero}
use Rattle.mdp_spec.specs.{Mdp.{Mdp, states_of, row_at, value_at}, Row.{IsMdp}, Rules.{MeetsReachMax}, Tree.{IsPolicy, is_marked}}
use Rattle.mdp_rows.specs.declared.dir.Dir.TheVariants.{Max}
use Rattle.mdp_elim.specs.{Laws.{LeavingChain}, System.{Leaves}, Visits.{written_visits}}
use Rattle.mdp_elim.proofs.OneSolution.{gives_visits}
use Rattle.mdp_subsystem_rules.specs.{Flow.{source, prob_to, prob_to_goals, goal_source, flow_value}, Visits.{AreVisitsOn, visit_flows}}
use Rattle.mdp_subsystem_rules.proofs.Made.{goal_flow_is}
use Rattle.mdp_reach.specs.Query.{policy_rows}
use Rattle.mdp_witness.specs.{First.{is_open, IsFirst}, Evaluation.{Visited, visits_on, arrivals_below, arrived, visited}, TrialLaws.{CanBeFirst}}
use Rattle.mdp_witness.proofs.{FirstSet.{not_open, first-no_goal}, FirstMax.{below-exact, are_rows, first-leaves, brought}, Visiting.{visits_on_set}}

told : {A B E : Type 0} (r : Result A E) (f : A → Result B E) (v : B) → (r >>= f) ≡ Ok v → (u : A) × (r ≡ Ok u) × (f u ≡ Ok v)
told (Ok u) f v e = (u, refl, e)
told (Err s) f v e = cc

zero-at : (n s : ℕ) → value_at (replicate n 0ℚ) s ≡ 0ℚ
zero-at zero s = refl
zero-at (suc n) zero = refl
zero-at (suc n) (suc s) = zero-at n s

no_sum : (n : ℕ) (g : ℕ → ℚ) → sum_of (λ s. g s *ℚ value_at (replicate n 0ℚ) s) (range_with_len 0 n) ≡ 0ℚ
no_sum n g =
    sum_of-same (λ s. g s *ℚ value_at (replicate n 0ℚ) s) (λ s. 0ℚ) (range_with_len 0 n)
    (λ s. ap (λ (u : ℚ). g s *ℚ u) (zero-at n s) ∙ ring rat_ring 1 (λ g. g ⊗ lit (pos 0)) (λ g. lit (pos 0)) refl (g s))
    ∙ sum_of-zero (range_with_len 0 n)

module _ (m : Mdp) (goals : List Bool) (policy ranks : List ℕ) (start : ℕ) (set : List Bool) (known_ : IsMdp m) (taking : IsPolicy m policy) (size : length set ≡ states_of m)
    (leaves : Leaves (policy_rows m policy) set ranks) (inside : start < states_of m) where
  chain : LeavingChain (policy_rows m policy) set ranks
  chain = record {
    distributions = are_rows m policy known_ taking;
    marks = size ∙ sym (length-map-range_with_len (λ s. row_at m s (get_or policy s 0)) 0 (states_of m));
    leaves = leaves;
  }

  abbrev zeros : List ℚ
  zeros = replicate (states_of m) 0ℚ

  abbrev visits_by : Bool → Result (List ℚ) ℕ
  visits_by b = if b then written_visits (policy_rows m policy) set start else Ok zeros

  no_source : (s : ℕ) (b : Bool) → eqb s start ≡ b → is_marked set start ≡ false → is_marked set s ≡ true → (if b then 1ℚ else 0ℚ) ≡ 0ℚ
  no_source s true e a k = let same = ap (is_marked set) (eqb-true s start e) in cc
  no_source s false e a k = refl

  no_visits : is_marked set start ≡ false → AreVisitsOn m set policy start zeros
  no_visits a = record {
    nonneg = λ s l. ≤ℚ_of_eq 0ℚ (value_at zeros s) (sym (zero-at (states_of m) s));
    inside = λ s l k.
        zero-at (states_of m) s ∙ ring rat_ring 0 (lit (pos 0)) (lit (pos 0) ⊕ lit (pos 0)) refl
        ∙ ap (λ (u : ℚ). u +ℚ 0ℚ) (sym (no_source s (eqb s start) refl a k))
        ∙ ap (λ (u : ℚ). source start s +ℚ u) (sym (no_sum (states_of m) (λ t. prob_to (row_at m t (get_or policy t 0)) s)));
    outside = λ s l k. zero-at (states_of m) s;
  }

  on_by : (b : Bool) (y : List ℚ) → is_marked set start ≡ b → visits_by b ≡ Ok y → AreVisitsOn m set policy start y
  on_by true y a e = visits_on_set m policy set ranks start y chain inside (gives_visits (policy_rows m policy) set ranks start y chain e)
  on_by false y a e = let same : zeros ≡ y = cc in subst (AreVisitsOn m set policy start) same (no_visits a)

  out_by : (b : Bool) (y : List ℚ) → is_marked set start ≡ b → visits_by b ≡ Ok y → (s : ℕ) → is_marked set s ≡ false → value_at y s ≡ 0ℚ
  out_by true y a e s k = (gives_visits (policy_rows m policy) set ranks start y chain e).outside s k
  out_by false y a e s k = let same : zeros ≡ y = cc in ap (λ (y : List ℚ). value_at y s) (sym same) ∙ zero-at (states_of m) s

  module _ (v : Visited) (is : visited m goals policy start set ≡ Ok v) where
    abbrev first_step : (y : List ℚ) × (visits_on m policy start set ≡ Ok y) × (arrived m goals policy start set y ≡ Ok v)
    first_step = told (visits_on m policy start set) (λ y. arrived m goals policy start set y) v is

    abbrev second_step : (value : ℚ) × (arrivals_below m goals policy start set first_step.0 (states_of m) ≡ Ok value) ×
        ((let w : Visited = record { visits = first_step.0; value = value } in let r : Result Visited ℕ = Ok w in r) ≡ Ok v)
    second_step = told (arrivals_below m goals policy start set first_step.0 (states_of m)) (λ value. Ok (record { visits = first_step.0; value = value })) v first_step.2

    same : (let w : Visited = record { visits = first_step.0; value = second_step.0 } in w) ≡ v
    same = let e = second_step.2 in cc

    pub value-is_sum : v.value ≡ goal_source goals start +ℚ sum_of (λ s. value_at v.visits s *ℚ prob_to_goals goals (row_at m s (get_or policy s 0))) (range_with_len 0 (states_of m))
    value-is_sum =
        subst (λ (w : Visited). w.value ≡ goal_source goals start +ℚ sum_of (λ s. value_at w.visits s *ℚ prob_to_goals goals (row_at m s (get_or policy s 0))) (range_with_len 0 (states_of m))) same
        (below-exact m goals policy start set first_step.0 (states_of m) second_step.0 (out_by (is_marked set start) first_step.0 refl first_step.1) second_step.1)

    pub visits_are : AreVisitsOn m set policy start v.visits
    visits_are = subst (λ (w : Visited). AreVisitsOn m set policy start w.visits) same (on_by (is_marked set start) first_step.0 refl first_step.1)

    pub value-is : v.value ≡ flow_value m goals (visit_flows (states_of m) policy v.visits) start
    value-is = value-is_sum ∙ ap (λ (u : ℚ). goal_source goals start +ℚ u) (sym (goal_flow_is m goals set policy start v.visits known_ taking visits_are))

    -- by whether the start is in the set
    pub visits_by_start : (b : Bool) → is_marked set start ≡ b → visits_by b ≡ Ok v.visits
    visits_by_start b a = ap visits_by (sym a) ∙ first_step.1 ∙ ap Ok (ap (λ (w : Visited). w.visits) same)

-- ---- the first set of the greatest probability

module _ (m : Mdp) (goals : List Bool) (z : List ℚ) (policy ranks : List ℕ) (start : ℕ) (threshold : ℚ) (first : List Bool) (known_ : IsMdp m) (rules : MeetsReachMax m goals z policy ranks)
    (is : IsFirst Max m goals z policy start first) (inside : start < states_of m) (reaches : threshold ≤ℚ value_at z start) where
  abbrev leaves : Leaves (policy_rows m policy) first ranks
  leaves = first-leaves m goals z policy ranks start first known_ rules is

  -- without the start there are no visits: the start is a goal, or has value 0
  least_by : (g : Bool) → is_marked goals start ≡ g → is_open goals z start ≡ false → value_at z start ≤ℚ (if g then 1ℚ else 0ℚ)
  least_by true e o = rules.probabilities.at_most_one start inside
  least_by false e o = le_of_no_test 0ℚ (value_at z start) (ap (λ (b : Bool). not b && lt_ℚ 0ℚ (value_at z start)) (sym e) ∙ o)

  module _ (v : Visited) (e : visited m goals policy start first ≡ Ok v) where
    abbrev sum : ℚ
    sum = sum_of (λ s. value_at v.visits s *ℚ prob_to_goals goals (row_at m s (get_or policy s 0))) (range_with_len 0 (states_of m))

    value : v.value ≡ goal_source goals start +ℚ sum
    value = value-is_sum m goals policy ranks start first known_ rules.choices is.one_each leaves inside v e

    visits_of : (b : Bool) → is_marked first start ≡ b → (if b then written_visits (policy_rows m policy) first start else Ok (replicate (states_of m) 0ℚ)) ≡ Ok v.visits
    visits_of b a = visits_by_start m goals policy ranks start first known_ rules.choices is.one_each leaves inside v e b a

    sum_zero : (y : List ℚ) → replicate (states_of m) 0ℚ ≡ y → sum_of (λ s. value_at y s *ℚ prob_to_goals goals (row_at m s (get_or policy s 0))) (range_with_len 0 (states_of m)) ≡ 0ℚ
    sum_zero y same =
        sum_of-same (λ s. value_at y s *ℚ prob_to_goals goals (row_at m s (get_or policy s 0))) (λ s. 0ℚ) (range_with_len 0 (states_of m))
        (λ s.
        ap (λ (y : List ℚ). value_at y s *ℚ prob_to_goals goals (row_at m s (get_or policy s 0))) (sym same)
        ∙ ap (λ (u : ℚ). u *ℚ prob_to_goals goals (row_at m s (get_or policy s 0))) (zero-at (states_of m) s)
        ∙ ring rat_ring 1 (λ g. lit (pos 0) ⊗ g) (λ g. lit (pos 0)) refl (prob_to_goals goals (row_at m s (get_or policy s 0))))
        ∙ sum_of-zero (range_with_len 0 (states_of m))

    value_by : (b : Bool) → is_marked first start ≡ b → value_at z start ≤ℚ goal_source goals start +ℚ sum
    value_by true a =
        let no_goal = first-no_goal Max m goals z policy start first is start a in
        let visits = gives_visits (policy_rows m policy) first ranks start v.visits (chain m goals policy ranks start first known_ rules.choices is.one_each leaves inside) (visits_of true a) in
        ≤ℚ_of_eq _ _
        (sym (brought m goals z policy ranks start first known_ rules is v.visits visits a) ∙ ring rat_ring 1 (λ s. s) (λ s. lit (pos 0) ⊕ s) refl sum
        ∙ ap (λ (g : Bool). (if g then 1ℚ else 0ℚ) +ℚ sum) (sym no_goal))
    value_by false a =
        let same : replicate (states_of m) 0ℚ ≡ v.visits = let e = visits_of false a in cc in
        ≤ℚ_trans _ _ _ (least_by (is_marked goals start) refl (not_open (is_open goals z start) (is_marked first start) is.closed.has_start a))
        (≤ℚ_of_eq _ _ (ring rat_ring 1 (λ s. s) (λ s. s ⊕ lit (pos 0)) refl (goal_source goals start) ∙ ap (λ (u : ℚ). goal_source goals start +ℚ u) (sym (sum_zero v.visits same))))

    first_reaches : threshold ≤ℚ v.value
    first_reaches = subst (λ (u : ℚ). threshold ≤ℚ u) (sym value) (≤ℚ_trans _ _ _ reaches (value_by (is_marked first start) refl))

  pub can_be_first : CanBeFirst m goals policy ranks start threshold first
  can_be_first = record {
    one_each = is.one_each;
    no_goal = λ s l. first-no_goal Max m goals z policy start first is s;
    leaves = leaves;
    reaches = first_reaches;
  }
