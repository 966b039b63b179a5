-- The query of a witness has one end at most.
use Rattle.std.proofs.{Common.{◌≡◌, ℕ, ◌<◌, Bool, true, false, List, Option, Some, None, Result, Ok, Err, sym, ◌∙◌, ap, subst, arith}, lemmas.List.{ext_get_or}}
use Rattle.mdp_math.specs.Rational.{ℚ}
use Rattle.mdp_math.proofs.Booleans.{same_truth}
use Rattle.mdp_spec.specs.{Mdp.{Mdp, states_of, value_at}, Sub.{sub_of}, Tree.{is_marked}}
use Rattle.mdp_rows.specs.{declared.dir.Dir.{Dir}, declared.dir.Dir.TheVariants.{Max, Min}}
use Rattle.mdp_wide.specs.Term.{WideTerm}
use Rattle.mdp_farkas.specs.Compare.{is_at_least}
use Rattle.mdp_claims.specs.{declared.verdict.Verdict.{Verdict}, declared.verdict.Verdict.TheVariants.{Yes, No, Wide}}
use Rattle.mdp_reach.specs.Laws as reach
use Rattle.mdp_reach.specs.Query.{Answer}
use Rattle.mdp_witness.specs.{First.{IsFirst}, Evaluation.{Visited, visited}, TrialLaws.{VisitsLeaveOne, ValuesLeaveOne}}
use Rattle.mdp_witness.specs.Query.{PlainSubsystem, Refusal, flow_of, floor_of, verdict_on, FlowHeld, FloorHeld, AfterVisits, AfterFirstQuery, AfterFirst, FromFirst}
use Rattle.mdp_witness.specs.Query.{AfterComparison, AfterWhole, EndsSo}

-- there is one first set
pub one_first : (dir : Dir) (m : Mdp) (goals : List Bool) (z : List ℚ) (policy : List ℕ) (start : ℕ) (first other : List Bool)
    → IsFirst dir m goals z policy start first → IsFirst dir m goals z policy start other → other ≡ first
one_first dir m goals z policy start first other a b =
    ext_get_or false other first (b.one_each ∙ sym a.one_each)
    (λ s l.
    let i : s < states_of m = let e = b.one_each in omega arith in
    same_truth (is_marked other s) (is_marked first s) (λ k. b.least (is_marked first) a.closed s i k) (λ k. a.least (is_marked other) b.closed s i k))

module _ (m : Mdp) (goals : List Bool) (start : ℕ) (threshold : ℚ) (r q : Result PlainSubsystem Refusal) where
  one_flow : (policy : List ℕ) (x : PlainSubsystem) (v : Verdict) → FlowHeld policy x v r → FlowHeld policy x v q → q ≡ r
  one_flow policy x Yes a b = b ∙ sym a
  one_flow policy x (Wide state choice) a b = b ∙ sym a
  one_flow policy x (No fault) a b = absurd a

  one_floor : (x : PlainSubsystem) (v : Verdict) → FloorHeld x v r → FloorHeld x v q → q ≡ r
  one_floor x Yes a b = b ∙ sym a
  one_floor x (Wide state choice) a b = absurd a
  one_floor x (No fault) a b = absurd a

  one_visits : (policy : List ℕ) (first : List Bool) (v : Result Visited ℕ) → VisitsLeaveOne
      → AfterVisits m goals start threshold policy first v r → AfterVisits m goals start threshold policy first v q → q ≡ r
  one_visits policy first (Err s) one a b = b ∙ sym a
  one_visits policy first (Ok v) one a b =
      let same = one m goals policy start threshold first b.kept b.wide b.last a.kept a.wide a.last b.left a.left in
      let x : flow_of m policy b.kept b.wide b.last ≡ flow_of m policy a.kept a.wide a.last =
      ap (λ (k : List Bool). flow_of m policy k b.wide b.last) same.0
      ∙ ap (λ (w : List Bool). flow_of m policy a.kept w b.last) same.1
      ∙ ap (λ (l : Visited). flow_of m policy a.kept a.wide l) same.2 in
      one_flow policy (flow_of m policy a.kept a.wide a.last) (verdict_on m goals start threshold (flow_of m policy a.kept a.wide a.last)) a.held
      (subst (λ (x : PlainSubsystem). FlowHeld policy x (verdict_on m goals start threshold x) q) x b.held)

  one_query : (first : List Bool) (v : Result Answer WideTerm) → ValuesLeaveOne → AfterFirstQuery m goals start threshold first v r → AfterFirstQuery m goals start threshold first v q → q ≡ r
  one_query first (Err w) one a b = b ∙ sym a
  one_query first (Ok v) one a b =
      let same = one m goals start threshold first b.kept b.wide b.last a.kept a.wide a.last b.left a.left in
      let x : floor_of m b.kept b.wide b.last ≡ floor_of m a.kept a.wide a.last =
      ap (λ (k : List Bool). floor_of m k b.wide b.last) same.0
      ∙ ap (λ (w : List Bool). floor_of m a.kept w b.last) same.1
      ∙ ap (λ (l : Answer). floor_of m a.kept a.wide l) same.2 in
      one_floor (floor_of m a.kept a.wide a.last) (verdict_on m goals start threshold (floor_of m a.kept a.wide a.last)) a.held
      (subst (λ (x : PlainSubsystem). FloorHeld x (verdict_on m goals start threshold x) q) x b.held)

  module _ (ends : reach.HasOneEnd) (visits : VisitsLeaveOne) (values : ValuesLeaveOne) where
    one_after : (dir : Dir) (a : Answer) (first : List Bool) → AfterFirst m goals start threshold dir a first r → AfterFirst m goals start threshold dir a first q → q ≡ r
    one_after Max a first h k = one_visits a.choices first (visited m goals a.choices start first) visits h k
    one_after Min a first h k =
        let same : k.0 ≡ h.0 = ends Min (sub_of m goals first) goals h.0 k.0 h.1 k.1 in
        one_query first h.0 values h.2 (subst (λ (v : Result Answer WideTerm). AfterFirstQuery m goals start threshold first v q) same k.2)

    one_from : (dir : Dir) (a : Answer) → FromFirst m goals start threshold dir a r → FromFirst m goals start threshold dir a q → q ≡ r
    one_from dir a h k =
        one_after dir a h.0 h.2
        (subst (λ (first : List Bool). AfterFirst m goals start threshold dir a first q) (one_first dir m goals a.values a.choices start h.0 k.0 h.1 k.1) k.2)

    one_comparison : (dir : Dir) (n : ℕ) (a : Answer) (o : Option Bool) → AfterComparison m goals start threshold dir n a o r → AfterComparison m goals start threshold dir n a o q → q ≡ r
    one_comparison dir n a None h k = k ∙ sym h
    one_comparison dir n a (Some false) h k = k ∙ sym h
    one_comparison dir n a (Some true) h k = one_from dir a h k

    one_whole : (dir : Dir) (n : ℕ) (w : Result Answer WideTerm) → AfterWhole m goals start threshold dir n w r → AfterWhole m goals start threshold dir n w q → q ≡ r
    one_whole dir n (Err w) h k = k ∙ sym h
    one_whole dir n (Ok a) h k = one_comparison dir n a (is_at_least (value_at a.values start) threshold) h k

    pub one_query_end : (dir : Dir) → reach.HasOneRound → EndsSo dir m goals start threshold r → EndsSo dir m goals start threshold q → q ≡ r
    one_query_end dir rounds a b =
        let same = rounds dir m goals a.round b.round a.whole b.whole a.solved b.solved in
        one_whole dir a.round a.whole a.after
        (subst (λ (n : ℕ). AfterWhole m goals start threshold dir n a.whole q) same.0 (subst (λ (w : Result Answer WideTerm). AfterWhole m goals start threshold dir b.round w q) same.1 b.after))
