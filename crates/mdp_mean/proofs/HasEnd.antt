-- A query has an end: each part has one, and what is joined meets the rules, so the check of it isn't answered no.
use Rattle.std.proofs.Common.{◌≡◌, ℕ, List, Option, Result, Ok, Err, refl}
use Rattle.mdp_math.specs.Rational.{ℚ}
use Rattle.mdp_spec.specs.Mdp.{Mdp}
use Rattle.mdp_rows.specs.declared.dir.Dir.{Dir}
use Rattle.mdp_wide.specs.Term.{WideTerm}
use Rattle.mdp_ends.specs.Ends.{AreEnds}
use Rattle.mdp_ends.proofs.Existing.{ends_exist}
use Rattle.mdp_quot.specs.{Quotient.{Quotient, IsQuotient}, OfModel.{IsOfModel}, Steps.{StepsEndSo}, ExitsLaws.{StepsEnd, OuterEnds}}
use Rattle.mdp_gain.specs.Laws as gain
use Rattle.mdp_quot.specs.Outer as outer
use Rattle.mdp_farkas.specs.Laws.{MeanNeverNo}
use Rattle.mdp_claims.specs.{declared.verdict.Fault.{Fault}, declared.verdict.Verdict.{Verdict}, declared.verdict.Verdict.TheVariants.{Yes, No, Wide}}
use Rattle.mdp_mean.specs.{Terms.{Joining}, Join.{Place, Joined, written_join}, Inners.{Inners, InnersEndSo}}
use Rattle.mdp_mean.specs.Query.{Answer, answer_of, term_at, checking, checked, Held, joining, AfterJoin, AfterSteps, AfterOuter, AfterQuotient, AfterInners, EndsSo}
use Rattle.mdp_mean.specs.Laws.{HasReward, JoinedMeetsRules}
use Rattle.mdp_mean.proofs.{InnersExist.{inners_end}, QuotientExists.{quotient_exists}, Joinings.{is-joining}}

-- ---- the join

held-end : (a : Answer) (v : Verdict) → ((f : Fault) → v ≡ No f → ⊥) → (p : Result Answer WideTerm) × Held a v p
held-end a Yes never = (Ok a, refl)
held-end a (Wide s c) never = (Err (term_at a.choices (checking s c)), refl)
held-end a (No f) never = absurd (never f refl)

after-join : (j : Joining) (w : Result Joined Place) → ((y : Joined) → w ≡ Ok y → (f : Fault) → checked j.dir j.model j.name (answer_of j y) ≡ No f → ⊥)
    → (p : Result Answer WideTerm) × AfterJoin j w p
after-join j (Err x) never = (Err (term_at j.policy x), refl)
after-join j (Ok y) never = held-end (answer_of j y) (checked j.dir j.model j.name (answer_of j y)) (never y refl)

-- ---- in the order of the parts

module _ (dir : Dir) (m : Mdp) (r : ℕ) (has : HasReward m r) (never : MeanNeverNo) (joined : JoinedMeetsRules) (steps_end : StepsEnd) (outer_ends : OuterEnds) where
  module _ (parts : List (Option ℕ)) (are : AreEnds m parts) (x : Inners) (inner : InnersEndSo dir m parts r (Ok x)) (q : Quotient) (is : IsQuotient m parts q) where
    after-steps : (o : outer.Answer) → outer.OuterEndSo dir q x.gains (Ok o) → (s : Result (List ℚ) WideTerm) → StepsEndSo q s
        → (p : Result Answer WideTerm) × AfterSteps dir m r parts q x o s p
    after-steps o exits (Err w) ends = (Err w, refl)
    after-steps o exits (Ok n) ends =
        let j = joining dir m r parts q x o n in
        after-join j (written_join j)
        (λ y made f. never dir m r j.gains y.bound y.bias y.spread j.policy f (joined dir m r j y has (is-joining dir m r parts are x inner q is o exits n ends) made))

    of_model : IsOfModel q
    of_model = record { m = m; parts = parts; model = has.model; ends = are; quotient = is }

    after-outer : (o : Result outer.Answer WideTerm) → outer.OuterEndSo dir q x.gains o → (p : Result Answer WideTerm) × AfterOuter dir m r parts q x o p
    after-outer (Err w) exits = (Err w, refl)
    after-outer (Ok o) exits =
        let s = steps_end q of_model in
        let p = after-steps o exits s.0 s.1 in (p.0, (s.0, s.1, p.1))

    after-quotient : (p : Result Answer WideTerm) × AfterQuotient dir m r parts x q p
    after-quotient =
        let o = outer_ends dir q x.gains of_model in
        let p = after-outer o.0 o.1 in (p.0, (o.0, o.1, p.1))

  after-inners : (parts : List (Option ℕ)) → AreEnds m parts → (x : Result Inners WideTerm) → InnersEndSo dir m parts r x
      → (p : Result Answer WideTerm) × AfterInners dir m r parts x p
  after-inners parts are (Err w) inner = (Err w, refl)
  after-inners parts are (Ok x) inner =
      let q = quotient_exists m parts are in
      let p = after-quotient parts are x inner q.0 q.1 in (p.0, (q.0, q.1, p.1))

  pub query_end : gain.HasOneEnd → (p : Result Answer WideTerm) × EndsSo dir m r p
  query_end once =
      let e = ends_exist m has.model.mdp in
      let x = inners_end dir m has.model.mdp r once e.0 e.1 in
      let p = after-inners e.0 e.1 x.0 x.1 in (p.0, record { parts = e.0; are_ends = e.1; inner = x.0; inner_ends = x.1; after = p.1 })
