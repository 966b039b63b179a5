-- The end of a query whose parts have answers is that of their join, and an answer is such a join.
use Rattle.std.proofs.Common.{◌≡◌, ℕ, List, Option, Result, Ok, Err, refl, sym, ap, ◌∙◌, subst}
use Rattle.mdp_math.specs.Rational.{ℚ}
use Rattle.mdp_spec.specs.Mdp.{Mdp}
use Rattle.mdp_rows.specs.declared.dir.Dir.{Dir}
use Rattle.mdp_wide.specs.Term.{WideTerm}
use Rattle.mdp_ends.specs.Ends.{AreEnds}
use Rattle.mdp_quot.specs.{Quotient.{Quotient, IsQuotient}, Steps.{StepsEndSo}}
use Rattle.mdp_quot.specs.Outer as outer
use Rattle.mdp_claims.specs.{declared.verdict.Verdict.{Verdict}, declared.verdict.Verdict.TheVariants.{Yes, No, Wide}}
use Rattle.mdp_mean.specs.{Terms.{Joining}, Join.{Place, Joined, written_join}, Inners.{Inners, InnersEndSo}}
use Rattle.mdp_mean.specs.Query.{Answer, answer_of, checked, Held, joining, IsJoining, AfterJoin, JoinEndsSo, AfterSteps, AfterOuter, AfterInners, EndsSo}
use Rattle.mdp_mean.specs.Laws.{IsAcceptedJoin}
use Rattle.mdp_mean.proofs.{OneEnd.{ok_is, ok_no_err}, Passing.{ends-join}}

module _ (dir : Dir) (m : Mdp) (r : ℕ) where
  pub joining-ends : (j : Joining) (p : Result Answer WideTerm) → IsJoining dir m r j → JoinEndsSo j p → EndsSo dir m r p
  joining-ends j p is h =
      ends-join dir m r is.parts is.are_ends is.inner is.inner_ends is.quotient is.is_quotient is.exits is.exits_end is.steps is.steps_end p (subst (λ (j : Joining). JoinEndsSo j p) is.is h)

  module _ (parts : List (Option ℕ)) (are : AreEnds m parts) (x : Inners) (inner : InnersEndSo dir m parts r (Ok x)) (q : Quotient) (is : IsQuotient m parts q) (o : outer.Answer)
      (exits : outer.OuterEndSo dir q x.gains (Ok o)) (n : List ℚ) (ends : StepsEndSo q (Ok n)) where
    abbrev pub join : Joining
    join = joining dir m r parts q x o n

    pub is-joining : IsJoining dir m r join
    is-joining = record {
      parts = parts;
      are_ends = are;
      inner = x;
      inner_ends = inner;
      quotient = q;
      is_quotient = is;
      exits = o;
      exits_end = exits;
      steps = n;
      steps_end = ends;
      is = refl;
    }

  module _ (a : Answer) where
    held-accepted : (j : Joining) (y : Joined) → IsJoining dir m r j → written_join j ≡ Ok y → (v : Verdict) → v ≡ checked dir m r (answer_of j y)
        → Held (answer_of j y) v (Ok a) → IsAcceptedJoin dir m r a
    held-accepted j y is made Yes e h =
        let same = ok_is a (answer_of j y) h in
        record { join = j; joining = is; values = y; made = made; is = same; accepted = ap (checked dir m r) same ∙ sym e }
    held-accepted j y is made (Wide s c) e h = absurd (ok_no_err a _ h)
    held-accepted j y is made (No f) e h = absurd h

    module _ (parts : List (Option ℕ)) (are : AreEnds m parts) (x : Inners) (inner : InnersEndSo dir m parts r (Ok x)) (q : Quotient) (is : IsQuotient m parts q) where
      join-accepted : (o : outer.Answer) (exits : outer.OuterEndSo dir q x.gains (Ok o)) (n : List ℚ) (ends : StepsEndSo q (Ok n)) (w : Result Joined Place)
          → written_join (joining dir m r parts q x o n) ≡ w → AfterJoin (joining dir m r parts q x o n) w (Ok a) → IsAcceptedJoin dir m r a
      join-accepted o exits n ends (Err e) made h = absurd (ok_no_err a _ h)
      join-accepted o exits n ends (Ok y) made h =
          let j = joining dir m r parts q x o n in
          held-accepted j y (is-joining parts are x inner q is o exits n ends) made (checked dir m r (answer_of j y)) refl h

      steps-accepted : (o : outer.Answer) → outer.OuterEndSo dir q x.gains (Ok o) → (s : Result (List ℚ) WideTerm) → StepsEndSo q s
          → AfterSteps dir m r parts q x o s (Ok a) → IsAcceptedJoin dir m r a
      steps-accepted o exits (Err w) ends h = absurd (ok_no_err a w h)
      steps-accepted o exits (Ok n) ends h = join-accepted o exits n ends (written_join (joining dir m r parts q x o n)) refl h

      outer-accepted : (o : Result outer.Answer WideTerm) → outer.OuterEndSo dir q x.gains o → AfterOuter dir m r parts q x o (Ok a) → IsAcceptedJoin dir m r a
      outer-accepted (Err w) ends h = absurd (ok_no_err a w h)
      outer-accepted (Ok o) ends h = steps-accepted o ends h.0 h.1 h.2

    inners-accepted : (parts : List (Option ℕ)) → AreEnds m parts → (x : Result Inners WideTerm) → InnersEndSo dir m parts r x
        → AfterInners dir m r parts x (Ok a) → IsAcceptedJoin dir m r a
    inners-accepted parts are (Err w) ends h = absurd (ok_no_err a w h)
    inners-accepted parts are (Ok x) ends h = outer-accepted parts are x ends h.0 h.1 h.2.0 h.2.1 h.2.2

    pub answer-joined : EndsSo dir m r (Ok a) → IsAcceptedJoin dir m r a
    answer-joined e = inners-accepted e.parts e.are_ends e.inner e.inner_ends e.after
