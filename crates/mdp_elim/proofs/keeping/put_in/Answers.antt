use Rattle.std.proofs.{Common.{◌≡◌, ◌<◌, ◌≤◌, ◌+◌, suc, Err, Some, None, length, sym, ◌∙◌, ap, subst, rules, arith}, lemmas.List.{get_or_default}}
use Rattle.std.proofs.lemmas.Result.{MatchResult-at_ok}
use Rattle.mdp_elim.specs.Equation as spec
use Rattle.mdp_elim.specs.{Entries.{Between, reach}, Elimination.{substituted}, Predecessors.{at}, Kept.{StopsAbove}}
use Rattle.mdp_wide.specs.declared.unfinished.Unfinished.TheVariants as error
use Rattle.mdp_elim.proofs.{Finish.{placed-wide, placed-ok}, Reach.{reach-le, between-reach}, PutIn.{between-wide, substituted-down, put_to, put_more}}
use Rattle.mdp_elim.proofs.keeping.put_in.Goals.{After-substitute-arg-in-Some-1}
use Rattle.mdp_elim.proofs.keeping.put_in.Goals as goal

-- the equation of state s, the greatest above low that the equation comes to, is put in
module _ (c : After-substitute-arg-in-Some-1) where
  reach_is : reach c.loop-s.equation.entries ≡ c.in-Some.s + 1
  reach_is = ap reach (sym c.entries.ensures) ∙ c.in-Some.ensures.some.1

  high_is : reach c.loop-s.equation.entries ≤ c.loop-s.invariant.0
  high_is = reach-le c.loop-s.invariant.0 c.loop-s.equation.entries c.loop-s.invariant.3

  within : c.in-Some.s < length c.args.solved.now
  within = omega (arith, reach_is, high_is, c.loop-s.invariant.2)

  lent_is : c.lent.result ≡ at c.args.solved.now c.in-Some.s
  lent_is = c.lent.ensures ∙ c.index-solved-s.is ∙ get_or_default c.args.solved.now c.in-Some.s _ spec.no_equation within

  below : Between 0 (suc c.in-Some.s) c.loop-s.equation.entries
  below =
      let e : reach c.loop-s.equation.entries ≡ suc c.in-Some.s = omega (arith, reach_is) in
      subst (λ n. Between 0 n c.loop-s.equation.entries) e (between-reach c.loop-s.invariant.0 c.loop-s.equation.entries c.loop-s.invariant.3)

pub bounds-solved-s : goal.bounds-solved-s
bounds-solved-s c =
    let r : reach c.loop-s.equation.entries ≡ c.in-Some.s + 1 = ap reach (sym c.entries.ensures) ∙ c.in-Some.ensures.some.1 in
    omega (arith, r, reach-le c.loop-s.invariant.0 c.loop-s.equation.entries c.loop-s.invariant.3, c.loop-s.invariant.2)

pub substitute-requires-clause-below : goal.substitute-requires-clause-below
substitute-requires-clause-below c =
    subst (λ n. Between 0 n c.loop-s.equation.entries) (reach_is c) (between-reach c.loop-s.invariant.0 c.loop-s.equation.entries c.loop-s.invariant.3)

pub substitute-requires-clause-pivot : goal.substitute-requires-clause-pivot
substitute-requires-clause-pivot c = subst (λ (e : spec.Equation). Between 0 c.in-Some.s e.entries) (sym (lent_is c)) (c.requires.down c.in-Some.s (within c))

pub loop-s-smaller : goal.loop-s-smaller
loop-s-smaller c =
    let b = (goal.at.loop-s-smaller c).After-substitute-arg-in-Some-1 in
    let k = placed-ok c.in-Some.s c.in_ok-placed.field-0 c.substitute.result (sym c.placed.ensures ∙ c.in_ok-placed.was {u = tt}) in
    let made : substituted c.in-Some.s (at c.args.solved.now c.in-Some.s) c.loop-s.equation ≡ Some c.substitute.new.self = subst
    (λ (p : spec.Equation). substituted c.in-Some.s p c.loop-s.equation ≡ Some c.substitute.new.self) (lent_is b) (MatchResult-at_ok _ _ _ k c.substitute.ensures.ok) in
    let down = substituted-down c.in-Some.s (at c.args.solved.now c.in-Some.s) c.loop-s.equation c.substitute.new.self (c.requires.down c.in-Some.s (within b)) (below b) made in
    omega (arith, reach_is b, reach-le c.in-Some.s c.substitute.new.self.entries down)

pub loop-s-preserved : goal.loop-s-preserved
loop-s-preserved c =
    let b = (goal.at.loop-s-preserved c).After-substitute-arg-in-Some-1 in
    let k = placed-ok c.in-Some.s c.in_ok-placed.field-0 c.substitute.result (sym c.placed.ensures ∙ c.in_ok-placed.was {u = tt}) in
    let made : substituted c.in-Some.s (at c.args.solved.now c.in-Some.s) c.loop-s.equation ≡ Some c.substitute.new.self = subst
    (λ (p : spec.Equation). substituted c.in-Some.s p c.loop-s.equation ≡ Some c.substitute.new.self) (lent_is b) (MatchResult-at_ok _ _ _ k c.substitute.ensures.ok) in (
      c.in-Some.s,
      c.in-Some.ensures.some.0,
      omega (arith, within b),
      substituted-down c.in-Some.s (at c.args.solved.now c.in-Some.s) c.loop-s.equation c.substitute.new.self (c.requires.down c.in-Some.s (within b)) (below b) made,
      put_more c.args.solved.now c.loop-s.invariant.0 c.in-Some.s (length c.args.solved.now) c.args.equation.now c.loop-s.equation
          (omega (arith, reach_is b, high_is b)) c.loop-s.invariant.2 c.loop-s.invariant.4 c.substitute.new.self (below b) made,
    )

pub returns-in_err-placed-clause-wide : goal.returns-in_err-placed-clause-wide
returns-in_err-placed-clause-wide c = λ s h.
    let p : c.placed.result ≡ Err (error.TooWide s) = search rules in
    let w = placed-wide c.in-Some.s s c.substitute.result (sym c.placed.ensures ∙ p) in
    let b = (goal.at.returns-in_err-placed-clause-wide c).After-substitute-arg-in-Some-1 in
    subst (λ j. StopsAbove c.args.solved.now c.args.low c.args.equation.now j) w.1
    (record {
      above = c.in-Some.ensures.some.0;
      below = within b;
      sum = c.loop-s.equation;
      put = put_to c.args.solved.now c.loop-s.invariant.0 c.in-Some.s (length c.args.solved.now) c.args.equation.now c.loop-s.equation
          (omega (arith, reach_is b, high_is b)) c.loop-s.invariant.2 c.loop-s.invariant.4 (below b);
      none = subst (λ (p : spec.Equation). substituted c.in-Some.s p c.loop-s.equation ≡ None) (lent_is b) (c.substitute.ensures.wide w.0);
    })

pub returns-clause-ok : goal.returns-clause-ok
returns-clause-ok c =
    let n : reach c.entries.result.now ≤ c.args.low + 1 = c.greatest_above.ensures.none (search rules) in
    let r : reach c.loop-s.equation.entries ≤ suc c.args.low = subst (λ j. j ≤ suc c.args.low) (ap reach c.entries.ensures) (omega (arith, n)) in
    put_to c.args.solved.now c.loop-s.invariant.0 c.args.low (length c.args.solved.now) c.args.equation.now c.loop-s.equation
    c.loop-s.invariant.1 c.loop-s.invariant.2 c.loop-s.invariant.4
    (between-wide 0 (reach c.loop-s.equation.entries) (suc c.args.low) c.loop-s.equation.entries r (between-reach c.loop-s.invariant.0 c.loop-s.equation.entries c.loop-s.invariant.3))

pub returns-clause-below : goal.returns-clause-below
returns-clause-below c =
    let n : reach c.entries.result.now ≤ c.args.low + 1 = c.greatest_above.ensures.none (search rules) in
    let r : reach c.loop-s.equation.entries ≤ c.args.low + 1 = subst (λ j. j ≤ c.args.low + 1) (ap reach c.entries.ensures) n in
    between-wide 0 (reach c.loop-s.equation.entries) (c.args.low + 1) c.loop-s.equation.entries r (between-reach c.loop-s.invariant.0 c.loop-s.equation.entries c.loop-s.invariant.3)
