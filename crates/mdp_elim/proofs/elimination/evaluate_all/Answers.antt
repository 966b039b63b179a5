use Rattle.std.proofs.{Common.{◌≡◌, ◌∙◌, ◌++◌, ◌∷◌, [], List, Ok, Err, length, subst, ap, sym, rules, arith}, lemmas.List.{length-append}}
use Rattle.std.proofs.lemmas.Result.{MatchResult-at_ok}
use Rattle.mdp_elim.specs.Equation as spec
use Rattle.mdp_wide.specs.declared.unfinished.Unfinished.TheVariants as error
use Rattle.mdp_elim.specs.Finish.{finish, LeadDown}
use Rattle.mdp_elim.proofs.Finish.{finish-step, finish-stop, lead_down-last, placed-wide, placed-ok}
use Rattle.mdp_elim.proofs.elimination.evaluate_all.Goals as goal

pub evaluate-requires : goal.evaluate-requires
evaluate-requires c =
    let w : c.loop-equation.waiting.items ≡ c.pop.new.self.items ++ c.in-Some.equation ∷ [] = rw c.in-Some.is at c.pop.ensures.items in
    let down = lead_down-last c.loop-equation.s c.pop.new.self.items c.in-Some.equation (subst (λ (es : List spec.Equation). LeadDown c.loop-equation.s es) w c.loop-equation.invariant.down) in
    λ k d l. (omega (arith, down.0 k d l, c.loop-equation.invariant.first), omega (arith, down.0 k d l, c.loop-equation.invariant.second))

pub returns-in_err-placed-clause-wide : goal.returns-in_err-placed-clause-wide
returns-in_err-placed-clause-wide c = λ s h.
    let p : c.placed.result ≡ Err (error.TooWide s) = search rules in
    let w = placed-wide c.loop-equation.s s c.evaluate.result (sym c.placed.ensures ∙ p) in
    let l : c.loop-equation.waiting.items ≡ c.pop.new.self.items ++ c.in-Some.equation ∷ [] = rw c.in-Some.is at c.pop.ensures.items in
    c.loop-equation.invariant.same ∙ ap (λ (es : List spec.Equation). finish c.loop-equation.s es (Ok (record { first = c.loop-equation.first.items; second = c.loop-equation.second.items }))) l
    ∙ finish-stop c.loop-equation.s c.pop.new.self.items c.in-Some.equation _ (c.evaluate.ensures.wide w.0) ∙ ap Err w.1

pub loop-equation-preserved : goal.loop-equation-preserved
loop-equation-preserved c =
    let l : c.loop-equation.waiting.items ≡ c.pop.new.self.items ++ c.in-Some.equation ∷ [] = rw c.in-Some.is at c.pop.ensures.items in
    let down = lead_down-last c.loop-equation.s c.pop.new.self.items c.in-Some.equation (subst (λ (es : List spec.Equation). LeadDown c.loop-equation.s es) l c.loop-equation.invariant.down) in
    let k = placed-ok c.loop-equation.s c.in_ok-placed.field-0 c.evaluate.result (sym c.placed.ensures ∙ c.in_ok-placed.was {u = tt}) in
    let h = MatchResult-at_ok _ _ _ k c.evaluate.ensures.ok in
    let more = MatchResult-at_ok _ _ _ k c.evaluate.ensures.more in
    record {
      same =
          c.loop-equation.invariant.same ∙ ap (λ (es : List spec.Equation). finish c.loop-equation.s es (Ok (record { first = c.loop-equation.first.items; second = c.loop-equation.second.items }))) l
          ∙ finish-step c.loop-equation.s c.pop.new.self.items c.in-Some.equation _ _ h;
      down = down.1;
      count = omega (arith, ap length l, length-append c.pop.new.self.items (c.in-Some.equation ∷ []), c.loop-equation.invariant.count);
      first = omega (arith, more.0, c.loop-equation.invariant.first);
      second = omega (arith, more.1, c.loop-equation.invariant.second);
    }

pub returns-clause-ok : goal.returns-clause-ok
returns-clause-ok c =
    let none : c.loop-equation.waiting.items ≡ [] = search rules in
    c.loop-equation.invariant.same ∙ ap (λ (es : List spec.Equation). finish c.loop-equation.s es (Ok (record { first = c.loop-equation.first.items; second = c.loop-equation.second.items }))) none
