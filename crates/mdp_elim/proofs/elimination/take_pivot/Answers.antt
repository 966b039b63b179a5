use Rattle.std.proofs.{Common.{◌≡◌, ◌≢◌, ◌∙◌, ◌+◌, None, Some, sym, ap, subst, arith, pos}, lemmas.List.{get_or_default}}
use Rattle.mdp_math.specs.Rational.{of_int}
use Rattle.mdp_elim.specs.Equation as spec
use Rattle.mdp_elim.specs.{Entries.{Between, entry_to}, Elimination.{divided}, Predecessors.{at}}
use Rattle.mdp_elim.proofs.elimination.take_pivot.Goals.{After-remove-equation}
use Rattle.mdp_elim.proofs.elimination.take_pivot.Goals as goal

at_s : (c : After-remove-equation) → c.remove-equation.result ≡ at c.args.equations.now.items c.args.s
at_s c = c.remove-equation.ensures.value ∙ get_or_default c.args.equations.now.items c.args.s _ spec.no_equation (omega (arith, c.requires.last))

pub divide-requires-clause-below : goal.divide-requires-clause-below
divide-requires-clause-below c = subst (λ (e : spec.Equation). Between 0 (c.args.s + 1) e.entries) (sym (at_s (goal.at.divide-requires-clause-below c).After-remove-equation)) c.requires.below

pub divide-requires-clause-other : goal.divide-requires-clause-other
divide-requires-clause-other c = subst (λ (e : spec.Equation). entry_to c.args.s e.entries ≢ Some (of_int (pos 1))) (sym (at_s (goal.at.divide-requires-clause-other c).After-remove-equation)) c.requires.other

pub returns-in_err-divide-clause-wide : goal.returns-in_err-divide-clause-wide
returns-in_err-divide-clause-wide c = λ _.
    subst (λ (e : spec.Equation). divided c.args.s e ≡ None) (at_s (goal.at.returns-in_err-divide-clause-wide c).After-remove-equation) (c.in_err-divide.ensures {u = tt}).wide

pub returns-clause-pivot : goal.returns-clause-pivot
returns-clause-pivot c =
    subst (λ (e : spec.Equation). divided c.args.s e ≡ Some c.divide.new.self) (at_s (goal.at.returns-clause-pivot c).After-remove-equation) (c.in_ok-divide.ensures {u = tt}).ok
    ∙ ap Some (sym (c.in_ok-pivot.ensures {u = tt}))
