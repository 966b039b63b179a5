use Rattle.std.proofs.Common.{◌≡◌, ◌∙◌, None, sym, ap, subst}
use Rattle.std.specs.Result.{result_ok}
use Rattle.mdp_spec.specs.Written.{written_sum}
use Rattle.mdp_elim.specs.Equation as spec
use Rattle.mdp_elim.specs.Elimination.{evaluated}
use Rattle.mdp_elim.proofs.Equations.{evaluated-none_first, evaluated-none_second}
use Rattle.mdp_elim.proofs.equation.Solved.sums.Goals as goal

pub returns-in_err-x-clause-wide : goal.returns-in_err-x-clause-wide
returns-in_err-x-clause-wide c =
    λ _. (subst (λ (e : spec.Equation). evaluated e (record { first = c.args.first.now; second = c.args.second.now }) ≡ None) c.self.view_is (evaluated-none_first _ _ (c.in_err-x.ensures {u = tt})))

pub returns-in_err-y-clause-wide : goal.returns-in_err-y-clause-wide
returns-in_err-y-clause-wide c =
    λ _. (subst (λ (e : spec.Equation). evaluated e (record { first = c.args.first.now; second = c.args.second.now }) ≡ None) c.self.view_is
    (evaluated-none_second _ _ c.in_ok-x.x (c.in_ok-x.ensures {u = tt}) (c.in_err-y.ensures {u = tt})))

pub returns-clause-first : goal.returns-clause-first
returns-clause-first c =
    ap (λ (e : spec.Equation). written_sum c.args.first.now e.first e.entries) (sym c.self.view_is) ∙ sym c.row_sum.ensures ∙ ap result_ok (c.in_ok-x.was {u = tt})

pub returns-clause-second : goal.returns-clause-second
returns-clause-second c =
    ap (λ (e : spec.Equation). written_sum c.args.second.now e.second e.entries) (sym c.self.view_is) ∙ sym c.row_sum-2.ensures ∙ ap result_ok (c.in_ok-y.was {u = tt})
