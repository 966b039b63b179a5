use Rattle.std.proofs.Common.{◌≡◌, Some, List, ap₂, sym, ◌∙◌}
use Rattle.mdp_math.specs.Rational.{ℚ}
use Rattle.mdp_spec.specs.Written.{written_sum}
use Rattle.mdp_elim.specs.Equation as spec
use Rattle.mdp_elim.proofs.Equations.{evaluated-some}
use Rattle.mdp_elim.proofs.equation.evaluate.Goals as goal

pub returns-clause-ok : goal.returns-clause-ok
returns-clause-ok c =
    let x : written_sum c.args.first.now.items c.args.equation.now.first c.args.equation.now.entries ≡ Some c.in_ok-x.x = (let h = (c.in_ok-x.ensures {u = tt}).first in rw (c.deref.ensures.value) at h) in
    let y : written_sum c.args.second.now.items c.args.equation.now.second c.args.equation.now.entries ≡ Some c.in_ok-x.y = (let h = (c.in_ok-x.ensures {u = tt}).second in rw (c.deref-2.ensures.value) at h) in
    evaluated-some c.args.equation.now _ c.in_ok-x.x (sym x) c.in_ok-x.y (sym y)
    ∙ ap₂ (λ (a b : List ℚ). let v : spec.Values = record { first = a; second = b } in Some v) (sym (c.in_ok-push.ensures {u = tt}).items) (sym (c.in_ok-push-2.ensures {u = tt}).items)
