use Rattle.std.proofs.{Common.{◌∙◌, ap, subst, length, List, Ok, Err, Vec}, lemmas.Result.{err_from_is_err_and}}
use Rattle.std.specs.Global.{Global}
use Rattle.mdp_num.specs.declared.frac.Frac.{Frac}
use Rattle.mdp_math.specs.Rational.{ℚ}
use Rattle.mdp_policy_iteration.specs.Queries.{Solves}
use Rattle.mdp_quot.specs.Outer as outer
use Rattle.mdp_quot.specs.Steps.{StepsEndSo}
use Rattle.mdp_quot.proofs.InModel.{gains-each}
use Rattle.mdp_mean.specs.{Inners.{InnersEndSo}, PartsCode.{inners_in}, Query.{plain, joining, JoinEndsSo, EndsSo}}
use Rattle.mdp_mean.proofs.Passing.{solves-err, passed-on, goes-through, ends-inner, ends-outer, ends-steps, ends-join}
use Rattle.mdp_mean.proofs.solve.solve_mean.Goals as goal

pub returns-in_err-inner-clause-path : goal.returns-in_err-inner-clause-path
returns-in_err-inner-clause-path c =
    let m = c.args.model.now in
    let parts = c.in_ok-ends.ends.parts in
    let e = err_from_is_err_and c.from_residual-in_err-inner.result c.from_residual-in_err-inner.ensures.1 in
    solves-err plain (EndsSo c.args.dir m c.args.m) c.from_residual-in_err-inner.result e.0 c.in_err-inner.field-0.0 e.1 e.2
    (passed-on inners_in plain (InnersEndSo c.args.dir m parts c.args.m) (EndsSo c.args.dir m c.args.m) c.in_err-inner.field-0.0
    (ends-inner c.args.dir m c.args.m parts (c.in_ok-ends.ensures {u = tt}).ends) (c.in_err-inner.ensures {u = tt}).path)

pub best_exits-requires-clause-gains : goal.best_exits-requires-clause-gains
best_exits-requires-clause-gains c =
    gains-each c.args.model.now c.known.ensures.mdp c.in_ok-ends.ends.parts (c.in_ok-ends.ensures {u = tt}).ends c.in_ok-quotient.quotient (c.in_ok-quotient.ensures {u = tt}) c.deref.result.now
    (ap length c.deref.ensures.value ∙ (c.in_ok-inner.ensures {u = tt}).best.gain_each)

pub returns-in_err-outer-clause-path : goal.returns-in_err-outer-clause-path
returns-in_err-outer-clause-path c =
    let m = c.args.model.now in
    let parts = c.in_ok-ends.ends.parts in
    let q = c.in_ok-quotient.quotient in
    let x = inners_in c.in_ok-inner.inner in
    let e = err_from_is_err_and c.from_residual-in_err-outer.result c.from_residual-in_err-outer.ensures.1 in
    solves-err plain (EndsSo c.args.dir m c.args.m) c.from_residual-in_err-outer.result e.0 c.in_err-outer.field-0.0 e.1 e.2
    (passed-on outer.plain plain (outer.OuterEndSo c.args.dir q c.deref.result.now) (EndsSo c.args.dir m c.args.m) c.in_err-outer.field-0.0
    (λ w h. ends-outer c.args.dir m c.args.m parts (c.in_ok-ends.ensures {u = tt}).ends x (c.in_ok-inner.ensures {u = tt}).path q (c.in_ok-quotient.ensures {u = tt}) w
    (subst (λ (g : List ℚ). outer.OuterEndSo c.args.dir q g (Err w)) c.deref.ensures.value h)) (c.in_err-outer.ensures {u = tt}).path)

pub returns-in_err-steps-clause-path : goal.returns-in_err-steps-clause-path
returns-in_err-steps-clause-path c =
    let m = c.args.model.now in
    let parts = c.in_ok-ends.ends.parts in
    let q = c.in_ok-quotient.quotient in
    let x = inners_in c.in_ok-inner.inner in
    let o = outer.plain c.in_ok-outer.outer in
    let e = err_from_is_err_and c.from_residual-in_err-steps.result c.from_residual-in_err-steps.ensures.1 in
    let exits = subst (λ (g : List ℚ). outer.OuterEndSo c.args.dir q g (Ok o)) c.deref.ensures.value (c.in_ok-outer.ensures {u = tt}).path in
    solves-err plain (EndsSo c.args.dir m c.args.m) c.from_residual-in_err-steps.result e.0 c.in_err-steps.field-0.0 e.1 e.2
    (passed-on (λ (n : Vec Frac Global). n.items) plain (StepsEndSo q) (EndsSo c.args.dir m c.args.m) c.in_err-steps.field-0.0
    (ends-steps c.args.dir m c.args.m parts (c.in_ok-ends.ensures {u = tt}).ends x (c.in_ok-inner.ensures {u = tt}).path q (c.in_ok-quotient.ensures {u = tt}) o exits)
    (c.in_err-steps.ensures {u = tt}).path)

pub returns-clause-path : goal.returns-clause-path
returns-clause-path c =
    let m = c.args.model.now in
    let parts = c.in_ok-ends.ends.parts in
    let q = c.in_ok-quotient.quotient in
    let x = inners_in c.in_ok-inner.inner in
    let o = outer.plain c.in_ok-outer.outer in
    let n = c.in_ok-steps.steps.items in
    let exits = subst (λ (g : List ℚ). outer.OuterEndSo c.args.dir q g (Ok o)) c.deref.ensures.value (c.in_ok-outer.ensures {u = tt}).path in
    goes-through plain (JoinEndsSo (joining c.args.dir m c.args.m parts q x o n)) (EndsSo c.args.dir m c.args.m) c.join_parts.result
    (ends-join c.args.dir m c.args.m parts (c.in_ok-ends.ensures {u = tt}).ends x (c.in_ok-inner.ensures {u = tt}).path q (c.in_ok-quotient.ensures {u = tt}) o exits n (c.in_ok-steps.ensures {u = tt}).path)
    (subst (λ (s : List ℚ). Solves plain (JoinEndsSo (joining c.args.dir m c.args.m parts q x o s)) c.join_parts.result) c.deref-2.ensures.value c.join_parts.ensures.join)
