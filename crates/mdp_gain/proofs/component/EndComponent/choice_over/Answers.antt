use Rattle.std.proofs.{Common.{◌∙◌, sym, arith}, lemmas.Result.{err_from_is_err_and, IfErr-at_err}}
use Rattle.mdp_wide.specs.declared.too_wide.Kind.TheVariants.{Compare}
use Rattle.mdp_gain.specs.Code.{component_in}
use Rattle.mdp_policy_iteration.proofs.Answering.{placed-err, says, answers_err}
use Rattle.mdp_gain.proofs.Answering.{wide-over}
use Rattle.mdp_gain.proofs.component.EndComponent.choice_over.Goals as goal

pub returns-in_err-best : goal.returns-in_err-best
returns-in_err-best g c =
    let e = err_from_is_err_and c.from_residual.result c.from_residual.ensures.1 in
    let placed = placed-err Compare c.args.s c.loop-c.c c.compared.result c.in_err-best.field-0.0 (sym c.at_choice.ensures ∙ c.in_err-best.was) in
    let none = IfErr-at_err _ placed.step_is c.compared.ensures.wide in
    answers_err _ c.from_residual.result e.0 _ e.1
    (says Compare c.args.s c.loop-c.c e.0 _ (e.2 ∙ placed.error_is)
    (wide-over (component_in c.args.self.now) _ c.args.s c.args.present c.args.kept c.loop-c.c _ c.loop-c.invariant none (omega arith)))
