use Rattle.std.proofs.{Common.{◌∙◌, Ok, length, sym, ap, arith}, lemmas.Result.{err_from_is_err_and, IfErr-at_err}}
use Rattle.mdp_spec.specs.Mdp.{choices_at}
use Rattle.mdp_wide.specs.declared.too_wide.Kind.TheVariants.{Compare}
use Rattle.mdp_policy_iteration.specs.{Path.{comparing}, Places.{at_place}, Code.{shown}}
use Rattle.mdp_policy.specs.Written.{next_choice, own}
use Rattle.mdp_policy_iteration.proofs.Answering.{placed-err, says, answers_err}
use Rattle.mdp_horizon.proofs.Turns.{in_turn-refused}
use Rattle.mdp_policy.proofs.compare.Comparison.best.Goals as goal

pub returns-in_err-leader : goal.returns-in_err-leader
returns-in_err-leader c =
    let self = c.args.self in
    let e = err_from_is_err_and c.from_residual.result c.from_residual.ensures.1 in
    let wide = placed-err Compare c.args.s c.loop-c.c c.compared.result c.in_err-leader.field-0.0 (sym c.at_choice.ensures ∙ c.in_err-leader.was) in
    let none = IfErr-at_err _ wide.step_is c.compared.ensures.wide in
    answers_err _ c.from_residual.result e.0 _ e.1
    (says Compare c.args.s c.loop-c.c e.0 _ (e.2 ∙ wide.error_is)
    (in_turn-refused (next_choice self.dir self.model.now self.values.now c.args.s) (Ok (own self.values.now c.args.s)) c.loop-c.c (length (choices_at self.model.now c.args.s))
    (shown c.loop-c.leader) (comparing c.args.s c.loop-c.c) c.loop-c.invariant (ap (at_place (comparing c.args.s c.loop-c.c)) none) (omega arith)))
