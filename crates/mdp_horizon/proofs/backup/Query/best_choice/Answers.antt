use Rattle.std.proofs.{Common.{◌≡◌, ℕ, ◌∙◌, ◌-◌, Ok, length, sym, subst, arith}, lemmas.Result.{err_from_is_err_and, IfErr-at_err}}
use Rattle.mdp_spec.specs.Mdp.{choices_at}
use Rattle.mdp_horizon.specs.{Written.{in_turn, first_choice, next_choice}, Code.{plain_objective}, Answer.{shown}}
use Rattle.mdp_horizon.proofs.{Turns.{placed-err, says, answers_err}, Choosing.{first-refused, choice-refused}}
use Rattle.mdp_horizon.proofs.backup.Query.best_choice.Goals as goal

pub returns-in_err-placed : goal.returns-in_err-placed
returns-in_err-placed c =
    let e = err_from_is_err_and c.from_residual.result c.from_residual.ensures.1 in
    let wide = placed-err c.args.depth c.args.s 0 c.sum.result c.in_err-placed.field-0.0 (sym c.placed.ensures ∙ c.in_err-placed.was) in
    let none = IfErr-at_err _ wide.step_is c.sum.ensures.wide in
    answers_err _ c.from_residual.result e.0 _ e.1
    (says c.args.depth c.args.s 0 e.0 _ (e.2 ∙ wide.error_is)
    (first-refused c.args.self.dir c.args.self.model.now (plain_objective c.args.self.objective) c.args.depth c.args.values.now c.args.s none))

pub returns-in_err-leader : goal.returns-in_err-leader
returns-in_err-leader c =
    let e = err_from_is_err_and c.from_residual-in_err-leader.result c.from_residual-in_err-leader.ensures.1 in
    let wide = placed-err c.args.depth c.args.s c.loop-c.c c.compared.result c.in_err-leader.field-0.0 (sym c.placed-in-loop-c.ensures ∙ c.in_err-leader.was) in
    let none = IfErr-at_err _ wide.step_is c.compared.ensures.wide in
    answers_err _ c.from_residual-in_err-leader.result e.0 _ e.1
    (says c.args.depth c.args.s c.loop-c.c e.0 _ (e.2 ∙ wide.error_is)
    (choice-refused c.args.self.dir c.args.self.model.now (plain_objective c.args.self.objective) c.args.depth c.args.values.now c.args.s
    (c.loop-c.c - 1) c.loop-c.c (shown c.loop-c.leader) c.loop-c.invariant none (omega arith) (omega arith)))

pub returns : goal.returns
returns c =
    let m = c.args.self.model.now in
    let o = plain_objective c.args.self.objective in
    let e : c.loop-c.c - 1 ≡ length (choices_at m c.args.s) - 1 = omega arith in
    subst (λ (n : ℕ). in_turn (next_choice c.args.self.dir m o c.args.depth c.args.values.now c.args.s) (first_choice m o c.args.depth c.args.values.now c.args.s) n ≡ Ok (shown c.loop-c.leader))
    e c.loop-c.invariant
