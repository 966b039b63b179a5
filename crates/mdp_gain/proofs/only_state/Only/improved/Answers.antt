use Rattle.std.proofs.{Common.{◌≡◌, ◌∙◌, Ok, Option, Some, None, sym, ap}, lemmas.Result.{err_from_is_err_and}}
use Rattle.std.specs.Result.{result_ok}
use Rattle.mdp_math.specs.{Rational.{ℚ}, Result.{◌>>=◌}, Written.{written_add}}
use Rattle.mdp_math.proofs.Order.{0ℚ}
use Rattle.mdp_wide.specs.declared.too_wide.Kind.TheVariants.{Compare}
use Rattle.mdp_policy_iteration.specs.{Path.{comparing}, Places.{at_place}}
use Rattle.mdp_unichain.proofs.Improving.{state-below}
use Rattle.mdp_unichain.specs.Component.{count}
use Rattle.mdp_gain.specs.{Code.{component_in, choice_over}, OnlyTerms.{zeros}, Only.{IsOnly, policy_of}}
use Rattle.mdp_gain.proofs.{OnlySums.{zeros-length}, OnlyState.{answers_mapped, improved-is}}
use Rattle.mdp_policy_iteration.proofs.Answering.{placed-err, placed-ok, says, answers_err}
use Rattle.mdp_gain.proofs.only_state.Only.improved.Goals as goal

pub returns-in_err-present : goal.returns-in_err-present
returns-in_err-present c =
    let p = component_in c.args.self.now.component in
    let e = err_from_is_err_and c.from_residual.result c.from_residual.ensures.1 in
    let placed = placed-err Compare c.args.self.now.s c.args.c c.add.result c.in_err-present.field-0.0 (sym c.at_choice.ensures ∙ c.in_err-present.was) in
    let none : written_add c.args.gain.now 0ℚ ≡ None = ap (written_add c.args.gain.now) (sym c.whole.ensures) ∙ sym c.add.ensures ∙ ap result_ok placed.step_is in
    answers_err _ c.from_residual.result e.0 _ e.1
    (says Compare c.args.self.now.s c.args.c e.0 _ (e.2 ∙ placed.error_is)
    (improved-is p c.args.self.now.s c.args.self.now.only c.args.c c.args.gain.now
    ∙ ap (λ (o : Option ℚ). (at_place (comparing c.args.self.now.s c.args.c) o >>= choice_over p (zeros (count p)) c.args.self.now.s c.args.c) >>= (λ d. Ok (policy_of p c.args.self.now.s d))) none))

pub choice_over-requires-clause-state : goal.choice_over-requires-clause-state
choice_over-requires-clause-state c = state-below (component_in c.args.self.now.component) c.args.self.now.s (IsOnly.state c.args.self.now.only)

pub choice_over-requires-clause-bias : goal.choice_over-requires-clause-bias
choice_over-requires-clause-bias c = zeros-length (count (component_in c.args.self.now.component))

pub returns : goal.returns
returns c =
    let p = component_in c.args.self.now.component in
    let made = placed-ok Compare c.args.self.now.s c.args.c c.add.result c.in_ok-present.present (sym c.at_choice.ensures ∙ c.in_ok-present.was {u = tt}) in
    let told : written_add c.args.gain.now 0ℚ ≡ Some c.in_ok-present.present = ap (written_add c.args.gain.now) (sym c.whole.ensures) ∙ sym c.add.ensures ∙ ap result_ok made in
    answers_mapped (policy_of p c.args.self.now.s) c.choice_over.result (choice_over p (zeros (count p)) c.args.self.now.s c.args.c c.in_ok-present.present) _ c.choice_over.ensures
    (improved-is p c.args.self.now.s c.args.self.now.only c.args.c c.args.gain.now
    ∙ ap (λ (o : Option ℚ). (at_place (comparing c.args.self.now.s c.args.c) o >>= choice_over p (zeros (count p)) c.args.self.now.s c.args.c) >>= (λ d. Ok (policy_of p c.args.self.now.s d))) told)
