use Rattle.std.proofs.Common.{◌∙◌, sym, ap}
use Rattle.std.specs.Result.{result_ok}
use Rattle.mdp_math.specs.Rational.{ℚ}
use Rattle.mdp_spec.specs.{Row.{entries}, Written.{written_sum}}
use Rattle.mdp_unichain.specs.Component.{count}
use Rattle.mdp_unichain.proofs.Improving.{state-below}
use Rattle.mdp_gain.specs.{Code.{component_in}, Only.{IsOnly}, OnlyTerms.{zeros}}
use Rattle.mdp_gain.proofs.OnlySums.{zeros-cover, one-not_zero}
use Rattle.mdp_gain.proofs.only_state.Only.ratio.Goals as goal

pub row-row-requires-clause-state : goal.row-row-requires-clause-state
row-row-requires-clause-state c = state-below (component_in c.args.self.now.component) c.args.self.now.s (IsOnly.state c.args.self.now.only)

pub reward-reward-requires-clause-state : goal.reward-reward-requires-clause-state
reward-reward-requires-clause-state c = state-below (component_in c.args.self.now.component) c.args.self.now.s (IsOnly.state c.args.self.now.only)

pub sum_over-requires : goal.sum_over-requires
sum_over-requires c = zeros-cover (count (component_in c.args.self.now.component)) c.row-row.result.targets.now c.row-row.ensures.in_range

pub sum_over-requires-2 : goal.sum_over-requires-2
sum_over-requires-2 c = zeros-cover (count (component_in c.args.self.now.component)) c.row-row.result.targets.now c.row-row.ensures.in_range

pub div-requires : goal.div-requires
div-requires c =
    let n = count (component_in c.args.self.now.component) in
    one-not_zero n (entries c.row-row.result.targets.now c.row-row.result.probs.now) c.in_ok-steps.steps
    (ap (λ (one : ℚ). written_sum (zeros n) one (entries c.row-row.result.targets.now c.row-row.result.probs.now)) (sym c.whole.ensures)
    ∙ sym c.sum_over-2.ensures ∙ ap result_ok (c.in_ok-steps.was {u = tt}))
