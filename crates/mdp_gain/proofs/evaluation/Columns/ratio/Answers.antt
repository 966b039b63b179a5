use Rattle.std.specs.{List.{All}, Result.{result_ok}}
use Rattle.std.proofs.Common.{◌∙◌, List, sym, ap, ap₂, ◌<◌, subst}
use Rattle.mdp_math.specs.Rational.{ℚ}
use Rattle.mdp_spec.specs.{Mdp.{Entry}, Written.{written_sum}}
use Rattle.mdp_unichain.specs.Component.{row_by}
use Rattle.mdp_gain.specs.Policies.{under}
use Rattle.mdp_gain.proofs.{Given.{policy-below}, Told.{not_zero}}
use Rattle.mdp_gain.proofs.evaluation.Columns.ratio.Goals as goal

pub row-row-requires-clause-choice : goal.row-row-requires-clause-choice
row-row-requires-clause-choice c = policy-below c.args.self.now.of.chosen c.args.self.now.of.t c.args.self.now.of.below

pub reward-reward-requires-clause-choice : goal.reward-reward-requires-clause-choice
reward-reward-requires-clause-choice c = policy-below c.args.self.now.of.chosen c.args.self.now.of.t c.args.self.now.of.below

pub div-requires : goal.div-requires
div-requires c =
    let x = c.args.self.now in
    not_zero x.steps.now (under x.of.chosen row_by x.of.t) c.in_ok-steps.steps c.requires
    (ap₂ (λ (one : ℚ) (es : List Entry). written_sum x.steps.now one es) (sym c.whole.ensures) (sym c.row-row.ensures.row)
    ∙ sym c.sum-2.ensures ∙ ap result_ok (c.in_ok-steps.was {u = tt}))

pub sum-requires-2 : goal.sum-requires-2
sum-requires-2 c = subst (λ n. All (λ t. t < n) c.row-row.result.targets.now) (sym c.args.self.now.steps_each) c.row-row.ensures.in_range

pub sum-requires : goal.sum-requires
sum-requires c = subst (λ n. All (λ t. t < n) c.row-row.result.targets.now) (sym c.args.self.now.earned_each) c.row-row.ensures.in_range
