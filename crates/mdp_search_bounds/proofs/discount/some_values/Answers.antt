use Rattle.std.proofs.{Common.{◌∙◌, ap, map, List, Some}, lemmas.List.{take_all}}
use Rattle.mdp_math.specs.Rational.{ℚ}
use Rattle.mdp_graph.proofs.Collecting.{mapped}
use Rattle.mdp_search_bounds.proofs.discount.some_values.Goals as goal

pub loop-value-preserved : goal.loop-value-preserved
loop-value-preserved c =
    mapped Some c.args.values.now c.loop-value.value-index _ c.loop-value.list.items _ _ c.loop-value.invariant (c.in_ok-push.ensures {u = tt}).items c.loop-value-test.true (ap Some c.value-item.is)

pub returns : goal.returns
returns c = c.loop-value.invariant ∙ ap (λ (x : List ℚ). map Some x) (take_all c.loop-value.value-index c.args.values.now c.loop-value-test.false)
