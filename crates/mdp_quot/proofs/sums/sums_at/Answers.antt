use Rattle.std.proofs.{Common.{ap, ◌∙◌, map, List, ℕ, get_or, pos}, lemmas.List.{take_all, get_or_default}}
use Rattle.mdp_math.specs.Rational.{of_int}
use Rattle.mdp_spec.specs.Mdp.{value_at}
use Rattle.mdp_graph.proofs.Collecting.{mapped}
use Rattle.mdp_quot.proofs.sums.sums_at.Goals as goal

pub loop-q-init : goal.loop-q-init
loop-q-init c = c.in_ok-probs.ensures.items

pub loop-q-preserved : goal.loop-q-preserved
loop-q-preserved c =
    mapped (value_at c.args.sums.now) c.args.nodes.now c.loop-q.q-index 0 c.loop-q.probs.items _ _ c.loop-q.invariant c.in_ok-push.ensures.items c.loop-q-test.true
    (c.index-sums-q.is ∙ get_or_default c.args.sums.now (get_or c.args.nodes.now c.loop-q.q-index 0) c.index-sums-q.result (of_int (pos 0)) (c.requires c.loop-q.q-index 0 c.loop-q-test.true))

pub returns : goal.returns
returns c = c.loop-q.invariant ∙ ap (λ (x : List ℕ). map (value_at c.args.sums.now) x) (take_all c.loop-q.q-index c.args.nodes.now c.loop-q-test.false)
