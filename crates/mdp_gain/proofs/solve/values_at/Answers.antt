use Rattle.std.proofs.{Common.{ap, ◌∙◌, map, List, ℕ}, lemmas.List.{take_all}}
use Rattle.mdp_spec.specs.Mdp.{value_at}
use Rattle.mdp_graph.proofs.Collecting.{mapped}
use Rattle.mdp_gain.proofs.solve.values_at.Goals as goal

pub loop-s-init : goal.loop-s-init
loop-s-init c = (c.in_ok-list.ensures {u = tt}).items

pub loop-s-preserved : goal.loop-s-preserved
loop-s-preserved c =
    mapped (value_at c.args.values.now) c.args.states.now c.loop-s.s-index 0 c.loop-s.list.items _ _ c.loop-s.invariant (c.in_ok-push.ensures {u = tt}).items c.loop-s-test.true c.value_of.ensures

pub returns : goal.returns
returns c = c.loop-s.invariant ∙ ap (λ (x : List ℕ). map (value_at c.args.values.now) x) (take_all c.loop-s.s-index c.args.states.now c.loop-s-test.false)
