use Rattle.std.proofs.{Common.{refl, ap, ◌∙◌, ◌==◌, map, List, ℕ}, lemmas.List.{take_all}}
use Rattle.mdp_graph.proofs.Collecting.{mapped}
use Rattle.mdp_graph.proofs.falling.zero_marks.Goals as goal

pub loop-round-init : goal.loop-round-init
loop-round-init c = c.in_ok-values.ensures.items

pub loop-round-preserved : goal.loop-round-preserved
loop-round-preserved c =
    mapped (λ (r : ℕ). r == 0) c.args.rounds.now c.loop-round.round-index 0 c.loop-round.values.items _ _ c.loop-round.invariant c.in_ok-push.ensures.items c.loop-round-test.true refl

pub returns : goal.returns
returns c =
    c.from_values.ensures ∙ c.loop-round.invariant ∙ ap (λ (x : List ℕ). map (λ (r : ℕ). r == 0) x) (take_all c.loop-round.round-index c.args.rounds.now c.loop-round-test.false)
