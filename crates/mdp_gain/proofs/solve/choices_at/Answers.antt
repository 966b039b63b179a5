use Rattle.std.proofs.{Common.{ap, ◌∙◌, map, List, ℕ, get_or, refl}, lemmas.List.{take_all}}
use Rattle.mdp_graph.proofs.Collecting.{mapped}
use Rattle.mdp_gain.proofs.solve.choices_at.Goals as goal

pub loop-s-init : goal.loop-s-init
loop-s-init c = (c.in_ok-choices.ensures {u = tt}).items

pub loop-s-preserved : goal.loop-s-preserved
loop-s-preserved c =
    mapped (λ (s : ℕ). get_or c.args.policy.now s 0) c.args.states.now c.loop-s.s-index 0 c.loop-s.choices.items _ _ c.loop-s.invariant (c.in_ok-push.ensures {u = tt}).items c.loop-s-test.true refl

pub returns : goal.returns
returns c = c.loop-s.invariant ∙ ap (λ (x : List ℕ). map (λ (s : ℕ). get_or c.args.policy.now s 0) x) (take_all c.loop-s.s-index c.args.states.now c.loop-s-test.false)
