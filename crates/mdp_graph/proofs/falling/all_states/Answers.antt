use Rattle.std.proofs.Common.{ap, sym, ◌∙◌, ◌++◌, ◌∷◌, [], List, ℕ, arith, ◌≡◌}
use Rattle.mdp_graph.proofs.RoundByRound.{range-more}
use Rattle.std.specs.List.{range_with_len}
use Rattle.mdp_graph.proofs.falling.all_states.Goals as goal

pub loop-s-preserved : goal.loop-s-preserved
loop-s-preserved c = c.in_ok-push.ensures.items ∙ ap (λ (l : List ℕ). l ++ c.loop-s.s ∷ []) c.loop-s.invariant ∙ sym (range-more 0 c.loop-s.s c.loop-s.s (omega arith))

pub loop-s-init : goal.loop-s-init
loop-s-init c = c.in_ok-all.ensures.items

pub returns : goal.returns
returns c =
    let last : c.loop-s.s ≡ c.args.states = omega arith in
    c.loop-s.invariant ∙ ap (range_with_len 0) last
