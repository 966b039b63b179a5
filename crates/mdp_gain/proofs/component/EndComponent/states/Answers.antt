use Rattle.std.proofs.Common.{◌≡◌, filter, ℕ, sym, ap, ◌∙◌, arith}
use Rattle.std.specs.List.{range_with_len}
use Rattle.mdp_unichain.specs.Component.{count, is_state}
use Rattle.mdp_gain.specs.Code.{component_in}
use Rattle.mdp_graph.proofs.Collecting.{chosen, left_out}
use Rattle.mdp_gain.proofs.component.EndComponent.states.Goals.{then-holds+in_ok-push, else-holds}
use Rattle.mdp_gain.proofs.component.EndComponent.states.Goals as goal

pub loop-s-init : goal.loop-s-init
loop-s-init c = c.new-states.ensures.items

pub loop-s-preserved : goal.loop-s-preserved
loop-s-preserved c = elim c.if-holds.branch [
  | then-holds+in_ok-push w ↦
      rw w.states-is
      (chosen (is_state (component_in c.args.self.now)) c.loop-s.s c.loop-s.states.items _ c.loop-s.invariant (sym c.holds.ensures ∙ w.if-holds.true) (w.in_ok-push.ensures {u = tt}).items)
  | else-holds w ↦
      rw w.states-is (left_out (is_state (component_in c.args.self.now)) c.loop-s.s c.loop-s.states.items c.loop-s.invariant (sym c.holds.ensures ∙ w.if-holds.false))
]

pub returns : goal.returns
returns c =
    let all : c.loop-s.s ≡ count (component_in c.args.self.now) = omega arith in
    c.loop-s.invariant ∙ ap (λ (n : ℕ). filter (is_state (component_in c.args.self.now)) (range_with_len 0 n)) all
