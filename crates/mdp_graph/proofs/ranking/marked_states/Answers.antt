use Rattle.std.proofs.Common.{sym, ◌∙◌, arith}
use Rattle.mdp_graph.proofs.{RankFacts.{none_marked, marked_more, marked_skip}, ranking.marked_states.Goals.{then-at+in_ok-push, else-at}}
use Rattle.mdp_graph.proofs.ranking.marked_states.Goals as goal

pub loop-s-init : goal.loop-s-init
loop-s-init c = rw c.new-list.ensures.items (none_marked _)

pub loop-s-preserved : goal.loop-s-preserved
loop-s-preserved c = elim c.if-at.branch [
  | then-at+in_ok-push w ↦ rw (w.list-is, w.in_ok-push.ensures.items) (marked_more _ _ _ c.loop-s.invariant (sym c.at.ensures ∙ w.if-at.true))
  | else-at w ↦ rw w.list-is (marked_skip _ _ _ c.loop-s.invariant (sym c.at.ensures ∙ w.if-at.false))
]

pub returns : goal.returns
returns c = record {
  marked = λ s h. c.loop-s.invariant.at s (omega arith);
  below = λ s e. (let l = c.loop-s.invariant.below s e in omega arith);
}
