use Rattle.std.proofs.{Common.{not, sym, ap, ◌∙◌, ◌&&◌, ℕ, List}, lemmas.List.{take_all}}
use Rattle.mdp_rows.specs.Preds.{is_among}
use Rattle.mdp_graph.specs.Forest.{attached}
use Rattle.mdp_graph.proofs.{Among.{passing_more, passing_skip}, forest.unattached.Goals.{then-not-is_attached+in_ok-push, else-not-is_attached}}
use Rattle.mdp_graph.proofs.forest.unattached.Goals as goal

pub loop-s-init : goal.loop-s-init
loop-s-init c = λ s. ap (is_among s) c.new-list.ensures.items

pub loop-s-preserved : goal.loop-s-preserved
loop-s-preserved c =
    let test = λ (s : ℕ). not (attached c.args.goals.now c.args.ways.now s) in
    elim c.if-not-is_attached.branch [
      | then-not-is_attached+in_ok-push w ↦ λ s.
          rw (w.list-is)
          (passing_more test c.args.states.now c.loop-s.s-index c.loop-s.list.items c.loop-s-test.true _ (ap not (sym c.is_attached.ensures ∙ w.if-not-is_attached.true))
          w.in_ok-push.ensures.items s (c.loop-s.invariant s))
      | else-not-is_attached w ↦ λ s.
          rw (w.list-is)
          (passing_skip test c.args.states.now c.loop-s.s-index c.loop-s.list.items c.loop-s-test.true (ap not (sym c.is_attached.ensures ∙ w.if-not-is_attached.false)) s (c.loop-s.invariant s))
    ]

pub returns : goal.returns
returns c = λ s.
    c.loop-s.invariant s
    ∙ ap (λ (x : List ℕ). is_among s x && not (attached c.args.goals.now c.args.ways.now s)) (take_all c.loop-s.s-index c.args.states.now c.loop-s-test.false)
