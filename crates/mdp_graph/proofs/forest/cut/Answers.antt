use Rattle.std.proofs.{Common.{◌<◌, ◌∷◌, [], take, get_or, length, sym, refl, ap, ◌∙◌, arith, Option}, lemmas.List.{take_more, take_all}}
use Rattle.mdp_rows.specs.{Preds.{pair}, declared.preds.Pred.{Pred}}
use Rattle.mdp_graph.specs.{declared.forest.Way.{Way}, Forest.{uses}}
use Rattle.mdp_graph.proofs.{Cutting.{cut_none, cut_more, cut_one, cut_skip, from_at, read-way}, forest.cut.Goals.{then-uses+in_ok-push, else-uses}}
use Rattle.mdp_graph.proofs.forest.cut.Goals as goal

pub index-requires : goal.index-requires
index-requires c =
    let h = from_at _ c.args.preds.now c.loop-pred.pred-index (pair 0 0) c.requires c.loop-pred-test.true in
    omega (arith, h, c.loop-pred.invariant.count)

pub index_mut-requires : goal.index_mut-requires
index_mut-requires c =
    let h = from_at _ c.args.preds.now c.loop-pred.pred-index (pair 0 0) c.requires c.loop-pred-test.true in
    omega (arith, h, c.loop-pred.invariant.count)

pub loop-pred-preserved : goal.loop-pred-preserved
loop-pred-preserved c =
    let pred : Pred = get_or c.args.preds.now c.loop-pred.pred-index (pair 0 0) in
    let h0 = from_at _ c.args.preds.now c.loop-pred.pred-index (pair 0 0) c.requires c.loop-pred-test.true in
    let h : pred.state < length c.loop-pred.ways.items = omega (arith, h0, c.loop-pred.invariant.count) in
    let read = c.uses.ensures ∙ ap (λ (o : Option Way). uses o pred.choice c.args.only) (read-way c.loop-pred.ways.items pred.state c.index.result.now h c.index.ensures) in
    cut_more c.args.ways.now.items c.loop-pred.ways.items c.if-uses.ways.items c.args.list.now.items c.loop-pred.list.items c.if-uses.list.items
    (take c.loop-pred.pred-index c.args.preds.now) (pred ∷ []) _ c.args.only c.loop-pred.invariant
    (elim c.if-uses.branch [
      | then-uses+in_ok-push w ↦
          rw (w.ways-is, w.list-is)
          (cut_one c.loop-pred.ways.items _ c.loop-pred.list.items _ pred.state pred.choice c.args.only h (sym read ∙ w.if-uses.true) refl w.in_ok-push.ensures.items)
      | else-uses w ↦
          rw (w.ways-is, w.list-is)
          (cut_skip c.loop-pred.ways.items c.loop-pred.list.items pred.state pred.choice c.args.only (sym read ∙ w.if-uses.false))
    ])
    (take_more c.args.preds.now c.loop-pred.pred-index (pair 0 0) c.loop-pred-test.true)

pub loop-pred-init : goal.loop-pred-init
loop-pred-init c = cut_none _ _ _

pub returns : goal.returns
returns c = rw (take_all c.loop-pred.pred-index c.args.preds.now c.loop-pred-test.false) at c.loop-pred.invariant
