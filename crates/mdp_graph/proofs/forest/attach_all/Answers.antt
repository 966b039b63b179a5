use Rattle.std.proofs.Common.{[], sym, ap, refl, ◌∙◌, arith}
use Rattle.mdp_rows.specs.Preds.{is_among}
use Rattle.mdp_graph.proofs.{Among.{below-all}, Growing.{spreading, spreading_more, spread, preds-within}, NextMet.{is_zero, in_preds}}
use Rattle.mdp_graph.proofs.forest.attach_all.Goals as goal

pub loop-alloc-init : goal.loop-alloc-init
loop-alloc-init c = spreading _ _ _ _ _ c.requires.forest c.requires.below c.requires.attached

pub attach_layer-requires-clause-within : goal.attach_layer-requires-clause-within
attach_layer-requires-clause-within c =
    let n = in_preds c.args.model.now c.args.preds.now c.requires.preds in
    λ t h. preds-within c.args.model.now c.args.preds.now c.requires.preds c.args.allowed.now c.requires.wide t (omega (arith, h, n))

pub attach_layer-requires-clause-below : goal.attach_layer-requires-clause-below
attach_layer-requires-clause-below c =
    let n = in_preds c.args.model.now c.args.preds.now c.requires.preds in
    below-all _ _ (λ t e. (let h = c.loop-alloc.invariant.at t (ap (is_among t) (sym c.deref.ensures.value) ∙ e) in omega (arith, h.0, n)))

pub loop-alloc-preserved : goal.loop-alloc-preserved
loop-alloc-preserved c =
    spreading_more c.args.model.now c.args.preds.now c.requires.preds c.args.goals.now c.args.allowed.now c.args.ways.now.items c.loop-alloc.ways.items _ c.args.first.items
    c.loop-alloc.layer.items _ [] _ c.loop-alloc.invariant c.deref.ensures.value refl c.in_ok-layer.ensures.grown c.in_ok-layer.ensures.taken

pub returns-clause-closed : goal.returns-clause-closed
returns-clause-closed c =
    λ states closed. spread c.args.model.now c.args.goals.now c.args.allowed.now c.args.ways.now.items _ c.args.first.items c.loop-alloc.layer.items c.loop-alloc.invariant
    (omega (arith, is_zero _ c.loop-alloc-test.ensures)) states closed
