use Rattle.std.proofs.Common.{◌≡◌, ◌++◌, ◌∷◌, [], ap, ◌∙◌, length, length-append, List, sym, arith}
use Rattle.mdp_graph.proofs.Pruning.{pruning, pruning_more, popped_below}
use Rattle.mdp_rows.specs.declared.preds.Pred.{Pred}
use Rattle.mdp_graph.specs.Waiting.{is_one_of}
use Rattle.mdp_graph.proofs.forest.cut_below.Goals as goal

pub of-requires : goal.of-requires
of-requires c =
    let w : c.loop-b.pending.items ≡ c.pop.new.self.items ++ c.in-Some.b ∷ [] = rw c.in-Some.is at c.pop.ensures.items in
    popped_below _ _ _ _ _ _ _ _ c.loop-b.invariant w c.requires.below c.requires.count

pub loop-b-preserved : goal.loop-b-preserved
loop-b-preserved c =
    let w : c.loop-b.pending.items ≡ c.pop.new.self.items ++ c.in-Some.b ∷ [] = rw c.in-Some.is at c.pop.ensures.items in
    pruning_more c.args.preds.now c.args.ways.now.items c.loop-b.ways.items c.cut.new.ways.items c.args.first.items c.loop-b.pending.items c.pop.new.self.items c.cut.new.list.items
    c.loop-b.broken.items c.push.new.self.items c.in-Some.b c.of.result.now c.loop-b.invariant w c.in_ok-push.ensures.items c.in_ok-cut.ensures c.of.ensures c.requires.known

pub loop-b-init : goal.loop-b-init
loop-b-init c = pruning _ _ _ c.new-broken.ensures.items

pub loop-b-smaller : goal.loop-b-smaller
loop-b-smaller c =
    let w : c.loop-b.pending.items ≡ c.pop.new.self.items ++ c.in-Some.b ∷ [] = rw c.in-Some.is at c.pop.ensures.items in
    omega (arith, c.in_ok-cut.ensures.left, ap length w ∙ length-append c.pop.new.self.items (c.in-Some.b ∷ []))

pub cut-requires : goal.cut-requires
cut-requires c = λ s k e.
    let w : c.loop-b.pending.items ≡ c.pop.new.self.items ++ c.in-Some.b ∷ [] = rw c.in-Some.is at c.pop.ensures.items in
    let below = popped_below _ _ _ _ _ _ _ _ c.loop-b.invariant w c.requires.below c.requires.count in
    let from = c.requires.from c.in-Some.b below s k (ap (λ (preds : List Pred). is_one_of preds s k) (sym c.of.ensures) ∙ e) in
    omega (arith, from, c.loop-b.invariant.count)
