use Rattle.std.proofs.{Common.{[], sym, subst, List, arith}, lemmas.Bool.{false≢true}, lemmas.List.{take_all}}
use Rattle.mdp_rows.specs.declared.preds.Pred.{Pred}
use Rattle.mdp_graph.specs.Waiting.{AreWithin}
use Rattle.mdp_graph.proofs.Taking.{grown_start, taken_none, into_more, taken_more}
use Rattle.mdp_graph.proofs.forest.attach_layer.Goals as goal

pub attach_to-requires-clause-within : goal.attach_to-requires-clause-within
attach_to-requires-clause-within c =
    subst (λ (x : List Pred). AreWithin c.args.allowed.now x) (sym c.of.ensures) (c.requires.within _ (c.requires.below c.loop-t.t-index 0 c.loop-t-test.true))

pub loop-t-preserved : goal.loop-t-preserved
loop-t-preserved c =
    let inv = c.loop-t.invariant in
    let step = c.in_ok-attach_to.ensures in
    record {
      grown = into_more c.args.goals.now c.args.allowed.now c.args.preds.now c.args.layer.now c.loop-t.t-index c.loop-t-test.true c.args.ways.now.items c.loop-t.ways.items _
          c.of.result.now c.of.ensures inv.grown step.grown;
      taken = taken_more c.args.ways.now.items c.loop-t.ways.items _ [] c.loop-t.next.items _ inv.grown.kept step.grown.kept inv.taken step.taken;
    }

pub loop-t-init : goal.loop-t-init
loop-t-init c = record { grown = grown_start _ _ _ _ (λ s z. absurd (false≢true z.1)); taken = rw c.new-next.ensures.items (taken_none _ _) }

pub of-requires : goal.of-requires
of-requires c = c.requires.below c.loop-t.t-index 0 c.loop-t-test.true

pub attach_to-requires-clause-ways : goal.attach_to-requires-clause-ways
attach_to-requires-clause-ways c = omega (arith, c.loop-t.invariant.grown.count, c.requires.ways)

pub returns : goal.returns
returns c = record {
  grown = rw (take_all c.loop-t.t-index c.args.layer.now c.loop-t-test.false) at c.loop-t.invariant.grown;
  taken = c.loop-t.invariant.taken;
}
