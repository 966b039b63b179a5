use Rattle.std.proofs.{Common.{◌≡◌, ◌<◌, ◌&&◌, false, not, get_or, length, refl, sym, ap, ◌∙◌, arith, List, Option}, lemmas.Bool.{false≢true}}
use Rattle.std.proofs.lemmas.List.{take_all}
use Rattle.mdp_rows.specs.{Preds.{pair}, declared.preds.Pred.{Pred}}
use Rattle.mdp_graph.specs.{declared.forest.Way.{Way}, Waiting.{waits}, Forest.{attached}}
use Rattle.mdp_graph.proofs.{Releasing.{within_at}, Taking.{grown_start, grown_set, taken_none, taken_set, taken_more, to_taken, to_kept}}
use Rattle.mdp_graph.proofs.forest.attach_to.Goals.{then-at+then-not-is_attached+in_ok-push, else-at, else-at-via-then-at+else-not-is_attached, else-at-via-else-at}
use Rattle.mdp_math.proofs.Booleans.{and-false}
use Rattle.mdp_graph.proofs.forest.attach_to.Goals as goal

pub at-requires-clause-state : goal.at-requires-clause-state
at-requires-clause-state c = (within_at c.args.allowed.now c.args.preds.now c.loop-pred.pred-index (pair 0 0) c.requires.within c.loop-pred-test.true).0

pub at-requires-clause-choice : goal.at-requires-clause-choice
at-requires-clause-choice c = (within_at c.args.allowed.now c.args.preds.now c.loop-pred.pred-index (pair 0 0) c.requires.within c.loop-pred-test.true).1

pub loop-pred-init : goal.loop-pred-init
loop-pred-init c = record { grown = grown_start _ _ _ _ (λ s z. absurd (false≢true z.1)); taken = taken_none _ _ }

pub is_attached-requires-clause-goals : goal.is_attached-requires-clause-goals
is_attached-requires-clause-goals c =
    let w = within_at c.args.allowed.now c.args.preds.now c.loop-pred.pred-index (pair 0 0) c.requires.within c.loop-pred-test.true in
    omega (arith, w.0, c.requires.goals)

pub is_attached-requires-clause-ways : goal.is_attached-requires-clause-ways
is_attached-requires-clause-ways c =
    let w = within_at c.args.allowed.now c.args.preds.now c.loop-pred.pred-index (pair 0 0) c.requires.within c.loop-pred-test.true in
    omega (arith, w.0, c.loop-pred.invariant.grown.count, c.requires.ways, ap length c.deref.ensures.value)

pub index_mut-requires : goal.index_mut-requires
index_mut-requires c =
    let w = within_at c.args.allowed.now c.args.preds.now c.loop-pred.pred-index (pair 0 0) c.requires.within c.loop-pred-test.true in
    omega (arith, w.0, c.loop-pred.invariant.grown.count, c.requires.ways)

pub loop-pred-preserved : goal.loop-pred-preserved
loop-pred-preserved c =
    let preds = c.args.preds.now in
    let i = c.loop-pred.pred-index in
    let goals = c.args.goals.now in
    let now = c.loop-pred.ways.items in
    let pred : Pred = get_or preds i (pair 0 0) in
    let within = within_at c.args.allowed.now preds i (pair 0 0) c.requires.within c.loop-pred-test.true in
    let inv = c.loop-pred.invariant in
    let h : pred.state < length now = let w = within.0 in let k = inv.grown.count in let j = c.requires.ways in omega (arith, w, k, j) in
    elim c.if-at.branch [
      | then-at+then-not-is_attached+in_ok-push w ↦
          (let v : Way = record { target = c.args.t; choice = pred.choice } in
          let out : attached goals now pred.state ≡ false = sym (w.is_attached.ensures ∙ ap (λ (x : List (Option Way)). attached goals x pred.state) w.deref.ensures.value) ∙ w.if-not-is_attached.true in
          let one = grown_set goals now _ pred.state v h out refl in
          rw (w.ways-is, w.next-is)
          (record {
            grown = to_taken goals c.args.allowed.now preds i c.args.t c.loop-pred-test.true c.args.ways.now.items now _ inv.grown v refl refl
                (sym c.at.ensures ∙ w.if-at.true) one;
            taken = taken_more c.args.ways.now.items now _ c.args.next.now.items c.loop-pred.next.items _ inv.grown.kept one.kept inv.taken
                (taken_set goals now _ c.loop-pred.next.items _ pred.state v h out refl w.in_ok-push.ensures.items);
          }))
      | else-at w ↦
          rw (w.ways-is, w.next-is)
          (record {
            grown = to_kept goals c.args.allowed.now preds i c.args.t c.loop-pred-test.true c.args.ways.now.items now now inv.grown (elim w.else-at.branch [
              | else-at-via-then-at+else-not-is_attached u ↦
                  (let on = sym (u.is_attached.ensures ∙ ap (λ (x : List (Option Way)). attached goals x pred.state) u.deref.ensures.value) ∙ u.if-not-is_attached.false in
                  ap (λ b. waits c.args.allowed.now pred.state pred.choice && not b) on ∙ and-false (waits c.args.allowed.now pred.state pred.choice))
              | else-at-via-else-at u ↦ ap (λ b. b && not (attached goals now pred.state)) (sym c.at.ensures ∙ u.if-at.false)
            ]);
            taken = inv.taken;
          })
    ]

pub returns : goal.returns
returns c = record {
  grown = rw (take_all c.loop-pred.pred-index c.args.preds.now c.loop-pred-test.false) at c.loop-pred.invariant.grown;
  taken = c.loop-pred.invariant.taken;
}
