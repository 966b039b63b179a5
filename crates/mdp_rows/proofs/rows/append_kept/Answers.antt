use Rattle.std.proofs.{Common.{List, ◌++◌, map, arith, sym, ap, ◌∙◌, unsigned_abs}, lemmas.List.{take_all}}
use Rattle.mdp_rows.specs.{Given.{kept_given}, declared.given.Given.{Given}}
use Rattle.mdp_rows.proofs.Flat.Kept.{num_zero, appended_one, appended_skip}
use Rattle.mdp_rows.proofs.rows.append_kept.Goals.{then-num_of-ne0+in_ok-push+in_ok-push-2, else-num_of-ne0}
use Rattle.mdp_rows.proofs.rows.append_kept.Goals as goal

pub loop-given-preserved : goal.loop-given-preserved
loop-given-preserved c = elim c.if-num_of-ne0.branch [
  | then-num_of-ne0+in_ok-push+in_ok-push-2 w ↦
      rw (w.targets-is, w.probs-is)
      (let t = w.in_ok-push.ensures {u = tt} in
      let p = w.in_ok-push-2.ensures {u = tt} in
      appended_one _ c.loop-given.given-index c.given-item.result _ _ c.loop-given.targets w.push.new.self c.loop-given.probs w.push-then-num_of-ne0.new.self (omega arith) c.given-item.is
      c.loop-given.invariant
      (λ z. w.if-num_of-ne0.true (c.num_of.ensures ∙ ap unsigned_abs z))
      (record { items = t.items; len = t.len; capacity = t.capacity })
      (record { items = p.items; len = p.len; capacity = p.capacity }))
  | else-num_of-ne0 w ↦
      rw (w.targets-is, w.probs-is)
      (appended_skip _ c.loop-given.given-index c.given-item.result _ _ c.loop-given.targets c.loop-given.targets c.loop-given.probs c.loop-given.probs (omega arith) c.given-item.is
      c.loop-given.invariant
      (num_zero c.given-item.result.value (sym c.num_of.ensures ∙ w.if-num_of-ne0.false)))
]

pub returns-clause-probs : goal.returns-clause-probs
returns-clause-probs c =
    c.loop-given.invariant.probs ∙ ap (λ (row : List Given). c.args.probs.now.items ++ map (λ g. g.value) (kept_given row)) (take_all c.loop-given.given-index c.args.row.now c.loop-given-test.false)

pub returns-clause-targets : goal.returns-clause-targets
returns-clause-targets c =
    c.loop-given.invariant.targets ∙ ap (λ (row : List Given). c.args.targets.now.items ++ map (λ g. g.target) (kept_given row)) (take_all c.loop-given.given-index c.args.row.now c.loop-given-test.false)
