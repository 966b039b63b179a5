use Rattle.std.proofs.{Common.{◌<◌, ◌∙◌, ◌∷◌, ◌++◌, [], sym, ap, length, get_or, arith}, lemmas.List.{get_or_default}}
use Rattle.mdp_math.proofs.Order.{0ℚ}
use Rattle.mdp_spec.specs.Mdp.{Entry}
use Rattle.mdp_elim.proofs.{Chains.{inner-kept, inner-left}, chain.inner_terms.Goals.{then-at+in_ok-push, else-at}}
use Rattle.mdp_elim.proofs.chain.inner_terms.Goals as goal

pub loop-i-preserved : goal.loop-i-preserved
loop-i-preserved c =
    let l : c.loop-i.i < length c.args.row.probs.now = omega (arith, c.args.row.same_length) in
    let t = get_or_default c.args.row.targets.now c.loop-i.i 0 (get_or c.args.row.targets.now c.loop-i.i 0) (omega arith) in
    elim c.if-at.branch [
      | then-at+in_ok-push w ↦
          rw w.terms-is
          (inner-kept c.args.active.now c.args.row.targets.now c.args.row.probs.now c.loop-i.i (get_or c.args.row.targets.now c.loop-i.i 0)
          (get_or c.args.row.probs.now c.loop-i.i w.index-row-i.result) (omega arith) c.args.row.same_length
          t (get_or_default c.args.row.probs.now c.loop-i.i w.index-row-i.result _ l) c.loop-i.terms.items _ c.loop-i.invariant
          w.push.new.self.items (sym c.at.ensures ∙ w.if-at.true) ((w.in_ok-push.ensures {u = tt}).items ∙ ap (λ (x : Entry). c.loop-i.terms.items ++ x ∷ []) w.new.ensures))
      | else-at w ↦
          rw w.terms-is
          (inner-left c.args.active.now c.args.row.targets.now c.args.row.probs.now c.loop-i.i
          (get_or c.args.row.targets.now c.loop-i.i 0) (get_or c.args.row.probs.now c.loop-i.i 0ℚ) (omega arith) c.args.row.same_length
          t (get_or_default c.args.row.probs.now c.loop-i.i 0ℚ _ l) c.loop-i.terms.items _ c.loop-i.invariant (sym c.at.ensures ∙ w.if-at.false))
    ]
