use Rattle.std.proofs.Common.{◌∙◌, ◌+◌, ◌++◌, List, drop, get_or, sym, ap, arith}
use mir.Syntax.{w128}
use mir.Val.{to_z, of_z}
use Rattle.mdp_spec.specs.Row.{entries}
use Rattle.mdp_horizon.specs.{declared.choice.Term.{Term}, Scaled.{terms_of}}
use Rattle.mdp_horizon.proofs.{Loops.{terms_step}, Probabilities.{probability_at}}
use Rattle.mdp_horizon.proofs.scaling.wide_list.Goals as goal

pub term_of-requires-clause-probability : goal.term_of-requires-clause-probability
term_of-requires-clause-probability c =
    let n = c.args.row.same_length in
    let ps = c.args.row.probs.now in
    probability_at c.args.row.targets.now ps c.loop-i.i (get_or ps c.loop-i.i c.index-row-i.result) c.args.row.distribution n (omega arith) (ap (get_or ps c.loop-i.i) c.index-row-i.is)

pub loop-i-preserved : goal.loop-i-preserved
loop-i-preserved c =
    let ts = c.args.row.targets.now in
    let ps = c.args.row.probs.now in
    let common = to_z w128 (of_z w128 c.args.common) in
    ap (λ (terms : List Term). terms ++ terms_of common (entries (drop (c.loop-i.i + 1) ts) (drop (c.loop-i.i + 1) ps))) (c.in_ok-push.ensures {u = tt}).items
    ∙ sym (terms_step common ts ps c.loop-i.i (get_or ps c.loop-i.i c.index-row-i.result) c.loop-i.terms.items c.term_of.result
    c.args.row.same_length (omega arith) (ap (get_or ps c.loop-i.i) c.index-row-i.is)
    c.term_of.ensures)
    ∙ c.loop-i.invariant
