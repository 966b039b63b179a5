use Rattle.std.proofs.lemmas.List.{map_push}
use Rattle.std.proofs.Common.{◌∙◌, ◌+◌, ◌++◌, List, drop, get_or, sym, ap, arith}
use mir.Syntax.{w128}
use mir.Val.{to_z, of_z}
use Rattle.mdp_spec.specs.Row.{entries}
use Rattle.mdp_horizon.specs.{declared.choice.Term.{Term}, declared.choice.ShortTerm.{ShortTerm}, Scaled.{terms_of}, Short.{wide_term, wide_terms}}
use Rattle.mdp_horizon.proofs.{Loops.{terms_step}, Probabilities.{probability_at}}
use Rattle.mdp_horizon.proofs.scaling.short_list.Goals as goal

pub term_of-requires-clause-probability : goal.term_of-requires-clause-probability
term_of-requires-clause-probability c =
    let n = c.args.row.same_length in
    let ps = c.args.row.probs.now in
    probability_at c.args.row.targets.now ps c.loop-i.i (get_or ps c.loop-i.i c.index-row-i.result) c.args.row.distribution n (omega arith) (ap (get_or ps c.loop-i.i) c.index-row-i.is)

pub loop-i-preserved : goal.loop-i-preserved
loop-i-preserved c =
    let ts = c.args.row.targets.now in
    let ps = c.args.row.probs.now in
    let common = to_z w128 (of_z w128 c.args.common) in
    let rest : List Term = terms_of common (entries (drop (c.loop-i.i + 1) ts) (drop (c.loop-i.i + 1) ps)) in
    ap (λ (terms : List ShortTerm). wide_terms terms ++ rest) (c.in_ok-push.ensures {u = tt}).items
    ∙ ap (λ (terms : List Term). terms ++ rest) (map_push wide_term c.loop-i.terms.items c.in-Some.term)
    ∙ sym (terms_step common ts ps c.loop-i.i (get_or ps c.loop-i.i c.index-row-i.result) (wide_terms c.loop-i.terms.items) (wide_term c.in-Some.term)
    c.args.row.same_length (omega arith) (ap (get_or ps c.loop-i.i) c.index-row-i.is)
    (c.in-Some.ensures ∙ c.term_of.ensures))
    ∙ c.loop-i.invariant
