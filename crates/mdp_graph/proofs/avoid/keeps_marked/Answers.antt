use Rattle.std.proofs.Common.{sym, ◌∙◌}
use Rattle.mdp_graph.proofs.Avoiding.{keeps_all}
use Rattle.mdp_graph.proofs.avoid.keeps_marked.Goals as goal

pub returns-then-at : goal.returns-then-at
returns-then-at c =
    c.all_marked.ensures ∙ sym (keeps_all c.args.model.now c.args.marks.now c.args.s c.args.c c.row.result.targets.now c.row.result.probs.now
    c.row.result.same_length c.row.ensures.row (sym c.at.ensures ∙ c.if-at.true))
