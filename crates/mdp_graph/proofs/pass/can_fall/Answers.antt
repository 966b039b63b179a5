use Rattle.std.proofs.Common.{sym, ◌∙◌}
use Rattle.mdp_graph.proofs.Falls.{fall_holds, fall_fails}
use Rattle.mdp_graph.proofs.pass.can_fall.Goals as goal

pub returns-then-all_marked : goal.returns-then-all_marked
returns-then-all_marked c =
    c.some_before.ensures ∙ fall_holds c.args.model.now c.args.inside.now c.args.ranks.now c.args.s c.args.c _ c.row.result.targets.now c.row.result.probs.now
    c.row.result.same_length c.row.ensures.row c.unwrap_or-rank.ensures (sym c.all_marked.ensures ∙ c.if-all_marked.true)

pub returns-else-all_marked : goal.returns-else-all_marked
returns-else-all_marked c =
    c.if-all_marked.false ∙ fall_fails c.args.model.now c.args.inside.now c.args.ranks.now c.args.s c.args.c _ c.row.result.targets.now c.row.result.probs.now
    c.row.result.same_length c.row.ensures.row c.unwrap_or-rank.ensures (sym c.all_marked.ensures ∙ c.if-all_marked.false)
