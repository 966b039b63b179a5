use Rattle.std.proofs.Common.{true, sym, ◌∙◌}
use Rattle.mdp_parts.proofs.InnerPass.{falls_by}
use Rattle.mdp_parts.proofs.inward.can_fall.Goals as goal

pub returns-then-inside : goal.returns-then-inside
returns-then-inside c =
    c.some_before.ensures
    ∙ falls_by c.args.model.now c.args.ends.now.parts c.args.ranks.now c.args.s c.args.c c.unwrap_or-rank.result c.row.result.targets.now c.row.result.probs.now c.row.result.same_length
    c.row.ensures.row c.unwrap_or-rank.ensures true
    (sym c.if-inside.true ∙ c.inside.ensures ∙ c.requires.ends.inner c.args.s c.args.c c.requires.state c.requires.choice)
