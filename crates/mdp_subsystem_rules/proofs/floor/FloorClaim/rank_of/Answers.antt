use Rattle.std.proofs.Common.{sym, ◌∙◌}
use Rattle.mdp_subsystem_rules.proofs.Counted.{rank-line, rank-none}
use Rattle.mdp_subsystem_rules.proofs.floor.FloorClaim.rank_of.Goals as goal

pub returns-in-Some : goal.returns-in-Some
returns-in-Some c =
    let x = c.args.self in
    let found = c.in-Some.ensures {u = tt} in
    c.index.ensures
    ∙ rank-line x.model.now x.goals.now x.cert.now.kept.items x.cert.now.ranks.items c.index.result.now c.in-Some.line c.args.s x.shape.kept_ascends x.shape.one_rank_each found.0 found.1
    c.requires (sym c.at.ensures ∙ c.if-at.false)

pub returns-in-None : goal.returns-in-None
returns-in-None c =
    let x = c.args.self in
    rank-none x.model.now x.goals.now x.cert.now.kept.items x.cert.now.ranks.items c.args.s c.requires (sym c.at.ensures ∙ c.if-at.false) (c.in-None.ensures {u = tt})
