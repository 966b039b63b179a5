use Rattle.std.proofs.Common.{sym, ◌∙◌}
use Rattle.mdp_subsystem_rules.proofs.Counted.{value-goal, value-line, value-none}
use Rattle.mdp_subsystem_rules.proofs.floor.FloorClaim.counted.Goals as goal

pub returns-then-at : goal.returns-then-at
returns-then-at c =
    let x = c.args.self in
    c.whole.ensures ∙ value-goal x.model.now x.goals.now x.cert.now.kept.items x.cert.now.values.items c.args.s c.requires (sym c.at.ensures ∙ c.if-at.true)

pub returns-in-Some : goal.returns-in-Some
returns-in-Some c =
    let x = c.args.self in
    let found = c.in-Some.ensures {u = tt} in
    c.index.ensures
    ∙ value-line x.model.now x.goals.now x.cert.now.kept.items x.cert.now.values.items c.index.result.now c.in-Some.line c.args.s x.shape.kept_ascends x.shape.one_value_each found.0 found.1
    c.requires (sym c.at.ensures ∙ c.if-at.false)

pub returns-in-None : goal.returns-in-None
returns-in-None c =
    let x = c.args.self in
    c.whole-in-None.ensures
    ∙ value-none x.model.now x.goals.now x.cert.now.kept.items x.cert.now.values.items c.args.s c.requires (sym c.at.ensures ∙ c.if-at.false) (c.in-None.ensures {u = tt})
