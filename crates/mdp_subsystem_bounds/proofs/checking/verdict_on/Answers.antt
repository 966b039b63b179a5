use Rattle.std.proofs.Common.{ℕ, ◌<◌, length, ap, subst, ◌∙◌}
use Rattle.std.proofs.lemmas.List.{length-replicate}
use Rattle.std.proofs.Math.ListN.{replicate}
use Rattle.mdp_farkas.specs.Compare.{1ℚ}
use Rattle.mdp_subsystem_bounds.proofs.Accepting.{way_sized}
use Rattle.mdp_subsystem_bounds.proofs.checking.verdict_on.Goals as goal

pub holds_subsystem_bounds-requires-clause-goals : goal.holds_subsystem_bounds-requires-clause-goals
holds_subsystem_bounds-requires-clause-goals c =
    way_sized c.args.model.now c.way_in-way.result.now c.in_ok-left.left c.args.goals.now _ _ _ c.way_in-way.ensures c.in_ok-left.ensures c.name_of.ensures c.requires.goals

pub holds_subsystem_bounds-requires-clause-lower : goal.holds_subsystem_bounds-requires-clause-lower
holds_subsystem_bounds-requires-clause-lower c =
    way_sized c.args.model.now c.way_in-way.result.now c.in_ok-left.left c.args.goals.now _ _ _ c.way_in-way.ensures c.in_ok-left.ensures c.name_of.ensures c.requires.states

pub holds_subsystem_bounds-requires-clause-choices : goal.holds_subsystem_bounds-requires-clause-choices
holds_subsystem_bounds-requires-clause-choices c =
    let each = c.args.cert.now.choice_each ∙ c.requires.states in
    way_sized c.args.model.now c.way_in-way.result.now c.in_ok-left.left c.args.goals.now _ _ _ c.way_in-way.ensures c.in_ok-left.ensures c.name_of.ensures each

pub holds_subsystem_bounds-requires-clause-ranks : goal.holds_subsystem_bounds-requires-clause-ranks
holds_subsystem_bounds-requires-clause-ranks c =
    let each = c.args.cert.now.rank_each ∙ c.requires.states in
    way_sized c.args.model.now c.way_in-way.result.now c.in_ok-left.left c.args.goals.now _ _ _ c.way_in-way.ensures c.in_ok-left.ensures c.name_of.ensures each

pub holds_subsystem_bounds-requires-clause-marks : goal.holds_subsystem_bounds-requires-clause-marks
holds_subsystem_bounds-requires-clause-marks c =
    let each = c.args.cert.now.mark_each ∙ c.requires.states in
    way_sized c.args.model.now c.way_in-way.result.now c.in_ok-left.left c.args.goals.now _ _ _ c.way_in-way.ensures c.in_ok-left.ensures c.name_of.ensures each

pub holds_subsystem_bounds-requires-clause-start : goal.holds_subsystem_bounds-requires-clause-start
holds_subsystem_bounds-requires-clause-start c =
    subst (λ (n : ℕ). c.args.cert.now.start < n)
    (way_sized c.args.model.now c.way_in-way.result.now c.in_ok-left.left c.args.goals.now _ _ _ c.way_in-way.ensures c.in_ok-left.ensures c.name_of.ensures c.requires.states) c.args.cert.now.inside

pub holds_subsystem_bounds-requires-clause-ones : goal.holds_subsystem_bounds-requires-clause-ones
holds_subsystem_bounds-requires-clause-ones c =
    c.args.cert.now.ones
    ∙ ap (λ (n : ℕ). replicate n 1ℚ)
    (way_sized c.args.model.now c.way_in-way.result.now c.in_ok-left.left c.args.goals.now _ _ _ c.way_in-way.ensures c.in_ok-left.ensures c.name_of.ensures c.requires.states)

pub holds_subsystem_bounds-requires-clause-upper : goal.holds_subsystem_bounds-requires-clause-upper
holds_subsystem_bounds-requires-clause-upper c =
    ap length c.args.cert.now.ones ∙ length-replicate (length c.args.cert.now.lists.bounds.lower.items) 1ℚ
    ∙ way_sized c.args.model.now c.way_in-way.result.now c.in_ok-left.left c.args.goals.now _ _ _ c.way_in-way.ensures c.in_ok-left.ensures c.name_of.ensures c.requires.states
