use Rattle.std.proofs.Common.{◌≡◌, ℕ, List, length, ap, ap₂, sym, ◌∙◌}
use Rattle.mdp_spec.specs.{Mdp.{states_of}}
use Rattle.mdp_spec.proofs.Subsystem.{sub-states}
use Rattle.mdp_subsystem_rules.specs.Kept.{kept_marks}
use Rattle.mdp_subsystem_rules.proofs.Kept.{length-kept_marks}
use Rattle.mdp_reach.specs.Query.{Answer, HasOneEach}
use Rattle.mdp_reach.specs.Query as reach
use Rattle.mdp_witness.specs.{Code.{plain}, Shown.{kept_in}}
use Rattle.mdp_subsystem_search.proofs.Reached.{reached_by, sizes_on}
use Rattle.mdp_subsystem_search.proofs.query.Query.answer_on.Goals as goal

pub cut-requires-clause-kept : goal.cut-requires-clause-kept
cut-requires-clause-kept c = ap length (c.in_ok-kept.ensures {u = tt}) ∙ length-kept_marks c.states.result c.kept_by.result.now ∙ c.states.ensures

pub held_answer-requires-clause-each : goal.held_answer-requires-clause-each
held_answer-requires-clause-each c = ap length (c.in_ok-kept.ensures {u = tt}) ∙ length-kept_marks c.states.result c.kept_by.result.now ∙ c.states.ensures

pub solve_reach-requires : goal.solve_reach-requires
solve_reach-requires c =
    c.args.self.now.goals_each ∙ sym (ap states_of (c.in_ok-sub.ensures {u = tt}) ∙ sub-states c.args.self.now.model.now c.args.self.now.goals.now c.in_ok-kept.kept)

pub held_answer-requires-clause-sizes : goal.held_answer-requires-clause-sizes
held_answer-requires-clause-sizes c =
    sizes_on c.args.self.now.model.now c.in_ok-sub.sub c.args.self.now.goals.now c.in_ok-kept.kept (reach.plain c.in-Ok.answer) (c.in_ok-sub.ensures {u = tt}) (c.in-Ok.ensures {u = tt}).each

pub held_answer-requires-clause-reaches : goal.held_answer-requires-clause-reaches
held_answer-requires-clause-reaches c =
    let q = c.args.self.now in
    let end = c.in-Ok.ensures {u = tt} in
    let same : c.in_ok-kept.kept ≡ kept_in q.model.now (plain c.args.found.now) =
    (c.in_ok-kept.ensures {u = tt}) ∙ ap₂ (λ (n : ℕ) (list : List ℕ). kept_marks n list) c.states.ensures c.kept_by.ensures in
    reached_by q.dir q.model.now c.in_ok-sub.sub q.goals.now c.in_ok-kept.kept (kept_in q.model.now (plain c.args.found.now)) q.start q.threshold c.in-Ok.answer.values.items
    c.in-Ok.answer.choices.items c.known.ensures.mdp (c.in_ok-sub.ensures {u = tt}) same c.requires.max c.requires.min end.max end.min
