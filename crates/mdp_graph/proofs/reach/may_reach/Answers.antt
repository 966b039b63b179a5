use Rattle.std.proofs.{Common.{ap, ◌∙◌, ℕ, true, replicate, length}, lemmas.List.{length-replicate}}
use Rattle.mdp_graph.proofs.MayReach.{may_seen, may_choices}
use Rattle.mdp_graph.proofs.reach.may_reach.Goals as goal

pub returns-clause-marks : goal.returns-clause-marks
returns-clause-marks c =
    c.in_ok-with_least_choices.ensures.reached _ _ _
    (may_seen _ c.known.ensures.mdp _ _ _ (c.in_ok-all.ensures ∙ ap (λ (n : ℕ). replicate n true) c.states.ensures) _ c.in_ok-ranks.ensures _ c.deref.ensures.value)

pub returns-clause-ranks : goal.returns-clause-ranks
returns-clause-ranks c =
    c.in_ok-with_least_choices.ensures.least _ _ _
    (may_seen _ c.known.ensures.mdp _ _ _ (c.in_ok-all.ensures ∙ ap (λ (n : ℕ). replicate n true) c.states.ensures) _ c.in_ok-ranks.ensures _ c.deref.ensures.value)

pub returns-clause-choices : goal.returns-clause-choices
returns-clause-choices c =
    rw (c.in_ok-with_least_choices.ensures.marks, c.in_ok-with_least_choices.ensures.ranks, c.deref.ensures.value)
    (may_choices _ c.known.ensures.mdp _ _ _ (c.in_ok-all.ensures ∙ ap (λ (n : ℕ). replicate n true) c.states.ensures) _ c.in_ok-ranks.ensures _ _ c.deref.ensures.value c.in_ok-with_least_choices.ensures.choices)

pub ranks_along-requires-clause-inside : goal.ranks_along-requires-clause-inside
ranks_along-requires-clause-inside c = ap length c.in_ok-all.ensures ∙ length-replicate c.states.result true ∙ c.states.ensures

pub with_least_choices-requires-clause-inside : goal.with_least_choices-requires-clause-inside
with_least_choices-requires-clause-inside c = ap length c.in_ok-all.ensures ∙ length-replicate c.states.result true ∙ c.states.ensures

pub with_least_choices-requires-clause-ranks : goal.with_least_choices-requires-clause-ranks
with_least_choices-requires-clause-ranks c = ap length c.deref.ensures.value ∙ c.in_ok-ranks.ensures.by_edges.count
