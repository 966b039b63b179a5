use Rattle.std.proofs.{Common.{ap, ◌∙◌, length, ◌==◌, ℕ}, lemmas.List.{length-map}}
use Rattle.mdp_graph.proofs.{LeftRanks.{inside_ranked, settled_left}, SureSome.{sure_marks, sure_ranks, sure_choices}}
use Rattle.mdp_graph.proofs.falling.sure_pass.Goals as goal

pub returns-clause-marks : goal.returns-clause-marks
returns-clause-marks c =
    rw (c.in_ok-with_least_choices.ensures.marks, c.deref.ensures.value)
    (sure_marks _ _ _ (settled_left _ _ _ _ _ c.known.ensures.mdp c.requires.rounds c.in_ok-inside.ensures c.in_ok-ranks.ensures))

pub returns-clause-ranks : goal.returns-clause-ranks
returns-clause-ranks c =
    rw (c.in_ok-with_least_choices.ensures.marks, c.in_ok-with_least_choices.ensures.ranks, c.deref.ensures.value)
    (sure_ranks _ _ _ (settled_left _ _ _ _ _ c.known.ensures.mdp c.requires.rounds c.in_ok-inside.ensures c.in_ok-ranks.ensures))

pub returns-clause-choices : goal.returns-clause-choices
returns-clause-choices c =
    let ok = c.known.ensures.mdp in
    rw (c.in_ok-with_least_choices.ensures.marks, c.in_ok-with_least_choices.ensures.ranks, c.deref.ensures.value)
    (sure_choices _ _ _ (settled_left _ _ _ _ _ ok c.requires.rounds c.in_ok-inside.ensures c.in_ok-ranks.ensures) ok _ _ _
    (inside_ranked _ _ _ _ _ ok c.requires.rounds c.in_ok-inside.ensures c.in_ok-ranks.ensures) c.deref.ensures.value c.in_ok-with_least_choices.ensures.choices)

pub ranks_inside-requires-clause-inside : goal.ranks_inside-requires-clause-inside
ranks_inside-requires-clause-inside c = ap length c.in_ok-inside.ensures ∙ length-map c.args.rounds.now (λ (r : ℕ). r == 0) ∙ c.requires.rounds.count

pub with_least_choices-requires-clause-inside : goal.with_least_choices-requires-clause-inside
with_least_choices-requires-clause-inside c = ap length c.in_ok-inside.ensures ∙ length-map c.args.rounds.now (λ (r : ℕ). r == 0) ∙ c.requires.rounds.count

pub with_least_choices-requires-clause-ranks : goal.with_least_choices-requires-clause-ranks
with_least_choices-requires-clause-ranks c = ap length c.deref.ensures.value ∙ c.in_ok-ranks.ensures.count
