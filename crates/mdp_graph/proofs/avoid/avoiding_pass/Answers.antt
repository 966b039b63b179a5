use Rattle.std.proofs.{Common.{◌≡◌, map, is_none, ◌∙◌, length, ap}, lemmas.List.{length-map}}
use Rattle.mdp_graph.proofs.Avoiding.{avoid_marks, avoid_choices}
use Rattle.mdp_graph.proofs.avoid.avoiding_pass.Goals as goal

pub returns-clause-marks : goal.returns-clause-marks
returns-clause-marks c =
    let e : c.marks.inside.items.items ≡ map is_none c.args.met.now = c.marks.view_is ∙ c.in_ok-marks.ensures in
    rw e (avoid_marks c.args.model.now c.known.ensures.mdp c.args.goals.now c.args.met.now c.requires.met)

pub returns-clause-choices : goal.returns-clause-choices
returns-clause-choices c =
    let e : c.marks.inside.items.items ≡ map is_none c.args.met.now = c.marks.view_is ∙ c.in_ok-marks.ensures in
    rw e
    (avoid_choices c.args.model.now c.known.ensures.mdp c.args.goals.now c.args.met.now c.requires.met c.in_ok-marks.marks
    c.in_ok-marks.ensures c.in_ok-choices.choices.items c.in_ok-choices.ensures)

pub keeping_choices-requires : goal.keeping_choices-requires
keeping_choices-requires c = record { marks = ap length (c.in_ok-marks.ensures {u = tt}) ∙ length-map c.args.met.now is_none ∙ c.requires.met.count }
