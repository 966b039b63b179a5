use Rattle.std.proofs.Common.{sym}
use Rattle.mdp_spec.specs.Labels.{place_of}
use Rattle.mdp_command_bounds_search.proofs.{Near.{reach_near}, Printing.{marked_at, label_there, reach_bounds}}
use Rattle.mdp_command_bounds_search.proofs.bounding.bounds_of_label.Goals as goal

pub returns-in-Ok-clause-fits : goal.returns-in-Ok-clause-fits
returns-in-Ok-clause-fits c =
    let m = c.args.model.now in
    label_there m (place_of c.args.label.now m.labels) c.in_ok-goals.goals c.in_ok-goals.ensures.marks

pub returns-in-Ok-clause-found : goal.returns-in-Ok-clause-found
returns-in-Ok-clause-found c =
    let m = c.args.model.now in
    let b = c.in-Ok.bounds in
    let e = c.in-Ok.ensures in
    let at = marked_at m (place_of c.args.label.now m.labels) c.in_ok-goals.goals c.in_ok-goals.ensures.marks in
    reach_bounds c.args.dir c.args.label.now m at.0 c.known.ensures.model.labels at.1 c.in_ok-goals.goals b.lower.items b.upper.items b.choices.items b.ranks.items (sym at.2) e.rules
    e.lower e.upper e.choices e.ranks

pub returns-in-Ok-clause-near : goal.returns-in-Ok-clause-near
returns-in-Ok-clause-near c =
    let b = c.in-Ok.bounds in
    reach_near c.args.digits c.args.dir c.args.label.now c.args.model.now c.in_ok-goals.goals c.in_ok-goals.ensures.marks b.lower.items b.upper.items b.choices.items b.ranks.items
    c.in-Ok.ensures.near
