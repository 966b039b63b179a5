use Rattle.std.proofs.Common.{sym, ◌∙◌}
use Rattle.mdp_spec.specs.Labels.{place_of}
use Rattle.mdp_command_bounds_search.proofs.{Near.{until_near}, Printing.{labels_there, way_states, until_bounds}}
use Rattle.mdp_command_bounds_search.proofs.bounding.bounds_of_until.Goals as goal

pub bounds_reach-requires : goal.bounds_reach-requires
bounds_reach-requires c = record {
  goals = c.in_ok-goals.ensures.each ∙ sym (way_states c.args.model.now c.in_ok-stays.stays c.in_ok-goals.goals c.in-Ok.way c.in-Ok.ensures);
}

pub returns-in-Ok-bounds_reach-clause-fits : goal.returns-in-Ok-bounds_reach-clause-fits
returns-in-Ok-bounds_reach-clause-fits c =
    let m = c.args.model.now in
    labels_there m (place_of c.args.stay.now m.labels) (place_of c.args.label.now m.labels) c.in_ok-stays.stays c.in_ok-goals.goals c.in_ok-stays.ensures.marks c.in_ok-goals.ensures.marks

pub returns-in-Ok-bounds_reach-clause-found : goal.returns-in-Ok-bounds_reach-clause-found
returns-in-Ok-bounds_reach-clause-found c =
    let b = c.in-Ok-bounds_reach.bounds in
    let e = c.in-Ok-bounds_reach.ensures in
    until_bounds c.args.dir c.args.stay.now c.args.label.now c.args.model.now c.known.ensures.model.labels c.in_ok-stays.stays c.in_ok-goals.goals c.in_ok-stays.ensures.marks
    c.in_ok-goals.ensures.marks c.in-Ok.way c.in-Ok.ensures b.lower.items b.upper.items b.choices.items b.ranks.items e.rules e.lower e.upper e.choices e.ranks

pub returns-in-Ok-bounds_reach-clause-near : goal.returns-in-Ok-bounds_reach-clause-near
returns-in-Ok-bounds_reach-clause-near c =
    let b = c.in-Ok-bounds_reach.bounds in
    until_near c.args.digits c.args.dir c.args.label.now c.args.model.now c.in_ok-goals.goals c.in_ok-goals.ensures.marks b.lower.items b.upper.items b.choices.items b.ranks.items
    c.args.stay.now c.in_ok-stays.stays c.in_ok-stays.ensures.marks c.in-Ok.way c.in-Ok.ensures c.in-Ok-bounds_reach.ensures.near
