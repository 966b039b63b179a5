use Rattle.std.proofs.Common.{length, ◌∙◌, ap}
use Rattle.mdp_spec.specs.Mdp.{states_of}
use Rattle.mdp_witness.proofs.OneMore.{within}
use Rattle.mdp_witness.proofs.least.floor_cert.Goals as goal

pub marks_at-requires : goal.marks_at-requires
marks_at-requires c =
    within (states_of c.args.model.now) c.states.result c.args.left.now.kept c.deref.result.now (length c.args.left.now.wide) c.states.ensures c.requires.wide
    (c.deref.ensures.value ∙ c.in_ok-kept.ensures {u = tt})

pub values_at-requires : goal.values_at-requires
values_at-requires c =
    within (states_of c.args.model.now) c.states.result c.args.left.now.kept c.deref-3.result.now (length c.deref-2.result.now) c.states.ensures
    (ap length c.deref-2.ensures.value ∙ c.requires.values) (c.deref-3.ensures.value ∙ c.in_ok-kept.ensures {u = tt})

pub ranks_at-requires : goal.ranks_at-requires
ranks_at-requires c =
    within (states_of c.args.model.now) c.states.result c.args.left.now.kept c.deref-5.result.now (length c.deref-4.result.now) c.states.ensures
    (ap length c.deref-4.ensures.value ∙ c.requires.ranks) (c.deref-5.ensures.value ∙ c.in_ok-kept.ensures {u = tt})
