use Rattle.std.proofs.Common.{length, ◌∙◌}
use Rattle.mdp_spec.specs.Mdp.{states_of}
use Rattle.mdp_witness.proofs.OneMore.{within}
use Rattle.mdp_witness.proofs.greatest.flow_cert.Goals as goal

pub marks_at-requires : goal.marks_at-requires
marks_at-requires c =
    within (states_of c.args.model.now) c.states-states.result c.args.left.now.kept c.deref.result.now (length c.args.left.now.wide) c.states-states.ensures c.requires.wide
    (c.deref.ensures.value ∙ c.in_ok-kept.ensures {u = tt})
