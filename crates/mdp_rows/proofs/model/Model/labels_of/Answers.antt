use Rattle.std.proofs.Common.{arith, ◌∙◌}
use Rattle.mdp_rows.proofs.Flat.Models.{states_are, labels_are}
use Rattle.mdp_rows.proofs.model.Model.labels_of.Goals as goal

pub labels_of-requires : goal.labels_of-requires
labels_of-requires c = omega (arith, states_are _ _ c.self.invariant c.self.view_is, c.self.invariant.labels)

pub returns : goal.returns
returns c = c.labels_of.ensures ∙ labels_are _ _ c.args.s c.self.invariant c.self.view_is
