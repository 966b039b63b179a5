use Rattle.mdp_rows.proofs.Assembled.Finished.{is_finished, is_flat}
use Rattle.mdp_rows.proofs.assembly.Assembly.into_model.Goals as goal

pub returns : goal.returns
returns c = rw (c.in_ok-labels.ensures {u = tt}) (is_finished c.self.inside _ c.self.view_is c.self.invariant c.requires.counted)

pub invariant_of-result : goal.invariant_of-result
invariant_of-result c =
    rw (c.in_ok-labels.ensures {u = tt}) (is_flat c.self.inside _ c.self.view_is c.self.invariant c.requires.closed c.requires.counted c.requires.whole)
