use Rattle.mdp_rows.proofs.Flat.Choices.{no_choices}
use Rattle.mdp_rows.proofs.choices.Choices.new.Goals as goal

pub returns : goal.returns
returns c = no_choices _ (c.in_ok-new.ensures {u = tt})
