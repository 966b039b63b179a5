use Rattle.mdp_rows.proofs.Flat.Choices.{all_known, reward_names}
use Rattle.mdp_rows.proofs.choices.Choices.known.Goals as goal

pub returns-clause-names : goal.returns-clause-names
returns-clause-names c = reward_names _ _ c.self.invariant c.self.view_is

pub returns-clause-choices : goal.returns-clause-choices
returns-clause-choices c = all_known _ _ c.self.invariant c.self.view_is c.known.ensures
