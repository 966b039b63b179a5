use Rattle.mdp_horizon.proofs.Gap.{meet}
use Rattle.mdp_horizon.proofs.bounds_laws.gap_law.Goals as goal

pub returns : goal.returns
returns c dir one m o n s above known_ wide h = meet one m o known_ dir n wide s h
