use Rattle.mdp_rows.proofs.Assembled.Stages.{row_is}
use Rattle.mdp_rows.proofs.assembly.Assembly.is_choice_open.Goals as goal

pub returns-in-Between : goal.returns-in-Between
returns-in-Between c = row_is _ _ _ c.self.view_is c.in-Between.is

pub returns-in-InState : goal.returns-in-InState
returns-in-InState c = row_is _ _ _ c.self.view_is c.in-InState.is

pub returns-in-InRow : goal.returns-in-InRow
returns-in-InRow c = row_is _ _ _ c.self.view_is c.in-InRow.is
