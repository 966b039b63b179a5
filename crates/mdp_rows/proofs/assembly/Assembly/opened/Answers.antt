use Rattle.std.proofs.Common.{◌+◌, ap, ◌∙◌}
use Rattle.mdp_rows.proofs.Assembled.Stages.{opened_is}
use Rattle.mdp_rows.proofs.assembly.Assembly.opened.Goals as goal

pub returns-in-Between : goal.returns-in-Between
returns-in-Between c = c.states.ensures ∙ opened_is _ _ _ c.self.invariant c.self.view_is c.in-Between.is

pub returns-in-InState : goal.returns-in-InState
returns-in-InState c = ap (λ n. n + 1) c.states-in-InState.ensures ∙ opened_is _ _ _ c.self.invariant c.self.view_is c.in-InState.is

pub returns-in-InRow : goal.returns-in-InRow
returns-in-InRow c = ap (λ n. n + 1) c.states-in-InRow.ensures ∙ opened_is _ _ _ c.self.invariant c.self.view_is c.in-InRow.is
