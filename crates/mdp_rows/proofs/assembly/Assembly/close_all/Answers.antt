use Rattle.std.proofs.Common.{inr, sym, ◌∙◌}
use Rattle.mdp_rows.specs.Draft.{finished}
use Rattle.mdp_rows.proofs.Assembled.Finished.{all_go, closed_first, again_first, refused_first, none_again, too_few}
use Rattle.mdp_rows.proofs.assembly.Assembly.close_all.Goals as goal

pub returns-in-Err-clause-again : goal.returns-in-Err-clause-again
returns-in-Err-clause-again c = again_first c.args.self.now c.close_state.new.self c.close_state.result c.close_state.ensures _ c.in-Err.refusal c.in-Err.is

pub returns-in-Err-clause-refusal : goal.returns-in-Err-clause-refusal
returns-in-Err-clause-refusal c = refused_first c.args.self.now c.close_state.new.self c.close_state.result c.close_state.ensures finished c.in-Err.refusal c.in-Err.is

pub returns-then-is_whole-clause-unrefused : goal.returns-then-is_whole-clause-unrefused
returns-then-is_whole-clause-unrefused c = (closed_first c.args.self.now c.close_state.new.self c.close_state.result c.close_state.ensures _ c.in-Ok.is).0

pub returns-then-is_whole-clause-closed : goal.returns-then-is_whole-clause-closed
returns-then-is_whole-clause-closed c = (closed_first c.args.self.now c.close_state.new.self c.close_state.result c.close_state.ensures _ c.in-Ok.is).1

pub returns-then-is_whole-clause-counted : goal.returns-then-is_whole-clause-counted
returns-then-is_whole-clause-counted c = sym c.is_whole.ensures ∙ c.if-is_whole.true

pub returns-then-is_whole-clause-again : goal.returns-then-is_whole-clause-again
returns-then-is_whole-clause-again c = none_again c.args.self.now _ (closed_first c.args.self.now c.close_state.new.self c.close_state.result c.close_state.ensures _ c.in-Ok.is).0

pub returns-else-is_whole-clause-again : goal.returns-else-is_whole-clause-again
returns-else-is_whole-clause-again c = none_again c.args.self.now _ (closed_first c.args.self.now c.close_state.new.self c.close_state.result c.close_state.ensures _ c.in-Ok.is).0

pub returns-else-is_whole-clause-refusal : goal.returns-else-is_whole-clause-refusal
returns-else-is_whole-clause-refusal c = λ _.
    inr (all_go c.args.self.now finished c.close_state.new.self
    (closed_first c.args.self.now c.close_state.new.self c.close_state.result c.close_state.ensures _ c.in-Ok.is).1
    ∙ too_few c.close_state.new.self (sym c.is_whole.ensures ∙ c.if-is_whole.false))
