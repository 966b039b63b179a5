use Rattle.mdp_rows.specs.Draft.{all_closed}
use Rattle.mdp_rows.proofs.{Assembled.Refusals.{call_again, call_made}, Calls.Kept.{all_closed-kept}}
use Rattle.mdp_rows.proofs.assembly.Assembly.close_state.Goals as goal

pub returns-in-Some : goal.returns-in-Some
returns-in-Some c = call_again c.self.inside c.args.self.now (all_closed c.args.self.now) c.self.view_is c.in-Some.refusal c.in-Some.is

pub returns : goal.returns
returns c =
    rw c.keep_refusal.ensures.same
    (call_made c.self.inside c.args.self.now (all_closed c.args.self.now) c.self.view_is c.try_close_state-outcome.new.self c.keep_refusal.new.self c.try_close_state-outcome.result
    c.in_default.is c.try_close_state-outcome.ensures.follows c.keep_refusal.ensures.unchanged c.keep_refusal.ensures.refused (λ n e. all_closed-kept c.args.self.now n e))
