use Rattle.mdp_rows.specs.Draft.{choice_closed}
use Rattle.mdp_rows.proofs.{Assembled.Refusals.{call_again, call_made}, Calls.Kept.{choice_closed-kept}}
use Rattle.mdp_rows.proofs.assembly.Assembly.close_choice.Goals as goal

pub returns-in-Some : goal.returns-in-Some
returns-in-Some c = call_again c.self.inside c.args.self.now (choice_closed c.args.self.now) c.self.view_is c.in-Some.refusal c.in-Some.is

pub returns : goal.returns
returns c =
    rw c.keep_refusal.ensures.same
    (call_made c.self.inside c.args.self.now (choice_closed c.args.self.now) c.self.view_is c.end_row-outcome.new.self c.keep_refusal.new.self c.end_row-outcome.result
    c.in_default.is c.end_row-outcome.ensures.follows c.keep_refusal.ensures.unchanged c.keep_refusal.ensures.refused (λ n e. choice_closed-kept c.args.self.now n e))
