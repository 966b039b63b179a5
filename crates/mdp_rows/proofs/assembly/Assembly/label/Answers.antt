use Rattle.mdp_rows.specs.Draft.{after_label}
use Rattle.mdp_rows.proofs.{Assembled.Refusals.{call_again, call_made}, Calls.Kept.{after_label-kept}}
use Rattle.mdp_rows.proofs.assembly.Assembly.label.Goals as goal

pub returns-in-Some : goal.returns-in-Some
returns-in-Some c = call_again c.self.inside c.args.self.now (after_label c.args.self.now c.args.name.now) c.self.view_is c.in-Some.refusal c.in-Some.is

pub returns : goal.returns
returns c =
    rw c.keep_refusal.ensures.same
    (call_made c.self.inside c.args.self.now (after_label c.args.self.now c.args.name.now) c.self.view_is c.try_label-outcome.new.self c.keep_refusal.new.self c.try_label-outcome.result
    c.in_default.is c.try_label-outcome.ensures.follows c.keep_refusal.ensures.unchanged c.keep_refusal.ensures.refused (λ n e. after_label-kept c.args.self.now n c.args.name.now e))
