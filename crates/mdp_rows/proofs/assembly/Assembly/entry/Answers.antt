use Rattle.mdp_rows.specs.Draft.{after_entry}
use Rattle.mdp_rows.proofs.{Assembled.Refusals.{call_again, call_made}, Calls.Kept.{after_entry-kept}}
use Rattle.mdp_rows.proofs.assembly.Assembly.entry.Goals as goal

pub returns-in-Some : goal.returns-in-Some
returns-in-Some c = call_again c.self.inside c.args.self.now (after_entry c.args.self.now c.args.target c.args.value) c.self.view_is c.in-Some.refusal c.in-Some.is

pub returns : goal.returns
returns c =
    rw c.keep_refusal.ensures.same
    (call_made c.self.inside c.args.self.now (after_entry c.args.self.now c.args.target c.args.value) c.self.view_is c.add_entry-outcome.new.self c.keep_refusal.new.self c.add_entry-outcome.result
    c.in_default.is c.add_entry-outcome.ensures.follows c.keep_refusal.ensures.unchanged c.keep_refusal.ensures.refused (λ n e. after_entry-kept c.args.self.now n c.args.target c.args.value e))
