use Rattle.std.proofs.Common.{sym, ◌∙◌}
use Rattle.mdp_rows.specs.Draft.{after_state}
use Rattle.mdp_rows.proofs.{Assembled.Refusals.{refused_is, call_again, call_made}, Calls.Kept.{after_state-kept}}
use Rattle.mdp_rows.proofs.assembly.Assembly.state.Goals as goal

pub returns-in-Some : goal.returns-in-Some
returns-in-Some c = call_again c.self.inside c.args.self.now (after_state c.args.self.now c.args.rewards.now) c.self.view_is c.in-Some.refusal c.in-Some.is

pub returns : goal.returns
returns c =
    rw c.keep_refusal.ensures.same
    (call_made c.self.inside c.args.self.now (after_state c.args.self.now c.args.rewards.now) c.self.view_is c.try_state-outcome.new.self c.keep_refusal.new.self c.try_state-outcome.result
    c.in_default.is c.try_state-outcome.ensures.follows c.keep_refusal.ensures.unchanged c.keep_refusal.ensures.refused (λ n e. after_state-kept c.args.self.now n c.args.rewards.now e))

pub try_state-outcome-requires : goal.try_state-outcome-requires
try_state-outcome-requires c = c.requires (sym (refused_is c.self.inside _ c.self.view_is) ∙ c.in_default.is)
