use Rattle.std.proofs.Common.{inr, Err, sym, subst}
use Rattle.std.specs.Prelude.{option_copied}
use Rattle.mdp_wide.specs.{declared.too_wide.TooWide.{TooWide}, Term.{shown}}
use Rattle.mdp_job.specs.Refusal.{too_wide}
use Rattle.mdp_command_policy.specs.Due.{IsValueDue}
use Rattle.mdp_command_policy.proofs.Due.{value_due, wide_due}
use Rattle.mdp_command_policy.proofs.valuing.value_at.Goals as goal

pub returns-in-Ok-clause-due : goal.returns-in-Ok-clause-due
returns-in-Ok-clause-due c =
    value_due (option_copied c.args.stay) c.args.label.now c.args.model.now c.args.policy.now c.args.marks.now (option_copied c.as_ref.result) c.as_ref.ensures.value _ _ c.in-Ok.ensures.written
    c.text_of.ensures

pub returns-in-Err-TooWide-clause-due : goal.returns-in-Err-TooWide-clause-due
returns-in-Err-TooWide-clause-due c =
    inr (subst (λ (w : TooWide). IsValueDue (option_copied c.args.stay) c.args.label.now c.args.model.now c.args.policy.now c.args.marks.now (Err (too_wide (shown w w.round))))
    (sym c.in-Err-TooWide.wide-is)
    (wide_due (option_copied c.args.stay) c.args.label.now c.args.model.now c.args.policy.now c.args.marks.now (option_copied c.as_ref.result) c.as_ref.ensures.value c.in-Err-TooWide.field-0
    c.in-Err-TooWide.wide c.in-Err-TooWide.field-0-is c.in-Err-TooWide.ensures.written))
