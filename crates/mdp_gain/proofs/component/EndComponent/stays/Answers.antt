use Rattle.std.proofs.Common.{◌∙◌, ◌||◌, not, Bool, sym, ap}
use Rattle.mdp_unichain.specs.Component.{choice_at}
use Rattle.mdp_gain.specs.{Code.{component_in}, Only.{leads_to_only}}
use Rattle.mdp_gain.proofs.OnlyAlone.{all-targets}
use Rattle.mdp_gain.proofs.component.EndComponent.stays.Goals as goal

pub returns-then-is_inner : goal.returns-then-is_inner
returns-then-is_inner c =
    let choice = choice_at (component_in c.args.self.now) c.args.s c.args.c in
    c.are_all.ensures ∙ all-targets c.args.s c.row-row.result.targets.now c.row-row.result.probs.now choice.row c.row-row.result.same_length c.row-row.ensures.row
    ∙ sym (ap (λ (b : Bool). not b || leads_to_only c.args.s choice.row) (sym c.is_inner.ensures ∙ c.if-is_inner.true))
