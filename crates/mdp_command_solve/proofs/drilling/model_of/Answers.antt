use Rattle.std.proofs.Common.{ℕ, List, ◌++◌, ap, ◌∙◌}
use Rattle.mdp_gen.specs.Text.{generated_text}
use Rattle.mdp_command_solve.proofs.Drilled.{read-same, never-refused}
use Rattle.mdp_command_solve.proofs.drilling.model_of.Goals as goal

pub returns-in-Ok : goal.returns-in-Ok
returns-in-Ok c =
    let text = generated_text c.args.number c.args.layers c.args.width in
    let same = c.deref.ensures.value ∙ c.in_ok-layered.ensures.appended ∙ ap (λ (xs : List ℕ). xs ++ text) c.new-text.ensures.items in
    let said = c.in-Ok.ensures in
    read-same text _ _ _ _ same (c.layered_law.ensures.reads c.args.number c.args.layers c.args.width c.requires) said.1 said.2

pub unreachable-requires : goal.unreachable-requires
unreachable-requires c =
    let text = generated_text c.args.number c.args.layers c.args.width in
    let same = c.deref.ensures.value ∙ c.in_ok-layered.ensures.appended ∙ ap (λ (xs : List ℕ). xs ++ text) c.new-text.ensures.items in
    never-refused text _ _ _ same (c.layered_law.ensures.reads c.args.number c.args.layers c.args.width c.requires) (rw c.in-Err-At.field-0-is at c.in-Err-At.ensures)
