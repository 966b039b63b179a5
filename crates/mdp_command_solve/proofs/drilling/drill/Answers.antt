use Rattle.std.proofs.Common.{◌≡◌, ◌⊎◌, Err, subst}
use Rattle.mdp_spec.specs.Mdp.{Mdp}
use Rattle.mdp_gen.specs.Layered.{IsShape}
use Rattle.mdp_job.specs.Refusal.{no_memory}
use Rattle.mdp_command.specs.Said.{said}
use Rattle.mdp_command_solve.specs.{DrillDue.{IsDueOf}, Drilled.{IsDrilled}, DrillFound.{IsLineOfFound}}
use Rattle.mdp_command_solve.proofs.Drilled.{drilled, ok-weaker}
use Rattle.mdp_command_solve.proofs.drilling.drill.Goals as goal

pub returns-clause-due : goal.returns-clause-due
returns-clause-due c =
    subst (λ (k : Mdp). (said c.drill_model.result ≡ Err no_memory) ⊎ IsDueOf c.args.number c.args.layers c.args.width k (said c.drill_model.result)) c.in-Ok.ensures c.drill_model.ensures.due

pub returns-clause-shown : goal.returns-clause-shown
returns-clause-shown c =
    let n = c.args.number in
    let l = c.args.layers in
    let w = c.args.width in
    let shape : IsShape l w =
    record { some_layers = c.requires.some_layers; few_layers = c.requires.few_layers; some_width = c.requires.some_width; few_states = c.requires.few_states } in
    let law = c.layered_law.ensures in
    ok-weaker (IsLineOfFound n l w c.in-Ok.model) (IsDrilled n l w) (said c.drill_model.result)
    (λ t f. drilled law.reads law.short law.rows law.states law.choices c.text_law.ensures.back n l w shape c.in-Ok.model t c.in-Ok.ensures f) c.drill_model.ensures.found
