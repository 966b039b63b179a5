use Rattle.std.proofs.Common.{◌≡◌, ◌⊎◌, Bool, List, Option, Some, Err, sym, ap, subst, ◌∙◌}
use Rattle.std.specs.Prelude.{option_map}
use Rattle.mdp_spec.specs.{Labels.{marks_of}}
use Rattle.mdp_command.specs.Said.{said}
use Rattle.mdp_job.specs.Refusal.{no_memory}
use Rattle.mdp_command_solve.specs.{Ways.{name_of}, WitnessDue.{IsEndDue}}
use Rattle.mdp_command_solve.proofs.witness_search.Asked.from_start.Goals as goal

pub on_way-requires-clause-way : goal.on_way-requires-clause-way
on_way-requires-clause-way c = c.way_in.ensures ∙ c.in-Ok-cut_of.ensures

pub on_way-requires-clause-goals : goal.on_way-requires-clause-goals
on_way-requires-clause-goals c =
    ap (option_map (marks_of c.args.model.now)) c.requires.named ∙ ap (λ (g : List Bool). let found : Option (List Bool) = Some g in found) (sym c.in-Ok.ensures)

pub returns-clause-due : goal.returns-clause-due
returns-clause-due c =
    let asked = c.args.self.now in
    let said = said c.on_way.result in
    subst (λ (g : List Bool). (said ≡ Err no_memory) ⊎ IsEndDue asked.dir (name_of asked.stay) asked.label.now asked.threshold c.args.model.now g c.args.start said) c.in-Ok.ensures c.on_way.ensures.due
