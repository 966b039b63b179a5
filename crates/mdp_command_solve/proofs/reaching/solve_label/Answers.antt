use Rattle.std.proofs.Common.{◌≡◌, ◌⊎◌, ℕ, Bool, List, Option, Some, Err, sym, ap, subst, ◌∙◌}
use Rattle.std.specs.Prelude.{option_map}
use Rattle.mdp_spec.specs.{Labels.{marks_of}}
use Rattle.mdp_command.specs.Said.{said}
use Rattle.mdp_job.specs.Refusal.{no_memory}
use Rattle.mdp_command_solve.specs.{Ways.{name_of}, Due.{IsReachEnd, IsReachDue}}
use Rattle.mdp_command_solve.proofs.reaching.solve_label.Goals as goal

pub solve_on_way-requires-clause-way : goal.solve_on_way-requires-clause-way
solve_on_way-requires-clause-way c = c.way_in.ensures ∙ c.in-Ok-cut_of.ensures

pub solve_on_way-requires-clause-goals : goal.solve_on_way-requires-clause-goals
solve_on_way-requires-clause-goals c =
    ap (option_map (marks_of c.args.model.now)) (sym c.in-Some.ensures) ∙ ap (λ (g : List Bool). let found : Option (List Bool) = Some g in found) (sym c.in-Ok.ensures)

pub returns-clause-due : goal.returns-clause-due
returns-clause-due c =
    let dir = c.args.dir in
    let stay = name_of c.args.stay in
    let label = c.args.label.now in
    let m = c.args.model.now in
    let said = said c.solve_on_way.result in
    subst (λ (p : Option ℕ). (said ≡ Err no_memory) ⊎ IsReachDue dir stay label m p said) c.in-Some.ensures
    (subst (λ (g : List Bool). (said ≡ Err no_memory) ⊎ IsReachEnd dir stay label m g said) c.in-Ok.ensures c.solve_on_way.ensures.due)
