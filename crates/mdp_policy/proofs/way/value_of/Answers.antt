use Rattle.std.proofs.Common.{Bool, List, Option, IfOk, sym, subst}
use Rattle.std.specs.{Borrow.{Bor}, Prelude.{option_copied}}
use Rattle.mdp_policy.specs.{Bounds.{Lowers}, Answer.{plain}}
use Rattle.mdp_policy.proofs.way.value_of.Goals as goal

pub returns-in-None-clause-down : goal.returns-in-None-clause-down
returns-in-None-clause-down c =
    subst (λ (stay : Option (Bor (List Bool))). IfOk c.reach_value.result (λ v. Lowers c.args.model.now (option_copied stay) c.args.goals.now (plain v))) (sym c.in-None.is)
    c.reach_value.ensures.down

pub returns-in-Some-clause-down : goal.returns-in-Some-clause-down
returns-in-Some-clause-down c =
    subst (λ (stay : Option (Bor (List Bool))). IfOk c.until_value.result (λ v. Lowers c.args.model.now (option_copied stay) c.args.goals.now (plain v))) (sym c.in-Some.is)
    c.until_value.ensures.down
