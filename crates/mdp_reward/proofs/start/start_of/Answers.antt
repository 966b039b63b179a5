use Rattle.std.proofs.Common.{sym, subst}
use Rattle.std.specs.Prelude.{IfOk}
use Rattle.mdp_rows.specs.declared.dir.Dir.{Dir}
use Rattle.mdp_reward.specs.Query.{IsStart}
use Rattle.mdp_reward.proofs.start.start_of.Goals as goal

pub returns-in-Max : goal.returns-in-Max
returns-in-Max c =
    subst (λ (d : Dir). IfOk c.max_start.result (λ start. IsStart d c.args.model.now c.args.goals.now start.finite start.policy.items start.known.items)) (sym c.in-Max.is)
    c.max_start.ensures

pub returns-in-Min : goal.returns-in-Min
returns-in-Min c =
    subst (λ (d : Dir). IfOk c.min_start.result (λ start. IsStart d c.args.model.now c.args.goals.now start.finite start.policy.items start.known.items)) (sym c.in-Min.is)
    c.min_start.ensures
