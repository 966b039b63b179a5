use Rattle.std.proofs.Common.{sym, ◌∙◌}
use Rattle.mdp_cert.specs.Cert.{plain_claim}
use Rattle.mdp_check.proofs.Accepting.{goals_count}
use Rattle.mdp_check.proofs.bounds.check_bounds.Goals as goal

pub bounds_verdict-requires-clause-goals : goal.bounds_verdict-requires-clause-goals
bounds_verdict-requires-clause-goals c =
    goals_count c.args.model.now (plain_claim c.args.cert.now.claim) c.in-Ok-Some.goals (sym c.in-Ok-Some.ensures ∙ c.in-Ok-Some.field-0-is)
