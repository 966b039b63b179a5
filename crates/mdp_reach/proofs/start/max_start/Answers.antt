use Rattle.std.proofs.{Common.{false, length, ap, ◌∙◌}, lemmas.List.{length-replicate}}
use Rattle.mdp_reach.proofs.start.max_start.Goals as goal

pub may_reach-requires-clause-target : goal.may_reach-requires-clause-target
may_reach-requires-clause-target c = c.requires

pub may_reach-requires-clause-blocked : goal.may_reach-requires-clause-blocked
may_reach-requires-clause-blocked c = ap length (c.in_ok-none.ensures {u = tt}) ∙ length-replicate c.states.result false ∙ c.states.ensures
