use Rattle.std.proofs.{Common.{length, sym, ap, subst, ◌∙◌}, lemmas.List.{length-map}}
use Rattle.mdp_math.proofs.Order.{0ℚ}
use Rattle.mdp_num.specs.Meaning.{IsWithinLimit}
use Rattle.mdp_rows.proofs.CutModels.{one_within}
use Rattle.mdp_proposals.proofs.ends.give_loop.Goals as goal

pub entry-requires-clause-term : goal.entry-requires-clause-term
entry-requires-clause-term c = subst IsWithinLimit (sym c.whole.ensures) one_within

pub choice-requires-clause-one_each : goal.choice-requires-clause-one_each
choice-requires-clause-one_each c = λ _. ap length c.requires.zeros ∙ length-map c.args.builder.now.names (λ name. 0ℚ)
