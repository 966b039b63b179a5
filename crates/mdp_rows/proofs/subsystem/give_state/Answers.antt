use Rattle.std.proofs.{Common.{length, sym, ap, ◌∙◌}, lemmas.List.{length-map}}
use Rattle.mdp_math.proofs.Order.{0ℚ}
use Rattle.mdp_rows.proofs.subsystem.give_state.Goals as goal

pub state-requires : goal.state-requires
state-requires c = record { one_each = λ _. ap length c.requires.zeros ∙ length-map c.args.model.now.names (λ name. 0ℚ) ∙ ap length (sym c.requires.names) }
