use Rattle.std.proofs.Common.{ℕ, None, replicate, ap, ◌∙◌}
use Rattle.mdp_graph.proofs.NextMet.{first_layers}
use Rattle.mdp_graph.proofs.layers.Layers.new.Goals as goal

pub returns-clause-layers : goal.returns-clause-layers
returns-clause-layers c =
    first_layers _ c.known.ensures.mdp _ _ _ c.in_ok-preds_of.ensures c.in_ok-all.ensures (c.in_ok-no_ranks.ensures ∙ ap (λ (n : ℕ). replicate n None) c.states.ensures)
