use Rattle.mdp_graph.proofs.{Among.{below-all}, NextMet.{layer_in, layer_within, next_layers, is_next}}
use Rattle.mdp_graph.proofs.layers.Layers.next.Goals as goal

pub met_by-requires-clause-layer : goal.met_by-requires-clause-layer
met_by-requires-clause-layer c =
    below-all _ _ (layer_in _ c.known.ensures.mdp _ _ _ c.requires.layers _ _ _ _ _ c.in_ok-give_rank.ensures c.new-layer.ensures.items _ c.deref-2.ensures.value)

pub met_by-requires-clause-within : goal.met_by-requires-clause-within
met_by-requires-clause-within c =
    layer_within _ c.known.ensures.mdp _ _ _ c.requires.layers _ _ _ _ _ c.in_ok-give_rank.ensures c.new-layer.ensures.items _ c.deref-2.ensures.value

pub returns-clause-layers : goal.returns-clause-layers
returns-clause-layers c =
    next_layers _ c.known.ensures.mdp _ _ _ c.requires.layers _ _ _ _ _ c.in_ok-give_rank.ensures c.new-layer.ensures.items _ c.deref-2.ensures.value _ c.in_ok-met.ensures.released

pub returns-clause-next : goal.returns-clause-next
returns-clause-next c =
    is_next _ c.known.ensures.mdp _ _ _ c.requires.layers _ _ _ _ _ c.in_ok-give_rank.ensures c.new-layer.ensures.items _ c.deref-2.ensures.value _ _ _ c.deref.ensures.value c.in_ok-met.ensures
