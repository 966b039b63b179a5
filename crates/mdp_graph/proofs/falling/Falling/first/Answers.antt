use Rattle.std.proofs.Common.{refl, sym, ap, ◌∙◌, arith}
use Rattle.std.specs.List.{range_with_len}
use Rattle.mdp_rows.specs.Preds.{is_among}
use Rattle.mdp_graph.proofs.{Among.{below-all}, RoundByRound.{first_round, no_forest, range-below}}
use Rattle.mdp_graph.proofs.falling.Falling.first.Goals as goal

pub attach-requires-clause-below : goal.attach-requires-clause-below
attach-requires-clause-below c =
    below-all _ _ (λ s e. (let h = range-below s 0 _ (sym (ap (is_among s) (c.deref.ensures.value ∙ c.in_ok-all.ensures)) ∙ e) in omega (arith, h, c.states.ensures)))

pub attach-requires-clause-forest : goal.attach-requires-clause-forest
attach-requires-clause-forest c = no_forest _ _ _ _ _ c.requires.ways refl

pub returns-clause-round : goal.returns-clause-round
returns-clause-round c =
    rw c.attach.ensures.layers
    (first_round _ c.known.ensures.mdp _ _ _ _ _ _ _ c.requires.none c.requires.layers.waiting
    (c.deref.ensures.value ∙ c.in_ok-all.ensures ∙ ap (range_with_len 0) c.states.ensures) c.in_ok-fell.ensures.attaching)
