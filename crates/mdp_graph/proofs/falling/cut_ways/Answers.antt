use Rattle.std.proofs.{Common.{refl, sym, ◌∙◌, arith, []}, lemmas.Result.{IfOk-weaker}}
use Rattle.mdp_graph.proofs.{Among.{below-all}, Cutting.{from_all}, Pruning.{uncut, first-below, left-way}}
use Rattle.mdp_graph.proofs.falling.cut_ways.Goals as goal

pub cut_choices-requires-clause-from : goal.cut_choices-requires-clause-from
cut_choices-requires-clause-from c = from_all _ _ _ c.requires.from c.requires.below

pub cut_below-requires-clause-below : goal.cut_below-requires-clause-below
cut_below-requires-clause-below c =
    below-all _ _ (λ s e. (let h = first-below c.args.ways.now.items _ s (sym (c.in_ok-first.ensures.listed s) ∙ e) in omega (arith, h, c.requires.count)))

pub cut_below-requires-clause-known : goal.cut_below-requires-clause-known
cut_below-requires-clause-known c = λ s w e. c.requires.known s w (left-way _ _ w (sym (c.in_ok-first.ensures.at s) ∙ e)).1

pub returns : goal.returns
returns c = IfOk-weaker _ _ _ (λ broken e. uncut _ _ _ _ c.in_ok-first.first.items [] _ c.in_ok-first.ensures refl e) c.cut_below.ensures
