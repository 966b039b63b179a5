use Rattle.std.proofs.Common.{refl, sym, ap, ◌∙◌, arith, rules}
use Rattle.mdp_rows.specs.Preds.{is_among}
use Rattle.mdp_graph.proofs.Among.{below-all}
use Rattle.mdp_parts.proofs.Grouping.{taking_begins, taking_more, taking_ends}
use Rattle.mdp_parts.proofs.numbering.take_back.Goals as goal

pub next_layer-requires-clause-in_range : goal.next_layer-requires-clause-in_range
next_layer-requires-clause-in_range c =
    below-all _ _ (λ t e. (let l = c.loop-alloc.invariant.listed t (ap (is_among t) (sym c.deref.ensures.value) ∙ e) in let h = l.0 in omega (arith, h, c.loop-alloc.invariant.count)))

pub loop-alloc-preserved : goal.loop-alloc-preserved
loop-alloc-preserved c =
    taking_more c.args.back.now c.args.root c.args.number c.args.numbers.now.items c.requires.root c.requires.free c.loop-alloc.numbers.items _ c.loop-alloc.layer.items c.deref.result.now _
    c.loop-alloc.invariant c.deref.ensures.value c.in_ok-layer.ensures

pub returns : goal.returns
returns c = taking_ends c.args.back.now c.args.root c.args.number c.args.numbers.now.items c.requires.root c.requires.free _ _ c.loop-alloc.invariant (search rules)

pub loop-alloc-init : goal.loop-alloc-init
loop-alloc-init c = taking_begins c.args.back.now c.args.root c.args.number c.args.numbers.now.items c.requires.root c.requires.free _ _ _ _ _ c.new-layer.ensures.items refl refl c.in_ok-give_rank.ensures
