use Rattle.std.proofs.Common.{sym, ap, subst, ◌∙◌, arith, List, ℕ}
use Rattle.mdp_rows.specs.Preds.{is_among}
use Rattle.mdp_graph.specs.Forest.{IsAttaching}
use Rattle.mdp_graph.proofs.{Among.{below-all}, Growing.{forest_uncut}, NextMet.{in_preds}, Pruning.{some-in}}
use Rattle.mdp_graph.proofs.RoundByRound.{next_round, uncut_noted, fewer, preds-from, known_ways}
use Rattle.mdp_graph.proofs.falling.Falling.next.Goals as goal

pub next-requires-clause-below : goal.next-requires-clause-below
next-requires-clause-below c = below-all _ _ c.requires.before.below

pub cut_ways-requires-clause-count : goal.cut_ways-requires-clause-count
cut_ways-requires-clause-count c =
    let all = in_preds c.args.model.now _ c.in_ok-next.ensures.layers.preds_are in
    let k = c.requires.before.forest.count in
    omega (arith, all, k)

pub cut_ways-requires-clause-from : goal.cut_ways-requires-clause-from
cut_ways-requires-clause-from c = preds-from c.args.model.now _ c.in_ok-next.ensures.layers.preds_are _ c.requires.before.forest.count

pub cut_ways-requires-clause-below : goal.cut_ways-requires-clause-below
cut_ways-requires-clause-below c =
    let all = in_preds c.args.model.now _ c.in_ok-next.ensures.layers.preds_are in
    below-all _ _ (λ s e. (let h = c.requires.before.below s e in omega (arith, h, all)))

pub cut_ways-requires-clause-known : goal.cut_ways-requires-clause-known
cut_ways-requires-clause-known c = known_ways c.args.model.now _ c.in_ok-next.ensures.layers.preds_are _ _ _ c.requires.before.forest

pub attach-requires-clause-below : goal.attach-requires-clause-below
attach-requires-clause-below c =
    let k = c.requires.before.forest.count in
    below-all _ _ (λ s e. (let h = some-in c.args.self.now.ways.items s (c.in_ok-broken.ensures.below s (sym (ap (is_among s) c.deref.ensures.value) ∙ e)) in omega (arith, h, k)))

pub attach-requires-clause-forest : goal.attach-requires-clause-forest
attach-requires-clause-forest c =
    let r = c.requires.before in
    let next = c.in_ok-next.ensures.next in
    forest_uncut _ _ _ _ _ _ _ _ r.forest
    (uncut_noted _ c.known.ensures.mdp _ _ _ _ _ _ r _ _ next.given _ _ _ c.in_ok-broken.ensures) next.released

pub returns-clause-after : goal.returns-clause-after
returns-clause-after c =
    let a = subst (λ (x : List ℕ). IsAttaching c.args.model.now c.args.goals.now c.next.new.self.waiting c.cut_ways.new.ways.items c.attach.new.self.ways.items x c.in_ok-later.later.items)
    c.deref.ensures.value c.in_ok-later.ensures.attaching in
    rw c.attach.ensures.layers
    (next_round _ c.known.ensures.mdp _ _ _ _ _ _ c.requires.before _ _ c.in_ok-next.ensures.next.given c.requires.some _ _ _ _ _ _
    c.in_ok-next.ensures.layers.waiting c.in_ok-broken.ensures a)

pub returns-clause-fewer : goal.returns-clause-fewer
returns-clause-fewer c =
    rw c.attach.ensures.layers (fewer _ c.known.ensures.mdp _ _ _ _ _ _ c.requires.before _ _ c.in_ok-next.ensures.next.given c.requires.some)

pub attach-requires-clause-goals : goal.attach-requires-clause-goals
attach-requires-clause-goals c = c.requires.goals
