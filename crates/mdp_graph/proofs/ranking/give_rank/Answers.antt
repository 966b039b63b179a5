use Rattle.std.proofs.Common.{◌≡◌, ◌<◌, ◌∷◌, [], take, get_or, length, not, is_none, None, ℕ, sym, ap, ◌∙◌, arith, refl}
use Rattle.std.proofs.lemmas.List.{take_more, take_all, get_or_default}
use Rattle.mdp_graph.specs.Layers.{rank_at}
use Rattle.mdp_graph.proofs.{GivingRanks.{given_none, given_more, given_one, kept_one}, Meeting.{none_is}}
use Rattle.mdp_graph.proofs.ranking.give_rank.Goals.{then-is_none+in_ok-push, else-is_none}
use Rattle.mdp_graph.proofs.ranking.give_rank.Goals as goal

pub index-requires : goal.index-requires
index-requires c = omega (arith, c.requires.in_range c.loop-s.s-index 0 c.loop-s-test.true, c.loop-s.invariant.count)

pub index_mut-requires : goal.index_mut-requires
index_mut-requires c = omega (arith, c.requires.in_range c.loop-s.s-index 0 c.loop-s-test.true, c.loop-s.invariant.count)

pub loop-s-init : goal.loop-s-init
loop-s-init c = given_none _ _ _

pub loop-s-preserved : goal.loop-s-preserved
loop-s-preserved c =
    let x : ℕ = get_or c.args.states.now c.loop-s.s-index 0 in
    let now = c.loop-s.ranks.items in
    let inv = c.loop-s.invariant in
    let h : x < length now = omega (arith, c.requires.in_range c.loop-s.s-index 0 c.loop-s-test.true, inv.count) in
    let is : c.index.result.now ≡ rank_at now x = c.index.ensures ∙ get_or_default now x c.index.result.now None h in
    given_more _ now _ _ c.loop-s.list.items _ (take c.loop-s.s-index c.args.states.now) (x ∷ []) _ _ inv
    (elim c.if-is_none.branch [
      | then-is_none+in_ok-push w ↦
          rw (w.ranks-is, w.list-is)
          (given_one now _ c.loop-s.list.items _ x c.args.rank h (sym is ∙ none_is c.index.result.now (ap not w.if-is_none.ensures)) refl w.in_ok-push.ensures.items)
      | else-is_none w ↦ rw (w.ranks-is, w.list-is) (kept_one now c.loop-s.list.items x c.args.rank (ap is_none (sym is) ∙ ap not w.if-is_none.ensures))
    ])
    (take_more c.args.states.now c.loop-s.s-index 0 c.loop-s-test.true)

pub returns : goal.returns
returns c = rw (take_all c.loop-s.s-index c.args.states.now c.loop-s-test.false) at c.loop-s.invariant
