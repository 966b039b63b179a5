use Rattle.std.proofs.Common.{sym, ap, ◌∙◌, arith}
use Rattle.mdp_spec.specs.Mdp.{states_of}
use Rattle.mdp_rows.specs.Preds.{is_among}
use Rattle.mdp_graph.specs.{Sets.{marked}, Meet.{must_step}}
use Rattle.mdp_graph.proofs.{Among.{below-all}, Meeting.{meeting, meeting_seen, fewer_seen, met_all, must_respects}}
use Rattle.mdp_graph.proofs.NextMet.{none_met_yet, met_next, unmet, is_zero, above_zero}
use Rattle.mdp_graph.proofs.meet.meeting_ranks.Goals as goal

pub next-requires-clause-below : goal.next-requires-clause-below
next-requires-clause-below c =
    below-all _ _ (λ s e. (let h = c.in_ok-met.ensures.below s (ap (is_among s) (sym c.deref.ensures.value) ∙ e) in omega (arith, h, c.states.ensures)))

pub loop-alloc-init : goal.loop-alloc-init
loop-alloc-init c =
    let m = c.args.model.now in
    let next = c.in_ok-met-2.ensures.next in (
      meeting (must_step m) (marked c.args.target.now) (states_of m) _ _ _ _ _ c.in_ok-layers.ensures.none next.given
          (λ s h. ap (is_among s) c.deref.ensures.value ∙ c.in_ok-met.ensures.marked s (omega (arith, h, c.states.ensures)))
          (met_next _ _ _ _ _ _ _ _ _ next (λ s h e. none_met_yet m c.known.ensures.mdp _ c.in_ok-layers.ensures.none s h)) next.below,
      c.in_ok-met-2.ensures.layers,
    )

pub next-requires-in-loop-alloc-clause-below : goal.next-requires-in-loop-alloc-clause-below
next-requires-in-loop-alloc-clause-below c =
    let l = c.loop-alloc.invariant.0 in
    below-all _ _ (λ s e. l.below s (ap (is_among s) (sym c.deref-in-loop-alloc.ensures.value) ∙ e))

pub loop-alloc-smaller : goal.loop-alloc-smaller
loop-alloc-smaller c =
    let m = c.args.model.now in
    let next = c.in_ok-met-3.ensures.next in
    fewer_seen (must_step m) (marked c.args.target.now) (states_of m) (must_respects m c.known.ensures.mdp) _ _ _ c.loop-alloc.invariant.0 _ _ _ next.given
    c.deref-in-loop-alloc.ensures.value (omega (arith, above_zero _ c.loop-alloc-test.ensures))

pub loop-alloc-preserved : goal.loop-alloc-preserved
loop-alloc-preserved c =
    let m = c.args.model.now in
    let l = c.loop-alloc.invariant.0 in
    let next = c.in_ok-met-3.ensures.next in
    let same = c.deref-in-loop-alloc.ensures.value in (
      meeting_seen (must_step m) (marked c.args.target.now) (states_of m) (must_respects m c.known.ensures.mdp) _ _ _ l _ _ _ next.given same
          (omega (arith, above_zero _ c.loop-alloc-test.ensures)) _
          (met_next _ _ _ _ _ _ _ _ _ next (unmet (must_step m) (marked c.args.target.now) (states_of m) _ _ _ _ _ _ _ l next.given same)) next.below,
      c.in_ok-met-3.ensures.layers,
    )

pub returns : goal.returns
returns c =
    let m = c.args.model.now in
    met_all (must_step m) (marked c.args.target.now) (states_of m) (must_respects m c.known.ensures.mdp) _ _ _ c.loop-alloc.invariant.0
    (omega (arith, is_zero _ c.loop-alloc-test.ensures))
