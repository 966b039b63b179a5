use Rattle.std.proofs.Common.{sym, ◌∙◌, arith}
use borrow.Author.Count.{below_more}
use Rattle.mdp_parts.proofs.{Searching.{order_found, search_begins, search_as}, depth.depth_order.Goals.{then-not-at+in_ok-explore, else-not-at}}
use Rattle.mdp_parts.proofs.depth.depth_order.Goals as goal

pub loop-root-init : goal.loop-root-init
loop-root-init c =
    let made = c.in_ok-search.ensures in
    record {
      search = search_as c.args.edges.now _ _ _ _ _ _ _ _ made.way made.next made.met made.done (search_begins c.args.edges.now c.args.states c.requires.states);
      begun = made.way;
      seen = λ s h. absurd (omega (arith, h));
    }

pub loop-root-preserved : goal.loop-root-preserved
loop-root-preserved c =
    let a = c.loop-root.invariant in
    elim c.if-not-at.branch [
      | then-not-at+in_ok-explore w ↦
          (let e = w.in_ok-explore.ensures in
          rw w.search-is (record { search = e.search; begun = e.ended; seen = below_more _ c.loop-root.root (λ s h. e.kept s (a.seen s h)) e.met }))
      | else-not-at w ↦ rw w.search-is (record { search = a.search; begun = a.begun; seen = below_more _ c.loop-root.root a.seen (sym c.at.ensures ∙ w.if-not-at.false) })
    ]

pub returns : goal.returns
returns c = order_found c.args.edges.now _ _ _ _ c.loop-root.root c.loop-root.invariant.search c.loop-root.invariant.begun c.loop-root.invariant.seen (omega arith)
