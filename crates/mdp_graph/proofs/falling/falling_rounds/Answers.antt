use Rattle.std.proofs.Common.{sym, subst, arith, List, ℕ}
use Rattle.mdp_graph.specs.Falling.{IsRound}
use Rattle.mdp_graph.proofs.{NextMet.{is_zero}, RoundByRound.{last_round}}
use Rattle.mdp_graph.proofs.falling.falling_rounds.Goals as goal

pub next-requires-clause-before : goal.next-requires-clause-before
next-requires-clause-before c =
    subst (λ (x : List ℕ). IsRound c.args.model.now c.args.goals.now c.loop-alloc.falling.layers.ranks.items c.loop-alloc.round c.loop-alloc.falling.layers.waiting c.loop-alloc.falling.ways.items x)
    (sym c.deref.ensures.value) c.loop-alloc.invariant.1

pub returns : goal.returns
returns c =
    last_round _ c.known.ensures.mdp _ _ _ _ _ _ c.loop-alloc.invariant.1 (omega (arith, is_zero _ c.loop-alloc-test.ensures))
