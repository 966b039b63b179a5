use Rattle.std.proofs.Common.{arith}
use Rattle.mdp_graph.proofs.{FlatPieces.{place_after}, FlatWaiting.{choice_there, choice_read}}
use Rattle.mdp_graph.proofs.waiting.Waiting.at.Goals as goal

pub index-requires : goal.index-requires
index-requires c = omega (arith, place_after _ _ _ _ c.self.view_is c.requires.state)

pub overflow_add-index : goal.overflow_add-index
overflow_add-index c = omega (arith, choice_there _ _ _ _ c.args.s c.args.c _ c.self.invariant c.self.view_is c.requires.state c.requires.choice c.index.ensures)

pub index-requires-2 : goal.index-requires-2
index-requires-2 c = omega (arith, choice_there _ _ _ _ c.args.s c.args.c _ c.self.invariant c.self.view_is c.requires.state c.requires.choice c.index.ensures)

pub returns : goal.returns
returns c = choice_read _ _ _ _ c.args.s c.args.c _ c.self.invariant c.self.view_is c.requires.state c.requires.choice c.index.ensures _ c.index-2.ensures
