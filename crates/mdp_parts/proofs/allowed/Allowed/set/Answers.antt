use Rattle.std.proofs.Common.{arith}
use Rattle.mdp_graph.proofs.FlatPieces.{place_after}
use Rattle.mdp_parts.proofs.FlatAllowed.{value_there, value_set, same_places}
use Rattle.mdp_parts.proofs.allowed.Allowed.set.Goals as goal

pub index-requires : goal.index-requires
index-requires c = omega (arith, place_after _ _ _ _ c.self.view_is c.requires.state)

pub overflow_add-place : goal.overflow_add-place
overflow_add-place c =
    omega (arith, value_there _ _ _ c.args.s c.args.c _ c.self.invariant c.self.view_is c.requires.state c.requires.choice c.index.ensures)

pub index_mut-requires : goal.index_mut-requires
index_mut-requires c =
    omega (arith, value_there _ _ _ c.args.s c.args.c _ c.self.invariant c.self.view_is c.requires.state c.requires.choice c.index.ensures)

pub invariant_of-self : goal.invariant_of-self
invariant_of-self c = same_places _ _ _ c.args.v c.self.invariant

pub returns : goal.returns
returns c = value_set _ _ _ c.args.s c.args.c _ c.self.invariant c.self.view_is c.requires.state c.requires.choice c.index.ensures c.args.v
