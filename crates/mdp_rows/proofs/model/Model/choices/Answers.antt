use Rattle.std.proofs.Common.{arith}
use Rattle.mdp_rows.proofs.Flat.Models.{states_are, choices_stand}
use Rattle.mdp_rows.proofs.model.Model.choices.Goals as goal

pub index-requires : goal.index-requires
index-requires c = omega (arith, states_are _ _ c.self.invariant c.self.view_is)

pub index-requires-2 : goal.index-requires-2
index-requires-2 c = omega (arith, states_are _ _ c.self.invariant c.self.view_is)

pub overflow_sub-result : goal.overflow_sub-result
overflow_sub-result c = let f = choices_stand _ _ c.args.s _ _ c.self.invariant c.self.view_is c.requires c.index-2.ensures c.index.ensures in omega (arith, f.next.ordered)

pub returns : goal.returns
returns c = let f = choices_stand _ _ c.args.s _ _ c.self.invariant c.self.view_is c.requires c.index-2.ensures c.index.ensures in f.count
