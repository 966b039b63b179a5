use Rattle.std.proofs.Common.{length, arith, sym, ap, ◌∙◌}
use Rattle.mdp_spec.specs.{Mdp.{Choice}, Unit.{reward_of}}
use Rattle.mdp_rows.proofs.Flat.Models.{states_are, names_are, choices_after}
use Rattle.mdp_rows.proofs.model.Model.reward.Goals as goal

pub index-requires : goal.index-requires
index-requires c = omega (arith, states_are _ _ c.self.invariant c.self.view_is, c.requires.state)

pub overflow_add-index : goal.overflow_add-index
overflow_add-index c =
    let f = choices_after _ _ c.args.s _ c.self.invariant c.self.view_is c.requires.state c.index.ensures in
    omega (arith, f.next.within, f.count, c.self.invariant.few_rows, c.requires.choice)

pub reward-requires-clause-name : goal.reward-requires-clause-name
reward-requires-clause-name c = let n = ap length (names_are _ _ c.self.view_is) in omega (arith, n, c.requires.name)

pub reward-requires-clause-choice : goal.reward-requires-clause-choice
reward-requires-clause-choice c =
    let f = choices_after _ _ c.args.s _ c.self.invariant c.self.view_is c.requires.state c.index.ensures in
    omega (arith, f.next.within, f.count, c.requires.choice)

pub returns : goal.returns
returns c =
    let f = choices_after _ _ c.args.s _ c.self.invariant c.self.view_is c.requires.state c.index.ensures in
    c.reward.ensures ∙ ap (λ (x : Choice). reward_of x c.args.m) (sym (f.choice c.args.c c.requires.choice))
