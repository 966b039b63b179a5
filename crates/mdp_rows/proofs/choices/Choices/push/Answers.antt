use Rattle.std.proofs.Common.{◌∙◌, refl, arith, List, ◌++◌, ap}
use Rattle.mdp_math.specs.Rational.{ℚ}
use Rattle.mdp_rows.proofs.{Flat.Choices.{choices_len, entries_are, same_choices, one_more, are_one_more}, Flat.RowsGrown.{on_err_of}}
use Rattle.mdp_rows.proofs.choices.Choices.push.Goals as goal

pub returns-in_err-reserve-clause-unchanged : goal.returns-in_err-reserve-clause-unchanged
returns-in_err-reserve-clause-unchanged c = on_err_of c.from_residual.result (same_choices c.self.inside _ _ _ refl c.reserve.ensures.items c.self.view_is)

pub push_row-requires-clause-few_rows : goal.push_row-requires-clause-few_rows
push_row-requires-clause-few_rows c = let n = choices_len _ _ c.self.view_is in omega (arith, n, c.requires.few_rows)

pub push_row-requires-clause-few_entries : goal.push_row-requires-clause-few_entries
push_row-requires-clause-few_entries c = let n = entries_are _ _ c.self.view_is in omega (arith, n, c.requires.few_entries)

pub returns-in_err-push_row-clause-unchanged : goal.returns-in_err-push_row-clause-unchanged
returns-in_err-push_row-clause-unchanged c =
    on_err_of c.from_residual-in_err-push_row.result (same_choices c.self.inside _ _ _ (c.in_err-push_row.ensures {u = tt}).unchanged c.reserve.ensures.items c.self.view_is)

pub invariant_of-self-2 : goal.invariant_of-self-2
invariant_of-self-2 c =
    are_one_more c.self.inside _ _ _ _ c.args.rewards.now c.self.invariant c.self.view_is c.requires.one_each (c.in_ok-push_row.ensures {u = tt}).appended
    ((c.in_ok-extend_from_slice.ensures {u = tt}).items ∙ ap (λ (xs : List ℚ). xs ++ c.args.rewards.now) c.reserve.ensures.items)

pub returns-clause-appended : goal.returns-clause-appended
returns-clause-appended c =
    one_more c.self.inside _ _ _ _ c.args.rewards.now c.self.invariant c.self.view_is c.requires.one_each (c.in_ok-push_row.ensures {u = tt}).appended
    ((c.in_ok-extend_from_slice.ensures {u = tt}).items ∙ ap (λ (xs : List ℚ). xs ++ c.args.rewards.now) c.reserve.ensures.items)
