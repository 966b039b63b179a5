use Rattle.std.proofs.{Common.{sym, ◌∙◌}, lemmas.List.FromFn.{length-map-range_with_len}}
use Rattle.mdp_rows.proofs.policy_rows.PolicyRowsRowsOf.count.Goals as goal

pub returns : goal.returns
returns c = c.states.ensures ∙ sym (length-map-range_with_len _ 0 _)
