use Rattle.std.proofs.{Common.{◌≡◌, ◌∙◌, length, slice_index, sym, arith, rules}, lemmas.List.FromFn.{length-map-range_with_len}}
use Rattle.mdp_spec.specs.Mdp.{states_of, row_at}
use Rattle.mdp_policy_iteration.proofs.Solving.{one_column, first_len, written_solution-below}
use Rattle.mdp_mean.specs.{Code.{joining_in}, Join.{policy_rows}}
use Rattle.mdp_mean.proofs.bias.solution_of.Goals as goal

pub solve_leaving-requires-clause-active : goal.solve_leaving-requires-clause-active
solve_leaving-requires-clause-active c = c.args.join.now.marks ∙ sym (length-map-range_with_len _ 0 _)

pub solve_leaving-requires-clause-columns : goal.solve_leaving-requires-clause-columns
solve_leaving-requires-clause-columns c =
    one_column (λ x. x.items) c.deref.result.now c.args.constants _ (c.deref.ensures.value ∙ (c.in_ok-push.ensures {u = tt}).items ∙ search rules)
    (c.requires.constants ∙ sym (length-map-range_with_len _ 0 _))

pub returns-in-Ok-clause-count : goal.returns-in-Ok-clause-count
returns-in-Ok-clause-count c =
    first_len (λ x. x.items) (policy_rows (joining_in c.args.join.now)) c.args.join.now.active.now c.deref.result.now c.in-Ok.solutions.items c.args.constants c.remove.result
    (c.deref.ensures.value ∙ (c.in_ok-push.ensures {u = tt}).items ∙ search rules) (c.in-Ok.ensures {u = tt}).solves c.remove.ensures.value
    ∙ length-map-range_with_len _ 0 _

pub bounds-join-state : goal.bounds-join-state
bounds-join-state c =
    let j = joining_in c.args.join.now in
    let l = written_solution-below (policy_rows j) _ _ c.in-Err-TooWide.state ((c.in-Err-TooWide.ensures {u = tt}).wide c.in-Err-TooWide.state (search rules)) in
    let n : length (policy_rows j) ≡ states_of j.model = length-map-range_with_len (λ s. row_at j.model s (slice_index j.policy s)) 0 (states_of j.model) in
    let m = c.args.join.now.chosen.one_each in
    omega (arith, l, n, m)
