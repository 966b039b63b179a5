use Rattle.std.proofs.Common.{◌∙◌, sym, arith, rules}
use Rattle.mdp_reach.specs.Query.{policy_rows}
use Rattle.mdp_policy_iteration.proofs.Solving.{one_column, first_len, written_solution-below}
use Rattle.mdp_policy.proofs.Solving.{policy_rows-len}
use Rattle.mdp_policy.proofs.evaluate.Evaluation.solution.Goals as goal

pub solve_leaving-requires-clause-columns : goal.solve_leaving-requires-clause-columns
solve_leaving-requires-clause-columns c =
    one_column (λ x. x.items) c.from_ref.result.now c.args.constants.now _ c.from_ref.ensures.value
    (c.requires.constants ∙ sym (policy_rows-len c.args.self.model.now c.args.self.policy.now))

pub returns-in-Ok-clause-count : goal.returns-in-Ok-clause-count
returns-in-Ok-clause-count c =
    first_len (λ x. x.items) (policy_rows c.args.self.model.now c.args.self.policy.now) c.args.active.now c.from_ref.result.now c.in-Ok.solutions.items c.args.constants.now c.remove.result
    c.from_ref.ensures.value (c.in-Ok.ensures {u = tt}).solves c.remove.ensures.value
    ∙ policy_rows-len c.args.self.model.now c.args.self.policy.now

pub bounds-self-state : goal.bounds-self-state
bounds-self-state c =
    let l = written_solution-below _ _ _ c.in-Err-TooWide.state ((c.in-Err-TooWide.ensures {u = tt}).wide c.in-Err-TooWide.state (search rules)) in
    let n = policy_rows-len c.args.self.model.now c.args.self.policy.now in
    let m = c.args.self.chosen.one_each in
    omega arith
