use Rattle.std.proofs.Common.{◌∙◌, ℕ, Option, ap, rules}
use Rattle.std.specs.Option.{unwrap_or}
use Rattle.mdp_unichain.proofs.Improving.{state-below}
use Rattle.mdp_gain.specs.{Code.{component_in}, Only.{IsOnly}, Query.{plain}}
use Rattle.mdp_gain.proofs.OnlyPath.{start-inner, answer-ends, error-solves}
use Rattle.mdp_gain.proofs.only_state.Only.solve.Goals as goal

pub least_choice-requires : goal.least_choice-requires
least_choice-requires c = state-below (component_in c.args.self.now.component) c.args.self.now.s (IsOnly.state c.args.self.now.only)

pub settle-requires-clause-start : goal.settle-requires-clause-start
settle-requires-clause-start c = start-inner c.args.self.now c.requires.given c.unwrap_or-start.result (c.unwrap_or-start.ensures ∙ ap (λ (o : Option ℕ). unwrap_or o 0) c.least_choice.ensures)

pub returns-in_ok-inner_of-in-Ok : goal.returns-in_ok-inner_of-in-Ok
returns-in_ok-inner_of-in-Ok c =
    answer-ends c.args.self.now c.requires.given c.unwrap_or-start.result (c.unwrap_or-start.ensures ∙ ap (λ (o : Option ℕ). unwrap_or o 0) c.least_choice.ensures) c.settle.result c.settle.ensures
    c.in-Ok.found (search rules) (plain c.in_ok-inner_of-in-Ok.field-0) (c.in_ok-inner_of-in-Ok.ensures {u = tt})

pub returns-in-Err : goal.returns-in-Err
returns-in-Err c =
    error-solves c.args.self.now c.requires.given c.unwrap_or-start.result (c.unwrap_or-start.ensures ∙ ap (λ (o : Option ℕ). unwrap_or o 0) c.least_choice.ensures) c.settle.result c.settle.ensures
    c.in-Err.error (search rules) _ c.in_part.ensures
