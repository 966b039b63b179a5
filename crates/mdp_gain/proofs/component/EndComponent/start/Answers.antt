use Rattle.std.proofs.Common.{◌∙◌, ℕ, Option, map, ◌==◌, refl, ap, arith}
use Rattle.std.specs.{List.{range_with_len}, Option.{unwrap_or}}
use Rattle.mdp_unichain.proofs.Picking.{IsFirst}
use Rattle.mdp_gain.proofs.Starting.{first_state, target-len, some_target, choices-len, first_start}
use Rattle.mdp_gain.proofs.component.EndComponent.start.Goals as goal

pub toward-requires-clause-target : goal.toward-requires-clause-target
toward-requires-clause-target c =
    target-len c.args.self.now c.requires.given c.unwrap_or-least.result (c.unwrap_or-least.ensures ∙ ap (λ (o : Option ℕ). unwrap_or o 0) c.least_state.ensures) c.in_ok-target.target
    (c.in_ok-target.ensures {u = tt} ∙ ap (λ (n : ℕ). map (λ s. s == c.unwrap_or-least.result) (range_with_len 0 n)) c.count.ensures)

pub toward-requires-clause-some : goal.toward-requires-clause-some
toward-requires-clause-some c =
    some_target c.args.self.now c.requires.given c.unwrap_or-least.result (c.unwrap_or-least.ensures ∙ ap (λ (o : Option ℕ). unwrap_or o 0) c.least_state.ensures) c.in_ok-target.target
    (c.in_ok-target.ensures {u = tt} ∙ ap (λ (n : ℕ). map (λ s. s == c.unwrap_or-least.result) (range_with_len 0 n)) c.count.ensures)

pub least_choice-requires : goal.least_choice-requires
least_choice-requires c =
    IsFirst.below (first_state c.args.self.now c.requires.given c.unwrap_or-least.result (c.unwrap_or-least.ensures ∙ ap (λ (o : Option ℕ). unwrap_or o 0) c.least_state.ensures))

pub index_mut-requires : goal.index_mut-requires
index_mut-requires c =
    let l = IsFirst.below (first_state c.args.self.now c.requires.given c.unwrap_or-least.result (c.unwrap_or-least.ensures ∙ ap (λ (o : Option ℕ). unwrap_or o 0) c.least_state.ensures)) in
    let n = choices-len c.args.self.now (c.in_ok-pass.ensures {u = tt}).toward in
    omega (arith, l, n)

pub returns : goal.returns
returns c =
    first_start c.args.self.now c.requires.given c.unwrap_or-least.result (c.unwrap_or-least.ensures ∙ ap (λ (o : Option ℕ). unwrap_or o 0) c.least_state.ensures) c.in_ok-target.target
    (c.in_ok-target.ensures {u = tt} ∙ ap (λ (n : ℕ). map (λ s. s == c.unwrap_or-least.result) (range_with_len 0 n)) c.count.ensures) c.in_ok-pass.pass.marks c.in_ok-pass.pass.ranks.items
    c.in_ok-pass.pass.choices.items (c.in_ok-pass.ensures {u = tt}).toward (c.in_ok-pass.ensures {u = tt}).marks c.unwrap_or.result
    (c.unwrap_or.ensures ∙ ap (λ (o : Option ℕ). unwrap_or o 0) c.least_choice.ensures) _ refl
