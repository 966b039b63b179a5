use Rattle.std.proofs.{Common.{ℕ, Option, Some, sym, ap, ◌∙◌, arith, pos}, lemmas.List.{get_or_default}}
use Rattle.mdp_math.specs.Rational.{ℚ, of_int}
use Rattle.mdp_spec.specs.Bounds.{reward_at}
use Rattle.mdp_text.specs.Heads.{init_of, init_by}
use Rattle.mdp_text.proofs.InitialState.{initial_below}
use Rattle.mdp_text.proofs.initial.init_with_rewards.Goals as goal

pub bounds-values-state : goal.bounds-values-state
bounds-values-state c = let lt = initial_below c.args.model.now c.in-Some.state (sym c.in-Some.ensures) in let n = c.requires in omega (arith, lt, n)

pub returns-in-Some : goal.returns-in-Some
returns-in-Some c =
    c.init_of.ensures
    ∙ ap (λ (x : Option ℚ). init_of c.in-Some.state x)
    (c.index-values-state.is ∙ get_or_default c.args.values.now c.in-Some.state _ (Some (of_int (pos 0)))
    (let lt = initial_below c.args.model.now c.in-Some.state (sym c.in-Some.ensures) in let n = c.requires in omega (arith, lt, n)))
    ∙ ap (λ (o : Option ℕ). init_by o (reward_at c.args.values.now)) c.in-Some.ensures
