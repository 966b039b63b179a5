use Rattle.std.proofs.{Common.{◌≡◌, ◌∙◌, ◌<◌, ◌++◌, ℕ, List, length, Option, Some, sym, ap, ap₂, subst, arith, pos}, lemmas.List.{get_or_default}}
use Rattle.std.specs.Prelude.{OnOk}
use Rattle.mdp_math.specs.Rational.{of_int}
use Rattle.mdp_text.specs.Spelling.{line}
use Rattle.mdp_text.proofs.InitialState.{initial_below}
use Rattle.mdp_horizon.specs.BoundsSpelling.{start_text, init_text}
use Rattle.mdp_horizon.proofs.bounds_push.push_init.Goals as goal

pub bounds-lower-state : goal.bounds-lower-state
bounds-lower-state c = let lt = initial_below c.args.model.now c.in-Some.state (sym c.in-Some.ensures) in let n = c.requires.lower in omega (arith, lt, n)

pub bounds-upper-state : goal.bounds-upper-state
bounds-upper-state c = let lt = initial_below c.args.model.now c.in-Some.state (sym c.in-Some.ensures) in let n = c.requires.upper in omega (arith, lt, n)

pub returns-in-Some-clause-text : goal.returns-in-Some-clause-text
returns-in-Some-clause-text c =
    let s = c.in-Some.state in
    let lower = c.args.lower.now in
    let upper = c.args.upper.now in
    let lt = initial_below c.args.model.now s (sym c.in-Some.ensures) in
    let n = c.requires.lower in
    let k = c.requires.upper in
    let inside : s < length lower = omega (arith, lt, n) in
    let within : s < length upper = omega (arith, lt, k) in
    subst (λ (t : List ℕ). OnOk c.push_values.result (c.push_values.new.out.items ≡ c.args.out.now.items ++ line t))
    (ap (λ (n : ℕ). start_text n c.index-lower-state.result c.index-upper-state.result) c.from.ensures
    ∙ ap₂ (start_text s) (c.index-lower-state.is ∙ get_or_default lower s c.index-lower-state.result (Some (of_int (pos 0))) inside)
    (c.index-upper-state.is ∙ get_or_default upper s c.index-upper-state.result (Some (of_int (pos 0))) within)
    ∙ ap (λ (o : Option ℕ). init_text o lower upper) c.in-Some.ensures) c.push_values.ensures.text
