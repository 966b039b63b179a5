use Rattle.std.proofs.{Common.{◌≡◌, ℕ, ◌<◌, List, length, Option, Some, sym, subst, ◌∙◌, arith, pos, lt-ltb}, lemmas.List.{get_or_default}}
use Rattle.mdp_math.specs.Rational.{ℚ, of_int}
use Rattle.mdp_spec.specs.{Labels.{initial_of}, Mdp.{Mdp, states_of}}
use Rattle.mdp_claims.specs.declared.verdict.Verdict.TheVariants.{Yes}
use Rattle.mdp_text.proofs.InitialState.{initial_below}
use Rattle.mdp_discount_rules.specs.BoundsCheck.{init_check}
use Rattle.mdp_command_bounds_search.proofs.DiscountPrinting.{init_right}
use Rattle.mdp_command_bounds_search.proofs.discount_certificate.init_of.Goals as goal

-- the initial state is one of the states, and has one of the values
inside : (m : Mdp) (values : List (Option ℚ)) (s : ℕ) → Some s ≡ initial_of m → length values ≡ states_of m → s < length values
inside m values s is size = let lt = initial_below m s (sym is) in omega (arith, lt, size)

pub index-requires : goal.index-requires
index-requires c = let lt = inside c.args.model.now c.args.bounds.now.lower.items c.in-Some.state c.in-Some.ensures c.requires.lower in omega (arith, lt)

pub index-requires-2 : goal.index-requires-2
index-requires-2 c = let lt = inside c.args.model.now c.args.bounds.now.upper.items c.in-Some.state c.in-Some.ensures c.requires.upper in omega (arith, lt)

pub returns-clause-checked : goal.returns-clause-checked
returns-clause-checked c =
    let m = c.args.model.now in
    let b = c.args.bounds.now in
    let s = c.in-Some.state in
    let is = c.in-Some.ensures in
    let low = inside m b.lower.items s is c.requires.lower in
    let high = inside m b.upper.items s is c.requires.upper in
    let other : Option ℚ = Some (of_int (pos 0)) in
    let x = c.index.result.now in
    let y = c.index-2.result.now in
    subst (λ (o : Option ℕ). init_check (Some (record { state = s; lower = x; upper = y })) o b.lower.items b.upper.items ≡ Yes) is
    (init_right s b.lower.items b.upper.items x y (c.index.ensures ∙ get_or_default b.lower.items s x other low) (c.index-2.ensures ∙ get_or_default b.upper.items s y other high) low
    high)

pub returns-clause-inside : goal.returns-clause-inside
returns-clause-inside c =
    lt-ltb c.in-Some.state (length c.args.bounds.now.lower.items) (inside c.args.model.now c.args.bounds.now.lower.items c.in-Some.state c.in-Some.ensures c.requires.lower)
