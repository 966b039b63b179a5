use Rattle.std.proofs.{Common.{◌≡◌, ◌∙◌, ℕ, List, Option, length, map, replicate, None, ap, subst, sym}, lemmas.List.{get_or-replicate, length-replicate}, lemmas.List.FromFn.{fill_by_all}}
use Rattle.std.specs.List.{range_with_len}
use Rattle.mdp_math.specs.Rational.{ℚ}
use Rattle.mdp_discount_rules.specs.BoundsChecks.{IsTrivialDiscount}
use Rattle.mdp_search_bounds.proofs.Nothing.{nothing_said}
use Rattle.mdp_search_bounds.proofs.missing.missing_discount.Goals as goal

none_each : (n : ℕ) (values : List (Option ℚ)) → values ≡ replicate n None → values ≡ map (λ s. None) (range_with_len 0 n)
none_each n values e = e ∙ fill_by_all (λ s. None) (replicate n None) n None (length-replicate n None) (λ k l. get_or-replicate n k None None l)

pub returns-clause-trivial : goal.returns-clause-trivial
returns-clause-trivial c =
    let m = c.args.model.now in
    let n = c.states-states.result in
    let states = c.states-states.ensures in
    subst (λ (x : ℚ). IsTrivialDiscount m c.in_ok-lower.lower.items c.in_ok-upper.upper.items x c.in_ok-choices.choices.items) (sym c.whole.ensures)
    (nothing_said m c.known.ensures.mdp c.in_ok-lower.lower.items c.in_ok-upper.upper.items c.in_ok-choices.choices.items (range_with_len 0 n)
    (none_each n c.in_ok-lower.lower.items (c.in_ok-lower.ensures {u = tt})) (none_each n c.in_ok-upper.upper.items (c.in_ok-upper.ensures {u = tt}))
    ((c.in_ok-choices.ensures {u = tt}).items_if_clones_equal (λ y e. e) ∙ ap (λ (n : ℕ). replicate n 0) states))

pub returns-clause-lower : goal.returns-clause-lower
returns-clause-lower c =
    let none : Option ℚ = None in
    ap length (c.in_ok-lower.ensures {u = tt}) ∙ length-replicate c.states-states.result none ∙ c.states-states.ensures

pub returns-clause-upper : goal.returns-clause-upper
returns-clause-upper c =
    let none : Option ℚ = None in
    ap length (c.in_ok-upper.ensures {u = tt}) ∙ length-replicate c.states-states.result none ∙ c.states-states.ensures
