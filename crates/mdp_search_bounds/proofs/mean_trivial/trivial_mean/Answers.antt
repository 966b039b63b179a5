use Rattle.std.proofs.Common.{◌∙◌, refl, subst, sym}
use Rattle.mdp_math.specs.Rational.{ℚ}
use Rattle.mdp_spec.specs.Mdp.{states_of}
use Rattle.mdp_farkas.specs.Compare.{0ℚ}
use Rattle.mdp_rows.specs.declared.dir.Dir.TheVariants.{Max, Min}
use Rattle.mdp_bounds.specs.Mean.{IsTrivialMean}
use Rattle.mdp_search_bounds.proofs.{Means.{same_each, length_same, all_extreme, mean-trivial}, Accepted.{mean-accepted}}
use Rattle.mdp_search_bounds.proofs.mean_trivial.trivial_mean.Goals as goal

pub returns-clause-trivial : goal.returns-clause-trivial
returns-clause-trivial c =
    let m = c.args.model.now in
    let n = c.states-states.result in
    let states = c.states-states.ensures in
    subst (λ (x : ℚ). IsTrivialMean m c.args.name c.in_ok-lower.lower.items c.in_ok-upper.upper.items c.in_ok-bound.bound.items c.in_ok-bias.bias.items x c.in_ok-choices.choices.items)
    (sym c.whole-3.ensures)
    (mean-trivial m c.args.name c.in_ok-lower.lower.items c.in_ok-upper.upper.items c.in_ok-bound.bound.items c.in_ok-bias.bias.items c.in_ok-choices.choices.items
    c.extreme.result c.extreme-2.result c.known.ensures.mdp c.extreme.ensures c.extreme-2.ensures
    ((c.in_ok-lower.ensures {u = tt}).items_if_clones_equal (λ y e. e) ∙ same_each n (states_of m) c.extreme.result c.extreme.result states refl)
    ((c.in_ok-upper.ensures {u = tt}).items_if_clones_equal (λ y e. e) ∙ same_each n (states_of m) c.extreme-2.result c.extreme-2.result states refl)
    ((c.in_ok-bound.ensures {u = tt}).items_if_clones_equal (λ y e. e) ∙ same_each n (states_of m) c.whole.result 0ℚ states c.whole.ensures)
    ((c.in_ok-bias.ensures {u = tt}).items_if_clones_equal (λ y e. e) ∙ same_each n (states_of m) c.whole-2.result 0ℚ states c.whole-2.ensures)
    ((c.in_ok-choices.ensures {u = tt}).items_if_clones_equal (λ y e. e) ∙ same_each n (states_of m) 0 0 states refl))

pub returns-clause-accepted : goal.returns-clause-accepted
returns-clause-accepted c =
    let n = c.states-states.result in
    let states = c.states-states.ensures in
    mean-accepted c.args.model.now c.args.name c.in_ok-lower.lower.items c.in_ok-upper.upper.items c.in_ok-bound.bound.items c.in_ok-bias.bias.items c.whole-3.result
    c.in_ok-choices.choices.items c.known.ensures.mdp c.requires
    (length_same n c.whole.result c.in_ok-bound.bound.items ((c.in_ok-bound.ensures {u = tt}).items_if_clones_equal (λ y e. e)) ∙ states)
    (length_same n c.whole-2.result c.in_ok-bias.bias.items ((c.in_ok-bias.ensures {u = tt}).items_if_clones_equal (λ y e. e)) ∙ states) (returns-clause-trivial c)

pub returns-clause-least : goal.returns-clause-least
returns-clause-least c =
    let x = c.extreme.result in
    all_extreme Min c.args.model.now c.args.name x c.in_ok-lower.lower.items c.extreme.ensures
    ((c.in_ok-lower.ensures {u = tt}).items_if_clones_equal (λ y e. e) ∙ same_each c.states-states.result (states_of c.args.model.now) x x c.states-states.ensures refl)

pub returns-clause-greatest : goal.returns-clause-greatest
returns-clause-greatest c =
    let x = c.extreme-2.result in
    all_extreme Max c.args.model.now c.args.name x c.in_ok-upper.upper.items c.extreme-2.ensures
    ((c.in_ok-upper.ensures {u = tt}).items_if_clones_equal (λ y e. e) ∙ same_each c.states-states.result (states_of c.args.model.now) x x c.states-states.ensures refl)
