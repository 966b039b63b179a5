use Rattle.std.proofs.{Common.{◌∙◌, ℕ, length, map, replicate, if◌then◌else◌, ap}, lemmas.List.FromFn.{length-map-range_with_len}}
use Rattle.std.specs.List.{range_with_len}
use Rattle.mdp_math.specs.Rational.{ℚ}
use Rattle.mdp_spec.specs.{Mdp.{states_of}, Tree.{is_marked}}
use Rattle.mdp_farkas.specs.Compare.{0ℚ, 1ℚ}
use Rattle.mdp_subsystem_search.proofs.Outermost.{trivial_of}
use Rattle.mdp_subsystem_search.proofs.trivial.trivial_reach.Goals as goal

pub returns-clause-trivial : goal.returns-clause-trivial
returns-clause-trivial c =
    let states = c.states-states.ensures in
    trivial_of c.args.model.now c.known.ensures.mdp c.args.goals.now c.in_ok-lower.lower.items c.in_ok-upper.upper.items c.in_ok-choices.choices.items c.in_ok-ranks.ranks.items
    ((c.in_ok-lower.ensures {u = tt}) ∙ ap (λ (n : ℕ). map (λ s. if is_marked c.args.goals.now s then 1ℚ else 0ℚ) (range_with_len 0 n)) states)
    ((c.in_ok-upper.ensures {u = tt}).items_if_clones_equal (λ y e. e) ∙ ap (λ (n : ℕ). replicate n c.whole.result) states ∙ ap (λ (x : ℚ). replicate (states_of c.args.model.now) x) c.whole.ensures)
    ((c.in_ok-choices.ensures {u = tt}).items_if_clones_equal (λ y e. e) ∙ ap (λ (n : ℕ). replicate n 0) states)
    ((c.in_ok-ranks.ensures {u = tt}).items_if_clones_equal (λ y e. e) ∙ ap (λ (n : ℕ). replicate n 0) states)

pub returns-clause-lower : goal.returns-clause-lower
returns-clause-lower c =
    ap length (c.in_ok-lower.ensures {u = tt}) ∙ length-map-range_with_len (λ s. if is_marked c.args.goals.now s then 1ℚ else 0ℚ) 0 c.states-states.result ∙ c.states-states.ensures
