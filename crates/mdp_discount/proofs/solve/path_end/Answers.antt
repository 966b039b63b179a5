use Rattle.std.proofs.Common.{◌≡◌, ◌∙◌, ℕ, ◌+◌, List, Err, take, replicate, length, sym, ap, subst}
use Rattle.mdp_math.specs.Rational.{ℚ}
use Rattle.mdp_policy_iteration.specs.{Laws.{IsSolvable}, Ends.{Ends}, Errors.{PathError}, Queries.{term_of}}
use Rattle.mdp_wide.specs.declared.too_wide.Part.TheVariants.{Whole}
use Rattle.mdp_discount.specs.{Problem.{discount_problem}, Query.{start_of}, Code.{IsFound, cut_term}}
use Rattle.mdp_discount.proofs.{Solving.{start-solvable, found-is}, Ending.{path-found, path-wide}}
use Rattle.mdp_discount.proofs.solve.path_end.Goals as goal

pub improve-requires : goal.improve-requires
improve-requires c =
    let start : c.in_ok-start.start.items ≡ start_of c.args.model.now =
    (c.in_ok-start.ensures {u = tt}).items_if_clones_equal (λ y e. e) ∙ ap (λ (n : ℕ). replicate (n + 1) 0) c.states-states.ensures in
    subst (λ (start : List ℕ). IsSolvable (discount_problem c.args.dir c.args.model.now c.args.m c.args.factor.now) start) (sym start)
    (start-solvable c.args.dir c.args.model.now c.args.m c.args.factor.now c.known.ensures.mdp c.requires.factor)

pub returns-in-Ok-clause-path : goal.returns-in-Ok-clause-path
returns-in-Ok-clause-path c =
    let start : c.in_ok-start.start.items ≡ start_of c.args.model.now =
    (c.in_ok-start.ensures {u = tt}).items_if_clones_equal (λ y e. e) ∙ ap (λ (n : ℕ). replicate (n + 1) 0) c.states-states.ensures in
    path-found c.args.dir c.args.model.now c.args.m c.args.factor.now c.in_ok-start.start.items start c.in-Ok.found c.cut.result (c.in-Ok.ensures {u = tt}).path c.cut.ensures.round
    (c.cut.ensures.policy ∙ ap (λ (n : ℕ). take n c.in-Ok.found.policy.items) c.states-states.ensures)
    (c.cut.ensures.values ∙ ap (λ (n : ℕ). take n c.in-Ok.found.values.items) c.states-states.ensures)

pub returns-in-Ok-clause-best : goal.returns-in-Ok-clause-best
returns-in-Ok-clause-best c =
    subst (λ (policy : List ℕ). IsFound c.args.dir c.args.model.now c.args.m c.args.factor.now policy c.cut.result.values.items)
    (sym (c.cut.ensures.policy ∙ ap (λ (n : ℕ). take n c.in-Ok.found.policy.items) c.states-states.ensures))
    (subst (λ (v : List ℚ). IsFound c.args.dir c.args.model.now c.args.m c.args.factor.now (take (length c.args.model.now.states) c.in-Ok.found.policy.items) v)
    (sym (c.cut.ensures.values ∙ ap (λ (n : ℕ). take n c.in-Ok.found.values.items) c.states-states.ensures))
    (found-is c.args.dir c.args.model.now c.args.m c.args.factor.now c.known.ensures.mdp c.requires.factor c.in_ok-start.start.items c.in-Ok.found.policy.items c.in-Ok.found.values.items
    (c.in-Ok.ensures {u = tt}).best))

pub returns-in-Err-TooWide-clause-path : goal.returns-in-Err-TooWide-clause-path
returns-in-Err-TooWide-clause-path c =
    let start : c.in_ok-start.start.items ≡ start_of c.args.model.now =
    (c.in_ok-start.ensures {u = tt}).items_if_clones_equal (λ y e. e) ∙ ap (λ (n : ℕ). replicate (n + 1) 0) c.states-states.ensures in
    path-wide c.args.dir c.args.model.now c.args.m c.args.factor.now c.in_ok-start.start.items start c.in-Err-TooWide.wide c.cut_wide.result (subst (λ (e : PathError). Ends
    (discount_problem c.args.dir c.args.model.now c.args.m c.args.factor.now) c.in_ok-start.start.items (Err e)) c.in-Err-TooWide.field-0-is
    (c.in-Err-TooWide.ensures {u = tt}).path) c.cut_wide.ensures.round
    (λ n.
    c.cut_wide.ensures.term n
    ∙ ap (λ (k : ℕ). term_of Whole (cut_term k c.in-Err-TooWide.wide n))
    c.states-states.ensures)
