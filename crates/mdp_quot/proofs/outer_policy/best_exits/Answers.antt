use Rattle.std.proofs.Common.{ℕ, List, Ok, Err, refl, sym, subst}
use Rattle.mdp_wide.specs.Errors.{SolveError}
use Rattle.mdp_wide.specs.declared.too_wide.Part.TheVariants as part
use Rattle.mdp_policy_iteration.specs.{Laws.{IsSolvable}, Ends.{Ends}, Queries.{Solves}}
use Rattle.mdp_quot.specs.{Problem.{outer_problem, outer_start}, Outer.{plain, answer_of, OuterEndSo}}
use Rattle.mdp_quot.proofs.{OuterBest.{outer-solvable, outer-best}, Sizes.{few_exits}, Ending.{path-answered, path-refused}}
use Rattle.mdp_quot.proofs.outer_policy.best_exits.Goals as goal

pub invariant_of-problem : goal.invariant_of-problem
invariant_of-problem c =
    let q = c.args.quotient.now in
    record { few = few_exits q c.requires.of_model; each = c.requires.gains }

pub improve-requires : goal.improve-requires
improve-requires c =
    let q = c.args.quotient.now in
    subst (λ (start : List ℕ). IsSolvable (outer_problem c.args.dir q c.args.gains.now) start)
    (sym (c.in_ok-first.ensures {u = tt})) (outer-solvable c.args.dir q c.args.gains.now c.requires.of_model)

pub returns-in-Ok-clause-path : goal.returns-in-Ok-clause-path
returns-in-Ok-clause-path c =
    let q = c.args.quotient.now in
    path-answered part.Outer answer_of (outer_problem c.args.dir q c.args.gains.now) (outer_start q) c.in-Ok.found _
    (subst (λ (start : List ℕ). Ends (outer_problem c.args.dir q c.args.gains.now) start (Ok c.in-Ok.found)) (c.in_ok-first.ensures {u = tt})
    (c.in-Ok.ensures {u = tt}).path) (λ n. refl)

pub returns-in-Ok-clause-best : goal.returns-in-Ok-clause-best
returns-in-Ok-clause-best c =
    let q = c.args.quotient.now in
    outer-best c.args.dir q c.args.gains.now c.in-Ok.found.policy.items c.in-Ok.found.values.items (c.in-Ok.ensures {u = tt}).best.best

pub returns-in-Err-clause-path : goal.returns-in-Err-clause-path
returns-in-Err-clause-path c =
    let q = c.args.quotient.now in
    subst (λ (e : SolveError). Solves plain (OuterEndSo c.args.dir q c.args.gains.now) (Err e)) (sym c.in_part.ensures)
    (path-refused part.Outer answer_of (outer_problem c.args.dir q c.args.gains.now) (outer_start q) plain c.in-Err.error
    (subst (λ (start : List ℕ). Ends (outer_problem c.args.dir q c.args.gains.now) start (Err c.in-Err.error)) (c.in_ok-first.ensures {u = tt}) (c.in-Err.ensures {u = tt}).path))
