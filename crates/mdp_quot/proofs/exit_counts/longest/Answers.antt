use Rattle.std.proofs.Common.{ℕ, List, Ok, Err, refl, sym, subst}
use Rattle.mdp_math.specs.Rational.{ℚ}
use Rattle.mdp_wide.specs.Errors.{SolveError}
use Rattle.mdp_wide.specs.declared.too_wide.Part.TheVariants as part
use Rattle.mdp_policy_iteration.specs.{Path.{Found}, Laws.{IsSolvable}, Ends.{Ends}, Queries.{Solves}}
use Rattle.std.specs.{Prelude.{Vec}, Global.{Global}}
use Rattle.mdp_quot.specs.{Problem.{steps_problem, steps_start}, Steps.{StepsEndSo}}
use Rattle.mdp_quot.proofs.{StepsBest.{steps-solvable, steps-longest}, Sizes.{few_exits}, Ending.{path-answered, path-refused}}
use Rattle.mdp_quot.proofs.exit_counts.longest.Goals as goal

pub invariant_of-problem : goal.invariant_of-problem
invariant_of-problem c = record { few = few_exits c.args.quotient.now c.requires }

pub improve-requires : goal.improve-requires
improve-requires c = subst (λ (start : List ℕ). IsSolvable (steps_problem c.args.quotient.now) start) (sym (c.in_ok-first.ensures {u = tt})) (steps-solvable c.args.quotient.now c.requires)

pub returns-in-Ok-clause-path : goal.returns-in-Ok-clause-path
returns-in-Ok-clause-path c =
    path-answered part.Steps (λ (found : Found). found.values) (steps_problem c.args.quotient.now) (steps_start c.args.quotient.now) c.in-Ok.found _
    (subst (λ (start : List ℕ). Ends (steps_problem c.args.quotient.now) start (Ok c.in-Ok.found)) (c.in_ok-first.ensures {u = tt}) (c.in-Ok.ensures {u = tt}).path) (λ n. refl)

pub returns-in-Ok-clause-longest : goal.returns-in-Ok-clause-longest
returns-in-Ok-clause-longest c = steps-longest c.args.quotient.now c.in-Ok.found.policy.items c.in-Ok.found.values.items (c.in-Ok.ensures {u = tt}).best.best

pub returns-in-Err-clause-path : goal.returns-in-Err-clause-path
returns-in-Err-clause-path c =
    subst (λ (e : SolveError). Solves (λ (n : Vec ℚ Global). n.items) (StepsEndSo c.args.quotient.now) (Err e)) (sym c.in_part.ensures)
    (path-refused part.Steps (λ (found : Found). found.values) (steps_problem c.args.quotient.now) (steps_start c.args.quotient.now) (λ (n : Vec ℚ Global). n.items) c.in-Err.error
    (subst (λ (start : List ℕ). Ends (steps_problem c.args.quotient.now) start (Err c.in-Err.error)) (c.in_ok-first.ensures {u = tt}) (c.in-Err.ensures {u = tt}).path))
