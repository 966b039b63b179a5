-- What the two queries end with.
use Rattle.std.proofs.Common.{sym, subst}
use Rattle.mdp_wide.specs.declared.too_wide.Part.TheVariants as part
use Rattle.mdp_policy_iteration.specs.{Path.{Found}, Laws.{HasOneEnd, EndsAtBest}}
use Rattle.mdp_quot.specs.{Problem.{steps_problem, steps_start, outer_problem, outer_start}, Steps.{IsLongest}, Outer.{answer_of, IsBestOuter}}
use Rattle.mdp_quot.specs.ExitsLaws.{StepsHaveOneEnd, OuterHasOneEnd, StepsEnd, OuterEnds, StepsAreLongest, OuterIsBest}
use Rattle.mdp_quot.proofs.{StepsBest.{steps-solvable, steps-longest}, OuterBest.{outer-solvable, outer-best}}
use Rattle.mdp_quot.proofs.Ending.{one_query_end, has_query_end, best_answer}

pub steps_once : StepsHaveOneEnd
steps_once q = one_query_end part.Steps (λ (found : Found). found.values) (steps_problem q) (steps_start q)

pub outer_once : OuterHasOneEnd
outer_once dir q gains = one_query_end part.Outer answer_of (outer_problem dir q gains) (outer_start q)

pub steps_end : HasOneEnd → StepsEnd
steps_end once q of = has_query_end part.Steps (λ (found : Found). found.values) (steps_problem q) (steps_start q) once (steps-solvable q of)

pub outer_end : HasOneEnd → OuterEnds
outer_end once dir q gains of = has_query_end part.Outer answer_of (outer_problem dir q gains) (outer_start q) once (outer-solvable dir q gains of)

pub steps_are_longest : EndsAtBest → StepsAreLongest
steps_are_longest best q n of end =
    let w = best_answer part.Steps (λ (found : Found). found.values) (steps_problem q) (steps_start q) n best (steps-solvable q of) end in
    subst (IsLongest q) (sym w.2) (steps-longest q w.0.policy w.0.values w.1)

pub outer_is_best : EndsAtBest → OuterIsBest
outer_is_best best dir q gains a of end =
    let w = best_answer part.Outer answer_of (outer_problem dir q gains) (outer_start q) a best (outer-solvable dir q gains of) end in
    subst (IsBestOuter dir q gains) (sym w.2) (outer-best dir q gains w.0.policy w.0.values w.1)
