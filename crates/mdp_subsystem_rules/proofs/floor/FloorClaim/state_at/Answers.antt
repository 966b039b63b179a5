use Rattle.std.proofs.{Common.{List, [], ◌∷◌, ◌++◌}, lemmas.Result.{err_from_is_err_and}}
use Rattle.mdp_farkas.specs.Verdict.{Check}
use Rattle.mdp_farkas.proofs.Objections.{halts, goes_on}
use Rattle.mdp_subsystem_rules.specs.{FloorChecks.{value_checks}, FloorClaim.{covers_at, falls_at}, FlowChecks.{kept_check}}
use Rattle.mdp_subsystem_rules.proofs.floor.FloorClaim.state_at.Goals as goal

pub returns-in_err-covers_at : goal.returns-in_err-covers_at
returns-in_err-covers_at c =
    let x = c.args.self in
    let covers = covers_at x c.args.s c.args.value.now in
    let rest = falls_at x c.args.s c.args.value.now c.args.rank ++ kept_check x.goals.now c.args.s ∷ [] in
    let p = err_from_is_err_and c.from_residual-in_err-covers_at.result c.from_residual-in_err-covers_at.ensures.1 in
    rw (p.1, p.2)
    (goes_on (value_checks c.args.s c.args.value.now) (covers ++ rest) tt _ (c.in_ok-probability_at.ensures {u = tt}) (halts covers rest c.in_err-covers_at.field-0.0 (c.in_err-covers_at.ensures {u = tt})))

pub returns-in_err-rank_at : goal.returns-in_err-rank_at
returns-in_err-rank_at c =
    let x = c.args.self in
    let covers = covers_at x c.args.s c.args.value.now in
    let falls = falls_at x c.args.s c.args.value.now c.args.rank in
    let last : List Check = kept_check x.goals.now c.args.s ∷ [] in
    let p = err_from_is_err_and c.from_residual-in_err-rank_at.result c.from_residual-in_err-rank_at.ensures.1 in
    rw (p.1, p.2)
    (goes_on (value_checks c.args.s c.args.value.now) (covers ++ (falls ++ last)) tt _ (c.in_ok-probability_at.ensures {u = tt})
    (goes_on covers (falls ++ last) tt _ (c.in_ok-covers_at.ensures {u = tt}) (halts falls last c.in_err-rank_at.field-0.0 (c.in_err-rank_at.ensures {u = tt}))))

pub returns : goal.returns
returns c =
    let x = c.args.self in
    let covers = covers_at x c.args.s c.args.value.now in
    let falls = falls_at x c.args.s c.args.value.now c.args.rank in
    let last : List Check = kept_check x.goals.now c.args.s ∷ [] in
    goes_on (value_checks c.args.s c.args.value.now) (covers ++ (falls ++ last)) tt c.kept_at.result (c.in_ok-probability_at.ensures {u = tt})
    (goes_on covers (falls ++ last) tt c.kept_at.result (c.in_ok-covers_at.ensures {u = tt}) (goes_on falls last tt c.kept_at.result (c.in_ok-rank_at.ensures {u = tt}) c.kept_at.ensures))
