use Rattle.std.proofs.{Common.{◌≡◌, ℕ, suc, ◌+◌, List, length, sym, subst, arith, get_or, ◌<◌}, lemmas.Result.{err_from_is_err_and}}
use Rattle.mdp_spec.specs.Mdp.{states_of}
use Rattle.mdp_gain.specs.Query.{members, plain}
use Rattle.mdp_gain.specs.Query as inner
use Rattle.mdp_mean.specs.{Inners.{InnersEndSo}, PartsCode.{inners_in}}
use Rattle.mdp_mean.proofs.{Adding.{Keeps, keeps-one, refused-at, members-below}, Passing.{solves-err, passed-on}}
use Rattle.mdp_mean.proofs.inners.all_inners.Goals as goal

pub returns-in_err-found-clause-path : goal.returns-in_err-found-clause-path
returns-in_err-found-clause-path c =
    let m = c.args.model.now in
    let parts = c.args.ends.now.parts in
    let e = err_from_is_err_and c.from_residual-in_err-found.result c.from_residual-in_err-found.ensures.1 in
    solves-err inners_in (InnersEndSo c.args.dir m parts c.args.m) c.from_residual-in_err-found.result e.0 c.in_err-found.field-0.0 e.1 e.2
    (passed-on plain inners_in (inner.EndsSo c.args.dir m parts c.loop-i.i c.args.m) (InnersEndSo c.args.dir m parts c.args.m) c.in_err-found.field-0.0
    (λ w h. refused-at c.args.dir m parts c.args.m c.loop-i.i (inners_in c.loop-i.inners) c.loop-i.invariant (omega arith) w h) (c.in_err-found.ensures {u = tt}).path)

pub add-requires-clause-biases : goal.add-requires-clause-biases
add-requires-clause-biases c =
    let m = c.args.model.now in
    let states = (c.in_ok-found.ensures {u = tt}).best.states in
    λ k h.
    (let l : k < length (members m c.args.ends.now.parts c.loop-i.i) = subst (λ (xs : List ℕ). k < length xs) states h in
    subst (λ n. get_or c.in_ok-found.found.states.items k 0 < n) (sym c.loop-i.invariant.inners.bias_each)
    (subst (λ (xs : List ℕ). get_or xs k 0 < states_of m) (sym states) (members-below m c.args.ends.now.parts c.loop-i.i k l)))

pub add-requires-clause-choices : goal.add-requires-clause-choices
add-requires-clause-choices c =
    let m = c.args.model.now in
    let states = (c.in_ok-found.ensures {u = tt}).best.states in
    λ k h.
    (let l : k < length (members m c.args.ends.now.parts c.loop-i.i) = subst (λ (xs : List ℕ). k < length xs) states h in
    subst (λ n. get_or c.in_ok-found.found.states.items k 0 < n) (sym c.loop-i.invariant.inners.choice_each)
    (subst (λ (xs : List ℕ). get_or xs k 0 < states_of m) (sym states) (members-below m c.args.ends.now.parts c.loop-i.i k l)))

pub loop-i-preserved : goal.loop-i-preserved
loop-i-preserved c =
    let next : suc c.loop-i.i ≡ c.loop-i.i + 1 = omega arith in
    subst (λ k. Keeps c.args.dir c.args.model.now c.args.ends.now.parts c.args.m k (inners_in c.add.new.self)) next
    (keeps-one c.args.dir c.args.model.now c.args.ends.now.parts c.args.m c.loop-i.i (plain c.in_ok-found.found) (inners_in c.loop-i.inners) (inners_in c.add.new.self) c.loop-i.invariant
    (c.in_ok-add.ensures {u = tt}) (c.in_ok-found.ensures {u = tt}).best (c.in_ok-found.ensures {u = tt}).path)
