use Rattle.std.proofs.{Common.{◌≡◌, None, Some, List, subst, sym, arith}, lemmas.Result.{MatchResult-from_err}, lemmas.List.{with_items_is}}
use Rattle.mdp_spec.specs.Mdp.{Entry}
use Rattle.std.specs.Vec.{with_items}
use Rattle.mdp_math.proofs.Order.{1ℚ}
use Rattle.mdp_num.specs.Written.{written_sub}
use Rattle.mdp_elim.specs.Equation as spec
use Rattle.mdp_elim.specs.{Entries.{each, divided_entry}, Elimination.{divided_rest}}
use Rattle.mdp_elim.proofs.Equations.{one_less-nonzero, divided_rest-none, divided_rest-none_entries, divided_rest-none_first, divided_rest-none_second, divided_rest-some}
use Rattle.mdp_elim.proofs.equation.Equation.divide_by.Goals.{After-divisor-2-1, After-divisor-3-1}
use Rattle.mdp_elim.proofs.equation.Equation.divide_by.Goals as goal

-- what it divides by
divisor_is : (c : After-divisor-2-1) → Some c.in_ok-divisor.divisor ≡ written_sub 1ℚ c.args.own.now
divisor_is c = let h = c.in_ok-divisor.ensures {u = tt} in rw (c.whole.ensures) at h

-- the divided entries
row_is : (c : After-divisor-3-1) → each (divided_entry c.in_ok-divisor.divisor) c.self.inside.entries.items ≡ Some c.divide_row.new.row
row_is c = let h = (c.in_ok-divide_row.ensures {u = tt}).ok in rw (c.deref_mut.ensures.value) at h

pub returns-in_err-divisor-clause-wide : goal.returns-in_err-divisor-clause-wide
returns-in_err-divisor-clause-wide c =
    MatchResult-from_err _ _ _ c.from_residual.ensures.0
    (λ _. divided_rest-none c.args.own.now c.args.self.now (let h = c.in_err-divisor.ensures {u = tt} in rw (c.whole.ensures) at h))

pub divide_row-requires : goal.divide_row-requires
divide_row-requires c = one_less-nonzero c.args.own.now c.in_ok-divisor.divisor c.requires (divisor_is c)

pub returns-in_err-divide_row-clause-wide : goal.returns-in_err-divide_row-clause-wide
returns-in_err-divide_row-clause-wide c =
    MatchResult-from_err _ _ _ c.from_residual-in_err-divide_row.ensures.0
    (λ _.
    subst (λ (e : spec.Equation). divided_rest c.args.own.now e ≡ None) c.self.view_is
    (divided_rest-none_entries c.args.own.now _ c.in_ok-divisor.divisor (divisor_is (goal.at.returns-in_err-divide_row-clause-wide c).After-divisor-2-1)
    (let h = (c.in_err-divide_row.ensures {u = tt}).wide in rw (c.deref_mut.ensures.value) at h)))

pub quotient-requires : goal.quotient-requires
quotient-requires c = one_less-nonzero c.args.own.now c.in_ok-divisor.divisor c.requires (divisor_is (goal.at.quotient-requires c).After-divisor-2-1)

pub returns-in_err-first-clause-wide : goal.returns-in_err-first-clause-wide
returns-in_err-first-clause-wide c =
    MatchResult-from_err _ _ _ c.from_residual-in_err-first.ensures.0
    (λ _.
    subst (λ (e : spec.Equation). divided_rest c.args.own.now e ≡ None) c.self.view_is
    (divided_rest-none_first c.args.own.now _ c.in_ok-divisor.divisor (divisor_is (goal.at.returns-in_err-first-clause-wide c).After-divisor-2-1)
    c.divide_row.new.row (row_is (goal.at.returns-in_err-first-clause-wide c).After-divisor-3-1) (c.in_err-first.ensures {u = tt})))

pub quotient-requires-2 : goal.quotient-requires-2
quotient-requires-2 c = one_less-nonzero c.args.own.now c.in_ok-divisor.divisor c.requires (divisor_is (goal.at.quotient-requires-2 c).After-divisor-2-1)

pub returns-in_err-second-clause-wide : goal.returns-in_err-second-clause-wide
returns-in_err-second-clause-wide c =
    MatchResult-from_err _ _ _ c.from_residual-in_err-second.ensures.0
    (λ _.
    subst (λ (e : spec.Equation). divided_rest c.args.own.now e ≡ None) c.self.view_is
    (divided_rest-none_second c.args.own.now _ c.in_ok-divisor.divisor (divisor_is (goal.at.returns-in_err-second-clause-wide c).After-divisor-2-1)
    c.divide_row.new.row (row_is (goal.at.returns-in_err-second-clause-wide c).After-divisor-3-1) c.in_ok-first.first (c.in_ok-first.ensures {u = tt}) (c.in_err-second.ensures {u = tt})))

pub returns-clause-ok : goal.returns-clause-ok
returns-clause-ok c =
    let same = with_items_is c.self.inside.entries c.divide_row.new.row (omega arith) in
    subst (λ (e : spec.Equation). divided_rest c.args.own.now e ≡ Some
    (record { entries = (with_items c.self.inside.entries c.divide_row.new.row).items; first = c.in_ok-first.first; second = c.in_ok-second.second })) c.self.view_is
    (subst (λ (xs : List Entry). divided_rest c.args.own.now (record { entries = c.self.inside.entries.items; first = c.self.inside.first; second = c.self.inside.second })
    ≡ Some (record { entries = xs; first = c.in_ok-first.first; second = c.in_ok-second.second })) (sym same)
    (divided_rest-some c.args.own.now _ c.in_ok-divisor.divisor (divisor_is (goal.at.returns-clause-ok c).After-divisor-2-1)
    c.divide_row.new.row (row_is (goal.at.returns-clause-ok c).After-divisor-3-1)
    c.in_ok-first.first c.in_ok-second.second (c.in_ok-first.ensures {u = tt}) (c.in_ok-second.ensures {u = tt})))
