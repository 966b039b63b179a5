use Rattle.std.proofs.Common.{◌≡◌, None, Some, Err, subst, rules}
use Rattle.mdp_wide.specs.declared.unfinished.Unfinished.TheVariants as error
use Rattle.mdp_elim.specs.Equation as spec
use Rattle.mdp_elim.specs.{Entries.{plus_row}, Elimination.{plus_equation}}
use Rattle.mdp_elim.proofs.Equations.{plus_equation-none_entries, plus_equation-none_first, plus_equation-none_second, plus_equation-some}
use Rattle.mdp_elim.proofs.equation.Equation.plus.Goals as goal

pub returns-in_err-add_row-clause-wide : goal.returns-in_err-add_row-clause-wide
returns-in_err-add_row-clause-wide c = λ h.
    let w : c.add_row.result ≡ Err (error.TooWide tt) = search rules in
    subst (λ (e : spec.Equation). plus_equation c.args.times.now c.args.other.now e ≡ None) c.self.view_is
    (subst (λ (o : spec.Equation). plus_equation c.args.times.now o (record { entries = c.self.inside.entries.items; first = c.self.inside.first; second = c.self.inside.second }) ≡ None) c.other.view_is
    (plus_equation-none_entries c.args.times.now _ _ (c.add_row.ensures.wide w)))

pub returns-in_err-first-clause-wide : goal.returns-in_err-first-clause-wide
returns-in_err-first-clause-wide c = λ _.
    let row : plus_row c.args.times.now c.other.inside.entries.now c.self.inside.entries.items ≡ Some c.add_row.new.row.items = (c.in_ok-add_row.ensures {u = tt}).ok in
    subst (λ (e : spec.Equation). plus_equation c.args.times.now c.args.other.now e ≡ None) c.self.view_is
    (subst (λ (o : spec.Equation). plus_equation c.args.times.now o (record { entries = c.self.inside.entries.items; first = c.self.inside.first; second = c.self.inside.second }) ≡ None) c.other.view_is
    (plus_equation-none_first c.args.times.now _ _ _ row (c.in_err-first.ensures {u = tt})))

pub returns-in_err-second-clause-wide : goal.returns-in_err-second-clause-wide
returns-in_err-second-clause-wide c = λ _.
    let row : plus_row c.args.times.now c.other.inside.entries.now c.self.inside.entries.items ≡ Some c.add_row.new.row.items = (c.in_ok-add_row.ensures {u = tt}).ok in
    subst (λ (e : spec.Equation). plus_equation c.args.times.now c.args.other.now e ≡ None) c.self.view_is
    (subst (λ (o : spec.Equation). plus_equation c.args.times.now o (record { entries = c.self.inside.entries.items; first = c.self.inside.first; second = c.self.inside.second }) ≡ None) c.other.view_is
    (plus_equation-none_second c.args.times.now _ _ _ row _ (c.in_ok-first.ensures {u = tt}) (c.in_err-second.ensures {u = tt})))

pub returns-clause-ok : goal.returns-clause-ok
returns-clause-ok c =
    let row : plus_row c.args.times.now c.other.inside.entries.now c.self.inside.entries.items ≡ Some c.add_row.new.row.items = (c.in_ok-add_row.ensures {u = tt}).ok in
    subst (λ (e : spec.Equation). plus_equation c.args.times.now c.args.other.now e ≡ Some (record { entries = c.add_row.new.row.items; first = c.in_ok-first.first; second = c.in_ok-second.second })) c.self.view_is
    (subst (λ (o : spec.Equation). plus_equation c.args.times.now o (record { entries = c.self.inside.entries.items; first = c.self.inside.first; second = c.self.inside.second })
    ≡ Some (record { entries = c.add_row.new.row.items; first = c.in_ok-first.first; second = c.in_ok-second.second })) c.other.view_is
    (plus_equation-some c.args.times.now _ _ _ row _ (c.in_ok-first.ensures {u = tt}) _ (c.in_ok-second.ensures {u = tt})))
