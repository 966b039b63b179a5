use Rattle.std.proofs.Common.{◌≡◌, ◌+◌, suc, true, Option, Some, Err, Ok, Result, OnErr, refl, sym, ◌∙◌, ap, subst, inr, rules, arith}
use Rattle.std.proofs.lemmas.List.{get_or-set_same, get_or-set_other, length-set}
use Rattle.std.specs.Result.{is_err}
use Rattle.mdp_math.specs.Written.{◌>>=◌}
use Rattle.mdp_elim.specs.Equation as spec
use Rattle.mdp_elim.specs.{Entries.{Between}, Elimination.{divided}}
use Rattle.mdp_elim.proofs.{PutIn.{divided-down}, Finish.{ok_no_err}}
use Rattle.mdp_elim.proofs.keeping.solve_row.Goals as goal

on_err : {A E : Type 0} (r : Result A E) (P : Type 0) → OnErr r P → is_err r ≡ true → P
on_err (Ok x) P h e = cc
on_err (Err x) P h e = h

pub returns-then-is_err-clause-wide : goal.returns-then-is_err-clause-wide
returns-then-is_err-clause-wide c = λ s h.
    let e : s ≡ c.args.t = cc in
    (refl, inr (e, record { sum = c.put_in.new.equation; put = (c.in_ok-put_in.ensures {u = tt}).ok; none = on_err c.divide.result _ c.divide.ensures.wide (sym c.is_err.ensures.value ∙ c.if-is_err.true) }))

pub returns-clause-ok : goal.returns-clause-ok
returns-clause-ok c =
    let new = c.put.new.self in
    let put = (c.in_ok-put_in.ensures {u = tt}).ok in
    let kept : c.put.new.self ≡ c.divide.new.self = c.in_ok-put.ensures {u = tt} in
    let here = get_or-set_same c.args.solved.now c.args.t new spec.no_equation c.requires.state ∙ kept in
    let z : c.args.t + 1 ≡ suc c.args.t = omega arith in
    let below : Between 0 (suc c.args.t) c.put_in.new.equation.entries = subst (λ n. Between 0 n c.put_in.new.equation.entries) z (c.in_ok-put_in.ensures {u = tt}).below in
    let made : divided c.args.t c.put_in.new.equation ≡ Some c.divide.new.self = search rules in (
      ap (λ (o : Option spec.Equation). o >>= divided c.args.t) put ∙ made ∙ ap Some (sym here),
      subst (λ (e : spec.Equation). Between 0 c.args.t e.entries) (sym here) (divided-down c.args.t c.put_in.new.equation c.divide.new.self below made),
      length-set c.args.solved.now c.args.t new,
      λ u h. get_or-set_other c.args.solved.now c.args.t u new spec.no_equation h,
    )

pub returns-clause-wide : goal.returns-clause-wide
returns-clause-wide c = λ s e. absurd (ok_no_err _ _ e)
