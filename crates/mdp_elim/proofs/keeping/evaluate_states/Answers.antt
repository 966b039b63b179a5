use Rattle.std.proofs.{Common.{◌≡◌, ◌<◌, ◌≤◌, ◌+◌, ◌∙◌, suc, Some, None, Err, get_or, length, refl, sym, ap, subst, arith, rules}, Math.ListN.{set}}
use Rattle.std.proofs.{lemmas.List.{get_or_default}, lemmas.Result.{MatchResult-at_ok}}
use Rattle.mdp_wide.specs.declared.unfinished.Unfinished.TheVariants as error
use Rattle.mdp_elim.proofs.{Finish.{placed-wide, placed-ok}, RowSums.{between-below}}
use Rattle.mdp_elim.proofs.{Evaluating.{HaveValues, values_first, values_last, values_next, values-all, values-stop, smaller_have}, Others.{value-other}}
use Rattle.mdp_spec.specs.Written.{written_sum}
use Rattle.mdp_elim.specs.Equation as spec
use Rattle.mdp_elim.specs.{Entries.{Between}, Elimination.{evaluated}, Predecessors.{at}}
use Rattle.mdp_elim.proofs.keeping.evaluate_states.Goals as goal

pub loop-t-init : goal.loop-t-init
loop-t-init c = record {
  first = values_first c.args.states.now c.args.solved.now (λ e. e.first) c.args.first.now c.requires.first c.requires.first_others;
  second = values_first c.args.states.now c.args.solved.now (λ e. e.second) c.args.second.now c.requires.second c.requires.second_others;
  others = λ s out. refl;
}

pub sums-requires : goal.sums-requires
sums-requires c =
    let t = get_or c.args.states.now c.loop-t.t-index 0 in
    let within : get_or c.args.states.now c.loop-t.t-index 0 < length c.args.solved.now = c.requires.in_range c.loop-t.t-index 0 c.loop-t-test.true in
    let is : c.lent.result ≡ at c.args.solved.now t = c.lent.ensures ∙ c.index-solved-t.is ∙ get_or_default c.args.solved.now t _ spec.no_equation within in
    let down = subst (λ (e : spec.Equation). Between 0 t e.entries) (sym is) (c.requires.down t within) in
    λ k d l. (
      omega (arith, between-below 0 t c.lent.result.entries down k d l, within, c.loop-t.invariant.first.count),
      omega (arith, between-below 0 t c.lent.result.entries down k d l, within, c.loop-t.invariant.second.count),
    )

pub returns-in_err-x-clause-wide : goal.returns-in_err-x-clause-wide
returns-in_err-x-clause-wide c = λ s h.
    let t = get_or c.args.states.now c.loop-t.t-index 0 in
    let within : get_or c.args.states.now c.loop-t.t-index 0 < length c.args.solved.now = c.requires.in_range c.loop-t.t-index 0 c.loop-t-test.true in
    let is : c.lent.result ≡ at c.args.solved.now t = c.lent.ensures ∙ c.index-solved-t.is ∙ get_or_default c.args.solved.now t _ spec.no_equation within in
    let p : c.placed.result ≡ Err (error.TooWide s) = search rules in
    let w = placed-wide (get_or c.args.states.now c.loop-t.t-index 0) s c.sums.result (sym c.placed.ensures ∙ p) in
    values-stop c.args.solved.now c.loop-t.first c.loop-t.second c.requires.down c.loop-t.invariant.first.count c.loop-t.invariant.second.count t within
    (smaller_have c.args.states.now c.args.solved.now c.requires.down c.requires.outside c.requires.ascend c.loop-t.t-index t refl c.loop-t-test.true within (λ e. e.first) c.loop-t.first c.loop-t.invariant.first)
    (smaller_have c.args.states.now c.args.solved.now c.requires.down c.requires.outside c.requires.ascend c.loop-t.t-index t refl c.loop-t-test.true within (λ e. e.second) c.loop-t.second c.loop-t.invariant.second)
    (subst (λ (e : spec.Equation). evaluated e (record { first = c.loop-t.first; second = c.loop-t.second }) ≡ None) is (c.sums.ensures.wide w.0)) ∙ ap Err w.1

pub loop-t-preserved : goal.loop-t-preserved
loop-t-preserved c =
    let t = get_or c.args.states.now c.loop-t.t-index 0 in
    let within : get_or c.args.states.now c.loop-t.t-index 0 < length c.args.solved.now = c.requires.in_range c.loop-t.t-index 0 c.loop-t-test.true in
    let is : c.lent.result ≡ at c.args.solved.now t = c.lent.ensures ∙ c.index-solved-t.is ∙ get_or_default c.args.solved.now t _ spec.no_equation within in
    let z : suc c.loop-t.t-index ≡ c.loop-t.t-index + 1 = omega arith in
    let k = placed-ok (get_or c.args.states.now c.loop-t.t-index 0) (c.in_ok-x.x, c.in_ok-x.y) c.sums.result (sym c.placed.ensures ∙ c.in_ok-x.was {u = tt}) in
    record {
      first = subst (λ j. HaveValues c.args.states.now c.args.solved.now (λ e. e.first) j (set c.loop-t.first t c.in_ok-x.x)) z
          (values_next c.args.states.now c.args.solved.now c.requires.down c.requires.outside c.requires.ascend c.loop-t.t-index t refl c.loop-t-test.true within (λ e. e.first) c.loop-t.first
          c.loop-t.invariant.first c.in_ok-x.x
          (subst (λ (e : spec.Equation). written_sum c.loop-t.first e.first e.entries ≡ Some c.in_ok-x.x) is (MatchResult-at_ok _ _ _ k c.sums.ensures.first)));
      second = subst (λ j. HaveValues c.args.states.now c.args.solved.now (λ e. e.second) j (set c.loop-t.second t c.in_ok-x.y)) z
          (values_next c.args.states.now c.args.solved.now c.requires.down c.requires.outside c.requires.ascend c.loop-t.t-index t refl c.loop-t-test.true within (λ e. e.second) c.loop-t.second
          c.loop-t.invariant.second c.in_ok-x.y
          (subst (λ (e : spec.Equation). written_sum c.loop-t.second e.second e.entries ≡ Some c.in_ok-x.y) is (MatchResult-at_ok _ _ _ k c.sums.ensures.second)));
      others = λ s out. value-other c.args.states.now c.loop-t.t-index s c.loop-t.first c.in_ok-x.x c.loop-t-test.true out ∙ c.loop-t.invariant.others s out;
    }

pub returns-clause-ok : goal.returns-clause-ok
returns-clause-ok c =
    let n : length c.args.states.now ≤ c.loop-t.t-index = omega (arith, c.loop-t-test.false) in
    values-all c.args.solved.now c.loop-t.first c.loop-t.second c.requires.down c.loop-t.invariant.first.count c.loop-t.invariant.second.count
    (values_last c.args.states.now c.args.solved.now (λ e. e.first) c.loop-t.t-index c.loop-t.first n c.loop-t.invariant.first)
    (values_last c.args.states.now c.args.solved.now (λ e. e.second) c.loop-t.t-index c.loop-t.second n c.loop-t.invariant.second)
