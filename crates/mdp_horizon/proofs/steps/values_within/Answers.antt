use Rattle.std.proofs.Common.{◌≡◌, ◌∙◌, ◌+◌, ◌++◌, ◌∷◌, [], length, map, reverse, ℕ, List, Vec, Global, Result, Ok, sym, ap, ap₂, arith}
use Rattle.std.proofs.{lemmas.List.{reverse-append}, lemmas.Result.{err_from_is_err_and}}
use Rattle.mdp_math.specs.Rational.{ℚ}
use Rattle.mdp_horizon.specs.{Written.{Place, Answer, backups, next_step, no_steps, with_step}, Code.{plain_objective}, Answer.{row_of}}
use Rattle.mdp_horizon.proofs.Exact.{length-endings, backups-length, step_made, step_refused}
use Rattle.mdp_horizon.proofs.Turns.{in_turn-more, in_turn-refused, says_of, says_then, says_same, answers_err}
use Rattle.mdp_horizon.proofs.steps.values_within.Goals as goal

-- the answer of these values and the table whose last list is that of the first step
abbrev answer : List ℚ → List (Vec ℕ Global) → Answer
answer values table = record { values = values; steps = map (λ choices. choices.items) (reverse table) }

one_more : (table : List (Vec ℕ Global)) (x : Vec ℕ Global) → map (λ choices. choices.items) (reverse (table ++ x ∷ [])) ≡ x.items ∷ map (λ choices. choices.items) (reverse table)
one_more table x = ap (map (λ choices. choices.items)) (reverse-append table (x ∷ []))

pub loop-done-init : goal.loop-done-init
loop-done-init c = record {
  made = ap₂ (λ (xs : List ℚ) (t : List (Vec ℕ Global)). let r : Result Answer Place = Ok (answer xs t) in r) (sym (c.in_ok-values.ensures {u = tt})) (sym c.new-table.ensures.items);
  one_each = ap length (c.in_ok-values.ensures {u = tt}) ∙ length-endings c.args.query.dir c.args.query.model.now (plain_objective c.args.query.objective);
}

pub returns-in_err-next-clause-written : goal.returns-in_err-next-clause-written
returns-in_err-next-clause-written c =
    let dir = c.args.query.dir in
    let m = c.args.query.model.now in
    let o = plain_objective c.args.query.objective in
    let old : Answer = answer c.loop-done.values.items c.loop-done.table.items in
    let e = err_from_is_err_and c.from_residual-in_err-next.result c.from_residual-in_err-next.ensures.1 in
    answers_err _ c.from_residual-in_err-next.result e.0 _ e.1
    (says_same e.0 c.in_err-next.field-0.0 _ e.2
    (says_then c.in_err-next.field-0.0 (backups dir m o (c.loop-done.done + 1) c.deref.result.now) _
    (λ w h. in_turn-refused (next_step dir m o) (Ok (no_steps m o)) c.loop-done.done c.args.steps old w c.loop-done.invariant.made
    (step_refused dir m o c.loop-done.done (c.loop-done.done + 1) c.deref.result.now old w (omega arith) c.deref.ensures.value h) (omega arith))
    (says_of _ c.backups.result c.in_err-next.field-0.0 _ c.backups.ensures c.in_err-next.was)))

pub loop-done-preserved : goal.loop-done-preserved
loop-done-preserved c =
    let dir = c.args.query.dir in
    let m = c.args.query.model.now in
    let o = plain_objective c.args.query.objective in
    let old : Answer = answer c.loop-done.values.items c.loop-done.table.items in
    let next = row_of c.in_ok-next.next in
    record {
      made =
          in_turn-more (next_step dir m o) (Ok (no_steps m o)) c.loop-done.done (c.loop-done.done + 1) old (with_step old next) c.loop-done.invariant.made
          (step_made dir m o c.loop-done.done (c.loop-done.done + 1) c.deref.result.now old next (omega arith) c.deref.ensures.value (c.in_ok-next.ensures {u = tt})) (omega arith)
          ∙ ap (λ (t : List (List ℕ)). let r : Result Answer Place = Ok (record { values = c.in_ok-next.next.values.items; steps = t }) in r)
          (sym (ap (λ (t : List (Vec ℕ Global)). map (λ choices. choices.items) (reverse t)) (c.in_ok-push.ensures {u = tt}).items ∙ one_more c.loop-done.table.items c.in_ok-next.next.choices));
      one_each = backups-length dir m o (c.loop-done.done + 1) c.deref.result.now next (c.in_ok-next.ensures {u = tt});
    }
