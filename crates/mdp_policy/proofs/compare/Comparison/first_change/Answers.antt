use Rattle.std.proofs.{Common.{◌∙◌, ℕ, Option, None, Result, Ok, sym, ap, arith}, lemmas.Result.{err_from_is_err_and}}
use Rattle.mdp_math.specs.Result.{◌>>=◌}
use Rattle.mdp_spec.specs.Mdp.{states_of}
use Rattle.mdp_policy_iteration.specs.Places.{Place}
use Rattle.mdp_policy.specs.{Written.{taken_at, change_at, next_state}, declared.value.Change.{Change}}
use Rattle.mdp_policy_iteration.proofs.Answering.{says_of, Says-then, says_same, answers_err}
use Rattle.mdp_horizon.proofs.Turns.{in_turn-refused}
use Rattle.mdp_policy.proofs.Choosing.{found_first}
use Rattle.mdp_policy.proofs.compare.Comparison.first_change.Goals as goal

pub returns-in_err-taken : goal.returns-in_err-taken
returns-in_err-taken c =
    let self = c.args.self in
    let e = err_from_is_err_and c.from_residual.result c.from_residual.ensures.1 in
    answers_err _ c.from_residual.result e.0 _ e.1
    (says_same e.0 c.in_err-taken.field-0.0 _ e.2
    (Says-then c.in_err-taken.field-0.0 (taken_at self.dir self.model.now self.goals.now self.values.now c.loop-s.s) _
    (λ w h. in_turn-refused (next_state self.dir self.model.now self.goals.now self.values.now) (Ok None) c.loop-s.s (states_of self.model.now) None w c.loop-s.invariant
    (ap (λ (r : Result (Option ℕ) Place). let q : Result (Option Change) Place = r >>= (λ choice. Ok (change_at c.loop-s.s choice)) in q) h) (omega arith))
    (says_of _ c.taken.result c.in_err-taken.field-0.0 _ c.taken.ensures c.in_err-taken.was)))

pub returns-then-is_some : goal.returns-then-is_some
returns-then-is_some c =
    let self = c.args.self in
    found_first self.dir self.model.now self.goals.now self.values.now c.loop-s.s (states_of self.model.now) _ _ c.loop-s.invariant (c.in_ok-taken.ensures {u = tt}) c.change_at-change.ensures
    (sym c.is_some.ensures ∙ c.if-is_some.true) (omega arith)
