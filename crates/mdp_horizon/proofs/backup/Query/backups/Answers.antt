use Rattle.std.proofs.{Common.{◌≡◌, ℕ, Ok, Result, ap, subst, arith}, lemmas.Result.{err_from_is_err_and}}
use Rattle.mdp_math.specs.Result.{◌>>=◌}
use Rattle.mdp_spec.specs.Mdp.{states_of}
use Rattle.mdp_horizon.specs.{Choices.{Best}, Written.{Place, Row, in_turn, backup, next_state, no_states, with_state}, Code.{plain_objective}, Answer.{row_of}}
use Rattle.mdp_horizon.proofs.Turns.{in_turn-refused, says_of, says_then, says_same, answers_err}
use Rattle.mdp_horizon.proofs.backup.Query.backups.Goals as goal

pub returns-in_err-leader : goal.returns-in_err-leader
returns-in_err-leader c =
    let m = c.args.self.model.now in
    let f = next_state c.args.self.dir m (plain_objective c.args.self.objective) c.args.depth c.args.values.now in
    let e = err_from_is_err_and c.from_residual.result c.from_residual.ensures.1 in
    answers_err _ c.from_residual.result e.0 _ e.1
    (says_same e.0 c.in_err-leader.field-0.0 _ e.2
    (says_then c.in_err-leader.field-0.0 (backup c.args.self.dir m (plain_objective c.args.self.objective) c.args.depth c.args.values.now c.loop-s.s) _
    (λ w h. in_turn-refused f (Ok no_states) c.loop-s.s (states_of m) (row_of c.loop-s.made) w c.loop-s.invariant
    (ap (λ (r : Result Best Place). let q : Result Row Place = r >>= (λ x. Ok (with_state (row_of c.loop-s.made) x)) in q) h) (omega arith))
    (says_of _ c.backup.result c.in_err-leader.field-0.0 _ c.backup.ensures c.in_err-leader.was)))

pub returns : goal.returns
returns c =
    let m = c.args.self.model.now in
    let f = next_state c.args.self.dir m (plain_objective c.args.self.objective) c.args.depth c.args.values.now in
    let e : c.loop-s.s ≡ states_of m = omega arith in
    subst (λ (n : ℕ). in_turn f (Ok no_states) n ≡ Ok (row_of c.loop-s.made)) e c.loop-s.invariant
