use Rattle.std.proofs.{Common.{◌≡◌, Ok, refl, sym, ◌∙◌, inr}, lemmas.Result.{MatchResult-at_ok}}
use Rattle.mdp_elim.proofs.keeping.solve_state.Goals.{in-Some, in-None}
use Rattle.mdp_elim.proofs.keeping.solve_state.Goals as goal

pub returns-in-Ok : goal.returns-in-Ok
returns-in-Ok c =
    elim c.match-wide.branch [
      | in-Some w ↦
          let r : w.put_in-step.result ≡ Ok c.in-Ok.field-0 = sym w.step-is ∙ c.in-Ok.is in
          rw (w.solved-is, w.wide-is, w.in-Some.is) (refl, inr (refl, w.put_in-step.new.equation, MatchResult-at_ok _ _ _ r w.put_in-step.ensures.ok))
      | in-None w ↦
          let r : w.solve_row-step.result ≡ Ok c.in-Ok.field-0 = sym w.step-is ∙ c.in-Ok.is in
          rw (w.solved-is, w.wide-is, w.in-None.is) (MatchResult-at_ok _ _ _ r w.solve_row-step.ensures.ok)
    ]
