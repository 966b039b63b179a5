use Rattle.std.proofs.Common.{◌≡◌, ℕ, ◌-◌, ◌++◌, Bool, true, false, cond, eqb, List, [], ◌∷◌, ◌+◌, decimal, OnOk, ap, subst, append_assoc}
use Rattle.std.specs.Prelude.{codes}
use Rattle.mdp_text.specs.Spelling.{line, ◌␣◌}
use Rattle.mdp_text.proofs.Fronts.{keeps_more}
use Rattle.mdp_cert.specs.{Runs.{Columns, run}, Spelling.{entry_text, run_text, states_front}}
use Rattle.mdp_cert.proofs.Written.{three-parts}
use Rattle.mdp_cert.proofs.push.push_run.Goals as goal

-- what stands before the words, the words and the line's end are the line
spelled : {A : Type 0} (k : Columns A) (first more : ℕ) (x : A) → states_front first more ++ (entry_text k x ++ 10 ∷ []) ≡ line (run_text k first (run x more))
unfolding run_text
spelled k first more x = by (eqb more 0)
  where
    by : (b : Bool) → cond b (codes "state" ␣ decimal first ␣ []) (codes "run" ␣ decimal first ␣ decimal (first + more) ␣ []) ++ (entry_text k x ++ 10 ∷ []) ≡ line
        (cond b (codes "state" ␣ decimal first ␣ entry_text k x) (codes "run" ␣ decimal first ␣ decimal (first + more) ␣ entry_text k x))
    by true = simp append_assoc
    by false = simp append_assoc

pub returns-clause-text : goal.returns-clause-text
returns-clause-text g c =
    subst (λ (t : List ℕ). OnOk c.push_parts.result (c.push_parts.new.out.items ≡ t))
    (ap (λ (t : List ℕ). c.args.out.now.items ++ t) (spelled g.E.Entry.columns c.args.first (c.args.last - c.args.first) c.args.entry.now))
    (three-parts _ _ _ _ _ _ _ _ c.in_ok-push_states.ensures.text c.in_ok-push_words.ensures.text c.push_parts.ensures.text)

pub returns-in_err-push_words-clause-front : goal.returns-in_err-push_words-clause-front
returns-in_err-push_words-clause-front g c = keeps_more _ _ _ c.in_ok-push_states.ensures.front c.push_words.ensures.front

pub returns-clause-front : goal.returns-clause-front
returns-clause-front g c = keeps_more _ _ _ (keeps_more _ _ _ c.in_ok-push_states.ensures.front c.in_ok-push_words.ensures.front) c.push_parts.ensures.front
