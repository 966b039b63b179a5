use Rattle.std.proofs.Common.{◌≡◌, ◌∙◌, ◌++◌, ℕ, List, append_assoc, refl, ap, ap₂, subst}
use Rattle.std.specs.Prelude.{OnOk}
use Rattle.mdp_spec.specs.{Mdp.{states_of}, Labels.{initial_of}}
use Rattle.mdp_text.specs.Spelling.{line, states_text, end_text}
use Rattle.mdp_text.proofs.Fronts.{keeps_more}
use Rattle.mdp_horizon.specs.{Spelling.{step_lines}, Answer.{lists}, BoundsSpelling.{init_text, state_lines}, BoundsAnswer.{plain}}
use Rattle.mdp_horizon.proofs.bounds_write.push_lines.Goals as goal

pub returns-in_err-push_init-clause-front : goal.returns-in_err-push_init-clause-front
returns-in_err-push_init-clause-front c = keeps_more _ _ _ c.push_number.ensures.front c.push_init.ensures.front

pub returns-in_err-push_states-clause-front : goal.returns-in_err-push_states-clause-front
returns-in_err-push_states-clause-front c = keeps_more _ _ _ (keeps_more _ _ _ c.push_number.ensures.front c.push_init.ensures.front) c.push_states.ensures.front

pub returns-in_err-push_steps-clause-front : goal.returns-in_err-push_steps-clause-front
returns-in_err-push_steps-clause-front c =
    keeps_more _ _ _ (keeps_more _ _ _ c.push_number.ensures.front c.push_init.ensures.front) (keeps_more _ _ _ c.push_states.ensures.front c.push_steps.ensures.front)

pub returns-clause-front : goal.returns-clause-front
returns-clause-front c =
    keeps_more _ _ _ (keeps_more _ _ _ c.push_number.ensures.front c.push_init.ensures.front)
    (keeps_more _ _ _ (keeps_more _ _ _ c.push_states.ensures.front c.push_steps.ensures.front) c.push_end.ensures.front)

-- one part more, before the others
before : (old a x b z : List ℕ) → x ≡ old ++ a → z ≡ x ++ b → z ≡ old ++ (a ++ b)
before old a x b z first rest = rest ∙ ap (λ (t : List ℕ). t ++ b) first ∙ append_assoc old a b

pub returns-clause-text : goal.returns-clause-text
returns-clause-text c =
    let number = (c.in_ok-push_number.ensures {u = tt}).text ∙ ap (λ (n : ℕ). c.args.out.now.items ++ line (states_text n)) (c.from.ensures ∙ c.states.ensures) in
    let init = (c.in_ok-push_init.ensures {u = tt}).text
    ∙ ap₂ (λ l u. c.push_number.new.out.items ++ line (init_text (initial_of c.args.model.now) l u)) c.deref.ensures.value c.deref-2.ensures.value in
    let states = (c.in_ok-push_states.ensures {u = tt}).text ∙ ap₂ (λ l u. c.push_init.new.out.items ++ state_lines 0 l u) c.deref-3.ensures.value c.deref-4.ensures.value in
    let steps = (c.in_ok-push_steps.ensures {u = tt}).text ∙ ap (λ t. c.push_states.new.out.items ++ step_lines (lists t)) c.deref-5.ensures.value in
    let b = plain c.args.bounds.now in
    let m = c.args.model.now in
    let end = line end_text in
    let all = c.push_steps.new.out.items ++ end in
    let by_steps = before c.push_states.new.out.items (step_lines b.steps) c.push_steps.new.out.items end all steps refl in
    let by_states = before c.push_init.new.out.items (state_lines 0 b.lower b.upper) c.push_states.new.out.items (step_lines b.steps ++ end) all states by_steps in
    let by_init = before c.push_number.new.out.items (line (init_text (initial_of m) b.lower b.upper)) c.push_init.new.out.items
    (state_lines 0 b.lower b.upper ++ (step_lines b.steps ++ end)) all init by_states in
    subst (λ (t : List ℕ). OnOk c.push_end.result (c.push_end.new.out.items ≡ t))
    (before c.args.out.now.items (line (states_text (states_of m))) c.push_number.new.out.items
    (line (init_text (initial_of m) b.lower b.upper) ++ (state_lines 0 b.lower b.upper ++ (step_lines b.steps ++ end))) all number by_init) c.push_end.ensures.text
