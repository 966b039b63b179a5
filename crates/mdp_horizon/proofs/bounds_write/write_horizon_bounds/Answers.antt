use Rattle.std.proofs.{Common.{◌≡◌, ◌∙◌, ◌++◌, List, ℕ, length, Ok, Err, Result, append_assoc, ap, sym, subst, arith}, lemmas.List.{length-map}}
use Rattle.std.specs.Prelude.{OnOk, vec_len}
use Rattle.mdp_num.specs.declared.errors.Memory.{Memory}
use Rattle.mdp_spec.specs.{Mdp.{states_of}, Labels.{initial_of}}
use Rattle.mdp_text.specs.Spelling.{line, states_text, end_text}
use Rattle.mdp_horizon.specs.{Spelling.{step_lines}, BoundsAnswer.{plain}}
use Rattle.mdp_horizon.specs.BoundsSpelling.{version_text, claim_text, init_text, state_lines, bounds_text, plain_claim}
use Rattle.mdp_horizon.proofs.bounds_write.write_horizon_bounds.Goals as goal

-- what is appended behind the claim is appended to the whole text
whole : (r : Result (Unit {0}) Memory) (old mid new out v c s i rest : List ℕ) → mid ≡ old ++ (v ++ c) → OnOk r (new ≡ mid ++ (s ++ (i ++ rest))) → OnOk r (out ≡ new)
    → OnOk r (out ≡ old ++ ((v ++ (c ++ (s ++ i))) ++ rest))
whole (Ok u) old mid new out v c s i rest p q e = e ∙ q ∙ ap (λ (t : List ℕ). t ++ (s ++ (i ++ rest))) p ∙ simp append_assoc
whole (Err e) old mid new out v c s i rest p q k = tt

same_end : (P : Type 0) (r s : Result (Unit {0}) Memory) → r ≡ s → OnOk s P → OnOk r P
same_end P r s e h = subst (λ (x : Result (Unit {0}) Memory). OnOk x P) (sym e) h

pub returns-clause-text : goal.returns-clause-text
unfolding bounds_text
returns-clause-text c =
    let m = c.args.model.now in
    let b = plain c.args.bounds.now in
    let claim = c.in_ok-push_claim.ensures {u = tt} in
    let all = c.args.bounds.now.steps.items in
    let counted : vec_len c.args.bounds.now.steps ≡ length all = omega (arith, c.args.bounds.now.steps.ok.0) in
    same_end _ c.or_cut_back.result c.push_lines-answer.result c.or_cut_back.ensures.same
    (whole c.push_lines-answer.result c.args.out.now.items c.push_claim.new.out.items c.push_lines-answer.new.out.items c.or_cut_back.new.out.items (line version_text)
    (line (claim_text c.args.dir (plain_claim c.args.claim) (length b.steps))) (line (states_text (states_of m))) (line (init_text (initial_of m) b.lower b.upper))
    (state_lines 0 b.lower b.upper ++ (step_lines b.steps ++ line end_text))
    (claim.text ∙ ap (λ (n : ℕ). c.args.out.now.items ++ (line version_text ++ line (claim_text c.args.dir (plain_claim c.args.claim) n))) (c.len.ensures ∙ counted ∙ sym (length-map all _)))
    c.push_lines-answer.ensures.text c.or_cut_back.ensures.kept)
