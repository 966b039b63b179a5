use Rattle.std.proofs.Common.{◌≡◌, ◌++◌, ℕ, List, Some, OnOk, subst, ap, ◌∙◌, append_assoc}
use Rattle.mdp_math.specs.Rational.{ℚ}
use Rattle.mdp_spec.specs.{Mdp.{states_of, value_at}, Labels.{initial_of}}
use Rattle.mdp_text.specs.{declared.init.Init.{Init}, Heads.{init_by}, Spelling.{line, states_text, init_text}}
use Rattle.mdp_policy.proofs.write.push_head.Goals as goal

-- four texts, one after the other
joined : (o v q n a b c d e : List ℕ) → v ≡ o ++ a → q ≡ v ++ b → n ≡ q ++ c → d ≡ e → n ++ d ≡ o ++ (a ++ (b ++ (c ++ e)))
joined o v q n a b c d e r s t u = rw (t, s, r, u) (simp append_assoc)

pub returns-clause-text : goal.returns-clause-text
returns-clause-text c =
    let m = c.args.model.now in
    let states : c.from.result ≡ states_of m = c.from.ensures ∙ c.states.ensures in
    let start = c.init_with.ensures ∙ ap (λ (v : List ℚ). init_by (initial_of m) (λ s. Some (value_at v s))) c.deref.ensures.value in
    subst (λ (t : List ℕ). OnOk c.push_init.result (c.push_init.new.out.items ≡ t))
    (joined _ _ _ _ _ _ _ _ _ c.in_ok-push_version.ensures.text c.in_ok-push_query.ensures.text
    (c.in_ok-push_number.ensures.text ∙ ap (λ (k : ℕ). c.push_query.new.out.items ++ line (states_text k)) states) (ap (λ (i : Init). line (init_text i)) start)) c.push_init.ensures.text
