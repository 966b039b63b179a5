use Rattle.std.proofs.Common.{◌≡◌, ◌++◌, List, ℕ, ◌∙◌, ap, append_assoc}
use Rattle.mdp_math.specs.Rational.{ℚ}
use Rattle.mdp_text.specs.Spelling.{value_lines}
use Rattle.mdp_policy.specs.Spelling.{value_text}
use Rattle.mdp_policy.proofs.write.push_lines.Goals as goal

-- four texts, one after the other
joined : (a b c d e p q r s : List ℕ) → b ≡ a ++ p → c ≡ b ++ q → d ≡ c ++ r → e ≡ d ++ s → e ≡ a ++ (p ++ (q ++ (r ++ s)))
joined a b c d e p q r s t u v w = w ∙ ap (λ (x : List ℕ). x ++ s) (v ∙ ap (λ (x : List ℕ). x ++ r) (u ∙ ap (λ (x : List ℕ). x ++ q) t)) ∙ simp append_assoc

pub returns-clause-text : goal.returns-clause-text
unfolding value_text
returns-clause-text c =
    joined _ _ _ _ _ _ _ _ _ c.in_ok-push_head.ensures.text c.in_ok-push_changes.ensures.text
    (c.in_ok-push_values.ensures.text ∙ ap (λ (v : List ℚ). c.push_changes.new.out.items ++ value_lines 0 v) c.deref.ensures.value) c.in_ok-push_end.ensures.text
