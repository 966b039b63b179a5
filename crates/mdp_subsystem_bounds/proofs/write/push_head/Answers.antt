use Rattle.std.proofs.Common.{◌≡◌, ℕ, ◌++◌, length, subst, rules}
use Rattle.mdp_text.specs.Spelling.{line, states_text}
use Rattle.mdp_cert.specs.BoundsSpelling.{version_text}
use Rattle.mdp_cert.proofs.Written.{two-parts, three-parts}
use Rattle.mdp_subsystem_bounds.proofs.write.push_head.Goals as goal

pub returns-clause-text : goal.returns-clause-text
returns-clause-text c =
    let len : c.len.result ≡ length c.args.cert.now.lists.bounds.lower.items = search rules in
    let first : c.push_parts.new.out.items ≡ c.args.out.now.items ++ line version_text = c.in_ok-push_parts.ensures.text in
    let number : c.push_number.new.out.items ≡ c.push_claim.new.out.items ++ line (states_text (length c.args.cert.now.lists.bounds.lower.items)) =
    subst (λ (n : ℕ). c.push_number.new.out.items ≡ c.push_claim.new.out.items ++ line (states_text n)) len c.in_ok-push_number.ensures.text in
    two-parts _ _ _ _ (line version_text) _ first (three-parts _ _ _ _ _ _ _ _ c.in_ok-push_claim.ensures.text number c.push_init.ensures.text)
