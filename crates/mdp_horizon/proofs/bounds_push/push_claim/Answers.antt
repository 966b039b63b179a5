use Rattle.std.proofs.Common.{◌≡◌, ◌∙◌, ◌++◌, List, ℕ, decimal, append_assoc, ap, sym, subst}
use Rattle.std.specs.Prelude.{codes, OnOk}
use Rattle.mdp_rows.specs.declared.dir.Dir.{Dir}
use Rattle.mdp_text.specs.Spelling.{line, dir_text}
use Rattle.mdp_horizon.specs.{BoundsSpelling.{version_text, claim_text, plain_claim}, BoundsSpelling.PlainClaim.{until}, declared.claim.Claim.{Claim}}
use Rattle.mdp_horizon.proofs.bounds_push.push_claim.Goals as goal

until_line : (dir : Dir) (front stay label : List ℕ) (steps : ℕ) → front ≡ line version_text ++ (codes "claim " ++ (dir_text dir ++ codes " "))
    → front ++ (codes "until \"" ++ (stay ++ (codes "\" \"" ++ (label ++ (codes "\" " ++ (decimal steps ++ codes "\n")))))) ≡ line version_text ++ line (claim_text dir (until stay label) steps)
until_line dir front stay label steps e =
    ap (λ (f : List ℕ). f ++ (codes "until \"" ++ (stay ++ (codes "\" \"" ++ (label ++ (codes "\" " ++ (decimal steps ++ codes "\n"))))))) e ∙ simp append_assoc

pub returns-in-Until-clause-text : goal.returns-in-Until-clause-text
returns-in-Until-clause-text c =
    subst (λ (t : List ℕ). OnOk c.push_parts.result (c.push_parts.new.out.items ≡ c.args.out.now.items ++ t))
    (until_line c.args.dir c.front_of.result.now c.in-Until.stay.now c.in-Until.label.now c.args.steps c.front_of.ensures
    ∙ ap (λ (claim : Claim). line version_text ++ line (claim_text c.args.dir (plain_claim claim) c.args.steps)) (sym c.in-Until.is)) c.push_parts.ensures.text
