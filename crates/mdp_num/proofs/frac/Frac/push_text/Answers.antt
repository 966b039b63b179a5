use Rattle.std.proofs.Common.{ℕ, List, ◌++◌, ◌∷◌, [], ap, ◌∙◌}
use Rattle.mdp_num.proofs.Values.{spelling_whole, spelling_fraction, joined}
use Rattle.mdp_num.proofs.frac.Frac.push_text.Goals as goal

pub returns-then-self-eq1 : goal.returns-then-self-eq1
returns-then-self-eq1 c =
    c.in_ok-extend_from_slice.ensures.items
    ∙ ap (λ (t : List ℕ). c.args.out.now.items ++ t) (c.as_bytes-num.ensures.value ∙ c.format.ensures.text ∙ spelling_whole _ _ c.self.view_is c.self.invariant c.if-self-eq1.true)

pub returns : goal.returns
returns c =
    let num = c.as_bytes-num.ensures.value ∙ c.format.ensures.text in
    let den = c.as_bytes-den.ensures.value ∙ c.format-2.ensures.text in
    c.in_ok-extend_from_slice-4.ensures.items
    ∙ ap (λ (t : List ℕ). t ++ c.as_bytes-den.result.now) (c.in_ok-extend_from_slice-3.ensures.items
    ∙ ap (λ (t : List ℕ). t ++ 47 ∷ []) (c.in_ok-extend_from_slice-2.ensures.items ∙ ap (λ (t : List ℕ). t ++ c.as_bytes-num.result.now) c.in_ok-reserve.ensures.items))
    ∙ joined c.args.out.now.items c.as_bytes-num.result.now c.as_bytes-den.result.now _ _ _ num den (spelling_fraction _ _ c.self.view_is c.self.invariant c.if-self-eq1.false)
