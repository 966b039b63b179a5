use Rattle.std.proofs.{Common.{◌≡◌, List, ℕ, ◌++◌, false, cond, Result, Ok, Err, refl, sym, ◌∙◌, subst, arith}, lemmas.Grind.{common_steps}}
use Rattle.std.specs.Result.{is_ok, is_err}
use Rattle.mdp_drn.specs.{Feeding.{Held, HasRead}, DocumentView.{document_in}}
use Rattle.mdp_drn.proofs.PiecesFed.FeedSteps.{refused-stays, long-tail, more-tail}
use Rattle.mdp_drn.proofs.feed.Feed.extend.Goals as goal

pub returns-then-is_some-clause-fed : goal.returns-then-is_some-clause-fed
returns-then-is_some-clause-fed c =
    let f = c.self.inside in
    subst (λ (held : Held). (before : List ℕ) → HasRead held before → HasRead held (before ++ c.args.bytes.now)) c.self.view_is
    (λ before at. refused-stays f.document.rule (document_in f.document) f.tail.items f.refused before c.args.bytes.now (sym c.is_some.ensures ∙ c.if-is_some.true) at)

pub returns-then-bytes-len-clause-fed : goal.returns-then-bytes-len-clause-fed
returns-then-bytes-len-clause-fed c =
    let f = c.self.inside in
    λ before at. long-tail f.document.rule (document_in f.document) f.tail.items f.refused before c.args.bytes.now c.next_line-line.result (sym c.is_some.ensures ∙ c.if-is_some.false)
    (subst (λ (held : Held). HasRead held before) (sym c.self.view_is) at) c.requires c.self.invariant.short (omega (arith, c.len.ensures)) c.next_line-line.ensures

if-ok : {T E A : Type 0} (r : Result T E) (x y : A) → is_err r ≡ false → cond (is_ok r) x y ≡ x
if-ok (Ok t) x y h = refl
if-ok (Err e) x y h = absurd cc

pub returns-else-is_err-clause-fed : goal.returns-else-is_err-clause-fed
returns-else-is_err-clause-fed c =
    let f = c.self.inside in
    λ before at. more-tail f.document.rule (document_in f.document) f.tail.items f.refused before c.args.bytes.now c.extend_from_slice.new.self.items (sym c.is_some.ensures ∙ c.if-is_some.false)
    (subst (λ (held : Held). HasRead held before) (sym c.self.view_is) at) c.requires c.self.invariant.short (omega (arith, c.len.ensures))
    (c.extend_from_slice.ensures.items ∙ if-ok {A = List ℕ} c.extend_from_slice.result _ _ (sym c.is_err.ensures.value ∙ c.if-is_err.false))

pub invariant_of-self-then-is_err : goal.invariant_of-self-then-is_err
invariant_of-self-then-is_err c = grind (arith, common_steps)

pub invariant_of-self-else-is_err : goal.invariant_of-self-else-is_err
invariant_of-self-else-is_err c = grind (arith, common_steps)
