use Rattle.std.proofs.Common.{List, ℕ, [], ◌∷◌, ◌++◌, sym, ap, ◌∙◌, subst}
use Rattle.mdp_drn.specs.{Reading.{at_line}, Feeding.{Held, HasRead, Fails}, DocumentView.{document_in}}
use Rattle.mdp_drn.proofs.PiecesFed.FeedSteps.{refused-stays, line-taken, line-refused}
use Rattle.mdp_drn.proofs.feed.Feed.close_line.Goals as goal

pub returns-then-is_some-clause-fed : goal.returns-then-is_some-clause-fed
returns-then-is_some-clause-fed c =
    let f = c.self.inside in
    subst (λ (held : Held). (before : List ℕ) → HasRead held before → HasRead held (before ++ 10 ∷ [])) c.self.view_is
    (λ before at. refused-stays f.document.rule (document_in f.document) f.tail.items f.refused before (10 ∷ []) (sym c.is_some.ensures ∙ c.if-is_some.true) at)

pub returns-in-Ok-clause-fed : goal.returns-in-Ok-clause-fed
returns-in-Ok-clause-fed c =
    let f = c.self.inside in
    let rule = f.document.rule in
    let document = document_in f.document in
    λ before at. rw (c.clear.ensures.items, c.take_line.ensures.rule)
    (line-taken rule document f.tail.items f.refused before (document_in c.take_line.new.self) (sym c.is_some.ensures ∙ c.if-is_some.false)
    (subst (λ (held : Held). HasRead held before) (sym c.self.view_is) at) (ap (at_line rule document) (sym c.deref.ensures.value) ∙ c.in-Ok.ensures.taken))

pub returns-in-Err-clause-fed : goal.returns-in-Err-clause-fed
returns-in-Err-clause-fed c =
    let f = c.self.inside in
    let rule = f.document.rule in
    let document = document_in f.document in
    λ before at. rw c.take_line.ensures.rule
    (line-refused rule document f.tail.items f.refused before c.in-Err.refused (document_in c.take_line.new.self) f.tail.items (sym c.is_some.ensures ∙ c.if-is_some.false)
    (subst (λ (held : Held). HasRead held before) (sym c.self.view_is) at)
    (subst (λ (line : List ℕ). Fails c.in-Err.refused (at_line rule document line)) c.deref.ensures.value c.in-Err.ensures.taken))
