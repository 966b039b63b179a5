use Rattle.std.proofs.{Common.{◌≡◌, ℕ, ◌==◌, Bool, true, List, [], ◌∷◌, ◌++◌, length, sym, ◌∙◌, subst, append_assoc, arith}, lemmas.Bool.Decides.{nat_tests}}
use Rattle.mdp_drn.specs.{Feeding.{Held, HasRead}, DocumentView.{document_in}}
use Rattle.mdp_drn.proofs.PiecesFed.FeedSteps.{refused-stays, whole-taken, whole-refused}
use Rattle.mdp_drn.proofs.feed.Feed.take_line.Goals as goal

pub returns-then-not-is_empty-clause-fed : goal.returns-then-not-is_empty-clause-fed
returns-then-not-is_empty-clause-fed c =
    λ before at. subst (λ (bytes : List ℕ). HasRead c.close_line.new.self bytes) (append_assoc before c.args.bytes.now (10 ∷ []))
    (c.close_line.ensures.fed (before ++ c.args.bytes.now) (c.extend.ensures.fed before at))

pub returns-then-is_some-clause-fed : goal.returns-then-is_some-clause-fed
returns-then-is_some-clause-fed c =
    let f = c.self.inside in
    subst (λ (held : Held). (before : List ℕ) → HasRead held before → HasRead held (before ++ (c.args.bytes.now ++ 10 ∷ []))) c.self.view_is
    (λ before at. refused-stays f.document.rule (document_in f.document) f.tail.items f.refused before (c.args.bytes.now ++ 10 ∷ []) (sym c.is_some.ensures ∙ c.if-is_some.true) at)

nothing : (n : ℕ) (xs : List ℕ) (b : Bool) → b ≡ (n == 0) → b ≡ true → n ≡ length xs → xs ≡ []
nothing n [] b is full same = cc
nothing n (x ∷ xs) b is full same = absurd (let z : n ≡ 0 = grind (arith, nat_tests) in omega (arith, z, same))

pub returns-in-Ok-clause-fed : goal.returns-in-Ok-clause-fed
returns-in-Ok-clause-fed c =
    let f = c.self.inside in
    let rule = f.document.rule in
    let document = document_in f.document in
    λ before at. rw c.take_line.ensures.rule
    (whole-taken rule document f.tail.items f.refused before c.args.bytes.now (document_in c.take_line.new.self) (sym c.is_some.ensures ∙ c.if-is_some.false)
    (subst (λ (held : Held). HasRead held before) (sym c.self.view_is) at) c.requires
    (nothing f.tail.len f.tail.items c.is_empty.result c.is_empty.ensures c.if-not-is_empty.false f.tail.ok.0) c.in-Ok.ensures.taken)

pub returns-in-Err-clause-fed : goal.returns-in-Err-clause-fed
returns-in-Err-clause-fed c =
    let f = c.self.inside in
    let rule = f.document.rule in
    let document = document_in f.document in
    λ before at. rw c.take_line.ensures.rule
    (whole-refused rule document f.tail.items f.refused before c.args.bytes.now c.in-Err.refused (document_in c.take_line.new.self) f.tail.items
    (sym c.is_some.ensures ∙ c.if-is_some.false)
    (subst (λ (held : Held). HasRead held before) (sym c.self.view_is) at) c.requires
    (nothing f.tail.len f.tail.items c.is_empty.result c.is_empty.ensures c.if-not-is_empty.false f.tail.ok.0) c.in-Err.ensures.taken)
