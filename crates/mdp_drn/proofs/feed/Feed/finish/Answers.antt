use Rattle.std.proofs.Common.{◌≡◌, ℕ, List, Result, sym, subst}
use Rattle.mdp_spec.specs.Mdp.{Mdp}
use Rattle.mdp_drn.specs.{Outcome.{Refusal}, Ending.{ended}, Reading.{outcome}, DocumentView.{document_in}, Feeding.{Held, HasRead, Fails, Gives}}
use Rattle.mdp_drn.proofs.PiecesFed.FeedSteps.{end-refused, end-standing}
use Rattle.mdp_drn.proofs.feed.Feed.finish.Goals as goal

pub returns-in-Some-clause-read : goal.returns-in-Some-clause-read
returns-in-Some-clause-read c =
    let f = c.self.inside in
    subst (λ (held : Held). (bytes : List ℕ) → HasRead held bytes → Fails c.in-Some.refused (outcome held.rule bytes)) c.self.view_is
    (λ bytes at. end-refused f.document.rule (document_in f.document) f.tail.items f.refused bytes c.in-Some.refused c.in-Some.is at)

pub returns-in-None-clause-read : goal.returns-in-None-clause-read
returns-in-None-clause-read c =
    let f = c.self.inside in
    let rule = f.document.rule in
    let document = document_in f.document in
    let said = subst (λ (line : List ℕ). Gives (λ (x : Mdp) (y : Mdp). x ≡ y) c.end.result (ended rule document line)) c.deref.ensures.value c.end.ensures in
    subst (λ (held : Held). (bytes : List ℕ) → HasRead held bytes → Gives (λ (x : Mdp) (y : Mdp). x ≡ y) c.end.result (outcome held.rule bytes)) c.self.view_is
    (λ bytes at. subst (λ (due : Result Mdp Refusal). Gives (λ (x : Mdp) (y : Mdp). x ≡ y) c.end.result due)
    (sym (end-standing rule document f.tail.items f.refused bytes c.in-None.is at)) said)
