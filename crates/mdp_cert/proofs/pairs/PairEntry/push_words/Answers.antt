use Rattle.std.proofs.Common.{◌≡◌, ◌++◌, List, ℕ, OnOk, sym, subst}
use Rattle.mdp_text.proofs.{Joined.{join-front}}
use Rattle.mdp_cert.proofs.Written.{three-parts}
use Rattle.mdp_cert.proofs.pairs.PairEntry.push_words.Goals as goal

pub returns-clause-text : goal.returns-clause-text
returns-clause-text g c =
    let x = c.args.self.now in
    subst (λ (t : List ℕ). OnOk c.push_words.result (c.push_words.new.out.items ≡ c.args.out.now.items ++ t))
    (sym (join-front (g.V.Value.value.spell x.first) (g.E.Entry.columns.words x.others) c.push_words.ensures.some))
    (three-parts _ _ _ _ _ _ _ _ c.in_ok-push_word.ensures.text c.in_ok-push_parts.ensures.text c.push_words.ensures.text)
