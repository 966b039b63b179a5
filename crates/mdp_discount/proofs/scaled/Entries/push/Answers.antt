use Rattle.std.proofs.Common.{◌∙◌, ◌++◌, List, sym, ap, ap₂}
use Rattle.mdp_spec.specs.{Mdp.{Entry}, Row.{entries}}
use Rattle.mdp_discount.proofs.Products.{entries-more, kept-one}
use Rattle.mdp_discount.proofs.scaled.Entries.push.Goals as goal

pub returns-in_ok-push-2-clause-entries : goal.returns-in_ok-push-2-clause-entries
returns-in_ok-push-2-clause-entries c =
    let ts = c.args.self.now.targets.items in
    let ps = c.args.self.now.probs.items in
    ap₂ entries (c.in_ok-push.ensures {u = tt}).items (c.in_ok-push-2.ensures {u = tt}).items
    ∙ entries-more ts ps c.args.target c.args.prob c.requires
    ∙ ap (λ (es : List Entry). entries ts ps ++ es) (kept-one (record { target = c.args.target; prob = c.args.prob }) c.whole.result c.whole.ensures (sym c.ne.ensures ∙ c.if-ne.true))
