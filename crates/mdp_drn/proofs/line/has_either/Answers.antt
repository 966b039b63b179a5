use Rattle.std.proofs.Common.{◌==◌, ◌||◌, Bool, sym, ap, ◌∙◌}
use Rattle.std.specs.List.{list_any}
use Rattle.mdp_drn.proofs.LinesRead.Listing.{list_any_either}
use Rattle.mdp_drn.proofs.line.has_either.Goals as goal

pub returns-else-contains : goal.returns-else-contains
returns-else-contains c =
    let bytes = c.args.bytes.now in
    let other = c.args.other in
    c.contains-else-contains.ensures.value
    ∙ sym (list_any_either (λ x. x == c.args.one) (λ x. x == other) bytes
    ∙ ap (λ (b : Bool). b || list_any (λ x. x == other) bytes) (sym c.contains.ensures.value ∙ c.if-contains.false))
