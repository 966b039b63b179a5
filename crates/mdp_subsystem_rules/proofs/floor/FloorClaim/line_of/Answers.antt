use Rattle.std.proofs.{Common.{◌≡◌, ℕ, ◌<◌, false, length, get_or, subst, sym}, lemmas.List.Sorted.{searched}}
use Rattle.std.specs.Prelude.{Option, MatchOption}
use Rattle.mdp_subsystem_rules.specs.Kept.{is_listed}
use Rattle.mdp_subsystem_rules.proofs.Kept.{ascends-le, place_of_search}
use Rattle.mdp_subsystem_rules.proofs.floor.FloorClaim.line_of.Goals as goal

pub returns : goal.returns
returns c =
    let kept = c.args.self.cert.now.kept.items in
    let s = c.args.s in
    let found = rw c.deref.ensures.value at c.binary_search.ensures.position in
    subst (λ (o : Option ℕ). MatchOption o (is_listed kept s ≡ false) (λ i. (i < length kept) × (get_or kept i 0 ≡ s))) (sym c.ok.ensures.value)
    (place_of_search kept s c.binary_search.result (searched kept s c.binary_search.result found (ascends-le kept c.args.self.shape.kept_ascends)))
