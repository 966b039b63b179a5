use Rattle.std.specs.List.{All}
use Rattle.std.proofs.Common.{◌<◌, ℕ, List, length, refl, sym, subst}
use Rattle.mdp_gain.proofs.solve.inner_of.Goals as goal

pub returns : goal.returns
returns c =
    rw ((c.in_ok-values_at.ensures {u = tt}), (c.in_ok-choices_at.ensures {u = tt}), c.deref.ensures.value, c.deref-2.ensures.value, c.deref-3.ensures.value, c.deref-4.ensures.value) refl

pub choices_at-requires : goal.choices_at-requires
choices_at-requires c =
    subst (λ (xs : List ℕ). All (λ s. s < length c.deref-4.result.now) xs) (sym c.deref-3.ensures.value)
    (subst (λ (xs : List ℕ). All (λ s. s < length xs) c.args.states.items) (sym c.deref-4.ensures.value) c.requires.policy)
