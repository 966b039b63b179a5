use Rattle.std.proofs.Common.{◌≡◌, ℕ, ◌-◌, ◌*◌, inl, inr, IfNone, subst, arith}
use Rattle.std.proofs.lemmas.Bool.{cases_lt}
use Rattle.mdp_search_bounds.specs.Tried.{IsVain}
use Rattle.mdp_search_bounds.proofs.ladder.held_with_fewer.Goals as goal

pub loop-k-preserved : goal.loop-k-preserved
loop-k-preserved g c = λ j l.
    let Vain : ℕ → Type 0 = λ digits. IsVain (g.S.Search.is_proposed c.args.search.now) (g.S.Search.is_held c.args.search.now) digits in
    let now : Vain (12 - 3 * c.loop-k.k) = subst (λ found. IfNone found (Vain (12 - 3 * c.loop-k.k))) c.in_default.is c.in_ok-cert.ensures.none in
    elim (cases_lt j c.loop-k.k) [
      | inl below ↦ c.loop-k.invariant j below
      | inr past ↦ let same : c.loop-k.k ≡ j = omega (arith, l, past) in subst (λ (k : ℕ). Vain (12 - 3 * k)) same now
    ]
