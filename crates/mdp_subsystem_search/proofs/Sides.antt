-- The sides of bounds, and what is said in either direction.
use Rattle.std.proofs.Common.{◌≡◌, ℕ, Bool, List, refl, sym, subst, replicate}
use Rattle.mdp_math.specs.Rational.{ℚ, ◌≤ℚ◌}
use Rattle.mdp_spec.specs.{Mdp.{Mdp, value_at}, Between.{ReachMaxBetween, ReachMinBetween}}
use Rattle.mdp_rows.specs.{declared.dir.Dir.{Dir}, declared.dir.Dir.TheVariants.{Max, Min}}
use Rattle.mdp_claims.specs.declared.bounds.ReachBoundsCert.{ReachBoundsCert}
use Rattle.mdp_bounds.specs.Reach.{IsReachBounds}
use Rattle.mdp_farkas.specs.Compare.{1ℚ}
use Rattle.mdp_subsystem_search.specs.{Shown.{named, LieBetween}, Steps.{AreHeld, IsLowerSide}}

pub lie_between : (dir : Dir) (m : Mdp) (goals : List Bool) (lower upper : List ℚ) (policy : List ℕ) → (dir ≡ Max → ReachMaxBetween m goals lower upper policy)
    → (dir ≡ Min → ReachMinBetween m goals lower upper policy) → LieBetween dir m goals lower upper policy
lie_between Max m goals lower upper policy max min = max refl
lie_between Min m goals lower upper policy max min = min refl

-- where the rules say yes to lower values with ones and such choices, they say so of a certificate that has these
pub held_of_side : (dir : Dir) (m : Mdp) (goals : List Bool) (n : ℕ) (cert side : ReachBoundsCert) → IsLowerSide dir n cert side
    → IsReachBounds dir m goals cert.lower.items (replicate n 1ℚ) (named dir n cert.choices.items) cert.ranks.items → AreHeld dir m goals side
held_of_side dir m goals n cert side is rules =
    subst (λ (z : List ℚ). IsReachBounds dir m goals z side.upper.items side.choices.items side.ranks.items) (sym is.lower)
    (subst (λ (z : List ℚ). IsReachBounds dir m goals cert.lower.items z side.choices.items side.ranks.items) (sym is.upper)
    (subst (λ (p : List ℕ). IsReachBounds dir m goals cert.lower.items (replicate n 1ℚ) p side.ranks.items) (sym is.choices)
    (subst (λ (p : List ℕ). IsReachBounds dir m goals cert.lower.items (replicate n 1ℚ) (named dir n cert.choices.items) p) (sym is.ranks) rules)))

pub at_start : (dir : Dir) (n : ℕ) (cert side : ReachBoundsCert) (start : ℕ) (threshold : ℚ) → IsLowerSide dir n cert side → threshold ≤ℚ value_at cert.lower.items start
    → threshold ≤ℚ value_at side.lower.items start
at_start dir n cert side start threshold is h = subst (λ (z : List ℚ). threshold ≤ℚ value_at z start) (sym is.lower) h
