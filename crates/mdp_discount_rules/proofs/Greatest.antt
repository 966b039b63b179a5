-- The written greatest magnitude of a list is its greatest magnitude.
use Rattle.std.proofs.Common.{◌≡◌, List, map, Some}
use Rattle.mdp_math.specs.{Rational.{ℚ}, Extremes.{greatest}}
use Rattle.mdp_farkas.proofs.Spreading.{greatest_told}
use Rattle.mdp_discount_rules.specs.{Rules.{magnitude}, Checks.{written_greatest}}

pub written_greatest-some : (v : List ℚ) (w : ℚ) → Some w ≡ written_greatest v → w ≡ greatest (map magnitude v)
written_greatest-some v w e = greatest_told (map magnitude v) w e
