-- What a measured gap says of bounds.
use Rattle.std.specs.Prelude.{◌≡◌, ℕ, ◌+◌, ◌/◌, ◌≤◌, max, unsigned_abs}
use Rattle.mdp_math.specs.Rational.{ℚ}
use Rattle.mdp_search_bounds.specs.declared.gap.Gap.{Gap}

-- the whole part of the magnitude of x, 1 at least
abbrev pub whole_scale : ℚ → ℕ
whole_scale x = max (unsigned_abs x.num / x.den) 1

-- so many digits near: no value is missing, and with so many more no more than 30 are lacking
pub record ShowsNear (gap : Gap) (digits : ℕ) : Type 0 where
  pub none_missing : gap.missing ≡ 0
  pub few_lacking : gap.lacking + digits ≤ 30
