-- What the search knows at each of its steps.
use Rattle.std.specs.{Prelude.{◌≡◌, ℕ, Bool, List, length, replicate}, List.{All}}
use Rattle.mdp_math.specs.Rational.{ℚ, ◌≤ℚ◌, ◌<ℚ◌}
use Rattle.mdp_spec.specs.Mdp.{Mdp, states_of, value_at}
use Rattle.mdp_rows.specs.{declared.dir.Dir.{Dir}, declared.dir.Dir.TheVariants.{Min}}
use Rattle.mdp_claims.specs.declared.bounds.ReachBoundsCert.{ReachBoundsCert}
use Rattle.mdp_bounds.specs.Reach.{IsReachBounds}
use Rattle.mdp_farkas.specs.Compare.{1ℚ}
use Rattle.mdp_subsystem_search.specs.Shown.{named, LieBetween, IsBelow}
use Rattle.mdp_subsystem_search.specs.declared.standing.Standing.{Standing}
use Rattle.mdp_subsystem_search.specs.declared.standing.Standing.TheVariants.{Reaches, Below, Between}

-- one of each for each of n states
pub record HasSizes (n : ℕ) (cert : ReachBoundsCert) : Type 0 where
  pub lower : length cert.lower.items ≡ n
  pub upper : length cert.upper.items ≡ n
  pub choices : length cert.choices.items ≡ n
  pub ranks : length cert.ranks.items ≡ n

-- the rules say yes to a certificate
abbrev pub AreHeld : Dir → Mdp → List Bool → ReachBoundsCert → Type 0
AreHeld dir m goals cert = IsReachBounds dir m goals cert.lower.items cert.upper.items cert.choices.items cert.ranks.items

-- upper values of 1, and for the least probability no choice named
pub record IsOneSided (dir : Dir) (n : ℕ) (cert : ReachBoundsCert) : Type 0 where
  pub sizes : HasSizes n cert
  pub ones : cert.upper.items ≡ replicate n 1ℚ
  pub choices_of_least : dir ≡ Min → All (λ c. c ≡ 0) cert.choices.items

-- the lower values, choices and ranks of a certificate for n states, with such upper values and choices
pub record IsLowerSide (dir : Dir) (n : ℕ) (cert side : ReachBoundsCert) : Type 0 where
  pub lower : side.lower.items ≡ cert.lower.items
  pub upper : side.upper.items ≡ replicate n 1ℚ
  pub choices : side.choices.items ≡ named dir n cert.choices.items
  pub ranks : side.ranks.items ≡ cert.ranks.items

module _ (dir : Dir) (sub : Mdp) (goals : List Bool) (start : ℕ) (threshold : ℚ) where
  -- a certificate by which the best probability of a model, as that of the kept states, is at least the threshold
  pub record IsReaching (cert : ReachBoundsCert) : Type 0 where
    pub sided : IsOneSided dir (states_of sub) cert
    pub rules : AreHeld dir sub goals cert
    pub reached : threshold ≤ℚ value_at cert.lower.items start

  -- an upper value of it is below the threshold
  pub record IsShort : Type 0 where
    pub lower : List ℚ
    pub upper : List ℚ
    pub policy : List ℕ
    pub between : LieBetween dir sub goals lower upper policy
    pub short : value_at upper start <ℚ threshold

  -- the threshold lies between a lower and an upper value of it
  pub record IsOpen (low high : ℚ) : Type 0 where
    pub lower : List ℚ
    pub upper : List ℚ
    pub policy : List ℕ
    pub between : LieBetween dir sub goals lower upper policy
    pub lowest : low ≡ value_at lower start
    pub highest : high ≡ value_at upper start
    pub under : low <ℚ threshold
    pub over : threshold ≤ℚ high

  -- how the whole model stands to the threshold
  abbrev pub StandsSo : Standing → Type 0
  StandsSo (Reaches cert) = IsReaching cert
  StandsSo (Below v) = IsBelow dir sub goals start threshold v
  StandsSo (Between low high) = IsOpen low high
