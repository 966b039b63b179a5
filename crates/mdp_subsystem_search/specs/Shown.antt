-- What the search for a subsystem shows: that on the kept states the best probability is at least the threshold, which of them are needed, and why there is no
-- answer where there is none.
use Rattle.std.specs.Prelude.{◌≡◌, ◌⊎◌, ℕ, ◌<◌, Bool, true, List, replicate, Ok, Err}
use Rattle.mdp_math.specs.Rational.{ℚ, ◌≤ℚ◌, ◌<ℚ◌}
use Rattle.mdp_spec.specs.{Mdp.{Mdp, states_of, value_at}, Sub.{sub_of}, Tree.{is_marked}, Between.{ReachMaxBetween, ReachMinBetween}}
use Rattle.mdp_rows.specs.{declared.dir.Dir.{Dir}, declared.dir.Dir.TheVariants.{Max, Min}}
use Rattle.mdp_bounds.specs.Reach.{IsReachBounds}
use Rattle.mdp_farkas.specs.Compare.{1ℚ}
use Rattle.mdp_wide.specs.Term.{WideTerm}
use Rattle.mdp_reach.specs.Query as reach
use Rattle.mdp_witness.specs.Query as exact
use Rattle.mdp_witness.specs.Query.{PlainSubsystem, too_wide}
use Rattle.mdp_witness.specs.{Shown.{kept_in}, Trial.{without}}

-- 1 for each state
abbrev pub ones : Mdp → List ℚ
ones m = replicate (states_of m) 1ℚ

-- the choices of a certificate for n states: for the least probability no choice is named, each is 0
abbrev pub named : Dir → ℕ → List ℕ → List ℕ
named Max n choices = choices
named Min n choices = replicate n 0

-- the best probabilities of reaching a goal lie between two values, and those of the policy do
abbrev pub LieBetween : Dir → Mdp → List Bool → List ℚ → List ℚ → List ℕ → Type 0
LieBetween Max = ReachMaxBetween
LieBetween Min = ReachMinBetween

module _ (dir : Dir) (m : Mdp) (goals : List Bool) (start : ℕ) (threshold : ℚ) where
  -- without state s the best probability of the subsystem is below the threshold: some upper value of it is
  pub record IsNeeded (kept : List Bool) (s : ℕ) : Type 0 where
    pub lower : List ℚ
    pub upper : List ℚ
    pub policy : List ℕ
    pub between : LieBetween dir (sub_of m goals (without kept s)) goals lower upper policy
    pub short : value_at upper start <ℚ threshold

  -- each state of a set is kept, and needed
  abbrev pub AreNeeded : List Bool → List Bool → Type 0
  AreNeeded kept needed = (s : ℕ) → s < states_of m → is_marked needed s ≡ true → (is_marked kept s ≡ true) × IsNeeded kept s

  -- v is an upper value from the start, and below the threshold
  pub record IsBelow (v : ℚ) : Type 0 where
    pub lower : List ℚ
    pub upper : List ℚ
    pub policy : List ℕ
    pub between : LieBetween dir m goals lower upper policy
    pub value : v ≡ value_at upper start
    pub less : v <ℚ threshold

  -- the exact query of the subsystem ends with a term past width; or that of what it keeps does, or its answer isn't accepted as bounds
  abbrev pub IsKeptWide : PlainSubsystem → Type 0
  IsKeptWide found =
      let sub = sub_of m goals (kept_in m found) in
      ((w : WideTerm) × reach.EndsSo dir sub goals (Err w))
      ⊎ ((a : reach.Answer) × reach.EndsSo dir sub goals (Ok a) × (IsReachBounds dir sub goals a.values (ones m) (named dir (states_of m) a.choices) a.ranks → ⊥))

  abbrev pub IsWide : Type 0
  IsWide =
      ((w : WideTerm) × exact.EndsSo dir m goals start threshold (Err (too_wide w)))
      ⊎ ((found : PlainSubsystem) × exact.EndsSo dir m goals start threshold (Ok found) × IsKeptWide found)

  -- the threshold lies between a lower and an upper value from the start, and the exact query of the subsystem is too wide
  pub record IsUndecided (low high : ℚ) : Type 0 where
    pub lower : List ℚ
    pub upper : List ℚ
    pub policy : List ℕ
    pub between : LieBetween dir m goals lower upper policy
    pub lowest : low ≡ value_at lower start
    pub highest : high ≡ value_at upper start
    pub under : low <ℚ threshold
    pub over : threshold ≤ℚ high
    pub wide : IsWide
