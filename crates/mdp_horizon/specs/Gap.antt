-- How near the two columns come.
use Rattle.std.specs.Prelude.{◌≡◌, ℕ, ◌*◌, ◌<◌, ◌^◌, length, Some, ℤ, pos, ◌+ℤ◌, ◌≤ℤ◌}
use Rattle.mdp_math.specs.Rational.{ℚ, ratio, ◌+ℚ◌, ◌≤ℚ◌}
use Rattle.mdp_spec.specs.{Mdp.{Mdp, states_of, choices_at, choice_at, row_at}, Bounds.{reward_at}}
use Rattle.mdp_rows.specs.{declared.dir.Dir.{Dir}, declared.dir.Dir.TheVariants.{Max, Min}}
use Rattle.mdp_horizon.specs.{Objective.{Objective, gain_of}, Scaled.{common_in}, Whole.{whole_at}, Columns.{scaled_choice, cover, follow, Bounds}, Exact.{HasRoom}}

-- with fewer than n steps left, each choice of each state has room over both columns
abbrev pub NoneIsWide : Dir → ℤ → Mdp → Objective → ℕ → Type 0
NoneIsWide dir one m o n =
    (left s c : ℕ) → left < n → s < states_of m → c < length (choices_at m s)
    → HasRoom (cover dir one m o left) (scaled_choice one o (choice_at m s c)) × HasRoom (follow dir one m o left) (scaled_choice one o (choice_at m s c))

-- each row has a common denominator, with that of what is earned at once; and times the units that make 1 it stays within 127 bits
abbrev pub RowsHaveRoom : ℕ → Mdp → Objective → Type 0
RowsHaveRoom one m o =
    (s c : ℕ) → s < states_of m → c < length (choices_at m s)
    → (b : ℕ) × (common_in (pos (gain_of o (choice_at m s c)).den) (row_at m s c) ≡ Some (pos b)) × (b * one < 2 ^ 127)

-- low is at most high, and high at most u more
abbrev pub IsNear : ℕ → ℤ → ℤ → Type 0
IsNear u low high = (low ≤ℤ high) × (high ≤ℤ (low +ℤ pos u))

-- a covering and a following value, of which the covering one is the upper one for Max, and the lower one for Min
abbrev pub AreNear : Dir → ℕ → ℤ → ℤ → Type 0
AreNear Max u covering following = IsNear u following covering
AreNear Min u covering following = IsNear u covering following

-- with n steps left both values of a state are there, at most u units apart
abbrev pub MeetWithin : Dir → ℤ → Mdp → Objective → ℕ → ℕ → ℕ → Type 0
MeetWithin dir one m o n u s =
    (covering : ℤ) × (following : ℤ) × (whole_at (cover dir one m o n) s ≡ Some covering) × (whole_at (follow dir one m o n) s ≡ Some following) × AreNear dir u covering following

-- where a lower and an upper value of a state are there, the upper one is at most 1/u more
abbrev pub AreNearBounds : ℕ → Mdp → Bounds → Type 0
AreNearBounds u m b = (s : ℕ) (low high : ℚ) → s < states_of m → reward_at b.lower s ≡ Some low → reward_at b.upper s ≡ Some high → high ≤ℚ low +ℚ ratio (pos 1) u
