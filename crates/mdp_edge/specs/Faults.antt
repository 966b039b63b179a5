-- Counts of faults.
use Rattle.std.specs.Prelude.{◌≡◌, ◌⊎◌, ℕ, ◌+◌, ◌-◌, ◌^◌, ◌<◌, min}

-- the greatest number that a count of 64 bits can hold
abbrev pub last_count : ℕ
last_count = 2 ^ 64 - 1

-- one more, or the last count where there is no more
abbrev pub one_more : ℕ → ℕ
one_more count = min (count + 1) last_count

-- a fault was counted: the count is greater than before, or stands at its type's end
abbrev pub FaultCounted : ℕ → ℕ → Type 0
FaultCounted before now = (before < now) ⊎ (now ≡ last_count)
