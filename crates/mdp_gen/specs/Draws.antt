-- The draws: a linear congruential generator (Lehmer 1951).
use Rattle.std.specs.Prelude.{ℕ, zero, suc, ◌+◌, ◌*◌, ◌%◌}

-- the draw behind x
abbrev pub next : ℕ → ℕ
next x = (75 * x + 74) % 65537

-- draw k of a number, counted from 1; behind no draw the generator stands at the number's remainder
unfoldable pub draw : ℕ → ℕ → ℕ
draw number zero = number % 65537
draw number (suc k) = next (draw number k)
