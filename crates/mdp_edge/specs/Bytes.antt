-- What a call does to the bytes that a source has left and to those that a sink has taken. They are options: what isn't told stays untold.
use Rattle.std.specs.{Prelude.{◌≡◌, ℕ, ◌≤◌, List, length, take, Option}, Option.{option_map}, Io.KnownBytes.{prepend_known, append_known}}

-- of the bytes that were left a source gave this piece, from the front
abbrev pub Gave : Option (List ℕ) → Option (List ℕ) → List ℕ → Type 0
Gave before now piece = before ≡ prepend_known piece now

-- it gave at most so many bytes from the front, and the others are left
abbrev pub GaveAtMost : Option (List ℕ) → Option (List ℕ) → ℕ → Type 0
GaveAtMost before now most = (piece : List ℕ) × (length piece ≤ most) × Gave before now piece

-- a sink took this piece, behind the bytes that it had taken
abbrev pub Took : Option (List ℕ) → Option (List ℕ) → List ℕ → Type 0
Took before now piece = now ≡ append_known before piece

-- it took some of these bytes, from their front
abbrev pub TookPrefix : Option (List ℕ) → Option (List ℕ) → List ℕ → Type 0
TookPrefix before now bytes = (count : ℕ) × (count ≤ length bytes) × Took before now (take count bytes)

-- all the bytes that a sink has taken are settled
abbrev pub IsSettled : Option (List ℕ) → Option ℕ → Type 0
IsSettled taken settled = settled ≡ option_map length taken

-- it took these bytes and no others, and all that it has taken is settled
pub record TookAll (before now : Option (List ℕ)) (settled : Option ℕ) (bytes : List ℕ) : Type 0 where
  pub took : Took before now bytes
  pub is_settled : IsSettled now settled
