-- What the query of the model of one end component alone ends with, and the same with the states' own numbers, as the code holds them.
use Rattle.std.specs.Prelude.{◌≡◌, ℕ, List, Result, Ok, Err}
use Rattle.mdp_wide.specs.{Term.{shown}, declared.too_wide.TooWide.{TooWide}, Errors.{SolveError}}
use Rattle.mdp_wide.specs.declared.unfinished.Unfinished.TheVariants as solve
use Rattle.mdp_gain.specs.{Query.{plain}, declared.inner.Inner.{Inner}, PartQuery.{answer_in, term_in}}

-- the same term, of part i
pub record IsTermIn (states : List ℕ) (i : ℕ) (small big : TooWide) : Type 0 where
  pub round : big.round ≡ small.round
  pub term : (n : ℕ) → shown big n ≡ term_in states i (shown small n)

-- the same end, of part i, or want of memory
abbrev pub IsEndIn : List ℕ → ℕ → Result Inner SolveError → Result Inner SolveError → Type 0
IsEndIn states i (Ok x) (Ok y) = plain y ≡ answer_in states (plain x)
IsEndIn states i (Err (solve.TooWide w)) (Err (solve.TooWide v)) = IsTermIn states i w v
IsEndIn states i (Ok x) (Err (solve.TooWide v)) = ⊥
IsEndIn states i (Err (solve.TooWide w)) (Ok y) = ⊥
IsEndIn states i (Err solve.Memory) (Ok y) = ⊥
IsEndIn states i (Err solve.Memory) (Err (solve.TooWide v)) = ⊥
IsEndIn states i x (Err solve.Memory) = Unit {0}
