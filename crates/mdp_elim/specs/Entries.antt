-- Written arithmetic on the entries of an equation, whose targets ascend.
use Rattle.std.specs.{Prelude.{◌≡◌, ◌<◌, ◌≤◌, ℕ, suc, length, List, [], ◌∷◌, ◌++◌, Option, Some, None, ◌==◌, nat_le, if◌then◌else◌, pos}, List.{HoldsAt}}
use Rattle.mdp_math.specs.{Rational.{ℚ, of_int}, Written.{written_add, written_mul, ◌>>=◌}}
use Rattle.mdp_num.specs.Written.{written_div}
use Rattle.mdp_spec.specs.Mdp.{Entry}

-- the place of the first entry to s or a greater state, or the row's length
abbrev pub place : ℕ → List Entry → ℕ
place s [] = 0
place s (x ∷ row) = if nat_le s x.target then 0 else suc (place s row)

-- the entry to s, where there is one
abbrev pub entry_to : ℕ → List Entry → Option ℚ
entry_to s [] = None
entry_to s (x ∷ row) = if nat_le s x.target then (if x.target == s then Some x.prob else None) else entry_to s row

-- the other entries
abbrev pub without : ℕ → List Entry → List Entry
without s [] = []
without s (x ∷ row) = if nat_le s x.target then (if x.target == s then row else x ∷ row) else x ∷ without s row

-- the targets ascend, from low on and below high
abbrev pub Between : ℕ → ℕ → List Entry → Type 0
Between low high [] = Unit {0}
Between low high (x ∷ row) = (low ≤ x.target) × (x.target < high) × Between (suc x.target) high row

-- one more than the last target, or low where there is no entry
abbrev pub reach_from : ℕ → List Entry → ℕ
reach_from low [] = low
reach_from low (x ∷ row) = reach_from (suc x.target) row

abbrev pub reach : List Entry → ℕ
reach row = reach_from 0 row

-- the entry at place i leads to v
abbrev pub LeadsAt : ℕ → List Entry → ℕ → Type 0
LeadsAt v row i = (i < length row) × HoldsAt (λ x. x.target ≡ v) row i

-- the first entry of a row leads to a state to which the other row doesn't
abbrev pub StartsNew : List Entry → List Entry → Type 0
StartsNew [] row = Unit {0}
StartsNew (x ∷ source) row = entry_to x.target row ≡ None

-- a step for each element, where each of them can be made
abbrev pub each : {A : Type 0} → (A → Option A) → List A → Option (List A)
each f [] = Some []
each f (x ∷ xs) = do
  y ← f x
  ys ← each f xs
  Some (y ∷ ys)

abbrev pub divided_entry : ℚ → Entry → Option Entry
divided_entry u x = do
  quotient ← written_div x.prob u
  Some (record { target = x.target; prob = quotient })

-- x, added to the entry to v, or to 0 where there is none
abbrev pub plus_entry : ℕ → ℚ → List Entry → Option (List Entry)
plus_entry v x [] = do
  sum ← written_add (of_int (pos 0)) x
  Some (record { target = v; prob = sum } ∷ [])
plus_entry v x (y ∷ row) =
    if nat_le v y.target
    then (if y.target == v then (written_add y.prob x >>= (λ sum. Some (record { target = v; prob = sum } ∷ row))) else
    (written_add (of_int (pos 0)) x >>= (λ sum. Some (record { target = v; prob = sum } ∷ y ∷ row))))
    else (plus_entry v x row >>= (λ rest. Some (y ∷ rest)))

-- w times each entry, in their order, added to the entries of a row
abbrev pub plus_row : ℚ → List Entry → List Entry → Option (List Entry)
plus_row w [] row = Some row
plus_row w (x ∷ source) row = do
  term ← written_mul w x.prob
  sum ← plus_entry x.target term row
  plus_row w source sum

-- ---- two rows that are merged

-- entries, and then those of a row, where it can be made
abbrev pub after : List Entry → Option (List Entry) → Option (List Entry)
after front o = o >>= (λ rest. Some (front ++ rest))

-- the entries `new` in the place of `old`, and `behind` in the place of the row, whatever is added behind the entry x
abbrev pub MergesTo : ℚ → Entry → List Entry → List Entry → List Entry → List Entry → Type 0
MergesTo w x row old behind new = (high : ℕ) (source : List Entry) → Between 0 high (x ∷ source) → after old (plus_row w (x ∷ source) row) ≡ after new (plus_row w source behind)

-- a term is past width where the entry x is added
abbrev pub IsTooWide : ℚ → Entry → List Entry → Type 0
IsTooWide w x row = (source : List Entry) → plus_row w (x ∷ source) row ≡ None
