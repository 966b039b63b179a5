-- A choice in whole numbers: its probabilities, and what it earns at once, times a common denominator. Each operation answers a number of at
-- most 127 bits, or nothing.
use Rattle.std.specs.Prelude.{ℕ, ◌/◌, List, [], ◌∷◌, map, Option, Some, None, ℤ, pos, ◌+ℤ◌, ◌*ℤ◌, int_div, int_lt, unsigned_abs, unwrap_or, slice_index_or, if◌then◌else◌}
use Rattle.mdp_math.specs.{Gcd.{gcd}, Rational.{ℚ}, Written.{narrow, ◌>>=◌}}
use Rattle.mdp_spec.specs.Mdp.{Entry}
use Rattle.mdp_rows.specs.{declared.dir.Dir.{Dir}, declared.dir.Dir.TheVariants.{Max, Min}}
use Rattle.mdp_horizon.specs.{declared.choice.Term.{Term}, declared.choice.Scale.{Scale}, Whole.{whole_at, rounded, farther}}

-- the scale is a common denominator above 0 and the start in units times it; or 0 where one of these is too wide. `low` and `high` are the
-- start in units, rounded down and up
pub record Scaled : Type 0 where
  pub scale : Scale
  pub terms : List Term
  pub low : Option ℤ
  pub high : Option ℤ

-- ---- how it is made

-- what a denominator has beyond the divisors that it shares with b
abbrev pub beyond : ℤ → ℕ → ℕ
beyond b d = d / gcd (unsigned_abs b) d

-- the least common multiple of b and a fraction's denominator
abbrev pub common_with : ℤ → ℚ → Option ℤ
common_with b p = narrow (b *ℤ pos (beyond b p.den))

-- of b and the row's denominators
abbrev pub common_in : ℤ → List Entry → Option ℤ
common_in b [] = Some b
common_in b (x ∷ row) = common_with b x.prob >>= (λ c. common_in c row)

abbrev pub no_scale : Scale
no_scale = record { common = pos 0; start = pos 0 }

-- the start in units, times a multiple of its denominator
abbrev pub scaled_start : ℤ → ℚ → ℤ → Option ℤ
scaled_start one start common = narrow (start.num *ℤ int_div common (pos start.den)) >>= (λ part. narrow (part *ℤ one))

abbrev pub scale_in : ℤ → ℚ → List Entry → Option Scale
scale_in one start row = do
  common ← common_in (pos start.den) row
  whole ← scaled_start one start common
  Some (record { common = common; start = whole })

abbrev pub scale_of : ℤ → ℚ → List Entry → Scale
scale_of one start row = unwrap_or (scale_in one start row) no_scale

abbrev pub term_of : ℤ → Entry → Term
term_of common x = record { target = x.target; weight = x.prob.num *ℤ int_div common (pos x.prob.den) }

abbrev pub terms_of : ℤ → List Entry → List Term
terms_of common row = map (term_of common) row

-- the start in units, rounded to the side
abbrev pub rounded_start : Dir → ℤ → ℚ → Option ℤ
rounded_start side one start = narrow (start.num *ℤ one) >>= (λ n. Some (rounded side n (pos start.den)))

abbrev pub scaled : ℤ → ℚ → List Entry → Scaled
scaled one start row = record {
  scale = scale_of one start row;
  terms = terms_of (scale_of one start row).common row;
  low = rounded_start Min one start;
  high = rounded_start Max one start;
}

-- ---- its sum over a column

-- acc, and a term's weight times the value of its target
abbrev pub total_with : List (Option ℤ) → ℤ → Term → Option ℤ
total_with column acc t = do
  value ← whole_at column t.target
  product ← narrow (t.weight *ℤ value)
  narrow (acc +ℤ product)

-- the same of each term
abbrev pub total_of : List (Option ℤ) → ℤ → List Term → Option ℤ
total_of column acc [] = Some acc
total_of column acc (t ∷ terms) = total_with column acc t >>= (λ sum. total_of column sum terms)

-- the sum over the common denominator, rounded to the side
abbrev pub divided : Dir → List (Option ℤ) → Scaled → Option ℤ
divided side column x = if int_lt (pos 0) x.scale.common then (total_of column x.scale.start x.terms >>= (λ n. Some (rounded side n x.scale.common))) else None

-- the value of a target that lies farthest to the side
abbrev pub farthest_with : Dir → List (Option ℤ) → ℤ → Term → Option ℤ
farthest_with side column far t = whole_at column t.target >>= (λ k. Some (farther side far k))

abbrev pub farthest_from : Dir → List (Option ℤ) → ℤ → List Term → Option ℤ
farthest_from side column far [] = Some far
farthest_from side column far (t ∷ terms) = farthest_with side column far t >>= (λ far. farthest_from side column far terms)

abbrev pub no_term : Term
no_term = record { target = 0; weight = pos 0 }

abbrev pub farthest : Dir → List (Option ℤ) → List Term → Option ℤ
farthest side column terms = whole_at column (slice_index_or terms 0 no_term).target >>= (λ far. farthest_from side column far terms)

abbrev pub start_to : Dir → Scaled → Option ℤ
start_to Max x = x.high
start_to Min x = x.low

-- the rounded start and that value
abbrev pub trivial : Dir → List (Option ℤ) → Scaled → Option ℤ
trivial side column x = do
  start ← start_to side x
  far ← farthest side column x.terms
  narrow (start +ℤ far)

-- the first of two options that is there
abbrev pub or_else : Option ℤ → Option ℤ → Option ℤ
or_else (Some k) other = Some k
or_else None other = other

unfoldable pub rounded_sum : Dir → List (Option ℤ) → Scaled → Option ℤ
rounded_sum side column x = or_else (divided side column x) (trivial side column x)
