-- Reading the text of a certificate of bounds of the discounted reward line by line: the certificate, or the first line that breaks a rule. Each line
-- is judged by its shape first, then by its numbers from left to right, then by what they count, then by whether it could be one line with the line
-- before it.
use Rattle.std.specs.Prelude.{ℕ, Bool, false, not, ◌||◌, List, drop, map, codes, Option, Some, None, is_some, Result, Ok, Err, nat_lt, if◌then◌else◌}
use Rattle.std.specs.Str.{bytes_eq}
use Rattle.mdp_math.specs.Rational.{ℚ}
use Rattle.mdp_text.specs.declared.error.CertKind.TheVariants as kind
use Rattle.mdp_text.specs.{declared.error.Refusal.{Refusal}, Lines.{◌>>=◌, refuse_if, or_refused, is_line, Place, place, next_line, line_by, nothing_behind}}
use Rattle.mdp_text.specs.Words.{first_of, words_behind, whole_at, reward_parse, behind}
use Rattle.mdp_cert.specs.{declared.version.Version.TheVariants.{Two}, declared.pair.Pair.{Pair}, Reading.{entries_to_end}}
use Rattle.mdp_discount_text.specs.{Text.{DiscountHead, head_with}, declared.entry.Lower.{Lower}, Entries.{lower_parse, between_columns}}
use Rattle.mdp_discount_text.specs.BoundsSpelling.{version_text}
use Rattle.mdp_discount_rules.specs.{BoundsCert.{Certificate}, declared.bounds_init.InitialBounds.{InitialBounds}}

-- ---- the line `init`

abbrev pub lower_at : ℕ → List ℕ → Result (Option ℚ) Refusal
lower_at n word = or_refused kind.Number n (lower_parse word)

abbrev pub upper_at : ℕ → List ℕ → Result (Option ℚ) Refusal
upper_at n word = or_refused kind.Number n (reward_parse word)

unfoldable pub between_at : ℕ → ℕ → List ℕ → Result (Option InitialBounds) Refusal
between_at states n text = do
  behind ← words_behind (codes "init") 3 n text
  state ← whole_at n (first_of behind)
  lower ← lower_at n (first_of (drop 1 behind))
  upper ← upper_at n (first_of (drop 1 (drop 1 behind)))
  inside ← refuse_if kind.Count n (not (nat_lt state states))
  Ok (Some (record { state = state; lower = lower; upper = upper }))

-- a state with its lower and its upper value, or `-`
unfoldable pub init_at : ℕ → ℕ → List ℕ → Result (Option InitialBounds) Refusal
init_at states n text = if bytes_eq text (codes "init -") then Ok None else between_at states n text

-- ---- the lines before those of the states

abbrev pub BoundsHead : Type 0
BoundsHead = DiscountHead (Option InitialBounds)

unfoldable pub head_from : Place → Result (BoundsHead × Place) Refusal
head_from p = head_with init_at p

-- ---- the whole

abbrev pub certificate_of : BoundsHead → List (Pair Lower (Pair (Option ℚ) ℕ)) → Certificate
certificate_of head xs = record {
  dir = head.front.claim.dir;
  name = head.front.claim.name;
  factor = head.front.claim.factor;
  init = head.front.init;
  remainder = head.remainder;
  lower = map (λ x. x.first.value) xs;
  upper = map (λ x. x.others.first) xs;
  choices = map (λ x. x.others.others) xs;
}

-- the certificate of which the bytes are the text, or the first line that breaks a rule
unfoldable pub outcome : List ℕ → Result Certificate Refusal
outcome bytes = do
  version ← line_by (is_line kind.Version version_text) (place 1 bytes)
  head ← head_from version.1
  xs ← entries_to_end Two between_columns head.0.front.states head.1
  nothing ← nothing_behind xs.1
  Ok (certificate_of head.0 xs.0)

-- ---- which certificates of bounds are of this kind

-- whether the text begins as the claim of a discounted reward
abbrev pub begins_so : List ℕ → Bool
begins_so text = is_some (behind (codes "claim max discount ") text) || is_some (behind (codes "claim min discount ") text)

abbrev pub is_claim_behind : Result (List ℕ × Place) Refusal → Bool
is_claim_behind (Ok p) = begins_so p.1.rest
is_claim_behind (Err e) = false

-- whether the second line does
abbrev pub is_discount_claim : List ℕ → Bool
is_discount_claim bytes = is_claim_behind (next_line (place 1 bytes))
