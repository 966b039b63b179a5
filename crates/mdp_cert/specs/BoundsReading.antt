-- Reading the text of a certificate of bounds line by line: the certificate, or the first line that breaks a rule. Each line is judged by its shape
-- first, then by its numbers from left to right, then by what they count, then by whether it could be one line with the line before it.
use Rattle.std.specs.{Prelude.{ℕ, Bool, not, List, drop, map, codes, Option, Result, Ok, nat_lt, if◌then◌else◌}, Str.{bytes_eq}}
use Rattle.mdp_math.specs.Rational.{ℚ}
use Rattle.mdp_text.specs.declared.error.CertKind.TheVariants as kind
use Rattle.mdp_text.specs.{declared.error.Refusal.{Refusal}, Lines.{◌>>=◌, refused, refuse_if, or_refused, is_line, Place, place, line_by, nothing_behind}}
use Rattle.mdp_text.specs.{Words.{first_of, words_behind, whole_at}, Heads.{init_parse, Head, head_by}}
use Rattle.mdp_cert.specs.{declared.version.Version.TheVariants.{Two}, Cert.{PlainClaim, upper, reach, until, reward, mean, witness, may_be_infinite}}
use Rattle.mdp_cert.specs.{Claims.{fraction_value, reward_value}, Reading.{claim_at, spread_at, entries_to_end}, declared.init.BoundsInit.{BoundsInit}}
use Rattle.mdp_cert.specs.{declared.init.BoundsInit.TheVariants.{Missing, Between}, BoundsCert.{PlainBounds, probabilities, rewards, gains, Certificate, is_of_bounds}}
use Rattle.mdp_cert.specs.{Entries.{Ranked, ranked_columns, Gains, gains_columns}, BoundsSpelling.{version_text}}

-- ---- the lines of claim, states and init

-- a claim of bounds: of a direction, and of reach, until, reward or mean
unfoldable pub bounds_claim_at : ℕ → List ℕ → Result PlainClaim Refusal
bounds_claim_at n text = do
  claim ← claim_at n text
  bounds ← refuse_if kind.Claim n (not (is_of_bounds claim))
  Ok claim

-- a value in the line `init`: a fraction, or `inf` where the claim's values may be infinite
abbrev pub init_value_at : Bool → ℕ → List ℕ → Result (Option ℚ) Refusal
init_value_at infinite n word = or_refused kind.Number n (init_parse infinite word)

unfoldable pub between_at : Bool → ℕ → ℕ → List ℕ → Result BoundsInit Refusal
between_at infinite states n text = do
  behind ← words_behind (codes "init") 3 n text
  state ← whole_at n (first_of behind)
  low ← init_value_at infinite n (first_of (drop 1 behind))
  high ← init_value_at infinite n (first_of (drop 1 (drop 1 behind)))
  inside ← refuse_if kind.Count n (not (nat_lt state states))
  Ok (Between state low high)

-- a state with its lower and its upper value, or `-`
unfoldable pub init_at : Bool → ℕ → ℕ → List ℕ → Result BoundsInit Refusal
init_at infinite states n text = if bytes_eq text (codes "init -") then Ok Missing else between_at infinite states n text

abbrev pub BoundsHead : Type 0
BoundsHead = Head PlainClaim BoundsInit

-- these three lines
unfoldable pub head_from : Place → Result (BoundsHead × Place) Refusal
head_from p = head_by bounds_claim_at (λ claim. init_at (may_be_infinite claim)) p

-- ---- the lines behind them

abbrev pub reach_body : List (Ranked ℚ) → PlainBounds
reach_body xs = probabilities (map (λ x. x.first) xs) (map (λ x. x.others.first) xs) (map (λ x. x.others.others.first) xs) (map (λ x. x.others.others.others) xs)

abbrev pub reward_body : List (Ranked (Option ℚ)) → PlainBounds
reward_body xs = rewards (map (λ x. x.first) xs) (map (λ x. x.others.first) xs) (map (λ x. x.others.others.first) xs) (map (λ x. x.others.others.others) xs)

abbrev pub mean_body : ℚ → List Gains → PlainBounds
mean_body spread xs =
    gains (map (λ x. x.first) xs) (map (λ x. x.others.first) xs) (map (λ x. x.others.others.first) xs) (map (λ x. x.others.others.others.first) xs)
    (map (λ x. x.others.others.others.others) xs) spread

-- those of a mean payoff, with the line `end`
abbrev pub mean_from : ℕ → Place → Result (PlainBounds × Place) Refusal
mean_from states p = do
  spread ← line_by spread_at p
  xs ← entries_to_end Two gains_columns states spread.1
  Ok (mean_body spread.0 xs.0, xs.1)

-- by the claim, with the line `end`; other claims are refused before
unfoldable pub body_from : PlainClaim → ℕ → Place → Result (PlainBounds × Place) Refusal
body_from (upper label) states p = refused kind.Claim p.line
body_from (reach dir label) states p = entries_to_end Two (ranked_columns fraction_value) states p >>= λ xs. Ok (reach_body xs.0, xs.1)
body_from (until dir stay label) states p = entries_to_end Two (ranked_columns fraction_value) states p >>= λ xs. Ok (reach_body xs.0, xs.1)
body_from (reward dir name label) states p = entries_to_end Two (ranked_columns reward_value) states p >>= λ xs. Ok (reward_body xs.0, xs.1)
body_from (mean dir name) states p = mean_from states p
body_from (witness dir stay label threshold) states p = refused kind.Claim p.line

-- ---- the whole

-- the certificate of which the bytes are the text, or the first line that breaks a rule
unfoldable pub outcome : List ℕ → Result Certificate Refusal
outcome bytes = do
  version ← line_by (is_line kind.Version version_text) (place 1 bytes)
  head ← head_from version.1
  body ← body_from head.0.claim head.0.states head.1
  nothing ← nothing_behind body.1
  Ok (record { claim = head.0.claim; states = head.0.states; init = head.0.init; body = body.0 })
