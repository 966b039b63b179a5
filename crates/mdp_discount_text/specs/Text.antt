-- Reading the text of a certificate of the discounted reward line by line: the certificate, or the first line that breaks a rule. Each line is judged
-- by its shape first, then by its numbers from left to right, then by what they count.
use Rattle.std.specs.Prelude.{ℕ, ◌&&◌, Bool, false, List, map, codes, Option, Some, None, option_and_then, option_map, Result, Ok, if◌then◌else◌, pos}
use Rattle.std.specs.Option.{option_or}
use Rattle.mdp_math.specs.Rational.{ℚ, of_int, le_ℚ, lt_ℚ}
use Rattle.mdp_num.specs.Canonical.{canonical_of}
use Rattle.mdp_rows.specs.{declared.dir.Dir.{Dir}, declared.dir.Dir.TheVariants.{Max, Min}}
use Rattle.mdp_text.specs.declared.error.CertKind.TheVariants as kind
use Rattle.mdp_text.specs.{declared.error.Refusal.{Refusal}, declared.init.Init.{Init}}
use Rattle.mdp_text.specs.Lines.{◌>>=◌, or_refused, is_line, Place, place, line_by, nothing_behind}
use Rattle.mdp_text.specs.{Words.{first_of, words_behind, frac_at, behind, name_and_rest}, Heads.{valued_at, Head, head_by}}
use Rattle.mdp_cert.specs.{declared.version.Version.TheVariants.{One}, declared.pair.Pair.{Pair}, Reading.{entries_to_end}}
use Rattle.mdp_discount_text.specs.{Spelling.{version_text}, Entries.{priced_columns}}
use Rattle.mdp_discount_rules.specs.Cert.{Certificate}

-- ---- the claim

pub record Claim : Type 0 where
  pub dir : Dir
  pub name : List ℕ
  pub factor : ℚ

-- a fraction from 0 to below 1
abbrev pub is_factor : ℚ → Bool
is_factor f = le_ℚ (of_int (pos 0)) f && lt_ℚ f (of_int (pos 1))

abbrev pub factor_of : List ℕ → Option ℚ
factor_of word = option_and_then (λ f. if is_factor f then Some f else None) (canonical_of word)

abbrev pub claim_with : Dir → List ℕ × List ℕ → Option Claim
claim_with dir p = option_map (λ f. record { dir = dir; name = p.0; factor = f }) (factor_of p.1)

abbrev pub claim_front : Dir → List ℕ
claim_front Max = codes "claim max discount \""
claim_front Min = codes "claim min discount \""

abbrev pub claim_names : Dir → List ℕ → Option (List ℕ × List ℕ)
claim_names dir text = option_and_then name_and_rest (behind (claim_front dir) text)

unfoldable pub claim_to : Dir → List ℕ → Option Claim
claim_to dir text = option_and_then (claim_with dir) (claim_names dir text)

unfoldable pub claim_of : List ℕ → Option Claim
claim_of text = option_or (claim_to Max text) (claim_to Min text)

unfoldable pub claim_at : ℕ → List ℕ → Result Claim Refusal
claim_at n text = or_refused kind.Claim n (claim_of text)

-- ---- the other lines before those of the states

-- the line `init`: `-`, or a state with its value
abbrev pub init_at : ℕ → ℕ → List ℕ → Result Init Refusal
init_at states n text = valued_at false states n text

unfoldable pub remainder_at : ℕ → List ℕ → Result ℚ Refusal
remainder_at n text = words_behind (codes "remainder") 1 n text >>= λ behind. frac_at n (first_of behind)

-- what the lines before those of the states say, whatever the line `init` says
pub record DiscountHead (I : Type 0) : Type 0 where
  pub front : Head Claim I
  pub remainder : ℚ

-- the lines of claim, states, init and remainder, where the line `init` is judged so
abbrev pub head_with : {I : Type 0} → (ℕ → ℕ → List ℕ → Result I Refusal) → Place → Result (DiscountHead I × Place) Refusal
head_with init_at p = do
  front ← head_by claim_at (λ claim. init_at) p
  remainder ← line_by remainder_at front.1
  Ok (record { front = front.0; remainder = remainder.0 }, remainder.1)

unfoldable pub head_from : Place → Result (DiscountHead Init × Place) Refusal
head_from p = head_with init_at p

-- ---- the whole

abbrev pub certificate_of : DiscountHead Init → List (Pair ℚ ℕ) → Certificate
certificate_of head xs = record {
  dir = head.front.claim.dir;
  name = head.front.claim.name;
  factor = head.front.claim.factor;
  init = head.front.init;
  remainder = head.remainder;
  values = map (λ x. x.first) xs;
  choices = map (λ x. x.others) xs;
}

-- the certificate of which the bytes are the text, or the first line that breaks a rule
unfoldable pub outcome : List ℕ → Result Certificate Refusal
outcome bytes = do
  version ← line_by (is_line kind.Version version_text) (place 1 bytes)
  head ← head_from version.1
  xs ← entries_to_end One priced_columns head.0.front.states head.1
  nothing ← nothing_behind xs.1
  Ok (certificate_of head.0 xs.0)
