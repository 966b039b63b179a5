-- Reading the text of a certificate of bounds of a subsystem line by line: the certificate, or the first line that breaks a rule. Each line is judged
-- by its shape first, then by its numbers from left to right, then by what they count, then by whether it could be one line with the line before it.
use Rattle.std.specs.Prelude.{ℕ, Bool, false, ◌||◌, List, map, codes, Option, Some, None, is_some, Result, Ok, Err}
use Rattle.mdp_text.specs.declared.error.CertKind.TheVariants as kind
use Rattle.mdp_text.specs.{declared.error.Refusal.{Refusal}, declared.init.Init.{Init}}
use Rattle.mdp_text.specs.Lines.{◌>>=◌, or_refused, is_line, Place, place, next_line, line_by, nothing_behind}
use Rattle.mdp_text.specs.{Words.{behind}, Heads.{Head, head_by, start_at}}
use Rattle.mdp_rows.specs.{declared.dir.Dir.{Dir}, declared.dir.Dir.TheVariants.{Max, Min}}
use Rattle.mdp_cert.specs.{declared.version.Version.TheVariants.{Two}, BoundsSpelling.{version_text}, Cert.{PlainClaim, upper, reach, until, reward, mean, witness}}
use Rattle.mdp_cert.specs.Reading.{claim_at, entries_to_end}
use Rattle.mdp_check.specs.Initial.{start_of}
use Rattle.mdp_subsystem_bounds.specs.{Cert.{SubsystemClaim, Lists, Certificate}, Entries.{Led, led_columns, Ranked, ranked_columns}}

-- ---- the lines of claim, states and init

-- the claim, where it is one of a subsystem
abbrev pub subsystem_of : PlainClaim → Option SubsystemClaim
subsystem_of (upper label) = None
subsystem_of (reach dir label) = None
subsystem_of (until dir stay label) = None
subsystem_of (reward dir name label) = None
subsystem_of (mean dir name) = None
subsystem_of (witness dir stay label threshold) = Some (record { dir = dir; stay = stay; label = label; threshold = threshold })

unfoldable pub subsystem_at : ℕ → List ℕ → Result SubsystemClaim Refusal
subsystem_at n text = do
  claim ← claim_at n text
  or_refused kind.Claim n (subsystem_of claim)

abbrev pub SubsystemHead : Type 0
SubsystemHead = Head SubsystemClaim Init

-- these three lines
unfoldable pub head_from : Place → Result (SubsystemHead × Place) Refusal
head_from p = head_by subsystem_at (λ claim. start_at) p

-- ---- the lines behind them

abbrev pub led_lists : List Led → Lists
led_lists xs = record {
  lower = map (λ x. x.first) xs;
  choices = map (λ x. x.others.first) xs;
  ranks = map (λ x. x.others.others.first) xs;
  marks = map (λ x. x.others.others.others) xs;
}

abbrev pub ranked_lists : List Ranked → Lists
ranked_lists xs = record {
  lower = map (λ x. x.first) xs;
  choices = map (λ x. 0) xs;
  ranks = map (λ x. x.others.first) xs;
  marks = map (λ x. x.others.others) xs;
}

-- with the line `end`
unfoldable pub lists_from : Dir → ℕ → Place → Result (Lists × Place) Refusal
lists_from Max states p = entries_to_end Two led_columns states p >>= λ xs. Ok (led_lists xs.0, xs.1)
lists_from Min states p = entries_to_end Two ranked_columns states p >>= λ xs. Ok (ranked_lists xs.0, xs.1)

-- ---- the whole

-- the certificate of which the bytes are the text, or the first line that breaks a rule
unfoldable pub outcome : List ℕ → Result Certificate Refusal
outcome bytes = do
  version ← line_by (is_line kind.Version version_text) (place 1 bytes)
  head ← head_from version.1
  lists ← lists_from head.0.claim.dir head.0.states head.1
  nothing ← nothing_behind lists.1
  Ok (record { claim = head.0.claim; start = start_of head.0.init; lists = lists.0 })

-- ---- which certificates of bounds are of this kind

-- whether the text begins as the claim of a subsystem
abbrev pub begins_so : List ℕ → Bool
begins_so text = is_some (behind (codes "claim max witness ") text) || is_some (behind (codes "claim min witness ") text)

abbrev pub is_claim_behind : Result (List ℕ × Place) Refusal → Bool
is_claim_behind (Ok p) = begins_so p.1.rest
is_claim_behind (Err e) = false

-- whether the second line does
abbrev pub is_subsystem_claim : List ℕ → Bool
is_subsystem_claim bytes = is_claim_behind (next_line (place 1 bytes))
