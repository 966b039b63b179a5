-- The lines of a text, one after the other: each ends with a line feed, and what it says is judged before the next one is read.
use Rattle.std.specs.Prelude.{ℕ, ◌+◌, Bool, not, List, length, Option, Result, Ok, Err, nat_lt, ◌==◌, if◌then◌else◌}
use Rattle.std.specs.{List.{position_or_len, before_first, after_first}, Option.{ok_or}, Str.{bytes_eq}}
use Rattle.mdp_text.specs.{declared.error.CertKind.{CertKind}, declared.error.Refusal.{Refusal}}
use Rattle.mdp_text.specs.declared.error.CertKind.TheVariants as kind

infixl 10 ◌>>=◌
abbrev pub ◌>>=◌ : {A B : Type 0} → Result A Refusal → (A → Result B Refusal) → Result B Refusal
(Ok x) >>= f = f x
(Err e) >>= f = Err e

-- ---- refusals

abbrev pub refused : {A : Type 0} → CertKind → ℕ → Result A Refusal
refused why n = Err (record { kind = why; line = n })

abbrev pub refuse_if : CertKind → ℕ → Bool → Result (Unit {0}) Refusal
refuse_if why n broken = if broken then refused why n else Ok tt

-- what was found, or this refusal of line n
abbrev pub or_refused : {A : Type 0} → CertKind → ℕ → Option A → Result A Refusal
or_refused why n found = ok_or found (record { kind = why; line = n })

-- line n is this one
abbrev pub is_line : CertKind → List ℕ → ℕ → List ℕ → Result (Unit {0}) Refusal
is_line why due n text = refuse_if why n (not (bytes_eq text due))

-- ---- lines

-- a place in a text: the number of the next line, and the bytes from there on
pub record Place : Type 0 where
  pub line : ℕ
  pub rest : List ℕ

abbrev pub place : ℕ → List ℕ → Place
place n bytes = record { line = n; rest = bytes }

abbrev pub is_line_feed : ℕ → Bool
is_line_feed c = c == 10

-- the next line, and the place behind its line feed
unfoldable pub next_line : Place → Result (List ℕ × Place) Refusal
next_line p =
    if nat_lt (position_or_len is_line_feed p.rest) (length p.rest)
    then Ok (before_first is_line_feed p.rest, place (p.line + 1) (after_first is_line_feed p.rest))
    else refused kind.End p.line

-- what the next line says: it is judged with its number
abbrev pub line_by : {A : Type 0} → (ℕ → List ℕ → Result A Refusal) → Place → Result (A × Place) Refusal
line_by judge p = next_line p >>= λ next. judge p.line next.0 >>= λ said. Ok (said, next.1)

-- nothing stands behind the line before this one
unfoldable pub nothing_behind : Place → Result (Unit {0}) Refusal
nothing_behind p = refuse_if kind.End p.line (nat_lt 0 (length p.rest))
