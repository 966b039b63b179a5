-- A value, or why there is none.
use Rattle.std.specs.Prelude.{ℕ, Bool, Option, Some, None, Result, Ok, Err, if◌then◌else◌}
use Rattle.mdp_drn.specs.declared.error.DrnKind.{DrnKind}

infixl 10 ◌>>=◌
abbrev pub ◌>>=◌ : {A B E : Type 0} → Result A E → (A → Result B E) → Result B E
(Ok x) >>= f = f x
(Err e) >>= f = Err e

-- the rule of this kind is broken where the test holds
abbrev pub refuse_if : {E : Type 0} → E → Bool → Result (Unit {0}) E
refuse_if e broken = if broken then Err e else Ok tt

-- the rule of this kind is broken where nothing is given
abbrev pub given_or : {A E : Type 0} → E → Option A → Result A E
given_or e None = Err e
given_or e (Some x) = Ok x

-- a kind, and the line that is named
pub record Refusal : Type 0 where
  pub kind : DrnKind
  pub line : ℕ

abbrev pub at_line_of : {A : Type 0} → ℕ → Result A DrnKind → Result A Refusal
at_line_of line (Ok x) = Ok x
at_line_of line (Err kind) = Err (record { kind = kind; line = line })
