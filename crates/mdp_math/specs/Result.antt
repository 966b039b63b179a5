-- A value, or why there is none.
use Rattle.std.specs.Prelude.{Bool, Result, Ok, Err, if◌then◌else◌}

-- the first refusal ends a chain of steps
infixl 10 ◌>>=◌
abbrev pub ◌>>=◌ : {A B E : Type 0} → Result A E → (A → Result B E) → Result B E
(Ok x) >>= f = f x
(Err e) >>= f = Err e

-- refused where the test holds
abbrev pub refuse_if : {E : Type 0} → E → Bool → Result (Unit {0}) E
refuse_if e broken = if broken then Err e else Ok tt
