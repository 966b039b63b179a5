-- How an answer of the program stands to the definition.
use Rattle.std.specs.Prelude.{◌≡◌, ℕ, List, length, take, Result, Err}
use Rattle.mdp_text.specs.{declared.error.CertError.{CertError}, declared.error.CertError.TheVariants.{At, Memory}, declared.error.Refusal.{Refusal}}

-- the refusal is the definition's, and want of memory is free
abbrev pub Refuses : {A : Type 0} → CertError → Result A Refusal → Type 0
Refuses (At line kind) defined = defined ≡ Err (record { kind = kind; line = line })
Refuses Memory defined = Unit {0}

-- what was there stands at the front
abbrev pub Keeps : List ℕ → List ℕ → Type 0
Keeps old new = take (length old) new ≡ old
