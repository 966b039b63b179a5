-- What a call that reads a part of a line answers: what the definition says, unless memory ran out.
use Rattle.std.specs.{Prelude.{◌≡◌, List, [], ◌∷◌, ℕ, Result, Ok, Err}, Borrow.{Bor}}
use Rattle.mdp_drn.specs.{declared.error.DrnKind.{DrnKind}, declared.error.DrnError.{DrnError}, declared.line_error.LineError.{LineError}}
use Rattle.mdp_drn.specs.{declared.line_error.LineError.TheVariants.{Kind, Memory}, Labels.{label_at}}
use Rattle.mdp_drn.specs.declared.error.DrnError.TheVariants as error

abbrev pub FailsAs : {Y : Type 0} → LineError → Result Y DrnKind → Type 0
FailsAs Memory said = Unit {0}
FailsAs (Kind kind) said = said ≡ Err kind

-- f makes of the answer, which may be Ok alone, the value that the definition has
abbrev pub Says : {X Y : Type 0} → (X → Y) → Result X LineError → Result Y DrnKind → Type 0
Says f (Ok x) said = said ≡ Ok (f x)
Says f (Err e) said = FailsAs e said

-- the same where memory isn't asked for
abbrev pub told : {X Y E : Type 0} → (X → Y) → Result X E → Result Y E
told f (Ok x) = Ok (f x)
told f (Err e) = Err e

-- two lent texts
abbrev pub both_now : Bor (List ℕ) × Bor (List ℕ) → List ℕ × List ℕ
both_now p = (p.0.now, p.1.now)

-- the first label of bytes that aren't empty
abbrev pub first_label : List ℕ → Result (List ℕ × List ℕ) DrnKind
first_label [] = Ok ([], [])
first_label (c ∷ bytes) = label_at c bytes

abbrev pub error_at : ℕ → LineError → DrnError
error_at line (Kind kind) = error.At line kind
error_at line Memory = error.Memory
