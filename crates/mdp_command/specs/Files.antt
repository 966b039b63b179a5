-- What is due to the bytes of a file.
use Rattle.std.specs.Prelude.{◌≡◌, ℕ, ◌^◌, List, length, Result, Ok, Err, nat_lt, if◌then◌else◌}
use Rattle.mdp_spec.specs.Mdp.{Mdp}
use Rattle.mdp_rows.specs.declared.rule.RowRule.{RowRule}
use Rattle.mdp_drn.specs.Outcome as drn
use Rattle.mdp_drn.specs.Reading.{outcome}
use Rattle.mdp_text.specs.declared.error.Refusal as cert_refusal
use Rattle.mdp_job.specs.Refusal.{PlainRefusal, model_text, long_model, long_certificate, cert_text}
use Rattle.mdp_command.specs.Said.{Said}

-- the most bytes that a file may have, 2^30
abbrev pub most_bytes : ℕ
most_bytes = 2 ^ 30

-- ---- the model's

abbrev pub model_or_refusal : Result Mdp drn.Refusal → Result Mdp PlainRefusal
model_or_refusal (Ok m) = Ok m
model_or_refusal (Err r) = Err (model_text r.line r.kind)

-- the model that a file's bytes read as
abbrev pub model_due : RowRule → List ℕ → Result Mdp PlainRefusal
model_due rule bytes = if nat_lt most_bytes (length bytes) then Err long_model else model_or_refusal (outcome rule bytes)

-- the model is judged first: this is due to one that was read, and its refusal where none was
abbrev pub IsDueToModel : (Mdp → Said → Type 0) → Result Mdp PlainRefusal → Said → Type 0
IsDueToModel due (Ok m) said = due m said
IsDueToModel due (Err refusal) said = said ≡ Err refusal

-- ---- the second one's

-- its bytes
abbrev pub second_due : List ℕ → Result (List ℕ) PlainRefusal
second_due bytes = if nat_lt most_bytes (length bytes) then Err long_certificate else Ok bytes

-- only its length is judged before it is read as anything: this is due to its bytes, and the refusal where they are too many
abbrev pub IsDueToSecond : (List ℕ → Said → Type 0) → Result (List ℕ) PlainRefusal → Said → Type 0
IsDueToSecond due (Ok bytes) said = due bytes said
IsDueToSecond due (Err refusal) said = said ≡ Err refusal

-- this is due to the bytes of both files: the model's are judged first
abbrev pub IsDueToPair : (Mdp → List ℕ → Said → Type 0) → RowRule → List ℕ → List ℕ → Said → Type 0
IsDueToPair due rule model second said = IsDueToModel (λ m. IsDueToSecond (due m) (second_due second)) (model_due rule model) said

-- what a text reads as, or the refusal of its line
abbrev pub certificate_or_refusal : {A : Type 0} → Result A cert_refusal.Refusal → Result A PlainRefusal
certificate_or_refusal (Ok c) = Ok c
certificate_or_refusal (Err r) = Err (cert_text r.line r.kind)
