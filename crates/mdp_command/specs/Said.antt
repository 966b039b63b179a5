-- What a run says: the text of work that was done, or a refusal.
use Rattle.std.specs.{Prelude.{ℕ, List, Result, Ok, Err}, Global.{Vec}}
use Rattle.mdp_job.specs.{Refusal.{PlainRefusal, plain_refusal}, Status.{status_of}, Text.{text_of}, declared.refusal.Refusal.{Refusal}}
use Rattle.mdp_job.specs.{declared.status.Status.{Status}, declared.status.Status.TheVariants.{Done}}

abbrev pub Said : Type 0
Said = Result (List ℕ) PlainRefusal

abbrev pub said_text : Said → List ℕ
said_text (Ok text) = text
said_text (Err refusal) = text_of refusal

abbrev pub said_status : Said → Status
said_status (Ok text) = Done
said_status (Err refusal) = status_of refusal

-- ---- the values of the program's types

abbrev pub said : Result (Vec ℕ) Refusal → Said
said (Ok text) = Ok text.items
said (Err refusal) = Err (plain_refusal refusal)

-- a value, or a refusal
abbrev pub plain_error : {A : Type 0} → Result A Refusal → Result A PlainRefusal
plain_error (Ok x) = Ok x
plain_error (Err refusal) = Err (plain_refusal refusal)
