-- What the code answers for the choices that a text names, beside the definition.
use Rattle.std.specs.{Prelude.{◌≡◌, ◌⊎◌, ℕ, List, Result, Ok, Err}, Global.{Vec}}
use Rattle.mdp_job.specs.{Refusal.{PlainRefusal, plain_refusal, no_memory}, declared.refusal.Refusal.{Refusal}}

abbrev pub named : Result (Vec ℕ) Refusal → Result (List ℕ) PlainRefusal
named (Ok choices) = Ok choices.items
named (Err refusal) = Err (plain_refusal refusal)

-- the definition's answer, or want of memory
abbrev pub Names : Result (Vec ℕ) Refusal → Result (List ℕ) PlainRefusal → Type 0
Names result said = (named result ≡ Err no_memory) ⊎ (named result ≡ said)
