-- What reading from a source answers.
use Rattle.std.specs.Prelude.{◌≡◌, ℕ, List, Option, Result, Ok, Err, IfSome}
use Rattle.mdp_spec.specs.Mdp.{Mdp}
use Rattle.mdp_drn.specs.{declared.from_source.FromError.{FromError}, declared.from_source.FromError.TheVariants.{ReadFault, Long, At, Memory}}
use Rattle.mdp_drn.specs.Outcome.{Refusal}

-- these are the bytes that a source had left, where it tells them
abbrev pub HadLeft : Option (List ℕ) → List ℕ → Type 0
HadLeft told bytes = IfSome told (λ left. bytes ≡ left)

-- a model or a refusal is what the definition says
abbrev pub ReadsAs : Result Mdp FromError → Result Mdp Refusal → Type 0
ReadsAs (Ok model) said = said ≡ Ok model
ReadsAs (Err ReadFault) said = Unit {0}
ReadsAs (Err Long) said = Unit {0}
ReadsAs (Err (At line kind)) said = said ≡ Err (record { kind = kind; line = line })
ReadsAs (Err Memory) said = Unit {0}

-- the answer is a model or a refusal
abbrev pub IsRead : Result Mdp FromError → Type 0
IsRead (Ok model) = Unit {0}
IsRead (Err ReadFault) = ⊥
IsRead (Err Long) = ⊥
IsRead (Err (At line kind)) = Unit {0}
IsRead (Err Memory) = ⊥
