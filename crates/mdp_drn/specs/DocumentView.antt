-- What the lines so far have spelled, in the code.
use Rattle.std.specs.Prelude.{ℕ, ◌≤◌, ◌^◌, List, [], ◌∷◌, Option, Some, None}
use Rattle.mdp_rows.specs.Name.{AreRewardNames}
use Rattle.mdp_drn.specs.{declared.header.Header.{Header}, declared.header.NextLine.{NextLine}, declared.document.Part.{Part}}
use Rattle.mdp_drn.specs.{declared.document.Document.{Document}, Header.{Next, AnyEntry, BlankLine, RewardNames, StateCount, ChoiceCount, Model}}
use Rattle.mdp_drn.specs.Reading.{InHeader, InModel}
use Rattle.mdp_drn.specs.declared.document.Part.TheVariants as code
use Rattle.mdp_drn.specs.Header as header
use Rattle.mdp_drn.specs.HeaderView as header_view
use Rattle.mdp_drn.specs.BodyView as body_view
use Rattle.mdp_drn.specs.Reading as spec

abbrev pub part_in : Part → spec.Part
part_in (code.Header header next) = InHeader (header_view.view header) (header_view.view_next next)
part_in (code.Model choices body) = InModel choices (body_view.view body)

abbrev pub header_part : Header → NextLine → spec.Part
header_part header next = InHeader (header_view.view header) (header_view.view_next next)

-- the part with the model, where it has begun
abbrev pub part_behind : Header → NextLine → Option Part → spec.Part
part_behind header next None = header_part header next
part_behind header next (Some part) = part_in part

abbrev pub document_in : Document → spec.Document
document_in d = record { lines = d.lines; part = part_in d.part }

-- names that were given are proper ones
abbrev pub AreGiven : Option (List (List ℕ)) → Type 0
AreGiven None = Unit {0}
AreGiven (Some []) = Unit {0}
AreGiven (Some (n ∷ ns)) = AreRewardNames (n ∷ ns)

abbrev pub IsCount : Option ℕ → Type 0
IsCount None = Unit {0}
IsCount (Some n) = (1 ≤ n) × (n ≤ 2 ^ 20)

-- the number of states is known, but where it comes next; it was given where the model begins
abbrev pub IsCounted : Next → Option ℕ → Type 0
IsCounted StateCount states = Unit {0}
IsCounted Model None = ⊥
IsCounted Model (Some n) = IsCount (Some n)
IsCounted AnyEntry states = IsCount states
IsCounted BlankLine states = IsCount states
IsCounted RewardNames states = IsCount states
IsCounted ChoiceCount states = IsCount states

pub record IsHeader (header : header.Header) (next : Next) : Type 0 where
  pub names : AreGiven header.names
  pub states : IsCounted next header.states

abbrev pub IsPart : Part → Type 0
IsPart (code.Header header next) = IsHeader (header_view.view header) (header_view.view_next next)
IsPart (code.Model choices body) = body_view.IsBody body

abbrev pub IsBehind : Header → NextLine → Option Part → Type 0
IsBehind header next None = IsHeader (header_view.view header) (header_view.view_next next)
IsBehind header next (Some part) = IsPart part
