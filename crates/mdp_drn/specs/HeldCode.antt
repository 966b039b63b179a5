-- How the values that contracts see of a feed are told apart.
use Rattle.std.specs.Prelude.{◌≡◌, ℕ, Bool, List, Option, refl, ◌==◌, if◌then◌else◌, ◌⊎◌}
use Rattle.std.specs.Coded.{Coded, code_by, coded×, coded⊎, coded_ℕ, coded_bool, coded_list, coded_option}
use Rattle.std.proofs.Common.{inl, inr}
use Rattle.mdp_rows.specs.{Code.{names_code}, DraftCode.{draft_code, rule_code}, declared.rule.RowRule.{RowRule}, Draft.{Draft}}
use Rattle.mdp_drn.specs.{declared.error.DrnKind.{DrnKind}, declared.header.ModelType.{ModelType}, declared.header.ModelType.TheVariants.{Mdp, Dtmc}}
use Rattle.mdp_drn.specs.{Outcome.{Refusal}, Header.{Header, Next, AnyEntry, BlankLine, RewardNames, StateCount, ChoiceCount, Model}, Body.{Body}}
use Rattle.mdp_drn.specs.{Reading.{Part, InHeader, InModel, Document}, Feeding.{Stand, Refusing, Reading, Held}}
use Rattle.mdp_drn.specs.declared.error.DrnKind.TheVariants as kind

abbrev pub number_of : DrnKind → ℕ
number_of kind.Header = 1
number_of kind.Type = 2
number_of kind.Parametric = 3
number_of kind.Number = 4
number_of kind.Large = 5
number_of kind.Order = 6
number_of kind.Count = 7
number_of kind.Reward = 8
number_of kind.Target = 9
number_of kind.Twice = 10
number_of kind.RowSum = 11
number_of kind.RowWide = 12
number_of kind.NoChoice = 13
number_of kind.Label = 14
number_of kind.TooMany = 15
number_of kind.Shape = 16
number_of kind.Negative = 17
number_of kind.LongLine = 18
number_of kind.End = 19
number_of kind.Choices = 20

abbrev pub low_kind : ℕ → DrnKind
low_kind n =
    if n == 1 then kind.Header else (if n == 2 then kind.Type else (if n == 3 then kind.Parametric else (if n == 4 then kind.Number
    else (if n == 5 then kind.Large else (if n == 6 then kind.Order else (if n == 7 then kind.Count else (if n == 8 then kind.Reward
    else (if n == 9 then kind.Target else (if n == 10 then kind.Twice else (if n == 11 then kind.RowSum else (if n == 12 then kind.RowWide
    else (if n == 13 then kind.NoChoice else (if n == 14 then kind.Label else (if n == 15 then kind.TooMany else (if n == 16 then kind.Shape
    else (if n == 17 then kind.Negative else (if n == 18 then kind.LongLine else (if n == 19 then kind.End else kind.Choices))))))))))))))))))

pub kind_back : (k : DrnKind) → low_kind (number_of k) ≡ k
kind_back kind.Header = refl
kind_back kind.Type = refl
kind_back kind.Parametric = refl
kind_back kind.Number = refl
kind_back kind.Large = refl
kind_back kind.Order = refl
kind_back kind.Count = refl
kind_back kind.Reward = refl
kind_back kind.Target = refl
kind_back kind.Twice = refl
kind_back kind.RowSum = refl
kind_back kind.RowWide = refl
kind_back kind.NoChoice = refl
kind_back kind.Label = refl
kind_back kind.TooMany = refl
kind_back kind.Shape = refl
kind_back kind.Negative = refl
kind_back kind.LongLine = refl
kind_back kind.End = refl
kind_back kind.Choices = refl

abbrev pub kind_code : Coded DrnKind
kind_code = code_by ℕ coded_ℕ number_of low_kind kind_back

abbrev pub refusal_code : Coded Refusal
refusal_code = code_by (DrnKind × ℕ) (coded× kind_code coded_ℕ) (λ r. (r.kind, r.line)) (λ p. record { kind = p.0; line = p.1 }) (λ _. refl)

abbrev pub next_number : Next → ℕ
next_number AnyEntry = 0
next_number BlankLine = 1
next_number RewardNames = 2
next_number StateCount = 3
next_number ChoiceCount = 4
next_number Model = 5

abbrev pub next_from : ℕ → Next
next_from n = if n == 0 then AnyEntry else (if n == 1 then BlankLine else (if n == 2 then RewardNames else (if n == 3 then StateCount else (if n == 4 then ChoiceCount else Model))))

pub next_back : (n : Next) → next_from (next_number n) ≡ n
next_back AnyEntry = refl
next_back BlankLine = refl
next_back RewardNames = refl
next_back StateCount = refl
next_back ChoiceCount = refl
next_back Model = refl

abbrev pub next_code : Coded Next
next_code = code_by ℕ coded_ℕ next_number next_from next_back

abbrev pub type_number : ModelType → ℕ
type_number Mdp = 0
type_number Dtmc = 1

abbrev pub type_from : ℕ → ModelType
type_from n = if n == 0 then Mdp else Dtmc

pub type_back : (t : ModelType) → type_from (type_number t) ≡ t
type_back Mdp = refl
type_back Dtmc = refl

abbrev pub type_code : Coded ModelType
type_code = code_by ℕ coded_ℕ type_number type_from type_back

abbrev pub header_code : Coded Header
header_code =
    code_by (Option ModelType × (Bool × (Bool × (Option (List (List ℕ)) × (Option ℕ × Option ℕ)))))
    (coded× (coded_option type_code) (coded× coded_bool (coded× coded_bool (coded× (coded_option names_code) (coded× (coded_option coded_ℕ) (coded_option coded_ℕ))))))
    (λ h. (h.model_type, (h.has_value_type, (h.has_parameters, (h.names, (h.states, h.choices))))))
    (λ p. record { model_type = p.0; has_value_type = p.1.0; has_parameters = p.1.1.0; names = p.1.1.1.0; states = p.1.1.1.1.0; choices = p.1.1.1.1.1 }) (λ _. refl)

abbrev pub body_code : Coded Body
body_code =
    code_by (Draft × (Bool × (ℕ × ℕ))) (coded× draft_code (coded× coded_bool (coded× coded_ℕ coded_ℕ)))
    (λ b. (b.draft, (b.is_chain, (b.state_line, b.action_line))))
    (λ p. record { draft = p.0; is_chain = p.1.0; state_line = p.1.1.0; action_line = p.1.1.1 }) (λ _. refl)

abbrev pub part_to : Part → (Header × Next) ⊎ (Option ℕ × Body)
part_to (InHeader header next) = inl (header, next)
part_to (InModel choices body) = inr (choices, body)

abbrev pub part_from : (Header × Next) ⊎ (Option ℕ × Body) → Part
part_from (inl p) = InHeader p.0 p.1
part_from (inr p) = InModel p.0 p.1

pub part_back : (p : Part) → part_from (part_to p) ≡ p
part_back (InHeader header next) = refl
part_back (InModel choices body) = refl

abbrev pub part_code : Coded Part
part_code = code_by ((Header × Next) ⊎ (Option ℕ × Body)) (coded⊎ (coded× header_code next_code) (coded× (coded_option coded_ℕ) body_code)) part_to part_from part_back

abbrev pub document_code : Coded Document
document_code = code_by (ℕ × Part) (coded× coded_ℕ part_code) (λ d. (d.lines, d.part)) (λ p. record { lines = p.0; part = p.1 }) (λ _. refl)

abbrev pub stand_to : Stand → Refusal ⊎ (Document × List ℕ)
stand_to (Refusing refusal) = inl refusal
stand_to (Reading document tail) = inr (document, tail)

abbrev pub stand_from : Refusal ⊎ (Document × List ℕ) → Stand
stand_from (inl refusal) = Refusing refusal
stand_from (inr p) = Reading p.0 p.1

pub stand_back : (s : Stand) → stand_from (stand_to s) ≡ s
stand_back (Refusing refusal) = refl
stand_back (Reading document tail) = refl

abbrev pub stand_code : Coded Stand
stand_code = code_by (Refusal ⊎ (Document × List ℕ)) (coded⊎ refusal_code (coded× document_code (coded_list coded_ℕ))) stand_to stand_from stand_back

abbrev pub held_code : Coded Held
held_code = code_by (RowRule × Option Stand) (coded× rule_code (coded_option stand_code)) (λ h. (h.rule, h.stand)) (λ p. record { rule = p.0; stand = p.1 }) (λ _. refl)
