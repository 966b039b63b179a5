-- What a text comes to: the model that its lines spell, or the first broken rule in the order of the lines.
use Rattle.std.specs.Prelude.{◌≡◌, ℕ, ◌+◌, ◌-◌, ◌^◌, min, Bool, true, not, List, [], ◌∷◌, length, sum_by, Option, Some, None, Result, Ok, Err, nat_lt, ◌==◌, if◌then◌else◌}
use Rattle.mdp_spec.specs.Mdp.{Mdp}
use Rattle.mdp_rows.specs.{Draft.{Draft, new_draft, all_closed, finished}, declared.rule.RowRule.{RowRule}}
use Rattle.mdp_drn.specs.{declared.error.DrnKind.{DrnKind}, Lines.{lines_of, content, is_comment}, Outcome.{◌>>=◌, refuse_if, Refusal, at_line_of}}
use Rattle.mdp_drn.specs.Header.{Header, Next, AnyEntry, BlankLine, RewardNames, StateCount, ChoiceCount, Model, no_entries, header_line, is_chain, announced, names_of}
use Rattle.mdp_drn.specs.Body.{Body, judged, model_line}
use Rattle.mdp_drn.specs.declared.error.DrnKind.TheVariants as kind

-- what the lines so far have spelled: entries of the header and what may come next, or the number of choices that was announced and the model so far
pub data Part : Type 0 where
  InHeader : Header → Next → Part
  InModel : Option ℕ → Body → Part

pub record Document : Type 0 where
  pub lines : ℕ
  pub part : Part

abbrev pub nothing_read : Document
nothing_read = record { lines = 0; part = InHeader no_entries AnyEntry }

-- a line's number as it is named
abbrev pub named : ℕ → ℕ
named line = min line (2 ^ 64 - 1)

abbrev pub longest_line : ℕ
longest_line = 65536

-- ---- lines

-- the model begins behind `@model`
abbrev pub begun : RowRule → Header → Next → Part
begun rule header Model =
    let draft = new_draft (announced header) rule (names_of header) in
    InModel header.choices (record { draft = draft; is_chain = is_chain header.model_type; state_line = 0; action_line = 0 })
begun rule header AnyEntry = InHeader header AnyEntry
begun rule header BlankLine = InHeader header BlankLine
begun rule header RewardNames = InHeader header RewardNames
begun rule header StateCount = InHeader header StateCount
begun rule header ChoiceCount = InHeader header ChoiceCount

-- a line that is no comment
abbrev pub kept_line : RowRule → ℕ → List ℕ → Part → Result Part Refusal
kept_line rule line text (InHeader header next) = at_line_of line (header_line next header text) >>= λ read. Ok (begun rule read.0 read.1)
kept_line rule line text (InModel choices body) =
    if length text == 0 then Ok (InModel choices body)
    else (model_line body line text >>= λ read. Ok (InModel choices read))

abbrev pub judged_line : RowRule → ℕ → List ℕ → Part → Result Part Refusal
judged_line rule line text part = if is_comment text then Ok part else kept_line rule line text part

-- the document with one line more, or the first refusal at that line
unfoldable pub at_line : RowRule → Document → List ℕ → Result Document Refusal
at_line rule document bytes =
    if nat_lt longest_line (length bytes) then Err (record { kind = kind.LongLine; line = named (document.lines + 1) })
    else (judged_line rule (named (document.lines + 1)) (content bytes) document.part >>= λ part. Ok (record { lines = named (document.lines + 1); part = part }))

-- the document of these lines, behind those of another
abbrev pub after_lines : RowRule → Document → List (List ℕ) → Result Document Refusal
after_lines rule document [] = Ok document
after_lines rule document (line ∷ lines) = at_line rule document line >>= λ next. after_lines rule next lines

-- ---- the end, and the model

abbrev pub all_choices : Draft → ℕ
all_choices draft = sum_by (λ x. length x.choices) draft.closed

abbrev pub has_choices : Draft → Option ℕ → Bool
has_choices draft None = true
has_choices draft (Some n) = all_choices draft == n

abbrev pub at_end_of : ℕ → Part → Result Mdp Refusal
at_end_of line (InHeader header next) = Err (record { kind = kind.End; line = line })
at_end_of line (InModel choices body) = do
  closed ← judged body line (all_closed body.draft)
  counted ← at_line_of line (refuse_if kind.Count (not (has_choices closed choices)))
  judged body line (finished closed)

-- the end has the number of lines plus 1
unfoldable pub at_end : Document → Result Mdp Refusal
at_end document = at_end_of (named (document.lines + 1)) document.part

abbrev pub outcome : RowRule → List ℕ → Result Mdp Refusal
outcome rule bytes = after_lines rule nothing_read (lines_of bytes) >>= at_end

-- the text reads as the model
abbrev pub Reads : List ℕ → RowRule → Mdp → Type 0
Reads bytes rule model = outcome rule bytes ≡ Ok model

-- the first broken rule is of this kind, and names this line
abbrev pub Refused : List ℕ → RowRule → DrnKind → ℕ → Type 0
Refused bytes rule kind line = outcome rule bytes ≡ Err (record { kind = kind; line = line })
