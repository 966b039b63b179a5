-- Laws of reading, over what texts come to.
use Rattle.std.specs.Prelude.{◌≡◌, ◌⊎◌, ℕ, ◌+◌, ◌<◌, ◌≤◌, ◌^◌, true, false, not, IsTrue, List, []}
use Rattle.std.specs.{Prelude.{◌∷◌, ◌++◌, length, drop, map, filter, Result, Ok, Err, nat_lt, codes, if◌then◌else◌}, List.{All, list_all, flat_map}}
use Rattle.std.specs.{Str.{bytes_eq}, Io.BufRead.{ends_with_byte}}
use Rattle.mdp_spec.specs.Mdp.{Mdp}
use Rattle.mdp_num.specs.Digits.{behind_digits}
use Rattle.mdp_rows.specs.{Draft.{with_name}, Limits.{IsModel}, declared.rule.RowRule.{RowRule}}
use Rattle.mdp_drn.specs.{declared.error.DrnKind.{DrnKind}, Lines.{lines_of, content, is_blank, is_comment, without_blanks_before}, Outcome.{◌>>=◌, Refusal}}
use Rattle.mdp_drn.specs.{Labels.{labels_in}, Body.{is_state_line, bracket_at}}
use Rattle.mdp_drn.specs.Reading.{Document, nothing_read, longest_line, at_line, at_end, after_lines, outcome, Reads, Refused}

-- ---- the first line that breaks a rule

-- the lines before break no rule, and this line breaks one
pub record BreaksAt (rule : RowRule) (before : List (List ℕ)) (line : List ℕ) (refusal : Refusal) : Type 0 where
  pub document : Document
  pub kept : after_lines rule nothing_read before ≡ Ok document
  pub broken : at_line rule document line ≡ Err refusal

-- the lines break no rule, and the end breaks one
pub record BreaksAtEnd (rule : RowRule) (lines : List (List ℕ)) (refusal : Refusal) : Type 0 where
  pub document : Document
  pub kept : after_lines rule nothing_read lines ≡ Ok document
  pub broken : at_end document ≡ Err refusal

-- some line of a text is the first that breaks a rule
pub record BreaksInside (rule : RowRule) (lines : List (List ℕ)) (refusal : Refusal) : Type 0 where
  pub before : List (List ℕ)
  pub line : List ℕ
  pub behind : List (List ℕ)
  pub lines_are : lines ≡ before ++ line ∷ behind
  pub breaks : BreaksAt rule before line refusal

-- a refusal is that of the first line that breaks a rule, or of the end
abbrev pub RefusedAtFirst : Type 0
RefusedAtFirst = (bytes : List ℕ) (rule : RowRule) (kind : DrnKind) (line : ℕ) → Refused bytes rule kind line
    → let refusal : Refusal = record { kind = kind; line = line } in BreaksInside rule (lines_of bytes) refusal ⊎ BreaksAtEnd rule (lines_of bytes) refusal

-- whatever stands behind that line, the text is refused so
abbrev pub DependsOnNothingBehind : Type 0
DependsOnNothingBehind = (bytes : List ℕ) (rule : RowRule) (before behind : List (List ℕ)) (line : List ℕ) (refusal : Refusal)
    → lines_of bytes ≡ before ++ line ∷ behind → BreaksAt rule before line refusal → Refused bytes rule refusal.kind refusal.line

-- and the line that is named isn't behind the one that breaks the rule
abbrev pub NamesNoLaterLine : Type 0
NamesNoLaterLine = (rule : RowRule) (before : List (List ℕ)) (line : List ℕ) (refusal : Refusal) → BreaksAt rule before line refusal → refusal.line ≤ length before + 1

-- the end has the number of lines plus 1, and no refusal names a line behind it
abbrev pub NamesLineOfText : Type 0
NamesLineOfText = (bytes : List ℕ) (rule : RowRule) (kind : DrnKind) (line : ℕ) → Refused bytes rule kind line → line ≤ length (lines_of bytes) + 1

-- ---- what of a text doesn't count

abbrev pub AreBlanks : List ℕ → Type 0
AreBlanks bytes = IsTrue (list_all is_blank bytes)

-- blanks and tabs at the ends of a line, and one CR behind them, are no part of its content
pub record IsSameContent (text framed : List ℕ) : Type 0 where
  pub alone : content framed ≡ content text
  pub with_return : content (framed ++ 13 ∷ []) ≡ content text

abbrev pub DropsBlanks : Type 0
DropsBlanks = (front text behind : List ℕ) → AreBlanks front → AreBlanks behind → ends_with_byte 13 text ≡ false → IsSameContent text (front ++ text ++ behind)

-- the contents of the lines, comments left out
abbrev pub contents_of : List (List ℕ) → List (List ℕ)
contents_of lines = filter (λ text. not (is_comment text)) (map content lines)

abbrev pub AreShort : List (List ℕ) → Type 0
AreShort lines = All (λ line. length line ≤ longest_line) lines

-- the model, or the kind of the refusal
abbrev pub without_line : Result Mdp Refusal → Result Mdp DrnKind
without_line (Ok model) = Ok model
without_line (Err refusal) = Err refusal.kind

-- two texts without long lines whose lines have the same contents, comments left out, read as the same model, or are refused with the same kind
abbrev pub IsReadByContents : Type 0
IsReadByContents = (bytes others : List ℕ) (rule : RowRule) → AreShort (lines_of bytes) → AreShort (lines_of others)
    → contents_of (lines_of bytes) ≡ contents_of (lines_of others) → without_line (outcome rule bytes) ≡ without_line (outcome rule others)

-- a line behind the first n has a greater number by one
abbrev pub moved : ℕ → ℕ → ℕ
moved n line = if nat_lt n line then line + 1 else line

abbrev pub with_moved : ℕ → Result Mdp Refusal → Result Mdp Refusal
with_moved n (Ok model) = Ok model
with_moved n (Err refusal) = Err (record refusal { line = moved n refusal.line })

-- a comment that is put in changes no model and no kind, and moves the lines behind it by one
abbrev pub IsMovedByComment : Type 0
IsMovedByComment = (bytes others : List ℕ) (rule : RowRule) (before behind : List (List ℕ)) (comment : List ℕ)
    → lines_of bytes ≡ before ++ behind → lines_of others ≡ before ++ comment ∷ behind
    → is_comment (content comment) ≡ true → length comment ≤ longest_line → length (lines_of others) + 1 < 2 ^ 64 → outcome rule others ≡ with_moved (length before) (outcome rule bytes)

-- ---- the order of labels

-- the labels on a line, if it is a state's
abbrev pub or_none : Result (List (List ℕ)) DrnKind → List (List ℕ)
or_none (Ok labels) = labels
or_none (Err kind) = []

abbrev pub labels_on : List ℕ → List (List ℕ)
labels_on text =
    let rest = behind_digits (without_blanks_before (drop 5 text)) in
    if is_state_line text then or_none (bracket_at (without_blanks_before rest) >>= λ bracket. labels_in bracket.1) else []

-- the contents behind `@model`
abbrev pub model_part : List (List ℕ) → List (List ℕ)
model_part [] = []
model_part (text ∷ texts) = if bytes_eq text (codes "@model") then texts else model_part texts

-- names that were seen, with those that come behind them: each once, where it is seen first
abbrev pub seen : List (List ℕ) → List (List ℕ) → List (List ℕ)
seen known [] = known
seen known (name ∷ names) = seen (with_name known name) names

-- a model's labels stand in the order of first sight
abbrev pub ListsLabelsBySight : Type 0
ListsLabelsBySight = (bytes : List ℕ) (rule : RowRule) (model : Mdp) → Reads bytes rule model → model.labels ≡ seen [] (flat_map labels_on (model_part (contents_of (lines_of bytes))))

-- ---- what is read is a model

-- what a text reads as keeps all that a model keeps: its rows are distributions, its names are proper, and its numbers are within the limits
abbrev pub ReadsAsModel : Type 0
ReadsAsModel = (bytes : List ℕ) (rule : RowRule) (model : Mdp) → Reads bytes rule model → IsModel model
