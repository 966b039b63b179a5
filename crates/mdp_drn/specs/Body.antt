-- The lines of the model: states, actions and transitions. What they make of the model is what a builder makes of it (mdp_rows, Draft).
use Rattle.std.specs.Prelude.{ℕ, ◌-◌, Bool, false, not, ◌||◌, ◌&&◌, List, [], ◌∷◌, length, take, drop, Result, Ok, Err, nat_lt, nat_le, ◌==◌, if◌then◌else◌, codes}
use Rattle.std.specs.{List.{list_any, after_last}, Option.{is_some}, Io.BufRead.{ends_with_byte}}
use Rattle.mdp_math.specs.Rational.{ℚ}
use Rattle.mdp_num.specs.Digits.{front_digits, behind_digits, number}
use Rattle.mdp_rows.specs.Draft.{Draft, all_closed, choice_closed, state_opened, choice_opened, choices_of, after_label, after_entry, has_choice, has_open_target}
use Rattle.mdp_rows.specs.declared.error.RowsError.{RowsError}
use Rattle.mdp_rows.specs.declared.error.RowsError.TheVariants as rows
use Rattle.mdp_drn.specs.{declared.error.DrnKind.{DrnKind}, Lines.{begins_with, without_blanks_before}, Outcome.{◌>>=◌, refuse_if, Refusal, at_line_of}}
use Rattle.mdp_drn.specs.{Values.{value_of, rewards_in}, Labels.{begins_blank, before_first, from_first, labels_in}}
use Rattle.mdp_drn.specs.declared.error.DrnKind.TheVariants as kind

-- the model so far, whether it is a Markov chain, and the lines of its last `state` and `action`
pub record Body : Type 0 where
  pub draft : Draft
  pub is_chain : Bool
  pub state_line : ℕ
  pub action_line : ℕ

-- ---- refusals of the builder

-- want of memory is no rule: a draft has no such refusal, and it stands for a broken shape here
abbrev pub kind_of : RowsError → DrnKind
kind_of (rows.RowSum s c) = kind.RowSum
kind_of (rows.RowWide s c) = kind.RowWide
kind_of rows.Twice = kind.Twice
kind_of (rows.NoChoice s) = kind.NoChoice
kind_of rows.TooMany = kind.TooMany
kind_of rows.Target = kind.Target
kind_of rows.Large = kind.Large
kind_of rows.Count = kind.Count
kind_of rows.Memory = kind.Shape

-- a row's refusals name the line of its `action`, a state without a choice the line of the state, all others this line
abbrev pub line_of : Body → ℕ → RowsError → ℕ
line_of body line (rows.RowSum s c) = body.action_line
line_of body line (rows.RowWide s c) = body.action_line
line_of body line rows.Twice = line
line_of body line (rows.NoChoice s) = body.state_line
line_of body line rows.TooMany = line
line_of body line rows.Target = line
line_of body line rows.Large = line
line_of body line rows.Count = line
line_of body line rows.Memory = line

abbrev pub judged : {A : Type 0} → Body → ℕ → Result A RowsError → Result A Refusal
judged body line (Ok x) = Ok x
judged body line (Err e) = Err (record { kind = kind_of e; line = line_of body line e })

abbrev pub with_draft : Body → Result Draft Refusal → Result Body Refusal
with_draft body made = made >>= λ draft. Ok (record body { draft = draft })

-- ---- bytes by name

abbrev pub is_open_bracket : ℕ → Bool
is_open_bracket c = c == 91

abbrev pub close_bracket : ℕ
close_bracket = 93

abbrev pub is_close_bracket : ℕ → Bool
is_close_bracket c = c == close_bracket

abbrev pub is_colon : ℕ → Bool
is_colon c = c == 58

-- what rates or an observation begin with: `!` or `{`
abbrev pub is_other_mark : ℕ → Bool
is_other_mark c = (c == 33) || (c == 123)

-- ---- the kinds of lines

abbrev pub has_digits : List ℕ → Bool
has_digits text = nat_lt 0 (length (front_digits text))

-- `state`, blanks and a digit
abbrev pub is_state_line : List ℕ → Bool
is_state_line text = begins_with (codes "state") text && begins_blank (drop 5 text) && has_digits (without_blanks_before (drop 5 text))

-- `action`, alone or followed by blanks
abbrev pub is_action_line : List ℕ → Bool
is_action_line text = begins_with (codes "action") text && ((length text == 6) || begins_blank (drop 6 text))

-- ---- states

-- the first byte passes the test
abbrev pub begins_as : (ℕ → Bool) → List ℕ → Bool
begins_as test [] = false
begins_as test (b ∷ bytes) = test b

-- what may stand behind a state's number: nothing, or a blank, a tab, `[`, `!` or `{` first
abbrev pub is_rest_of_state : List ℕ → Bool
is_rest_of_state rest = (length rest == 0) || begins_blank rest || begins_as is_open_bracket rest || begins_as is_other_mark rest

-- the text in a bracket, which ends at its first `]`, and the bytes behind it
abbrev pub bracket_to : List ℕ → List ℕ → Result (List ℕ × List ℕ) DrnKind
bracket_to inside [] = Err kind.Reward
bracket_to inside (close ∷ behind) = Ok (inside, behind)

abbrev pub bracket_at : List ℕ → Result (List ℕ × List ℕ) DrnKind
bracket_at [] = Ok ([], [])
bracket_at (c ∷ bytes) = if is_open_bracket c then bracket_to (before_first is_close_bracket bytes) (from_first is_close_bracket bytes) else Ok ([], c ∷ bytes)

-- a state's rewards and labels
pub record StateRead : Type 0 where
  pub rewards : List ℚ
  pub labels : List (List ℕ)

-- the number of a state, and the rest of its line
unfoldable pub state_read : Draft → List ℕ → List ℕ → Result StateRead DrnKind
state_read draft digits rest = do
  shape ← refuse_if kind.Shape (not (is_rest_of_state rest))
  order ← refuse_if kind.Order (not (number digits == length draft.closed))
  count ← refuse_if kind.Count (nat_le draft.announced (length draft.closed))
  plain ← refuse_if kind.Type (begins_as is_other_mark (without_blanks_before rest))
  bracket ← bracket_at (without_blanks_before rest)
  rewards ← rewards_in (length draft.names) bracket.0
  labels ← labels_in bracket.1
  Ok (record { rewards = rewards; labels = labels })

-- each label given to the open state, in the order of the line
abbrev pub with_labels : List (List ℕ) → Draft → Result Draft RowsError
with_labels [] draft = Ok draft
with_labels (name ∷ names) draft = after_label draft name >>= with_labels names

-- the open choice and state are closed, the line is judged, and the state opens
abbrev pub state_line : Body → ℕ → List ℕ → Result Body Refusal
state_line body line behind = do
  closed ← judged body line (all_closed body.draft)
  read ← at_line_of line (state_read closed (front_digits behind) (behind_digits behind))
  opened ← judged body line (state_opened closed read.rewards)
  labelled ← judged body line (with_labels read.labels opened)
  Ok (record body { draft = labelled; state_line = line })

-- ---- choices

-- the text in the bracket at the end of a line, from its last `[`, if there is one
abbrev pub bracket_behind : List ℕ → Result (List ℕ) DrnKind
bracket_behind rest =
    if ends_with_byte close_bracket rest then
    (if list_any is_open_bracket rest then Ok (take (length (after_last is_open_bracket rest) - 1) (after_last is_open_bracket rest)) else Err kind.Shape)
    else Ok []

-- the open state has a choice already
abbrev pub has_action : Draft → Bool
has_action draft = nat_lt 0 (length (choices_of draft.state))

-- the rewards of a choice of the open state, whose choices are closed; a state of a Markov chain has one choice
unfoldable pub action_read : Bool → Draft → List ℕ → Result (List ℚ) DrnKind
action_read is_chain draft rest = do
  under ← refuse_if kind.Shape (not (is_some draft.state))
  inside ← bracket_behind rest
  rewards ← rewards_in (length draft.names) inside
  one ← refuse_if kind.Choices (is_chain && has_action draft)
  Ok rewards

abbrev pub action_line : Body → ℕ → List ℕ → Result Body Refusal
action_line body line rest = do
  closed ← judged body line (choice_closed body.draft)
  rewards ← at_line_of line (action_read body.is_chain closed rest)
  opened ← judged body line (choice_opened closed rewards)
  Ok (record body { draft = opened; action_line = line })

-- ---- transitions

-- blanks, a colon, blanks, and a value that isn't empty
abbrev pub value_text : List ℕ → Result (List ℕ) DrnKind
value_text [] = Err kind.Shape
value_text (c ∷ bytes) = if is_colon c && nat_lt 0 (length (without_blanks_before bytes)) then Ok (without_blanks_before bytes) else Err kind.Shape

-- a target and its value
pub record EntryRead : Type 0 where
  pub target : ℕ
  pub value : ℚ

unfoldable pub entry_read : Draft → List ℕ → Result EntryRead DrnKind
entry_read draft text = do
  digits ← refuse_if kind.Shape (not (has_digits text))
  value ← value_text (without_blanks_before (behind_digits text))
  under ← refuse_if kind.Shape (not (has_choice draft))
  inside ← refuse_if kind.Target (nat_le draft.announced (number (front_digits text)))
  once ← refuse_if kind.Twice (has_open_target draft (number (front_digits text)))
  number_read ← value_of value
  Ok (record { target = number (front_digits text); value = number_read })

abbrev pub entry_line : Body → ℕ → List ℕ → Result Body Refusal
entry_line body line text = do
  read ← at_line_of line (entry_read body.draft text)
  with_draft body (judged body line (after_entry body.draft read.target read.value))

-- a line of the model that isn't blank
unfoldable pub model_line : Body → ℕ → List ℕ → Result Body Refusal
model_line body line text =
    if is_state_line text then state_line body line (without_blanks_before (drop 5 text))
    else (if is_action_line text then action_line body line (drop 6 text)
    else entry_line body line text)
