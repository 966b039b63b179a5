-- The header: entries, each at most once, in any order, up to `@model`.
use Rattle.std.specs.Prelude.{ℕ, ◌^◌, Bool, false, true, not, ◌||◌, ◌&&◌, is_some, List, [], ◌∷◌, length}
use Rattle.std.specs.{Prelude.{drop, Option, Some, None, Result, Ok, Err, nat_lt, ◌==◌, if◌then◌else◌, filter, codes}, List.{slice_split, list_any}}
use Rattle.std.specs.Str.{bytes_eq}
use Rattle.mdp_num.specs.Digits.{is_digits, number}
use Rattle.mdp_rows.specs.Name.{are_different}
use Rattle.mdp_drn.specs.{declared.error.DrnKind.{DrnKind}, declared.header.ModelType.{ModelType}, declared.header.ModelType.TheVariants.{Mdp, Dtmc}}
use Rattle.mdp_drn.specs.{Lines.{is_blank, begins_with, without_blanks_before}, Outcome.{◌>>=◌, refuse_if, given_or}}
use Rattle.mdp_drn.specs.declared.error.DrnKind.TheVariants as kind

-- the entries, each given or not; a number that is still to come is 0
pub record Header : Type 0 where
  pub model_type : Option ModelType
  pub has_value_type : Bool
  pub has_parameters : Bool
  pub names : Option (List (List ℕ))
  pub states : Option ℕ
  pub choices : Option ℕ

-- what the next line may be
pub data Next : Type 0 where
  AnyEntry : Next
  BlankLine : Next
  RewardNames : Next
  StateCount : Next
  ChoiceCount : Next
  Model : Next

abbrev pub no_entries : Header
no_entries = record { model_type = None; has_value_type = false; has_parameters = false; names = None; states = None; choices = None }

-- one word and nothing behind it
abbrev pub is_word : List ℕ → Bool
is_word text = nat_lt 0 (length text) && not (list_any is_blank text)

abbrev pub words_of : List ℕ → List (List ℕ)
words_of text = filter (λ word. nat_lt 0 (length word)) (slice_split is_blank text)

abbrev pub read : Header → Next → Result (Header × Next) DrnKind
read header next = Ok (header, next)

-- the types of models that are read: Markov decision processes and Markov chains
abbrev pub type_named : List ℕ → Option ModelType
type_named word = if bytes_eq word (codes "MDP") then Some Mdp else (if bytes_eq word (codes "DTMC") then Some Dtmc else None)

-- `@type:` and a word, which has to name a type that is read
abbrev pub type_entry : Header → List ℕ → Result (Header × Next) DrnKind
type_entry header word = do
  once ← refuse_if kind.Header (not (is_word word) || is_some header.model_type)
  named ← given_or kind.Type (type_named word)
  read (record header { model_type = Some named }) AnyEntry

-- `@value_type:` and a word, which is ignored
abbrev pub value_type_entry : Header → List ℕ → Result (Header × Next) DrnKind
value_type_entry header word = do
  once ← refuse_if kind.Header (not (is_word word) || header.has_value_type)
  read (record header { has_value_type = true }) AnyEntry

abbrev pub parameters_entry : Header → Result (Header × Next) DrnKind
parameters_entry header = do
  once ← refuse_if kind.Header header.has_parameters
  read (record header { has_parameters = true }) BlankLine

abbrev pub reward_models_entry : Header → Result (Header × Next) DrnKind
reward_models_entry header = do
  once ← refuse_if kind.Header (is_some header.names)
  read (record header { names = Some [] }) RewardNames

abbrev pub nr_states_entry : Header → Result (Header × Next) DrnKind
nr_states_entry header = do
  once ← refuse_if kind.Header (is_some header.states)
  read (record header { states = Some 0 }) StateCount

abbrev pub nr_choices_entry : Header → Result (Header × Next) DrnKind
nr_choices_entry header = do
  once ← refuse_if kind.Header (is_some header.choices)
  read (record header { choices = Some 0 }) ChoiceCount

-- the header ends only where the type and the number of states were given
abbrev pub model_entry : Header → Result (Header × Next) DrnKind
model_entry header = do
  complete ← refuse_if kind.Header (not (is_some header.model_type && is_some header.states))
  read header Model

-- an entry's line
unfoldable pub entry_line : Header → List ℕ → Result (Header × Next) DrnKind
entry_line header text =
    if begins_with (codes "@type:") text then type_entry header (without_blanks_before (drop 6 text))
    else (if begins_with (codes "@value_type:") text then value_type_entry header (without_blanks_before (drop 12 text))
    else (if bytes_eq text (codes "@parameters") then parameters_entry header
    else (if bytes_eq text (codes "@reward_models") then reward_models_entry header
    else (if bytes_eq text (codes "@nr_states") then nr_states_entry header
    else (if bytes_eq text (codes "@nr_choices") then nr_choices_entry header
    else (if bytes_eq text (codes "@placeholders") then Err kind.Parametric
    else (if bytes_eq text (codes "@model") then model_entry header
    else Err kind.Header)))))))

-- a quote or a CR
abbrev pub is_bad_byte : ℕ → Bool
is_bad_byte c = (c == 34) || (c == 13)

-- a name that no reward model can have: it has more than 255 bytes, a quote or a CR
abbrev pub is_bad_name : List ℕ → Bool
is_bad_name word = nat_lt 255 (length word) || list_any is_bad_byte word

-- the names of reward models: all are proper and different, and there are at most 16
unfoldable pub names_in : List (List ℕ) → Result (List (List ℕ)) DrnKind
names_in words = do
  proper ← refuse_if kind.Header (list_any is_bad_name words || not (are_different words))
  few ← refuse_if kind.TooMany (nat_lt 16 (length words))
  Ok words

-- a number of states or choices
abbrev pub count_in : ℕ → List ℕ → Result ℕ DrnKind
count_in most text = do
  digits ← refuse_if kind.Number (not (is_digits text))
  few ← refuse_if kind.TooMany (nat_lt most (number text))
  Ok (number text)

abbrev pub with_states : Header → ℕ → Result (Header × Next) DrnKind
with_states header n = do
  some ← refuse_if kind.Count (n == 0)
  read (record header { states = Some n }) AnyEntry

abbrev pub is_entry : List ℕ → Bool
is_entry text = begins_with (codes "@") text

-- the lines behind `@reward_models`, `@nr_states` and `@nr_choices`
abbrev pub names_line : Header → List ℕ → Result (Header × Next) DrnKind
names_line header text = names_in (words_of text) >>= λ names. read (record header { names = Some names }) AnyEntry

abbrev pub states_line : Header → List ℕ → Result (Header × Next) DrnKind
states_line header text = count_in (2 ^ 20) text >>= with_states header

abbrev pub choices_line : Header → List ℕ → Result (Header × Next) DrnKind
choices_line header text = count_in (2 ^ 22) text >>= λ n. read (record header { choices = Some n }) AnyEntry

-- a line of the header, where `next` says what it may be
abbrev pub header_line : Next → Header → List ℕ → Result (Header × Next) DrnKind
header_line AnyEntry header text = if length text == 0 then read header AnyEntry else entry_line header text
header_line BlankLine header text = if length text == 0 then read header AnyEntry else (if is_entry text then entry_line header text else Err kind.Parametric)
header_line RewardNames header text =
    if is_entry text then entry_line header text
    else names_line header text
header_line StateCount header text =
    if length text == 0 then read header StateCount else states_line header text
header_line ChoiceCount header text =
    if length text == 0 then read header ChoiceCount else choices_line header text
header_line Model header text = read header Model

-- ---- what a header says of the model

abbrev pub or_else : {X : Type 0} → X → Option X → X
or_else x None = x
or_else x (Some y) = y

-- the file is of type DTMC
abbrev pub is_chain : Option ModelType → Bool
is_chain None = false
is_chain (Some Mdp) = false
is_chain (Some Dtmc) = true

abbrev pub announced : Header → ℕ
announced header = or_else 0 header.states

abbrev pub names_or_one : List (List ℕ) → List (List ℕ)
names_or_one [] = codes "-" ∷ []
names_or_one (n ∷ ns) = n ∷ ns

-- the names of the reward models: one, called `-`, where none is given
abbrev pub names_of : Header → List (List ℕ)
names_of header = names_or_one (or_else [] header.names)
