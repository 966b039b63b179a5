-- The header in the code, as what the lines have spelled.
use Rattle.std.specs.{Prelude.{ℕ, Bool, true, false, List, map, option_map, Result, Err, if◌then◌else◌, codes}, Str.{bytes_eq}}
use Rattle.mdp_drn.specs.{declared.header.Header.{Header}, declared.header.NextLine.{NextLine}, declared.error.DrnKind.{DrnKind}}
use Rattle.mdp_drn.specs.Header.{Next, AnyEntry, BlankLine, RewardNames, StateCount, ChoiceCount, Model}
use Rattle.mdp_drn.specs.Header.{parameters_entry, reward_models_entry, nr_states_entry, nr_choices_entry, model_entry}
use Rattle.mdp_drn.specs.declared.header.NextLine.TheVariants as code
use Rattle.mdp_drn.specs.declared.error.DrnKind.TheVariants as kind
use Rattle.mdp_drn.specs.Header as spec

abbrev pub view : Header → spec.Header
view h = record {
  model_type = h.model_type;
  has_value_type = h.has_value_type;
  has_parameters = h.has_parameters;
  names = option_map (λ names. map (λ name. name.items) names.items) h.names;
  states = h.states;
  choices = h.choices;
}

abbrev pub view_next : NextLine → Next
view_next code.AnyEntry = AnyEntry
view_next code.BlankLine = BlankLine
view_next code.RewardNames = RewardNames
view_next code.StateCount = StateCount
view_next code.ChoiceCount = ChoiceCount
view_next code.Model = Model

-- a header, and what the next line may be
abbrev pub pair : Header → NextLine → spec.Header × Next
pair h next = (view h, view_next next)

-- the header has ended
abbrev pub is_model : Next → Bool
is_model Model = true
is_model AnyEntry = false
is_model BlankLine = false
is_model RewardNames = false
is_model StateCount = false
is_model ChoiceCount = false

-- the line of an entry that is one word: the last three of them, and all
abbrev pub last_entry : spec.Header → List ℕ → Result (spec.Header × Next) DrnKind
last_entry header text =
    if bytes_eq text (codes "@nr_choices") then nr_choices_entry header
    else (if bytes_eq text (codes "@placeholders") then Err kind.Parametric
    else (if bytes_eq text (codes "@model") then model_entry header
    else Err kind.Header))

abbrev pub bare_entry : spec.Header → List ℕ → Result (spec.Header × Next) DrnKind
bare_entry header text =
    if bytes_eq text (codes "@parameters") then parameters_entry header
    else (if bytes_eq text (codes "@reward_models") then reward_models_entry header
    else (if bytes_eq text (codes "@nr_states") then nr_states_entry header
    else last_entry header text))
