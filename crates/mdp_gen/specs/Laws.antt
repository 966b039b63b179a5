-- What the text of a layered model is.
use Rattle.std.specs.Prelude.{◌≡◌, ℕ, ◌+◌, ◌*◌, ◌^◌, ◌≤◌, length, sum_by}
use Rattle.mdp_spec.specs.{Mdp.{states_of}, Row.{IsMdp}}
use Rattle.mdp_rows.specs.{Limits.{IsModel}, declared.rule.RowRule.TheVariants.{Exact}}
use Rattle.mdp_drn.specs.Reading.{Reads}
use Rattle.mdp_gen.specs.{Layered.{IsShape, layered_model}, Text.{generated_text}}

-- it reads as the layered model
abbrev pub TextReads : Type 0
TextReads = (number layers width : ℕ) → IsShape layers width → Reads (generated_text number layers width) Exact (layered_model number layers width)

-- it is as short as the file of a model may be
abbrev pub TextIsShort : Type 0
TextIsShort = (number layers width : ℕ) → IsShape layers width → length (generated_text number layers width) ≤ 2 ^ 30

-- so many states are in it
abbrev pub HasStates : Type 0
HasStates = (number layers width : ℕ) → IsShape layers width → states_of (layered_model number layers width) ≡ layers * width + 2

-- so many choices, two for each state of a layer
abbrev pub HasChoices : Type 0
HasChoices = (number layers width : ℕ) → IsShape layers width → sum_by (λ x. length x.choices) (layered_model number layers width).states ≡ 2 * (layers * width) + 2

-- each state has a choice, and each row is a distribution over the states
abbrev pub HasRows : Type 0
HasRows = (number layers width : ℕ) → IsShape layers width → IsMdp (layered_model number layers width)

-- it keeps what each model keeps
abbrev pub IsModelLayered : Type 0
IsModelLayered = (number layers width : ℕ) → IsShape layers width → IsModel (layered_model number layers width)
