-- Layered models: state l * width + i stands at place i of layer l. Each has two choices, which lead to the next layer, and from the last one to
-- a goal or to a failing state.
use Rattle.std.specs.Prelude.{ℕ, ◌+◌, ◌-◌, ◌*◌, ◌/◌, ◌%◌, ◌^◌, ◌≤◌, min, max, List, [], ◌∷◌, ◌++◌, map, pos, nat_lt, ◌==◌, if◌then◌else◌, codes}
use Rattle.std.specs.List.{range_with_len}
use Rattle.mdp_math.specs.Rational.{ℚ, of_int, ratio}
use Rattle.mdp_spec.specs.Mdp.{Entry, Choice, State, Mdp}
use Rattle.mdp_gen.specs.Draws.{next, draw}

-- how many layers there may be, of which width
pub record IsShape (layers width : ℕ) : Type 0 where
  pub some_layers : 1 ≤ layers
  pub few_layers : layers ≤ 100
  pub some_width : 1 ≤ width
  pub few_states : layers * width ≤ 2 ^ 20 - 2

-- behind the layers come the goal and the failing state
abbrev pub goal : ℕ → ℕ → ℕ
goal layers width = layers * width

abbrev pub failing : ℕ → ℕ → ℕ
failing layers width = layers * width + 1

-- where the draw d leads from state s: from a layer but the last to the place of the draw, modulo the width, in the next layer; from the last
-- layer to the goal where the draw is even, else to the failing state
abbrev pub target : ℕ → ℕ → ℕ → ℕ → ℕ
target layers width s d =
    if nat_lt (s / width + 1) layers then (s / width + 1) * width + d % width
    else (if d % 2 == 0 then goal layers width else failing layers width)

abbrev pub one : ℚ
one = of_int (pos 1)

abbrev pub half : ℚ
half = ratio (pos 1) 2

-- to each of two states with probability 1/2, to one state with probability 1
abbrev pub row_to : ℕ → ℕ → List Entry
row_to a b =
    if a == b then record { target = a; prob = one } ∷ []
    else (record { target = min a b; prob = half } ∷ record { target = max a b; prob = half } ∷ [])

-- a choice earns nothing
abbrev pub choice_to : List Entry → Choice
choice_to row = record { row = row; rewards = of_int (pos 0) ∷ [] }

-- the choice of two draws
abbrev pub choice_by : ℕ → ℕ → ℕ → ℕ → ℕ → Choice
choice_by layers width s a b = choice_to (row_to (target layers width s a) (target layers width s b))

-- state s, where x was drawn before it: two draws for each choice
abbrev pub state_behind : ℕ → ℕ → ℕ → ℕ → State
state_behind layers width s x = record {
  labels = if s == 0 then 0 ∷ [] else [];
  choices =
      choice_by layers width s (next x) (next (next x))
      ∷ choice_by layers width s (next (next (next x))) (next (next (next (next x))))
      ∷ [];
}

-- a state with one choice, a loop
abbrev pub loop_state : ℕ → List ℕ → State
loop_state s labels = record { labels = labels; choices = choice_to (row_to s s) ∷ [] }

-- the model of these states: the unnamed rewards, and the labels `init` and `goal`
abbrev pub of_states : List State → Mdp
of_states states = record { names = codes "-" ∷ []; labels = codes "init" ∷ codes "goal" ∷ []; states = states }

-- the layers' states one after the other
abbrev pub layer_states : ℕ → ℕ → ℕ → List State
layer_states number layers width = map (λ s. state_behind layers width s (draw number (4 * s))) (range_with_len 0 (layers * width))

abbrev pub last_states : ℕ → ℕ → List State
last_states layers width = loop_state (goal layers width) (1 ∷ []) ∷ loop_state (failing layers width) [] ∷ []

abbrev pub layered_model : ℕ → ℕ → ℕ → Mdp
layered_model number layers width = of_states (layer_states number layers width ++ last_states layers width)
