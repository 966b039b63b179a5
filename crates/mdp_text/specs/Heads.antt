-- The lines of the number of states and of the initial state. Each is judged by its shape first, then by its numbers from left to right, then by what
-- they count.
use Rattle.std.specs.Prelude.{ℕ, ◌^◌, Bool, true, false, not, ◌||◌, List, drop, codes, Option, Some, None, option_map, Result, Ok, nat_lt, ◌==◌, if◌then◌else◌}
use Rattle.std.specs.Str.{bytes_eq}
use Rattle.mdp_math.specs.Rational.{ℚ}
use Rattle.mdp_num.specs.{Value.{IsNarrow}, Canonical.{canonical_of}}
use Rattle.mdp_text.specs.declared.error.CertKind.TheVariants as kind
use Rattle.mdp_text.specs.{declared.error.Refusal.{Refusal}, declared.init.Init.{Init}, declared.init.Init.TheVariants.{Missing, Finite, Infinite, Start}}
use Rattle.mdp_text.specs.{Lines.{◌>>=◌, refuse_if, or_refused, Place, line_by}, Words.{first_of, words_behind, whole_at, reward_parse}}

-- from 1 to 2^20
unfoldable pub states_at : ℕ → List ℕ → Result ℕ Refusal
states_at n text = do
  behind ← words_behind (codes "states") 1 n text
  states ← whole_at n (first_of behind)
  range ← refuse_if kind.Count n ((states == 0) || nat_lt (2 ^ 20) states)
  Ok states

-- the value in the line `init`: a fraction, or `inf` where the claim's values may be infinite
abbrev pub init_parse : Bool → List ℕ → Option (Option ℚ)
init_parse true word = reward_parse word
init_parse false word = option_map Some (canonical_of word)

abbrev pub init_of : ℕ → Option ℚ → Init
init_of state (Some value) = Finite state value
init_of state None = Infinite state

unfoldable pub given_at : Bool → ℕ → ℕ → List ℕ → Result Init Refusal
given_at infinite states n text = do
  behind ← words_behind (codes "init") 2 n text
  state ← whole_at n (first_of behind)
  value ← or_refused kind.Number n (init_parse infinite (first_of (drop 1 behind)))
  inside ← refuse_if kind.Count n (not (nat_lt state states))
  Ok (init_of state value)

-- a state with its value, or `-`
unfoldable pub valued_at : Bool → ℕ → ℕ → List ℕ → Result Init Refusal
valued_at infinite states n text = if bytes_eq text (codes "init -") then Ok Missing else given_at infinite states n text

-- a state alone
unfoldable pub start_at : ℕ → ℕ → List ℕ → Result Init Refusal
start_at states n text = do
  behind ← words_behind (codes "init") 1 n text
  state ← whole_at n (first_of behind)
  inside ← refuse_if kind.Count n (not (nat_lt state states))
  Ok (Start state)

-- ---- the lines of claim, states and init

pub record Head (C I : Type 0) : Type 0 where
  pub claim : C
  pub states : ℕ
  pub init : I

-- these three lines, where the lines of claim and init are judged so; the form of the line `init` may be the claim's
abbrev pub head_by : {C I : Type 0} → (ℕ → List ℕ → Result C Refusal) → (C → ℕ → ℕ → List ℕ → Result I Refusal) → Place → Result (Head C I × Place) Refusal
head_by claim_at init_at p = do
  claim ← line_by claim_at p
  states ← line_by states_at claim.1
  init ← line_by (init_at claim.0 states.0) states.1
  Ok (record { claim = claim.0; states = states.0; init = init.0 }, init.1)

-- ---- what the line says of a model

-- its one initial state and that state's value
abbrev pub init_by : Option ℕ → (ℕ → Option ℚ) → Init
init_by None value = Missing
init_by (Some state) value = init_of state (value state)

-- ---- its width

abbrev pub IsInitInWidth : Init → Type 0
IsInitInWidth Missing = Unit {0}
IsInitInWidth (Finite state value) = IsNarrow value
IsInitInWidth (Infinite state) = Unit {0}
IsInitInWidth (Start state) = Unit {0}
