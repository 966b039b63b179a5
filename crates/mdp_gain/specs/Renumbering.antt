-- A component whose states get the numbers 0, 1, .. in their order. The states of the small component are the places in the list of the big one's states.
-- Choices keep their numbers.
use Rattle.std.specs.{Prelude.{◌≡◌, ℕ, ◌<◌, ◌≤◌, true, false, List, length, map, slice_index, Result, Ok, Err, pos}, List.{All, range_with_len}}
use Rattle.mdp_math.specs.Rational.{ℚ, of_int}
use Rattle.mdp_spec.specs.Mdp.{Entry}
use Rattle.mdp_policy_iteration.specs.Places.{Place}
use Rattle.mdp_unichain.specs.{Component.{Component, Choice, count, choices_at, choice_at, is_state}, Written.{Values}}
use Rattle.mdp_gain.specs.Best.{entry_of}

-- an entry of the small component in the big one
abbrev pub renamed : List ℕ → Entry → Entry
renamed states e = record { target = slice_index states e.target; prob = e.prob }

-- numbers that ascend strictly
abbrev pub Ascend : List ℕ → Type 0
Ascend states = (j k : ℕ) → j < k → k < length states → slice_index states j < slice_index states k

-- a choice is the component's in both or in none; where it is, it earns the same and leads to the same states
pub record IsSameChoice (states : List ℕ) (small big : Choice) : Type 0 where
  pub inner : small.inner ≡ big.inner
  pub reward : big.inner ≡ true → big.reward ≡ small.reward
  pub row : big.inner ≡ true → big.row ≡ map (renamed states) small.row
  pub targets : big.inner ≡ true → All (λ e. e.target < length states) small.row

pub record IsRenumbering (states : List ℕ) (small big : Component) : Type 0 where
  pub dir : small.dir ≡ big.dir
  pub ascend : Ascend states
  pub below : (j : ℕ) → j < length states → slice_index states j < count big
  pub few : length states ≤ count small
  -- the list has the states of the big component, and the small one has the places in it
  pub listed : (s : ℕ) → is_state big s ≡ true → (j : ℕ) × (j < length states) × (slice_index states j ≡ s)
  pub is_big : (j : ℕ) → j < length states → is_state big (slice_index states j) ≡ true
  pub is_small : (j : ℕ) → j < length states → is_state small j ≡ true
  pub outside : (j : ℕ) → length states ≤ j → is_state small j ≡ false
  pub width : (j : ℕ) → j < length states → length (choices_at small j) ≡ length (choices_at big (slice_index states j))
  pub choices : (j c : ℕ) → j < length states → IsSameChoice states (choice_at small j c) (choice_at big (slice_index states j) c)

-- a list for the numbers below n: at the states the entries of the small list, at all other numbers 0
abbrev pub spread : List ℕ → ℕ → List ℕ → List ℕ
spread states n policy = map (entry_of 0 states policy) (range_with_len 0 n)

abbrev pub spread_values : List ℕ → ℕ → List ℚ → List ℚ
spread_values states n values = map (entry_of (of_int (pos 0)) states values) (range_with_len 0 n)

-- a place of the small component in the big one
abbrev pub place_there : List ℕ → Place → Place
place_there states x = record { kind = x.kind; node = slice_index states x.node; choice = x.choice }

abbrev pub values_there : List ℕ → ℕ → Values → Values
values_there states n v = record { gain = v.gain; bias = spread_values states n v.bias }

-- a result of the small component in the big one
abbrev pub result_there : {A B : Type 0} → (A → B) → List ℕ → Result A Place → Result B Place
result_there f states (Ok x) = Ok (f x)
result_there f states (Err place) = Err (place_there states place)
