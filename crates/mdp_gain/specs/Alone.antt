-- The model of one end component alone: its states, ascending, get the numbers 0, 1, .., and one more state stands for all others of the model. Choices keep their
-- numbers. An inner choice keeps its reward and its row; any other choice leads to the one more state, which stays where it is. The one reward has a name of
-- its own, since the model's may be one that can't stand first.
use Rattle.std.specs.{Prelude.{ℕ, suc, Bool, List, [], ◌∷◌, ◌++◌, length, map, Option, ◌==◌, if◌then◌else◌, pos, codes}, List.{range_with_len}}
use Rattle.mdp_math.specs.Rational.{of_int}
use Rattle.mdp_spec.specs.{Mdp.{Entry, Choice, State, Mdp, choices_at, choice_at, row_at}, Unit.{reward_of}}
use Rattle.mdp_unichain.specs.Part.{members, is_inner}

-- the place of s in a list; past its end where it isn't in the list
abbrev pub place_in : List ℕ → ℕ → ℕ
place_in [] s = 0
place_in (t ∷ states) s = if t == s then 0 else suc (place_in states s)

abbrev pub placed_entry : List ℕ → Entry → Entry
placed_entry states e = record { target = place_in states e.target; prob = e.prob }

abbrev pub to : ℕ → List Entry
to s = record { target = s; prob = of_int (pos 1) } ∷ []

abbrev pub row_alone : Bool → List ℕ → List Entry → List Entry
row_alone inner states row = if inner then map (placed_entry states) row else to (length states)

abbrev pub choice_alone : Mdp → List (Option ℕ) → ℕ → ℕ → List ℕ → ℕ → ℕ → Choice
choice_alone m parts i r states s c =
    record { row = row_alone (is_inner m parts i s c) states (row_at m s c); rewards = reward_of (choice_at m s c) r ∷ [] }

abbrev pub state_alone : Mdp → List (Option ℕ) → ℕ → ℕ → List ℕ → ℕ → State
state_alone m parts i r states s =
    record { labels = []; choices = map (choice_alone m parts i r states s) (range_with_len 0 (length (choices_at m s))) }

-- the state that stands for all others
abbrev pub elsewhere : ℕ → State
elsewhere n = record { labels = []; choices = record { row = to n; rewards = of_int (pos 0) ∷ [] } ∷ [] }

-- the name of the one reward
abbrev pub only_name : List ℕ
only_name = codes "reward"

-- of part i, for the reward of name r; the list has the states of the part
abbrev pub alone_of : Mdp → List (Option ℕ) → ℕ → ℕ → List ℕ → Mdp
alone_of m parts i r states =
    record { names = only_name ∷ []; labels = []; states = map (state_alone m parts i r states) states ++ elsewhere (length states) ∷ [] }

abbrev pub alone : Mdp → List (Option ℕ) → ℕ → ℕ → Mdp
alone m parts i r = alone_of m parts i r (members m parts i)
