-- What the small models of examples are made of.
use Rattle.std.proofs.Common.{ℕ, Bool, true, false, List, [], ◌∷◌, pos}
use Rattle.mdp_math.specs.Rational.{ℚ, of_int, ratio, neg_ℚ}
use Rattle.mdp_spec.specs.Mdp.{Entry, Choice, State, Mdp}

-- ---- numbers: n, n/d and -n/d

abbrev pub number : ℕ → ℚ
number n = of_int (pos n)

abbrev pub over : ℕ → ℕ → ℚ
over n d = ratio (pos n) d

abbrev pub minus : ℕ → ℕ → ℚ
minus n d = neg_ℚ (ratio (pos n) d)

abbrev pub nought : ℚ
nought = of_int (pos 0)

abbrev pub one : ℚ
one = of_int (pos 1)

abbrev pub two : ℚ
two = of_int (pos 2)

abbrev pub half : ℚ
half = ratio (pos 1) 2

abbrev pub third : ℚ
third = ratio (pos 1) 3

abbrev pub two_thirds : ℚ
two_thirds = ratio (pos 2) 3

abbrev pub quarter : ℚ
quarter = ratio (pos 1) 4

abbrev pub three_quarters : ℚ
three_quarters = ratio (pos 3) 4

-- ---- rows, choices and states

abbrev pub entry : ℕ → ℚ → Entry
entry t p = record { target = t; prob = p }

-- a choice without a reward
abbrev pub choice : List Entry → Choice
choice row = record { row = row; rewards = [] }

-- a choice with one reward that leads to t alone
abbrev pub to : ℕ → ℚ → Choice
to t reward = record { row = entry t (number 1) ∷ []; rewards = reward ∷ [] }

-- a state without a label
abbrev pub state : List Choice → State
state choices = record { labels = []; choices = choices }

abbrev pub labelled : List ℕ → List Choice → State
labelled labels choices = record { labels = labels; choices = choices }

-- ---- models without labels: without a reward, and with the reward model `-`

abbrev pub bare : List State → Mdp
bare states = record { names = []; labels = []; states = states }

abbrev pub model : List State → Mdp
model states = record { names = (45 ∷ []) ∷ []; labels = []; states = states }

-- in `split` state 0 has a loop, and a choice that goes on to 1 with 1/3 and to 2 with 2/3; 1 is the goal, and 2 is left nowhere
abbrev pub split : Mdp
split = bare
    (state (choice (entry 0 one ∷ []) ∷ choice (entry 1 third ∷ entry 2 two_thirds ∷ []) ∷ [])
    ∷ state (choice (entry 1 one ∷ []) ∷ [])
    ∷ state (choice (entry 2 one ∷ []) ∷ [])
    ∷ [])

abbrev pub split_goals : List Bool
split_goals = false ∷ true ∷ false ∷ []

-- in `back` state 0 goes to 1 or 3 with 1/2 each, or to 1; 1 goes back to 0 or to the goal 2 with 1/2 each, and 3 is left nowhere
abbrev pub back : Mdp
back = bare
    (state (choice (entry 1 half ∷ entry 3 half ∷ []) ∷ choice (entry 1 one ∷ []) ∷ [])
    ∷ state (choice (entry 0 half ∷ entry 2 half ∷ []) ∷ [])
    ∷ state (choice (entry 2 one ∷ []) ∷ [])
    ∷ state (choice (entry 3 one ∷ []) ∷ [])
    ∷ [])

abbrev pub back_goals : List Bool
back_goals = false ∷ false ∷ true ∷ false ∷ []

-- `wait` stays at 0 for 1 in each step, or moves to 1, which earns 3 in each step
abbrev pub wait : Mdp
wait = model (state (to 0 (number 1) ∷ to 1 (number 0) ∷ []) ∷ state (to 1 (number 3) ∷ []) ∷ [])

-- `gamble` stays at 0 for 1 in each step, or moves to 1, which earns 4 in each step, or to 2, which earns nothing, with 1/2 each
abbrev pub gamble : Mdp
gamble = model
    (state (to 0 (number 1) ∷ record { row = entry 1 (over 1 2) ∷ entry 2 (over 1 2) ∷ []; rewards = number 0 ∷ [] } ∷ [])
    ∷ state (to 1 (number 4) ∷ [])
    ∷ state (to 2 (number 0) ∷ [])
    ∷ [])

-- `leave` earns 1 in each step, and 5 once on the way from 0 to 1
abbrev pub leave : Mdp
leave = model (state (to 0 (number 1) ∷ to 1 (number 5) ∷ []) ∷ state (to 1 (number 1) ∷ []) ∷ [])

-- `pay` loses 1 in each step at 0, or 5 once on the way to 1, which loses 1/2 in each step
abbrev pub pay : Mdp
pay = model (state (to 0 (minus 1 1) ∷ to 1 (minus 5 1) ∷ []) ∷ state (to 1 (minus 1 2) ∷ []) ∷ [])
