-- A subsystem, computed.
use Rattle.std.proofs.Common.{◌≡◌, ℕ, List, [], ◌∷◌, true, false, Bool, refl}
use Rattle.std.specs.Prelude.{Ok}
use Rattle.mdp_math.specs.{Gcd.{gcd, gcd_with_fuel}, Rational.{of_int, ratio, le_ℚ, ◌+ℚ◌}, Written.{narrow, narrow_ℚ, written_add}}
use Rattle.mdp_math.proofs.Order.{0ℚ}
use Rattle.mdp_spec.specs.{Mdp.{Entry, Choice, State, Mdp}, Sub.{sub_of}}
use Rattle.mdp_spec.proofs.Small.{entry, half, one, quarter}
use Rattle.mdp_rows.specs.Replay.{replayed}
use Rattle.mdp_rows.proofs.Examples.Words.{of_states}

abbrev choice : List Entry → Choice
choice row = record { row = row; rewards = one ∷ [] }

abbrev loop : ℕ → Choice
loop s = record { row = entry s one ∷ []; rewards = 0ℚ ∷ [] }

abbrev first : State
first = record { labels = 0 ∷ []; choices = choice (entry 1 half ∷ entry 2 half ∷ []) ∷ choice (entry 0 half ∷ entry 1 quarter ∷ entry 2 quarter ∷ []) ∷ [] }

abbrev reached : State
reached = record { labels = 1 ∷ []; choices = choice (entry 1 one ∷ []) ∷ [] }

abbrev away : State
away = record { labels = []; choices = choice (entry 2 one ∷ []) ∷ [] }

abbrev three : Mdp
three = of_states (first ∷ reached ∷ away ∷ [])

abbrev goals : List Bool
goals = false ∷ true ∷ false ∷ []

-- nothing is kept: states 0 and 2 have one loop of probability 1 each, which earns nothing; the goal stays, and so do all labels
abbrev cut_three : Mdp
cut_three = of_states (record { labels = 0 ∷ []; choices = loop 0 ∷ [] } ∷ reached ∷ record { labels = []; choices = loop 2 ∷ [] } ∷ [])

none-kept : sub_of three goals (false ∷ false ∷ false ∷ []) ≡ cut_three
unfolding sub_of
none-kept = refl

none-kept_replayed : replayed cut_three ≡ Ok cut_three
unfolding gcd gcd_with_fuel ratio of_int ◌+ℚ◌ le_ℚ narrow narrow_ℚ written_add
none-kept_replayed = refl

-- state 0 is kept: it stays as it is
first-kept : sub_of three goals (true ∷ false ∷ false ∷ []) ≡ of_states (first ∷ reached ∷ record { labels = []; choices = loop 2 ∷ [] } ∷ [])
unfolding sub_of
first-kept = refl

-- and where all are kept, so does the model
all-kept : sub_of three goals (true ∷ true ∷ true ∷ []) ≡ three
unfolding sub_of
all-kept = refl
