-- What until has to do with reaching a goal on the subsystem of the states that stay.
use Rattle.std.specs.Prelude.{◌≡◌, ℕ, ◌<◌, Bool, true, List}
use Rattle.mdp_math.specs.Rational.{ℚ, ◌≤ℚ◌}
use Rattle.mdp_spec.specs.{Mdp.{Mdp, states_of, value_at}, Row.{IsMdp}, Tree.{Tree, IsStrategy, is_marked}, Hit.{hit}, Sub.{sub_of, policy_on}}
use Rattle.mdp_spec.specs.{Between.{ReachMaxBetween, ReachMinBetween}, Until.{until, UntilMax, UntilMin, UntilMaxBetween, UntilMinBetween}}

-- what the trees of a state come to, by mixing total and depth
abbrev pub Worth : Type 0
Worth = ℕ → ℕ → Tree → ℕ → ℚ

-- each tree of a model has a tree of another one, of the same depth and mixing total, that comes to the same
abbrev pub IsCarried : Mdp → Mdp → Worth → Worth → Type 0
IsCarried m k f g = (n u : ℕ) (t : Tree) (s : ℕ) → s < states_of m → IsStrategy m u n t s → (w : Tree) × IsStrategy k u n w s × (f u n t s ≡ g u n w s)

-- until on the model is reaching a goal on the subsystem: each tree of the one has a tree of the other
abbrev pub UntilIsReach : Type 0
UntilIsReach = (m : Mdp) (stay goals : List Bool) → IsMdp m → IsCarried m (sub_of m goals stay) (until m stay goals) (hit (sub_of m goals stay) goals)

abbrev pub ReachIsUntil : Type 0
ReachIsUntil = (m : Mdp) (stay goals : List Bool) → IsMdp m → IsCarried (sub_of m goals stay) m (hit (sub_of m goals stay) goals) (until m stay goals)

-- where each state stays, it is the probability of meeting a goal
abbrev pub IsHitWhereAllStay : Type 0
IsHitWhereAllStay =
    (m : Mdp) (stay goals : List Bool) (u n : ℕ) (t : Tree) (s : ℕ)
    → IsMdp m → ((v : ℕ) → v < states_of m → is_marked stay v ≡ true) → s < states_of m → IsStrategy m u n t s → until m stay goals u n t s ≡ hit m goals u n t s

-- a subsystem of that subsystem whose kept states all stay is one of the model
abbrev pub IsOneSubsystem : Type 0
IsOneSubsystem =
    (m : Mdp) (stay goals kept : List Bool) → ((v : ℕ) → v < states_of m → is_marked kept v ≡ true → is_marked stay v ≡ true) → sub_of (sub_of m goals stay) goals kept ≡ sub_of m goals kept

-- and on it the two are the same: so the trees of a witness for reaching a goal come to as much by way of states that stay
abbrev pub IsHitWhereKeptStay : Type 0
IsHitWhereKeptStay =
    (m : Mdp) (stay goals kept : List Bool) (u n : ℕ) (t : Tree) (s : ℕ)
    → IsMdp m → ((v : ℕ) → v < states_of m → is_marked kept v ≡ true → is_marked stay v ≡ true) → s < states_of m → IsStrategy (sub_of m goals kept) u n t s
    → until (sub_of m goals kept) stay goals u n t s ≡ hit (sub_of m goals kept) goals u n t s

-- what values and a policy mean on the subsystem for reaching a goal, they mean on the model for until
abbrev pub UntilBySub : Type 0
UntilBySub =
    (m : Mdp) (stay goals : List Bool) (lower upper : List ℚ) (policy : List ℕ)
    → IsMdp m
    → (ReachMaxBetween (sub_of m goals stay) goals lower upper policy → UntilMaxBetween m stay goals lower upper policy)
    × (ReachMinBetween (sub_of m goals stay) goals lower upper policy → UntilMinBetween m stay goals lower upper policy)

-- and the other way round, for the policy as it is read on the subsystem
abbrev pub SubByUntil : Type 0
SubByUntil =
    (m : Mdp) (stay goals : List Bool) (lower upper : List ℚ) (policy : List ℕ)
    → IsMdp m
    → (UntilMaxBetween m stay goals lower upper policy → ReachMaxBetween (sub_of m goals stay) goals lower upper (policy_on goals stay policy))
    × (UntilMinBetween m stay goals lower upper policy → ReachMinBetween (sub_of m goals stay) goals lower upper (policy_on goals stay policy))

-- the exact values lie between a lower and an upper one
abbrev pub UntilLies : Type 0
UntilLies =
    (m : Mdp) (stay goals : List Bool) (lower upper z : List ℚ) (policy other : List ℕ) (s : ℕ)
    → IsMdp m
    → s < states_of m
    → (UntilMaxBetween m stay goals lower upper policy → UntilMax m stay goals z other → (value_at lower s ≤ℚ value_at z s) × (value_at z s ≤ℚ value_at upper s))
    × (UntilMinBetween m stay goals lower upper policy → UntilMin m stay goals z other → (value_at lower s ≤ℚ value_at z s) × (value_at z s ≤ℚ value_at upper s))

-- and are unique
abbrev pub UntilIsUnique : Type 0
UntilIsUnique =
    (m : Mdp) (stay goals : List Bool) (z w : List ℚ) (policy other : List ℕ) (s : ℕ)
    → IsMdp m
    → s < states_of m
    → (UntilMax m stay goals z policy → UntilMax m stay goals w other → value_at z s ≡ value_at w s)
    × (UntilMin m stay goals z policy → UntilMin m stay goals w other → value_at z s ≡ value_at w s)
