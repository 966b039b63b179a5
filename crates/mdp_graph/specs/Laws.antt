-- What the passes are for, in terms of policies and of the rules of a certificate.
use Rattle.std.specs.Prelude.{◌≡◌, ℕ, ◌<◌, ◌≤◌, pos, ◌⊎◌, Bool, true, false, not, ◌&&◌, ◌==◌, nat_lt, List, [], length, map, cond, slice_index, slice_index_or}
use Rattle.std.specs.List.{range_with_len}
use Rattle.mdp_spec.specs.{Mdp.{Entry, Mdp, states_of, choices_at, row_at}, Row.{IsMdp, AreRows}, Bounds.{part}, Hit.{hit}}
use Rattle.mdp_spec.specs.Tree.{Tree, IsStrategy, IsPolicy, unfolded}
use Rattle.mdp_math.specs.Rational.{of_int, ◌+ℚ◌, ◌≤ℚ◌}
use Rattle.mdp_graph.specs.{Sets.{marked, can_enter, stays_in, some_choice}, Layers.{reached, AreReached, AreLeastRanks}, Choices.{AreLeast}}
use Rattle.mdp_graph.specs.{Reach.{may_step, row_step, falls}, Meet.{must_step}, Sure.{inside_step, IsGreatestSure, stays_and_falls}, Rounds.{AreRounds}}
use Rattle.mdp_graph.specs.{Avoid.{IsGreatestAvoiding, keeps}, SureAll.{IsSureAll}}

-- the choice that a policy takes at a state has a successor in the set
abbrev pub policy_step : Mdp → List ℕ → (ℕ → Bool) → ℕ → Bool
policy_step m policy set s = can_enter set (row_at m s (slice_index policy s))

-- ---- may_reach

-- by the choices of the pass each marked state can come to a target within as many steps as its rank
abbrev pub ChoicesReach : Type 0
ChoicesReach =
    (m : Mdp) (targets blocked marks : List Bool) (ranks policy : List ℕ) → IsMdp m
    → AreReached (may_step m blocked) (marked targets) (states_of m) marks → AreLeastRanks (may_step m blocked) (marked targets) (states_of m) marks ranks
    → AreLeast m targets marks (falls m marks ranks) policy
    → (s : ℕ) → s < states_of m → marked marks s ≡ true → reached (policy_step m policy) (marked targets) (slice_index ranks s) s ≡ true

-- a state that is neither marked nor blocked has no choice that leads to a marked one
abbrev pub RestStays : Type 0
RestStays =
    (m : Mdp) (targets blocked marks : List Bool) → IsMdp m → AreReached (may_step m blocked) (marked targets) (states_of m) marks
    → (s : ℕ) → s < states_of m → marked marks s ≡ false → marked blocked s ≡ false → some_choice (can_enter (marked marks)) m s ≡ false

-- ---- along

-- the row of a marked state that is no target leads to a marked state of smaller rank
abbrev pub RowsFall : Type 0
RowsFall =
    (rows : List (List Entry)) (targets marks : List Bool) (ranks : List ℕ) → AreRows rows
    → AreReached (row_step rows) (marked targets) (length rows) marks → AreLeastRanks (row_step rows) (marked targets) (length rows) marks ranks
    → (s : ℕ) → s < length rows → marked marks s ≡ true → marked targets s ≡ false
    → can_enter (λ t. marked marks t && nat_lt (slice_index ranks t) (slice_index ranks s)) (slice_index_or rows s []) ≡ true

-- the row of a state that isn't marked leads to no marked one
abbrev pub RowsStay : Type 0
RowsStay =
    (rows : List (List Entry)) (targets marks : List Bool) → AreRows rows → AreReached (row_step rows) (marked targets) (length rows) marks
    → (s : ℕ) → s < length rows → marked marks s ≡ false → can_enter (marked marks) (slice_index_or rows s []) ≡ false

-- ---- must_meet

-- whatever policy is taken, each marked state can come to a target within as many steps as its rank
abbrev pub EachPolicyMeets : Type 0
EachPolicyMeets =
    (m : Mdp) (targets marks : List Bool) (ranks policy : List ℕ) → IsMdp m
    → AreReached (must_step m) (marked targets) (states_of m) marks → AreLeastRanks (must_step m) (marked targets) (states_of m) marks ranks → IsPolicy m policy
    → (s : ℕ) → s < states_of m → marked marks s ≡ true → reached (policy_step m policy) (marked targets) (slice_index ranks s) s ≡ true

-- a state that isn't marked has a choice that leads to no marked one
abbrev pub RestAvoids : Type 0
RestAvoids =
    (m : Mdp) (targets marks : List Bool) → IsMdp m → AreReached (must_step m) (marked targets) (states_of m) marks
    → (s : ℕ) → s < states_of m → marked marks s ≡ false → some_choice (stays_in (λ t. not (marked marks t))) m s ≡ true

-- ---- sure_some

-- a policy that keeps a set and by which each state of the set can come to a goal
pub record IsSurePolicy (m : Mdp) (goals : List Bool) (policy : List ℕ) (set : ℕ → Bool) : Type 0 where
  pub stays : (s : ℕ) → s < states_of m → set s ≡ true → marked goals s ≡ false → stays_in set (row_at m s (slice_index policy s)) ≡ true
  pub reaches : (s : ℕ) → s < states_of m → set s ≡ true → (k : ℕ) × (reached (policy_step m policy) (marked goals) k s ≡ true)

-- the choices of the pass are such a policy of the marked states
abbrev pub ChoicesAreSure : Type 0
ChoicesAreSure =
    (m : Mdp) (goals marks : List Bool) (ranks policy : List ℕ) → IsMdp m → IsGreatestSure m goals marks
    → AreLeastRanks (inside_step m (marked marks)) (marked goals) (states_of m) marks ranks → AreLeast m goals marks (stays_and_falls m marks ranks) policy
    → IsSurePolicy m goals policy (marked marks)

-- they come to a goal with probability 1: for each k, in some number of steps with at least 1 - 1/k
abbrev pub ChoicesArrive : Type 0
ChoicesArrive =
    (m : Mdp) (goals marks : List Bool) (ranks policy : List ℕ) → IsMdp m → IsGreatestSure m goals marks
    → AreLeastRanks (inside_step m (marked marks)) (marked goals) (states_of m) marks ranks → AreLeast m goals marks (stays_and_falls m marks ranks) policy
    → (s k : ℕ) → s < states_of m → marked marks s ≡ true → 1 ≤ k → (n : ℕ) × (of_int (pos 1) ≤ℚ hit m goals 1 n (unfolded m policy n s) s +ℚ part k)

-- each set with such a policy is marked
abbrev pub SureAreMarked : Type 0
SureAreMarked =
    (m : Mdp) (goals marks : List Bool) (policy : List ℕ) (set : ℕ → Bool) → IsMdp m → IsGreatestSure m goals marks → IsPolicy m policy → IsSurePolicy m goals policy set
    → (s : ℕ) → s < states_of m → set s ≡ true → marked marks s ≡ true

-- ---- rounds_outside

-- state t is outside, with a smaller round than state s
abbrev pub earlier : List ℕ → ℕ → ℕ → Bool
earlier rounds s t = nat_lt 0 (slice_index rounds t) && nat_lt (slice_index rounds t) (slice_index rounds s)

-- on each choice of a state outside a successor is outside with a smaller round, or all successors are outside with the same round
abbrev pub RoundsFall : Type 0
RoundsFall =
    (m : Mdp) (goals : List Bool) (rounds : List ℕ) → IsMdp m → AreRounds m goals rounds → (s c : ℕ) → s < states_of m → 0 < slice_index rounds s → c < length (choices_at m s)
    → (can_enter (earlier rounds s) (row_at m s c) ≡ true) ⊎ (stays_in (λ t. slice_index rounds t == slice_index rounds s) (row_at m s c) ≡ true)

-- the states of round 0 are those of the greatest sure set
abbrev pub ZeroIsSure : Type 0
ZeroIsSure =
    (m : Mdp) (goals : List Bool) (rounds : List ℕ) (marks : List Bool) → IsMdp m → AreRounds m goals rounds → IsGreatestSure m goals marks
    → (s : ℕ) → s < states_of m → (slice_index rounds s == 0) ≡ marked marks s

-- under each policy with history and rational mixing a state outside misses the goals with some chance: there is a q so that each strategy
-- tree, whatever its depth, meets a goal with at most 1 - 1/q
abbrev pub TreesMiss : Type 0
TreesMiss =
    (m : Mdp) (goals : List Bool) (rounds : List ℕ) → IsMdp m → AreRounds m goals rounds → (s : ℕ) → s < states_of m → 0 < slice_index rounds s
    → (q : ℕ) × (1 ≤ q) × ((n u : ℕ) (t : Tree) → IsStrategy m u n t s → hit m goals u n t s +ℚ part q ≤ℚ of_int (pos 1))

-- ---- may_avoid

-- the policy of an avoiding set meets no goal from a state of the set, after whatever number of steps
abbrev pub PolicyAvoids : Type 0
PolicyAvoids =
    (m : Mdp) (goals marks : List Bool) (policy : List ℕ) → IsMdp m → IsGreatestAvoiding m goals marks → AreLeast m goals marks (keeps m marks) policy
    → (k s : ℕ) → s < states_of m → marked marks s ≡ true
    → reached (policy_step m policy) (marked goals) k s ≡ false

-- so its probability of coming to a goal is 0, within whatever number of steps
abbrev pub ChoicesMiss : Type 0
ChoicesMiss =
    (m : Mdp) (goals marks : List Bool) (policy : List ℕ) → IsMdp m → IsGreatestAvoiding m goals marks → AreLeast m goals marks (keeps m marks) policy
    → (n s : ℕ) → s < states_of m → marked marks s ≡ true
    → hit m goals 1 n (unfolded m policy n s) s ≡ of_int (pos 0)

-- from any other state each policy can come to a goal after some number of steps
abbrev pub RestMeets : Type 0
RestMeets =
    (m : Mdp) (goals marks : List Bool) (policy : List ℕ) → IsMdp m → IsGreatestAvoiding m goals marks → IsPolicy m policy → (s : ℕ) → s < states_of m → marked marks s ≡ false
    → (k : ℕ) × (reached (policy_step m policy) (marked goals) k s ≡ true)

-- ---- sure_all

-- whatever is chosen at a state that surely reaches a goal, the successors surely do
abbrev pub StaysSure : Type 0
StaysSure =
    (m : Mdp) (goals marks : List Bool) → IsMdp m → IsSureAll m goals marks → (s c : ℕ) → s < states_of m → marked marks s ≡ true → marked goals s ≡ false → c < length (choices_at m s)
    → stays_in (marked marks) (row_at m s c) ≡ true

-- under each policy with history and rational mixing such a state comes to a goal with probability 1: for each k, each strategy tree of some
-- depth or a greater one meets a goal with at least 1 - 1/k
abbrev pub TreesArrive : Type 0
TreesArrive =
    (m : Mdp) (goals marks : List Bool) (ranks : List ℕ) → IsMdp m → IsSureAll m goals marks → AreLeastRanks (must_step m) (marked goals) (states_of m) marks ranks
    → (s k : ℕ) → s < states_of m → marked marks s ≡ true → 1 ≤ k
    → (n : ℕ) × ((d u : ℕ) (t : Tree) → n ≤ d → IsStrategy m u d t s → of_int (pos 1) ≤ℚ hit m goals u d t s +ℚ part k)

-- the choices of `may_avoid` at the avoiding states, and at the others those of `may_reach` to these states with the goals blocked
abbrev pub joined : Mdp → List Bool → List ℕ → List ℕ → List ℕ
joined m avoiding keep go = map (λ s. cond (marked avoiding s) (slice_index keep s) (slice_index go s)) (range_with_len 0 (states_of m))

-- from a state outside `sure_all` this policy misses the goals with some chance: there is a q so that it meets one with at most 1 - 1/q within
-- whatever number of steps
abbrev pub JoinedMisses : Type 0
JoinedMisses =
    (m : Mdp) (goals sure avoiding marks : List Bool) (keep ranks go : List ℕ) → IsMdp m → IsSureAll m goals sure
    → IsGreatestAvoiding m goals avoiding → AreLeast m goals avoiding (keeps m avoiding) keep
    → AreReached (may_step m goals) (marked avoiding) (states_of m) marks → AreLeastRanks (may_step m goals) (marked avoiding) (states_of m) marks ranks
    → AreLeast m avoiding marks (falls m marks ranks) go
    → (s : ℕ) → s < states_of m → marked sure s ≡ false → (q : ℕ) × (1 ≤ q) × ((n : ℕ) → hit m goals 1 n (unfolded m (joined m avoiding keep go) n s) s +ℚ part q ≤ℚ of_int (pos 1))
