-- The chain of a policy, and the values of one policy: what its own tree has at every depth. `k` and `q` stand for whole numbers of at least 1.
use Rattle.std.specs.Prelude.{◌≡◌, ℕ, ◌<◌, ◌≤◌, Bool, List, [], ◌∷◌, slice_index, Option, Some, None, pos}
use Rattle.mdp_math.specs.{Rational.{ℚ, of_int, ◌+ℚ◌, ◌*ℚ◌, ◌≤ℚ◌}, Power.{pow_ℚ}}
use Rattle.mdp_spec.specs.{Mdp.{Mdp, states_of, choices_at, choice_at, value_at}, Labels.{marks_of}, Tree.{Tree, IsStrategy, unfolded}, Hit.{hit}}
use Rattle.mdp_spec.specs.{Pay.{pay, total}, Bounds.{part, whole, reward_at}}
use Rattle.mdp_spec.specs.Until.{until}
use Rattle.mdp_horizon.specs.{Between.{Claimed}, Objective.{Objective, value_of}}
use Rattle.mdp_discount_rules.specs.{Disc.{disc}, Rules.{IsFactor}}

-- ---- the chain itself: it has the names, the labels and the states of the model, and a state has its labels and the policy's choice alone
pub record IsChainOf (m : Mdp) (policy : List ℕ) (chain : Mdp) : Type 0 where
  pub names : chain.names ≡ m.names
  pub labels : chain.labels ≡ m.labels
  pub states : states_of chain ≡ states_of m
  pub marks : (l : ℕ) → marks_of chain l ≡ marks_of m l
  pub choice : (s : ℕ) → s < states_of m → choices_at chain s ≡ choice_at m s (slice_index policy s) ∷ []

-- ---- its trees

-- what a tree of the chain has is what the policy's own tree has on the model, at the same depth and from the same state
abbrev pub IsOwn : Mdp → List ℕ → Mdp → (Mdp → ℕ → ℕ → Tree → ℕ → ℚ) → Type 0
IsOwn m policy chain value = (u n : ℕ) (t : Tree) (s : ℕ) → s < states_of m → IsStrategy chain u n t s → value chain u n t s ≡ value m 1 n (unfolded m policy n s) s

-- whatever the goals, the states that stay, the reward name and the factor
pub record AreOwn (m : Mdp) (policy : List ℕ) (chain : Mdp) : Type 0 where
  pub hits : (goals : List Bool) → IsOwn m policy chain (λ k u n t s. hit k goals u n t s)
  pub pays : (r : ℕ) (goals : List Bool) → IsOwn m policy chain (λ k u n t s. pay k r goals u n t s)
  pub totals : (r : ℕ) → IsOwn m policy chain (λ k u n t s. total k r u n t s)
  pub untils : (stay goals : List Bool) → IsOwn m policy chain (λ k u n t s. until k stay goals u n t s)
  pub discounts : (r : ℕ) (f : ℚ) → IsFactor f → IsOwn m policy chain (λ k u n t s. disc k r f u n t s)

-- ---- reaching a goal

-- the probability with which the policy reaches a goal lies between two values: it doesn't pass the upper one, and comes close to the lower one
pub record OwnReach (m : Mdp) (goals : List Bool) (policy : List ℕ) (lower upper : List ℚ) : Type 0 where
  pub below : (n s : ℕ) → s < states_of m → hit m goals 1 n (unfolded m policy n s) s ≤ℚ value_at upper s
  pub close : (s k : ℕ) → s < states_of m → 1 ≤ k → (n : ℕ) × (value_at lower s ≤ℚ hit m goals 1 n (unfolded m policy n s) s +ℚ part k)

-- ---- the reward of name r until a goal

-- at a state with a finite lower value the policy arrives with probability 1, and comes close to it and stays so
pub record OwnAtLeast (m : Mdp) (r : ℕ) (goals : List Bool) (policy : List ℕ) (s : ℕ) (x : ℚ) : Type 0 where
  pub arrives : (k : ℕ) → 1 ≤ k → (n : ℕ) × (of_int (pos 1) ≤ℚ hit m goals 1 n (unfolded m policy n s) s +ℚ part k)
  pub close : (k : ℕ) → 1 ≤ k → (n : ℕ) × ((d : ℕ) → n ≤ d → x ≤ℚ pay m r goals 1 d (unfolded m policy d s) s +ℚ part k)

-- at one with an infinite lower value it misses the goals with some chance
abbrev pub OwnInfinite : Mdp → List Bool → List ℕ → ℕ → Type 0
OwnInfinite m goals policy s = (q : ℕ) × (1 ≤ q) × ((n : ℕ) → hit m goals 1 n (unfolded m policy n s) s +ℚ part q ≤ℚ of_int (pos 1))

abbrev pub OwnLower : Mdp → ℕ → List Bool → List ℕ → ℕ → Option ℚ → Type 0
OwnLower m r goals policy s (Some x) = OwnAtLeast m r goals policy s x
OwnLower m r goals policy s None = OwnInfinite m goals policy s

-- it earns no more than a finite upper value
abbrev pub OwnUpper : Mdp → ℕ → List Bool → List ℕ → ℕ → Option ℚ → Type 0
OwnUpper m r goals policy s (Some y) = (n : ℕ) → pay m r goals 1 n (unfolded m policy n s) s ≤ℚ y
OwnUpper m r goals policy s None = Unit {0}

-- the reward that the policy earns lies between two values
abbrev pub OwnReward : Mdp → ℕ → List Bool → List ℕ → List (Option ℚ) → List (Option ℚ) → Type 0
OwnReward m r goals policy lower upper = (s : ℕ) → s < states_of m → OwnLower m r goals policy s (reward_at lower s) × OwnUpper m r goals policy s (reward_at upper s)

-- ---- the mean payoff: up to the spread, what the policy earns in n steps lies between n times two gains
pub record OwnMean (m : Mdp) (r : ℕ) (policy : List ℕ) (lower upper : List ℚ) (spread : ℚ) : Type 0 where
  pub above : (n s : ℕ) → s < states_of m → whole n *ℚ value_at lower s ≤ℚ total m r 1 n (unfolded m policy n s) s +ℚ spread
  pub below : (n s : ℕ) → s < states_of m → total m r 1 n (unfolded m policy n s) s ≤ℚ whole n *ℚ value_at upper s +ℚ spread

-- ---- the probability of coming to a goal within n steps, by way of states of `stay` alone
abbrev pub OwnBounded : Mdp → List Bool → List Bool → List ℕ → ℕ → List ℚ → Type 0
OwnBounded m stay goals policy n z = (s : ℕ) → s < states_of m → until m stay goals 1 n (unfolded m policy n s) s ≡ value_at z s

-- ---- the total reward within n steps
abbrev pub OwnTotal : Mdp → ℕ → List ℕ → ℕ → List ℚ → Type 0
OwnTotal m r policy n z = (s : ℕ) → s < states_of m → total m r 1 n (unfolded m policy n s) s ≡ value_at z s

-- ---- what the policy comes to within n steps lies between two values; a value that is missing claims nothing
abbrev pub OwnWithin : Mdp → Objective → List ℕ → ℕ → List (Option ℚ) → List (Option ℚ) → Type 0
OwnWithin m o policy n lower upper =
    (s : ℕ) → s < states_of m
    → Claimed (reward_at lower s) (λ x. x ≤ℚ value_of m o 1 n (unfolded m policy n s) s) × Claimed (reward_at upper s) (λ y. value_of m o 1 n (unfolded m policy n s) s ≤ℚ y)

-- ---- the discounted reward: what the policy earns in n steps differs from its value by at most what is left
pub record OwnDiscount (m : Mdp) (r : ℕ) (f : ℚ) (policy : List ℕ) (v : List ℚ) (remainder : ℚ) : Type 0 where
  pub above : (n s : ℕ) → s < states_of m → value_at v s ≤ℚ disc m r f 1 n (unfolded m policy n s) s +ℚ pow_ℚ f n *ℚ remainder
  pub below : (n s : ℕ) → s < states_of m → disc m r f 1 n (unfolded m policy n s) s ≤ℚ value_at v s +ℚ pow_ℚ f n *ℚ remainder

-- and lies between two values by as much; a value that is missing claims nothing
pub record OwnDiscountBetween (m : Mdp) (r : ℕ) (f : ℚ) (policy : List ℕ) (lower upper : List (Option ℚ)) (remainder : ℚ) : Type 0 where
  pub above : (n s : ℕ) → s < states_of m → Claimed (reward_at lower s) (λ x. x ≤ℚ disc m r f 1 n (unfolded m policy n s) s +ℚ pow_ℚ f n *ℚ remainder)
  pub below : (n s : ℕ) → s < states_of m → Claimed (reward_at upper s) (λ y. disc m r f 1 n (unfolded m policy n s) s ≤ℚ y +ℚ pow_ℚ f n *ℚ remainder)
