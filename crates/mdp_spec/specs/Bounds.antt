-- What the values and the policy of a certificate mean, over every policy with history and rational mixing, at every depth. Each sentence
-- has a name. `k` stands for any whole number of at least 1: what holds for 1/k holds for every fraction above 0.
use Rattle.std.specs.Prelude.{◌≡◌, ℕ, ◌<◌, ◌≤◌, ◌⊎◌, Bool, List, ◌∷◌, length, map, slice_index_or, Option, Some, None, pos, is_some, not, unwrap_or}
use Rattle.mdp_math.specs.{Rational.{ℚ, of_int, ratio, ◌+ℚ◌, ◌*ℚ◌, ◌-ℚ◌, ◌≤ℚ◌}, Extremes.{greatest}}
use Rattle.mdp_spec.specs.{Mdp.{Mdp, states_of, value_at}, Tree.{Tree, IsStrategy, IsPolicy, unfolded}, Hit.{hit}, Pay.{pay, total, Enters}, Sub.{sub_of}}

-- 1/k
abbrev pub part : ℕ → ℚ
part k = ratio (pos 1) k

-- n in ℚ
abbrev pub whole : ℕ → ℚ
whole n = of_int (pos n)

-- ---- reaching a goal

-- no tree passes the values
pub record Above (m : Mdp) (goals : List Bool) (z : List ℚ) : Type 0 where
  pub above : (n u : ℕ) (t : Tree) (s : ℕ) → s < states_of m → IsStrategy m u n t s → hit m goals u n t s ≤ℚ value_at z s

-- the policy's trees come as close to the values as one asks
abbrev pub PolicyConverges : Mdp → List Bool → List ℚ → List ℕ → Type 0
PolicyConverges m goals z policy = (s k : ℕ) → s < states_of m → 1 ≤ k → (n : ℕ) × (value_at z s ≤ℚ hit m goals 1 n (unfolded m policy n s) s +ℚ part k)

-- so does each tree that is deep enough
abbrev pub TreesConverge : Mdp → List Bool → List ℚ → Type 0
TreesConverge m goals z =
    (s k : ℕ)
    → s < states_of m
    → 1 ≤ k
    → (n : ℕ) × ((d u : ℕ) (t : Tree) → n ≤ d → IsStrategy m u d t s → value_at z s ≤ℚ hit m goals u d t s +ℚ part k)

-- the greatest probability: no tree passes the values, and the policy comes close to them
pub record ReachMax (m : Mdp) (goals : List Bool) (z : List ℚ) (policy : List ℕ) : Type 0 where
  pub takes : IsPolicy m policy
  pub above : Above m goals z
  pub close : PolicyConverges m goals z policy

-- the least probability: the policy doesn't pass the values, and each deep tree comes close to them
pub record ReachMin (m : Mdp) (goals : List Bool) (z : List ℚ) (policy : List ℕ) : Type 0 where
  pub takes : IsPolicy m policy
  pub below : (n s : ℕ) → s < states_of m → hit m goals 1 n (unfolded m policy n s) s ≤ℚ value_at z s
  pub close : TreesConverge m goals z

-- ---- the reward of name r until a goal. A value is a fraction, or nothing where it is infinite

abbrev pub reward_at : List (Option ℚ) → ℕ → Option ℚ
reward_at v s = slice_index_or v s (Some (of_int (pos 0)))

-- the values as numbers, an infinite one as 0
abbrev pub finite_part : List (Option ℚ) → List ℚ
finite_part v = map (λ x. unwrap_or x (of_int (pos 0))) v

-- the greatest finite value, 0 where there is none (no value of a list that meets a bound is below 0)
abbrev pub greatest_finite : List (Option ℚ) → ℚ
greatest_finite v = greatest (of_int (pos 0) ∷ finite_part v)

-- which states have an infinite value
abbrev pub infinite : List (Option ℚ) → List Bool
infinite v = map (λ x. not (is_some x)) v

module _ (m : Mdp) (r : ℕ) (goals : List Bool) (policy : List ℕ) where
  -- at a state with the finite value x: no tree earns more, each deep tree arrives, and the policy comes close and stays so
  pub record MaxFinite (s : ℕ) (x : ℚ) : Type 0 where
    pub above : (n u : ℕ) (t : Tree) → IsStrategy m u n t s → pay m r goals u n t s ≤ℚ x
    pub arrives : (k : ℕ) → 1 ≤ k → (n : ℕ) × ((d u : ℕ) (t : Tree) → n ≤ d → IsStrategy m u d t s → of_int (pos 1) ≤ℚ hit m goals u d t s +ℚ part k)
    pub close : (k : ℕ) → 1 ≤ k → (n : ℕ) × ((d : ℕ) → n ≤ d → x ≤ℚ pay m r goals 1 d (unfolded m policy d s) s +ℚ part k)

  -- at a state with an infinite value the policy misses the goals with some chance
  pub record MaxInfinite (s : ℕ) : Type 0 where
    pub misses : (q : ℕ) × (1 ≤ q) × ((n : ℕ) → hit m goals 1 n (unfolded m policy n s) s +ℚ part q ≤ℚ of_int (pos 1))

  abbrev pub MaxValue : ℕ → Option ℚ → Type 0
  MaxValue s (Some x) = MaxFinite s x
  MaxValue s None = MaxInfinite s

  -- the greatest rewards, one for each state, of a reward name that the model has
  pub record RewardMax (v : List (Option ℚ)) : Type 0 where
    pub takes : IsPolicy m policy
    pub named : r < length m.names
    pub one_each : length v ≡ states_of m
    pub value : (s : ℕ) → s < states_of m → MaxValue s (reward_at v s)

  -- at a state with the finite value x: the policy earns no more and arrives, and each tree that enters no state of infinite value falls short
  -- by at most the greatest finite value on the paths that haven't arrived
  pub record MinFinite (v : List (Option ℚ)) (s : ℕ) (x : ℚ) : Type 0 where
    pub below : (n : ℕ) → pay m r goals 1 n (unfolded m policy n s) s ≤ℚ x
    pub arrives : (k : ℕ) → 1 ≤ k → (n : ℕ) × (of_int (pos 1) ≤ℚ hit m goals 1 n (unfolded m policy n s) s +ℚ part k)
    pub covered : (n u : ℕ) (t : Tree) → IsStrategy m u n t s → Enters m goals (infinite v) n t s ⊎ (x ≤ℚ pay m r goals u n t s +ℚ greatest_finite v *ℚ (of_int (pos 1) -ℚ hit m goals u n t s))

  -- at a state with an infinite value every tree misses the goals with some chance
  pub record MinInfinite (s : ℕ) : Type 0 where
    pub misses : (q : ℕ) × (1 ≤ q) × ((n u : ℕ) (t : Tree) → IsStrategy m u n t s → hit m goals u n t s +ℚ part q ≤ℚ of_int (pos 1))

  abbrev pub MinValue : List (Option ℚ) → ℕ → Option ℚ → Type 0
  MinValue v s (Some x) = MinFinite v s x
  MinValue v s None = MinInfinite s

  -- the least rewards, one for each state, of a reward name that the model has. (A value past the last state would raise the greatest one.)
  pub record RewardMin (v : List (Option ℚ)) : Type 0 where
    pub takes : IsPolicy m policy
    pub named : r < length m.names
    pub one_each : length v ≡ states_of m
    pub value : (s : ℕ) → s < states_of m → MinValue v s (reward_at v s)

-- ---- mean payoff: trees don't beat, and the policy doesn't miss, n times the gain by more than the spread

pub record MeanMax (m : Mdp) (r : ℕ) (g : List ℚ) (spread : ℚ) (policy : List ℕ) : Type 0 where
  pub takes : IsPolicy m policy
  pub named : r < length m.names
  pub above : (n u : ℕ) (t : Tree) (s : ℕ) → s < states_of m → IsStrategy m u n t s → total m r u n t s ≤ℚ whole n *ℚ value_at g s +ℚ spread
  pub policy_above : (n s : ℕ) → s < states_of m → whole n *ℚ value_at g s ≤ℚ total m r 1 n (unfolded m policy n s) s +ℚ spread
  pub policy_below : (n s : ℕ) → s < states_of m → total m r 1 n (unfolded m policy n s) s ≤ℚ whole n *ℚ value_at g s +ℚ spread

pub record MeanMin (m : Mdp) (r : ℕ) (g : List ℚ) (spread : ℚ) (policy : List ℕ) : Type 0 where
  pub takes : IsPolicy m policy
  pub named : r < length m.names
  pub below : (n u : ℕ) (t : Tree) (s : ℕ) → s < states_of m → IsStrategy m u n t s → whole n *ℚ value_at g s ≤ℚ total m r u n t s +ℚ spread
  pub policy_above : (n s : ℕ) → s < states_of m → whole n *ℚ value_at g s ≤ℚ total m r 1 n (unfolded m policy n s) s +ℚ spread
  pub policy_below : (n s : ℕ) → s < states_of m → total m r 1 n (unfolded m policy n s) s ≤ℚ whole n *ℚ value_at g s +ℚ spread

-- ---- subsystems that reach the threshold from the start

-- some trees come close to the threshold
pub record SubMax (m : Mdp) (goals kept : List Bool) (start : ℕ) (threshold : ℚ) : Type 0 where
  pub starts : start < states_of m
  pub close : (k : ℕ) → 1 ≤ k → (n u : ℕ) × (t : Tree) × IsStrategy (sub_of m goals kept) u n t start × (threshold ≤ℚ hit (sub_of m goals kept) goals u n t start +ℚ part k)

-- the same at a depth of at most k times the sum of the flows, rounded up
pub record SubMaxWithin (m : Mdp) (goals kept : List Bool) (start : ℕ) (threshold flows : ℚ) : Type 0 where
  pub starts : start < states_of m
  pub close :
      (k : ℕ)
      → 1 ≤ k
      → (n u : ℕ) × (t : Tree) × IsStrategy (sub_of m goals kept) u n t start × (threshold ≤ℚ hit (sub_of m goals kept) goals u n t start +ℚ part k)
      × ((d : ℕ) → whole k *ℚ flows ≤ℚ whole d → n ≤ d)

-- each deep tree comes close to it
pub record SubMin (m : Mdp) (goals kept : List Bool) (start : ℕ) (threshold : ℚ) : Type 0 where
  pub starts : start < states_of m
  pub close : (k : ℕ) → 1 ≤ k → (n : ℕ) × ((d u : ℕ) (t : Tree) → n ≤ d → IsStrategy (sub_of m goals kept) u d t start → threshold ≤ℚ hit (sub_of m goals kept) goals u d t start +ℚ part k)
