-- What a lower and an upper value for each state and a policy mean, over every policy with history and rational mixing, at every depth: the
-- greatest, or the least, value lies between the two, and the policy's own value does. Where the two are the same values, this is what
-- Bounds says of them.
use Rattle.std.specs.Prelude.{◌≡◌, ℕ, ◌<◌, ◌≤◌, ◌⊎◌, Bool, true, List, length, Option, Some, None, pos}
use Rattle.mdp_math.specs.Rational.{ℚ, of_int, ◌+ℚ◌, ◌*ℚ◌, ◌-ℚ◌, ◌≤ℚ◌}
use Rattle.mdp_spec.specs.{Mdp.{Mdp, states_of, value_at}, Tree.{Tree, IsStrategy, IsPolicy, unfolded, is_marked}, Hit.{hit}, Pay.{pay, total, Enters}}
use Rattle.mdp_spec.specs.Bounds.{part, whole, Above, PolicyConverges, TreesConverge, reward_at, greatest_finite, infinite, MaxInfinite, MinInfinite}

-- ---- reaching a goal

-- the greatest probability: no tree passes the upper values, and the policy comes close to the lower ones
pub record ReachMaxBetween (m : Mdp) (goals : List Bool) (lower upper : List ℚ) (policy : List ℕ) : Type 0 where
  pub takes : IsPolicy m policy
  pub above : Above m goals upper
  pub close : PolicyConverges m goals lower policy

-- the least probability: the policy doesn't pass the upper values, and each deep tree comes close to the lower ones
pub record ReachMinBetween (m : Mdp) (goals : List Bool) (lower upper : List ℚ) (policy : List ℕ) : Type 0 where
  pub takes : IsPolicy m policy
  pub below : (n s : ℕ) → s < states_of m → hit m goals 1 n (unfolded m policy n s) s ≤ℚ value_at upper s
  pub close : TreesConverge m goals lower

-- ---- the reward of name r until a goal. A value is a fraction, or nothing where it is infinite

-- values that may be infinite, in their order
abbrev pub AtMost : Option ℚ → Option ℚ → Type 0
AtMost x None = Unit {0}
AtMost None (Some y) = ⊥
AtMost (Some x) (Some y) = x ≤ℚ y

module _ (m : Mdp) (r : ℕ) (goals : List Bool) (policy : List ℕ) where
  -- the greatest reward at a state with the finite lower value x is finite: each deep tree arrives, and the policy comes close to x and stays so
  pub record MaxAtLeast (s : ℕ) (x : ℚ) : Type 0 where
    pub arrives : (k : ℕ) → 1 ≤ k → (n : ℕ) × ((d u : ℕ) (t : Tree) → n ≤ d → IsStrategy m u d t s → of_int (pos 1) ≤ℚ hit m goals u d t s +ℚ part k)
    pub close : (k : ℕ) → 1 ≤ k → (n : ℕ) × ((d : ℕ) → n ≤ d → x ≤ℚ pay m r goals 1 d (unfolded m policy d s) s +ℚ part k)

  abbrev pub MaxLower : ℕ → Option ℚ → Type 0
  MaxLower s (Some x) = MaxAtLeast s x
  MaxLower s None = MaxInfinite m r goals policy s

  -- no tree earns more than a finite upper value
  abbrev pub MaxUpper : ℕ → Option ℚ → Type 0
  MaxUpper s (Some y) = (n u : ℕ) (t : Tree) → IsStrategy m u n t s → pay m r goals u n t s ≤ℚ y
  MaxUpper s None = Unit {0}

  -- two values for each state, between which the greatest reward lies, of a reward name that the model has. The upper value is infinite
  -- where the lower one is
  pub record RewardMaxBetween (lower upper : List (Option ℚ)) : Type 0 where
    pub takes : IsPolicy m policy
    pub named : r < length m.names
    pub one_each : length lower ≡ states_of m
    pub one_above : length upper ≡ states_of m
    pub ordered : (s : ℕ) → s < states_of m → is_marked (infinite lower) s ≡ true → is_marked (infinite upper) s ≡ true
    pub at_least : (s : ℕ) → s < states_of m → MaxLower s (reward_at lower s)
    pub at_most : (s : ℕ) → s < states_of m → MaxUpper s (reward_at upper s)

  -- the least reward at a state with the finite lower value x: the policy arrives, and each tree that enters no state whose lower value is
  -- infinite falls short of x by at most the greatest finite lower value on the paths that haven't arrived
  pub record MinAtLeast (lower : List (Option ℚ)) (s : ℕ) (x : ℚ) : Type 0 where
    pub arrives : (k : ℕ) → 1 ≤ k → (n : ℕ) × (of_int (pos 1) ≤ℚ hit m goals 1 n (unfolded m policy n s) s +ℚ part k)
    pub covered : (n u : ℕ) (t : Tree) → IsStrategy m u n t s → Enters m goals (infinite lower) n t s ⊎ (x ≤ℚ pay m r goals u n t s +ℚ greatest_finite lower *ℚ (of_int (pos 1) -ℚ hit m goals u n t s))

  abbrev pub MinLower : List (Option ℚ) → ℕ → Option ℚ → Type 0
  MinLower lower s (Some x) = MinAtLeast lower s x
  MinLower lower s None = MinInfinite m r goals policy s

  -- the policy earns no more than a finite upper value
  abbrev pub MinUpper : ℕ → Option ℚ → Type 0
  MinUpper s (Some y) = (n : ℕ) → pay m r goals 1 n (unfolded m policy n s) s ≤ℚ y
  MinUpper s None = Unit {0}

  -- two values for each state, between which the least reward lies, of a reward name that the model has. The upper value is infinite
  -- where the lower one is
  pub record RewardMinBetween (lower upper : List (Option ℚ)) : Type 0 where
    pub takes : IsPolicy m policy
    pub named : r < length m.names
    pub one_each : length lower ≡ states_of m
    pub one_above : length upper ≡ states_of m
    pub ordered : (s : ℕ) → s < states_of m → is_marked (infinite lower) s ≡ true → is_marked (infinite upper) s ≡ true
    pub at_least : (s : ℕ) → s < states_of m → MinLower lower s (reward_at lower s)
    pub at_most : (s : ℕ) → s < states_of m → MinUpper s (reward_at upper s)

-- ---- mean payoff: up to the spread, trees don't beat n times the upper gain, and the policy doesn't miss n times the lower one

pub record MeanMaxBetween (m : Mdp) (r : ℕ) (lower upper : List ℚ) (spread : ℚ) (policy : List ℕ) : Type 0 where
  pub takes : IsPolicy m policy
  pub named : r < length m.names
  pub above : (n u : ℕ) (t : Tree) (s : ℕ) → s < states_of m → IsStrategy m u n t s → total m r u n t s ≤ℚ whole n *ℚ value_at upper s +ℚ spread
  pub reached : (n s : ℕ) → s < states_of m → whole n *ℚ value_at lower s ≤ℚ total m r 1 n (unfolded m policy n s) s +ℚ spread

-- the least: trees don't miss n times the lower gain, and the policy doesn't beat n times the upper one
pub record MeanMinBetween (m : Mdp) (r : ℕ) (lower upper : List ℚ) (spread : ℚ) (policy : List ℕ) : Type 0 where
  pub takes : IsPolicy m policy
  pub named : r < length m.names
  pub below : (n u : ℕ) (t : Tree) (s : ℕ) → s < states_of m → IsStrategy m u n t s → whole n *ℚ value_at lower s ≤ℚ total m r u n t s +ℚ spread
  pub reached : (n s : ℕ) → s < states_of m → total m r 1 n (unfolded m policy n s) s ≤ℚ whole n *ℚ value_at upper s +ℚ spread
