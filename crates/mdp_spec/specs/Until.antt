-- Until (Baier and Katoen 2008, section 10.1): the probability of coming to a goal within the depth of a tree, by way of states of `stay` alone;
-- and what values and a policy mean for it, over every policy with history and rational mixing, at every depth. `k` stands for any whole
-- number of at least 1.
use Rattle.std.specs.Prelude.{ℕ, zero, suc, ◌*◌, ◌<◌, ◌≤◌, Bool, List, pos, if◌then◌else◌}
use Rattle.mdp_math.specs.Rational.{ℚ, ratio, ◌+ℚ◌, ◌≤ℚ◌}
use Rattle.mdp_spec.specs.{Mdp.{Mdp, states_of, choices_at, value_at}, Unit.{count_at, weight_of}, Bounds.{part}}
use Rattle.mdp_spec.specs.{Tree.{Tree, IsStrategy, IsPolicy, paths, unfolded, is_marked}, Tree.Tree.{leaf, node}}

-- how many parts of all paths of n steps come to a goal so: all where s is a goal, none at any other state that is a leaf or doesn't stay,
-- else those of the choices
abbrev pub untils : Mdp → List Bool → List Bool → ℕ → ℕ → Tree → ℕ → ℕ
untils m stay goals u zero t s = if is_marked goals s then 1 else 0
untils m stay goals u (suc n) leaf s = if is_marked goals s then paths m u (suc n) else 0
untils m stay goals u (suc n) (node weights kids) s =
    if is_marked goals s then paths m u (suc n)
    else if is_marked stay s then count_at (choices_at m s) (λ c x. weights c * count_at x.row (λ e y. weight_of m y * untils m stay goals u n (kids c e) y.target))
    else 0

unfoldable pub until : Mdp → List Bool → List Bool → ℕ → ℕ → Tree → ℕ → ℚ
until m stay goals u n t s = ratio (pos (untils m stay goals u n t s)) (paths m u n)

-- ---- lower and upper values

-- the greatest probability: no tree passes the upper values, and the policy comes close to the lower ones
pub record UntilMaxBetween (m : Mdp) (stay goals : List Bool) (lower upper : List ℚ) (policy : List ℕ) : Type 0 where
  pub takes : IsPolicy m policy
  pub above : (n u : ℕ) (t : Tree) (s : ℕ) → s < states_of m → IsStrategy m u n t s → until m stay goals u n t s ≤ℚ value_at upper s
  pub close : (s k : ℕ) → s < states_of m → 1 ≤ k → (n : ℕ) × (value_at lower s ≤ℚ until m stay goals 1 n (unfolded m policy n s) s +ℚ part k)

-- the least probability: the policy doesn't pass the upper values, and each deep tree comes close to the lower ones
pub record UntilMinBetween (m : Mdp) (stay goals : List Bool) (lower upper : List ℚ) (policy : List ℕ) : Type 0 where
  pub takes : IsPolicy m policy
  pub below : (n s : ℕ) → s < states_of m → until m stay goals 1 n (unfolded m policy n s) s ≤ℚ value_at upper s
  pub close :
      (s k : ℕ)
      → s < states_of m
      → 1 ≤ k
      → (n : ℕ) × ((d u : ℕ) (t : Tree) → n ≤ d → IsStrategy m u d t s → value_at lower s ≤ℚ until m stay goals u d t s +ℚ part k)

-- ---- the values themselves: both at once

-- the greatest probability: no tree passes the values, and the policy comes close to them
abbrev pub UntilMax : Mdp → List Bool → List Bool → List ℚ → List ℕ → Type 0
UntilMax m stay goals z policy = UntilMaxBetween m stay goals z z policy

-- the least probability: the policy doesn't pass the values, and each deep tree comes close to them
abbrev pub UntilMin : Mdp → List Bool → List Bool → List ℚ → List ℕ → Type 0
UntilMin m stay goals z policy = UntilMinBetween m stay goals z z policy
