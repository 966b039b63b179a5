-- Strategy trees: what a policy with history and rational mixing does in its first n steps (Puterman 1994, section 2.1.5: a randomized
-- history-dependent policy, cut at a horizon).
use Rattle.std.specs.Prelude.{◌≡◌, ℕ, zero, suc, ◌*◌, ◌^◌, ◌<◌, ◌≤◌, Bool, false, ◌==◌, length, slice_index, slice_index_or, List, if◌then◌else◌, pos}
use Rattle.mdp_math.specs.{Sum.{EachAt}, Rational.{of_int}}
use Rattle.mdp_spec.specs.{Mdp.{Mdp, states_of, choices_at, row_at}, Unit.{count_at, unit_of}}

-- a whole weight for each choice, and a tree for each choice and each entry of its row
pub data Tree : Type 0 where
  leaf : Tree
  node : (ℕ → ℕ) → (ℕ → ℕ → Tree) → Tree

-- a tree of depth n and mixing total u fits state s: at each node the weights of the choices add to u
abbrev pub Fits : Mdp → ℕ → ℕ → Tree → ℕ → Type 0
Fits m u zero leaf s = Unit {0}
Fits m u zero (node weights kids) s = ⊥
Fits m u (suc n) leaf s = ⊥
Fits m u (suc n) (node weights kids) s =
    (count_at (choices_at m s) (λ c x. weights c) ≡ u)
    × EachAt (choices_at m s) (λ c x. EachAt x.row (λ e y. Fits m u n (kids c e) y.target))

-- a strategy tree of state s: a tree of depth n that fits s, whose shares have a common denominator u of at least 1
pub record IsStrategy (m : Mdp) (u n : ℕ) (t : Tree) (s : ℕ) : Type 0 where
  pub mixes : 1 ≤ u
  pub fits : Fits m u n t s

-- all paths of n steps, in parts
abbrev pub paths : Mdp → ℕ → ℕ → ℕ
paths m u n = (u * unit_of m) ^ n

-- where entry e of choice c at s leads
abbrev pub target_at : Mdp → ℕ → ℕ → ℕ → ℕ
target_at m s c e = (slice_index_or (row_at m s c) e (record { target = 0; prob = of_int (pos 0) })).target

-- a memoryless policy: for each state one of the choices that the state has
pub record IsPolicy (m : Mdp) (policy : List ℕ) : Type 0 where
  pub one_each : length policy ≡ states_of m
  pub in_range : (s : ℕ) → s < states_of m → slice_index policy s < length (choices_at m s)

-- the tree of depth n, of mixing total 1, that follows a memoryless policy
abbrev pub unfolded : Mdp → List ℕ → ℕ → ℕ → Tree
unfolded m policy zero s = leaf
unfolded m policy (suc n) s = node (λ c. if slice_index policy s == c then 1 else 0) (λ c e. unfolded m policy n (target_at m s c e))

-- whether state s is marked
abbrev pub is_marked : List Bool → ℕ → Bool
is_marked marks s = slice_index_or marks s false
