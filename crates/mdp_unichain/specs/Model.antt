-- An end component of a model, for the reward of name r. Choices keep their numbers.
use Rattle.std.specs.{Prelude.{◌≡◌, ◌≢◌, ℕ, zero, suc, ◌<◌, Bool, true, length, map}, List.{All, Any, range_with_len}}
use Rattle.mdp_math.specs.{Rational.{ℚ, ◌+ℚ◌, ◌-ℚ◌, ◌*ℚ◌, ◌≤ℚ◌}, Sum.{EachAt}}
use Rattle.mdp_spec.specs.{Mdp.{Mdp, states_of, row_at}, Row.{IsMdp}, Unit.{count_at, reward_of}, Tree.{Tree}, Tree.Tree.{leaf, node}, Pay.{total}}
use Rattle.mdp_spec.specs.Bounds.{whole}
use Rattle.mdp_spec.specs.Mdp as mdp
use Rattle.mdp_rows.specs.{declared.dir.Dir.{Dir}, declared.dir.Dir.TheVariants.{Max, Min}}
use Rattle.mdp_unichain.specs.{Component.{Component, Choice, is_state, IsComponent}, Improvement.{NoneBetter}}

abbrev pub choice_of : Mdp → ℕ → (ℕ → ℕ → Bool) → ℕ → ℕ → Choice
choice_of m r inner s c = record { inner = inner s c; reward = reward_of (mdp.choice_at m s c) r; row = row_at m s c }

-- the component whose choices are those that pass the test
abbrev pub component_of : Dir → Mdp → ℕ → (ℕ → ℕ → Bool) → Component
component_of dir m r inner =
    record { dir = dir; states = map (λ s. map (choice_of m r inner s) (range_with_len 0 (length (mdp.choices_at m s)))) (range_with_len 0 (states_of m)) }

-- a tree of n steps of mixing total u takes, with a weight above 0, only choices that pass the test
abbrev pub Takes : Mdp → (ℕ → ℕ → Bool) → ℕ → ℕ → Tree → ℕ → Type 0
Takes m inner u zero t s = Unit {0}
Takes m inner u (suc n) leaf s = ⊥
Takes m inner u (suc n) (node weights kids) s =
    (count_at (mdp.choices_at m s) (λ c x. weights c) ≡ u)
    × EachAt (mdp.choices_at m s) (λ c x. 0 < weights c → (inner s c ≡ true) × EachAt x.row (λ e y. Takes m inner u n (kids c e) y.target))

-- all biases lie between these two
pub record LieBetween (n : ℕ) (bias : ℕ → ℚ) (low high : ℚ) : Type 0 where
  pub least : (s : ℕ) → s < n → low ≤ℚ bias s
  pub greatest : (s : ℕ) → s < n → bias s ≤ℚ high

-- the steps of a tree that uses choices of the component alone earn at most the gain, up to the spread of the biases
abbrev pub NoTreeEarnsMore : Type 0
NoTreeEarnsMore =
    (m : Mdp) (r : ℕ) (inner : ℕ → ℕ → Bool) (gain low high : ℚ) (bias : ℕ → ℚ) → IsMdp m → NoneBetter (component_of Max m r inner) gain bias → LieBetween (states_of m) bias low high
    → (n u : ℕ) (t : Tree) (s : ℕ) → 0 < u → s < states_of m → Takes m inner u n t s → total m r u n t s ≤ℚ whole n *ℚ gain +ℚ (high -ℚ low)

-- and for the least gain at least as much
abbrev pub NoTreeEarnsLess : Type 0
NoTreeEarnsLess =
    (m : Mdp) (r : ℕ) (inner : ℕ → ℕ → Bool) (gain low high : ℚ) (bias : ℕ → ℚ) → IsMdp m → NoneBetter (component_of Min m r inner) gain bias → LieBetween (states_of m) bias low high
    → (n u : ℕ) (t : Tree) (s : ℕ) → 0 < u → s < states_of m → Takes m inner u n t s → whole n *ℚ gain ≤ℚ total m r u n t s +ℚ (high -ℚ low)

-- ---- an end component

-- a choice of the model that passes the test
abbrev pub IsInside : Mdp → (ℕ → ℕ → Bool) → ℕ → ℕ → Type 0
IsInside m inner s c = (s < states_of m) × (c < length (mdp.choices_at m s)) × (inner s c ≡ true)

-- the members have inner choices, which lead to members alone, and from each member each other can be reached by them
pub record IsEndComponent (m : Mdp) (member : ℕ → Bool) (inner : ℕ → ℕ → Bool) : Type 0 where
  pub choice : (s : ℕ) → member s ≡ true → (c : ℕ) × IsInside m inner s c
  pub from : (s c : ℕ) → IsInside m inner s c → member s ≡ true
  pub stays : (s c : ℕ) → IsInside m inner s c → All (λ y. member y.target ≡ true) (row_at m s c)
  pub connected : (t : ℕ) → member t ≡ true → (rank : ℕ → ℕ) × ((s : ℕ) → member s ≡ true → s ≢ t → (c : ℕ) × IsInside m inner s c × Any (λ y. rank y.target < rank s) (row_at m s c))

-- it is a component, and its states are the members
abbrev pub EndComponentIs : Type 0
EndComponentIs =
    (dir : Dir) (m : Mdp) (r : ℕ) (member : ℕ → Bool) (inner : ℕ → ℕ → Bool) → IsMdp m → IsEndComponent m member inner
    → IsComponent (component_of dir m r inner) × ((s : ℕ) → is_state (component_of dir m r inner) s ≡ member s)
