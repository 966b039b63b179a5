-- The closed classes of a policy's chain as parts of the states: strong components by the policy's choices, and which of them are left.
use Rattle.std.specs.{Prelude.{◌≡◌, ℕ, ◌<◌, Bool, true, false, ◌&&◌, ◌==◌, not, List, length, slice_index, Option, Some, None}, List.{list_any, range_with_len}}
use Rattle.mdp_graph.specs.Sets.{marked}
use Rattle.mdp_unichain.specs.{Chain.{IsClosedClass}, Component.{Component, count, is_state, row_by}, Improvement.{KeepsClasses}, Next.{IsPicked}}

-- choice c of state s is the policy's, at a state of the component
abbrev pub takes : Component → List ℕ → ℕ → ℕ → Bool
takes p policy s c = is_state p s && (c == slice_index policy s)

-- the policy leads from state s to another part
abbrev pub leaves : Component → List ℕ → List ℕ → ℕ → Bool
leaves p policy parts s = is_state p s && list_any (λ y. not (slice_index parts y.target == slice_index parts s)) (row_by p policy s)

-- two policies differ at state s
abbrev pub differs : List ℕ → List ℕ → ℕ → Bool
differs policy improved s = not (slice_index improved s == slice_index policy s)

-- a flagged state of the first n is in the part of number k
abbrev pub has_flag : List Bool → List ℕ → ℕ → ℕ → Bool
has_flag flags parts n k = list_any (λ s. marked flags s && (slice_index parts s == k)) (range_with_len 0 n)

-- state s of the component is in the part of state t
abbrev pub shares_part : Component → List ℕ → ℕ → ℕ → Bool
shares_part p parts t s = is_state p s && (slice_index parts s == slice_index parts t)

-- the closed classes are the parts that aren't left
pub record AreClasses (p : Component) (policy parts : List ℕ) (left : List Bool) : Type 0 where
  pub count_parts : length parts ≡ count p
  pub below : (s : ℕ) → s < count p → slice_index parts s < count p
  pub count_left : length left ≡ count p
  pub closed : (s : ℕ) → is_state p s ≡ true → marked left (slice_index parts s) ≡ false → IsClosedClass (is_state p) (row_by p policy) (shares_part p parts s)
  pub only : (class : ℕ → Bool) → IsClosedClass (is_state p) (row_by p policy) class → (s : ℕ) → class s ≡ true
      → (marked left (slice_index parts s) ≡ false) × ((t : ℕ) → shares_part p parts s t ≡ class t)

-- state s is in a closed class; it is in one with a state that the second list marks
abbrev pub is_in_class : Component → List ℕ → List Bool → ℕ → Bool
is_in_class p parts left s = is_state p s && not (marked left (slice_index parts s))

abbrev pub is_in_changed_class : Component → List ℕ → List Bool → List Bool → ℕ → Bool
is_in_changed_class p parts left changed s = is_in_class p parts left s && marked changed (slice_index parts s)

-- the class that is picked, or that none holds a changed state
abbrev pub Picks : Component → List ℕ → List ℕ → Option (List Bool) → Type 0
Picks p policy improved None = KeepsClasses p policy improved
Picks p policy improved (Some class) = (length class ≡ count p) × IsPicked p policy improved (marked class)
