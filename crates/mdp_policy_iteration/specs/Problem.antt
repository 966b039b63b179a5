-- A stochastic shortest path problem (Bertsekas and Tsitsiklis 1991), as policy iteration sees it.
--     Problem   whether the greatest or the least values are meant, and the nodes, numbered from 0
--     Node      its value is given, or it is a decision among choices, numbered from 0
--     Choice    whether a policy may take it, what it does in exact numbers, and how it is computed with
--     Move      it stops with a value, or earns an amount and goes on by a row
-- A policy is a list of one choice per node. What it has at a node whose value is given isn't looked at.
use Rattle.std.specs.Prelude.{◌≡◌, ℕ, ◌<◌, Bool, true, false, List, [], ◌∷◌, length, map, slice_index, slice_index_or, Option, Some, None, pos}
use Rattle.std.specs.List.{range_with_len}
use Rattle.mdp_math.specs.Rational.{ℚ, of_int, ◌+ℚ◌}
use Rattle.mdp_spec.specs.{Mdp.{Entry}, Row.{IsRow, row_sum}, Written.{written_sum}}
use Rattle.mdp_rows.specs.declared.dir.Dir.{Dir}

pub data Move : Type 0 where
  stop : ℚ → Move
  go : ℚ → List Entry → Move

pub record Choice : Type 0 where
  pub candidate : Bool
  pub move : Move
  -- whether the terms of its row are in width
  pub fits : Bool
  -- what it is worth under values, by written arithmetic; nothing where a term is past width
  pub written : List ℚ → Option ℚ

pub data Node : Type 0 where
  given : ℚ → Node
  decision : List Choice → Node

pub record Problem : Type 0 where
  pub dir : Dir
  pub nodes : List Node

-- what stands past the end of a list
abbrev pub no_choice : Choice
no_choice = record { candidate = false; move = stop (of_int (pos 0)); fits = true; written = λ x. None }

abbrev pub node_at : Problem → ℕ → Node
node_at p s = slice_index_or p.nodes s (given (of_int (pos 0)))

abbrev pub count : Problem → ℕ
count p = length p.nodes

-- ---- choices

abbrev pub choices_of : Node → List Choice
choices_of (given v) = []
choices_of (decision choices) = choices

abbrev pub choices_at : Problem → ℕ → List Choice
choices_at p s = choices_of (node_at p s)

abbrev pub choice_at : Problem → ℕ → ℕ → Choice
choice_at p s c = slice_index_or (choices_at p s) c no_choice

-- ---- moves

abbrev pub goes_on : Move → Bool
goes_on (stop v) = false
goes_on (go r row) = true

-- the value with which it stops, or what it earns
abbrev pub amount : Move → ℚ
amount (stop v) = v
amount (go r row) = r

-- its row; one that stops stays at its node
abbrev pub row_from : ℕ → Move → List Entry
row_from s (stop v) = record { target = s; prob = of_int (pos 1) } ∷ []
row_from s (go r row) = row

-- what it is worth under the values x
abbrev pub worth : List ℚ → Move → ℚ
worth x (stop v) = v
worth x (go r row) = r +ℚ row_sum row x

-- ---- choices that are computed with as they stand: from what is earned, entry by entry

abbrev pub written_worth : Move → List ℚ → Option ℚ
written_worth (stop v) x = Some v
written_worth (go r row) x = written_sum x r row

abbrev pub plain : Bool → Move → Choice
plain candidate move = record { candidate = candidate; move = move; fits = true; written = written_worth move }

-- ---- a policy

-- what choice c does; a node whose value is given stops with it
abbrev pub move_by : Node → ℕ → Move
move_by (given v) c = stop v
move_by (decision choices) c = (slice_index_or choices c no_choice).move

-- whether the terms of its row are in width
abbrev pub fits_by : Node → ℕ → Bool
fits_by (given v) c = true
fits_by (decision choices) c = (slice_index_or choices c no_choice).fits

abbrev pub taken : Problem → List ℕ → ℕ → Move
taken p policy s = move_by (node_at p s) (slice_index policy s)

-- the active nodes: those that go on
abbrev pub active_of : Problem → List ℕ → List Bool
active_of p policy = map (λ s. goes_on (taken p policy s)) (range_with_len 0 (count p))

abbrev pub rows_of : Problem → List ℕ → List (List Entry)
rows_of p policy = map (λ s. row_from s (taken p policy s)) (range_with_len 0 (count p))

-- ---- what is kept

-- a row is a distribution over n nodes
abbrev pub LeadsWithin : ℕ → Move → Type 0
LeadsWithin n (stop v) = Unit {0}
LeadsWithin n (go r row) = IsRow n row

-- rows are distributions over the nodes, and what a choice is worth by written arithmetic it is worth in exact numbers
pub record IsProblem (p : Problem) : Type 0 where
  pub rows : (s c : ℕ) → s < count p → c < length (choices_at p s) → LeadsWithin (count p) (choice_at p s c).move
  pub exact : (s c : ℕ) (x : List ℚ) (v : ℚ) → s < count p → c < length (choices_at p s) → (choice_at p s c).written x ≡ Some v → v ≡ worth x (choice_at p s c).move

-- a decision takes one of its candidates
abbrev pub IsCandidate : Node → ℕ → Type 0
IsCandidate (given v) c = Unit {0}
IsCandidate (decision choices) c = (c < length choices) × ((slice_index_or choices c no_choice).candidate ≡ true)

pub record IsPolicy (p : Problem) (policy : List ℕ) : Type 0 where
  pub one_each : length policy ≡ count p
  pub candidate : (s : ℕ) → s < count p → IsCandidate (node_at p s) (slice_index policy s)
