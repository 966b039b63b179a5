-- What each model keeps beside what each model is: its names, the order of its labels, and the limits of its numbers.
use Rattle.std.specs.Prelude.{◌≡◌, ℕ, ◌+◌, ◌≤◌, ◌^◌, Bool, true, ◌&&◌, ◌==◌, IsTrue, nat_lt, List, [], ◌∷◌, length, sum_by, unsigned_abs, if◌then◌else◌}
use Rattle.std.specs.List.{All}
use Rattle.mdp_math.specs.Rational.{ℚ}
use Rattle.mdp_num.specs.Numeral.{limit}
use Rattle.mdp_spec.specs.{Mdp.{Choice, State, Mdp}, Row.{IsMdp}, Unit.{row_den}}
use Rattle.mdp_rows.specs.Name.{IsName, AreRewardNames, are_different}

-- the most states, choices, entries (those of value 0 that were given among them), label names, and labels of a state
abbrev pub max_states : ℕ
max_states = 2 ^ 20

abbrev pub max_choices : ℕ
max_choices = 2 ^ 22

abbrev pub max_entries : ℕ
max_entries = 2 ^ 24

abbrev pub max_labels : ℕ
max_labels = 1024

abbrev pub max_labels_of_state : ℕ
max_labels_of_state = 64

-- places that ascend strictly, all from this one on
abbrev pub places_ascend : ℕ → List ℕ → Bool
places_ascend low [] = true
places_ascend low (l ∷ places) = not_below low l && places_ascend (l + 1) places
  where
    not_below : ℕ → ℕ → Bool
    not_below low l = nat_lt low (l + 1)

-- how many labels are known after those of one state, ascending, where n were known before it: a new one has the next place
abbrev pub known_after : ℕ → List ℕ → ℕ
known_after n [] = n
known_after n (l ∷ places) = known_after (if l == n then n + 1 else n) places

-- the labels of a state are known after it
abbrev pub all_below : ℕ → List ℕ → Bool
all_below n [] = true
all_below n (l ∷ places) = nat_lt l n && all_below n places

-- where n labels were known before these states: each state's new labels have the next places, and all labels are known at the end
abbrev pub in_order_of_sight : ℕ → List State → ℕ → Bool
in_order_of_sight n [] total = n == total
in_order_of_sight n (x ∷ states) total = all_below (known_after n x.labels) x.labels && in_order_of_sight (known_after n x.labels) states total

-- the lowest terms of a reward, of either sign, have magnitude at most 10^36
pub record HasSmallTerms (x : ℚ) : Type 0 where
  pub num : unsigned_abs x.num ≤ limit
  pub den : x.den ≤ limit

-- a choice under so many reward names
pub record IsChoiceWithin (names : ℕ) (c : Choice) : Type 0 where
  pub den : row_den c.row ≤ limit
  pub rewards : length c.rewards ≡ names
  pub terms : All HasSmallTerms c.rewards

pub record IsStateWithin (names : ℕ) (x : State) : Type 0 where
  pub ascending : IsTrue (places_ascend 0 x.labels)
  pub few_labels : length x.labels ≤ max_labels_of_state
  pub choices : All (IsChoiceWithin names) x.choices

-- rewards have lowest terms of magnitude at most 10^36, and the common denominator of each row is at most 10^36
pub record IsModel (m : Mdp) : Type 0 where
  pub mdp : IsMdp m
  pub names : AreRewardNames m.names
  pub labels : All IsName m.labels
  pub different : IsTrue (are_different m.labels)
  pub few_labels : length m.labels ≤ max_labels
  pub sight : IsTrue (in_order_of_sight 0 m.states (length m.labels))
  pub states : All (IsStateWithin (length m.names)) m.states
  pub few_choices : sum_by (λ x. length x.choices) m.states ≤ max_choices
  pub few_entries : sum_by (λ x. sum_by (λ c. length c.row) x.choices) m.states ≤ max_entries
