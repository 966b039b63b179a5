-- What policy iteration for the gain does, round by round, in exact numbers.
use Rattle.std.specs.Prelude.{◌≡◌, ℕ, ◌<◌, Bool, true, List, slice_index, pos}
use Rattle.mdp_math.specs.Rational.{ℚ, of_int, ◌+ℚ◌, ◌≤ℚ◌}
use Rattle.mdp_unichain.specs.{Chain.{AllLeadTo, IsReference}, Component.{Component, is_state, row_by, reward_by, IsPolicy, IsComponent}}
use Rattle.mdp_unichain.specs.Evaluation.{mean, IsEvaluation, IsGain}
use Rattle.mdp_unichain.specs.Improvement.{IsEvaluated, IsImproved, IsChanged, KeepsClasses, GoesToward, IsNext, NoneBetter}
use Rattle.mdp_rows.specs.Better.{IsBetter, IsAsGood}

-- a policy of which all states lead to t has one gain and one bias
abbrev pub HasOneEvaluation : Type 0
HasOneEvaluation =
    (p : Component) (policy : List ℕ) (t : ℕ) → IsComponent p → IsPolicy p policy → AllLeadTo (is_state p) (row_by p policy) t
    → (gain : ℚ) × (bias : ℕ → ℚ) × IsEvaluation (is_state p) (row_by p policy) (reward_by p policy) t gain bias
    × ((g : ℚ) (h : ℕ → ℚ) → IsEvaluation (is_state p) (row_by p policy) (reward_by p policy) t g h → (g ≡ gain) × ((s : ℕ) → h s ≡ bias s))

-- they solve their equations at each state, and nothing else does; a way from t back to t has at least one step
abbrev pub MeetsEquations : Type 0
MeetsEquations =
    (p : Component) (policy : List ℕ) (t : ℕ) (gain : ℚ) (bias : ℕ → ℚ) → IsComponent p → IsPolicy p policy → AllLeadTo (is_state p) (row_by p policy) t
    → (e : IsEvaluation (is_state p) (row_by p policy) (reward_by p policy) t gain bias)
    → IsGain (is_state p) (row_by p policy) (reward_by p policy) t gain bias
    × (of_int (pos 1) ≤ℚ of_int (pos 1) +ℚ mean (row_by p policy t) (IsEvaluation.y e))
    × ((g : ℚ) (h : ℕ → ℚ) → IsGain (is_state p) (row_by p policy) (reward_by p policy) t g h → (g ≡ gain) × ((s : ℕ) → h s ≡ bias s))

-- so a policy of which all states lead to one has a reference
abbrev pub HasReference : Type 0
HasReference = (p : Component) (policy : List ℕ) (t : ℕ) → IsComponent p → IsPolicy p policy → AllLeadTo (is_state p) (row_by p policy) t → (u : ℕ) × IsReference (is_state p) (row_by p policy) u

-- there is a next policy
abbrev pub HasNext : Type 0
HasNext = (p : Component) (policy improved : List ℕ) → IsComponent p → IsPolicy p improved → (after : List ℕ) × IsNext p policy improved after

-- it has one closed class again
abbrev pub NextIsEvaluated : Type 0
NextIsEvaluated =
    (p : Component) (policy improved after : List ℕ) (t : ℕ) (gain : ℚ) (bias : ℕ → ℚ) → IsComponent p → IsEvaluated p policy t gain bias → IsImproved p policy gain bias improved
    → IsNext p policy improved after
    → (u : ℕ) × (g : ℚ) × (h : ℕ → ℚ) × IsEvaluated p after u g h

-- where it goes toward a class that holds a changed state, its gain is better
abbrev pub GainRises : Type 0
GainRises =
    (p : Component) (policy improved after : List ℕ) (t u : ℕ) (gain g : ℚ) (bias h : ℕ → ℚ) (class : ℕ → Bool) → IsComponent p → IsEvaluated p policy t gain bias
    → IsImproved p policy gain bias improved
    → GoesToward p policy improved after class → IsEvaluated p after u g h → IsBetter p.dir g gain

-- else the gain and the reference stay, and the bias is worse nowhere and better at each changed state
pub record BiasRose (p : Component) (policy improved : List ℕ) (t u : ℕ) (gain g : ℚ) (bias h : ℕ → ℚ) : Type 0 where
  pub reference : u ≡ t
  pub gain_stays : g ≡ gain
  pub as_good : (s : ℕ) → IsAsGood p.dir (h s) (bias s)
  pub better : (s : ℕ) → IsChanged p policy improved s → IsBetter p.dir (h s) (bias s)

abbrev pub BiasRises : Type 0
BiasRises =
    (p : Component) (policy improved : List ℕ) (t u : ℕ) (gain g : ℚ) (bias h : ℕ → ℚ) → IsComponent p → IsEvaluated p policy t gain bias → IsImproved p policy gain bias improved
    → KeepsClasses p policy improved → IsEvaluated p improved u g h → BiasRose p policy improved t u gain g bias h

-- where no state is changed, no choice of the component is better
abbrev pub EndsAtNoneBetter : Type 0
EndsAtNoneBetter =
    (p : Component) (policy improved : List ℕ) (t : ℕ) (gain : ℚ) (bias : ℕ → ℚ) → IsComponent p → IsEvaluated p policy t gain bias → IsImproved p policy gain bias improved
    → ((s : ℕ) → is_state p s ≡ true → slice_index improved s ≡ slice_index policy s) → NoneBetter p gain bias

-- where no choice is better, the gain is the best of all policies with one closed class
abbrev pub BestOfAll : Type 0
BestOfAll =
    (p : Component) (gain : ℚ) (bias : ℕ → ℚ) → IsComponent p → NoneBetter p gain bias
    → (other : List ℕ) (u : ℕ) (g : ℚ) (h : ℕ → ℚ) → IsEvaluated p other u g h → IsAsGood p.dir gain g

-- no policy comes twice: a number falls from each policy, with its reference, to the next
abbrev pub NoneTwice : Type 0
NoneTwice =
    (p : Component) → IsComponent p
    → (left : ℕ → List ℕ → ℕ) × ((policy improved after : List ℕ) (t u : ℕ) (gain g : ℚ) (bias h : ℕ → ℚ) → IsEvaluated p policy t gain bias → IsImproved p policy gain bias improved
    → (s : ℕ) → IsChanged p policy improved s → IsNext p policy improved after → IsEvaluated p after u g h → left u after < left t policy)

-- so there is a policy with one closed class under which no choice is better
abbrev pub HasBest : Type 0
HasBest =
    (p : Component) (t : ℕ) → IsComponent p → is_state p t ≡ true → (policy : List ℕ) × (u : ℕ) × (gain : ℚ) × (bias : ℕ → ℚ) × IsEvaluated p policy u gain bias × NoneBetter p gain bias
