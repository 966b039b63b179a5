-- The path of policy iteration for the gain, in written arithmetic: its start, its rounds, and its end. Exactly one of each.
use Rattle.std.specs.Prelude.{◌≡◌, ◌≢◌, ◌⊎◌, ℕ, ◌+◌, ◌≤◌, true, List, slice_index, Result, Ok, Err}
use Rattle.std.proofs.Common.{eqb}
use Rattle.mdp_spec.specs.Mdp.{value_at}
use Rattle.mdp_unichain.specs.{Chain.{IsReference}, Component.{Component, is_state, IsInner, row_by, IsPolicy, IsComponent}}
use Rattle.mdp_unichain.specs.{Improvement.{IsEvaluated, NoneBetter}, Next.{AreRanksToward, IsNearest, IsExactNext}, Iteration.{EndsWith}}
use Rattle.mdp_unichain.specs.Written.{Values, written_values, written_improved}
use Rattle.mdp_policy_iteration.specs.{Iteration.{Step, next, done, refused}, Path.{Round, Refusal}, Laws.{first}, Places.{Place}}

-- the last policy, its reference, and its gain and biases
pub record Found : Type 0 where
  pub policy : List ℕ
  pub reference : ℕ
  pub values : Values

abbrev pub refused_at : Round → Place → Step Round Found Refusal
refused_at a place = refused (record { number = a.number; policy = a.policy; place = place })

-- it ends where no choice was taken, and else goes on with the next policy
abbrev pub AfterComparison : Component → Round → ℕ → Values → Result (List ℕ) Place → Step Round Found Refusal → Type 0
AfterComparison p a t v (Err place) step = step ≡ refused_at a place
AfterComparison p a t v (Ok improved) step =
    ((improved ≡ a.policy) × (step ≡ done (record { policy = a.policy; reference = t; values = v })))
    ⊎ ((improved ≢ a.policy) × ((after : List ℕ) × IsExactNext p a.policy improved after × (step ≡ next (record { number = a.number + 1; policy = after }))))

abbrev pub AfterEvaluation : Component → Round → ℕ → Result Values Place → Step Round Found Refusal → Type 0
AfterEvaluation p a t (Err place) step = step ≡ refused_at a place
AfterEvaluation p a t (Ok v) step = AfterComparison p a t v (written_improved p a.policy v) step

-- one round
abbrev pub Makes : Component → Round → Step Round Found Refusal → Type 0
Makes p a step = (t : ℕ) × IsReference (is_state p) (row_by p a.policy) t × AfterEvaluation p a t (written_values p a.policy t) step

-- a start: it has one closed class
pub record IsStart (p : Component) (start : List ℕ) : Type 0 where
  pub is : IsPolicy p start
  pub reference : (t : ℕ) × IsReference (is_state p) (row_by p start) t

-- the start of the path goes toward the least state, by the least choices; that state takes its least choice
pub record IsFirst (p : Component) (start : List ℕ) : Type 0 where
  pub least : ℕ
  pub is_least : (is_state p least ≡ true) × ((s : ℕ) → is_state p s ≡ true → least ≤ s)
  pub own : IsInner p least (slice_index start least) × ((c : ℕ) → IsInner p least c → slice_index start least ≤ c)
  pub rank : ℕ → ℕ
  pub ranks : AreRanksToward p (λ s. eqb s least) rank
  pub toward : (s : ℕ) → is_state p s ≡ true → s ≢ least → IsNearest p rank s (slice_index start s)
  pub is : IsPolicy p start

-- ---- laws

abbrev pub HasOneFirst : Type 0
HasOneFirst = (p : Component) (t : ℕ) → IsComponent p → is_state p t ≡ true → (start : List ℕ) × IsFirst p start × ((other : List ℕ) → IsFirst p other → other ≡ start)

abbrev pub FirstIsStart : Type 0
FirstIsStart = (p : Component) (start : List ℕ) → IsComponent p → IsFirst p start → IsStart p start

abbrev pub HasOneEnd : Type 0
HasOneEnd =
    (p : Component) (start : List ℕ) → IsComponent p → IsStart p start
    → (r : Result Found Refusal) × EndsWith (Makes p) (first start) r × ((q : Result Found Refusal) → EndsWith (Makes p) (first start) q → r ≡ q)

-- where no term is past width, its end has the best gain
pub record IsBestGain (p : Component) (found : Found) : Type 0 where
  pub evaluated : IsEvaluated p found.policy found.reference found.values.gain (value_at found.values.bias)
  pub none_better : NoneBetter p found.values.gain (value_at found.values.bias)

abbrev pub EndsAtBestGain : Type 0
EndsAtBestGain = (p : Component) (start : List ℕ) (found : Found) → IsComponent p → IsStart p start → EndsWith (Makes p) (first start) (Ok found) → IsBestGain p found
