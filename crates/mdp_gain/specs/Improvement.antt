-- The rounds of a query's path, and what each step of the path does to its policy, in exact numbers (Howard 1960; Puterman 1994, section 9.5).
use Rattle.std.specs.Prelude.{◌≡◌, ◌⊎◌, ℕ, zero, suc, Bool, List, Option, Ok}
use Rattle.mdp_math.specs.Rational.{ℚ}
use Rattle.mdp_spec.specs.Mdp.{Mdp, value_at}
use Rattle.mdp_rows.specs.{declared.dir.Dir.{Dir}, Better.{IsBetter}}
use Rattle.mdp_policy_iteration.specs.{Iteration.{Step, next}, Path.{Round}, Laws.{first}}
use Rattle.mdp_unichain.specs.{Component.{Component}, Improvement.{IsEvaluated, IsImproved, IsChanged, KeepsClasses, GoesToward}, Laws.{BiasRose}}
use Rattle.mdp_unichain.specs.{Part.{inner_component}, Path.{Makes, IsFirst}, Written.{Values, written_values, written_improved}}

-- so many steps of an iteration lead from a to b
abbrev pub LeadsTo : {A E R : Type 0} → (A → Step A E R → Type 0) → ℕ → A → A → Type 0
LeadsTo Makes zero a b = b ≡ a
LeadsTo {A} Makes (suc n) a b = (c : A) × Makes a (next c) × LeadsTo Makes n c b

-- a round of the query's path: steps of the path lead to it from the start
pub record IsRound (dir : Dir) (m : Mdp) (parts : List (Option ℕ)) (i r : ℕ) (a : Round) : Type 0 where
  pub start : List ℕ
  pub is_first : IsFirst (inner_component dir m parts i r) start
  pub steps : ℕ
  pub leads : LeadsTo (Makes (inner_component dir m parts i r)) steps (first start) a

-- a policy has one closed class, and this reference, gain and bias, and no others
pub record HasValues (p : Component) (policy : List ℕ) (t : ℕ) (gain : ℚ) (bias : ℕ → ℚ) : Type 0 where
  pub are : IsEvaluated p policy t gain bias
  pub only : (u : ℕ) (g : ℚ) (h : ℕ → ℚ) → IsEvaluated p policy u g h → (u ≡ t) × (g ≡ gain) × ((s : ℕ) → h s ≡ bias s)

-- a closed class of the improved policy holds a changed state. The next policy keeps its choices there and goes toward it, and has a better gain
pub record GainIsBetter (p : Component) (policy improved after : List ℕ) (gain g : ℚ) : Type 0 where
  pub class : ℕ → Bool
  pub toward : GoesToward p policy improved after class
  pub better : IsBetter p.dir g gain

-- no closed class of the improved policy holds a changed state. It is the next policy: its reference and its gain are the same, and its bias is worse
-- nowhere and better at each changed state
pub record BiasIsBetter (p : Component) (policy improved after : List ℕ) (t u : ℕ) (gain g : ℚ) (bias h : ℕ → ℚ) : Type 0 where
  pub keeps : KeepsClasses p policy improved
  pub is_next : after ≡ improved
  pub rose : BiasRose p policy improved t u gain g bias h

-- round b has a better policy than round a
pub record ImprovesTo (p : Component) (a b : Round) : Type 0 where
  -- what round a computes are the gain and the bias of its policy
  pub reference : ℕ
  pub values : Values
  pub evaluated : written_values p a.policy reference ≡ Ok values
  pub before : HasValues p a.policy reference values.gain (value_at values.bias)
  -- under them it takes a better choice at each state that has one, and there is such a state
  pub improved : List ℕ
  pub compared : written_improved p a.policy values ≡ Ok improved
  pub choices : IsImproved p a.policy values.gain (value_at values.bias) improved
  pub changed : (s : ℕ) × IsChanged p a.policy improved s
  -- the policy of round b has one closed class again, and a better gain, or the same gain and a better bias
  pub next_reference : ℕ
  pub next_gain : ℚ
  pub next_bias : ℕ → ℚ
  pub after : HasValues p b.policy next_reference next_gain next_bias
  pub better :
      GainIsBetter p a.policy improved b.policy values.gain next_gain
      ⊎ BiasIsBetter p a.policy improved b.policy reference next_reference values.gain next_gain (value_at values.bias) next_bias
