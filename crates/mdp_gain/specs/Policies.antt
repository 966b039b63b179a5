-- What contracts say of a policy, by the fields of what the code holds.
use Rattle.std.specs.Prelude.{ℕ, Bool, List, Option, Result}
use Rattle.mdp_math.specs.Rational.{ℚ}
use Rattle.mdp_policy_iteration.specs.Places.{Place}
use Rattle.mdp_unichain.specs.{Component.{Component}, Sums.{written_ratio}, Classes.{AreClasses, is_in_class, is_in_changed_class}}
use Rattle.mdp_unichain.specs.Written.{Values, bias_of, written_bias_list, written_biases}
use Rattle.mdp_gain.specs.{Code.{component_in}, Only.{policy_of, values_of}, declared.chosen.Chosen.{Chosen}, declared.only_state.Only.{Only}}
use Rattle.mdp_gain.specs.{declared.classes.Classes.{Classes}, declared.evaluation.Columns.{Columns}}

-- what is defined of a component and a policy
abbrev pub under : {A : Type 0} → Chosen → (Component → List ℕ → A) → A
under x of = of (component_in x.component) x.policy.now

-- the evaluation of a policy: its gain, its bias at a state to a gain, its biases to a gain, and the gain with the biases
abbrev pub ratio_in : Columns → Option ℚ
ratio_in x = under x.of.chosen written_ratio x.of.t x.earned.now x.steps.now

abbrev pub bias_in : Columns → ℚ → ℕ → Result ℚ Place
bias_in x gain = under x.of.chosen bias_of x.of.t gain x.earned.now x.steps.now

abbrev pub bias_list_in : Columns → ℚ → Result (List ℚ) Place
bias_list_in x gain = under x.of.chosen written_bias_list x.of.t gain x.earned.now x.steps.now

abbrev pub biases_in : Columns → Result Values Place
biases_in x = under x.of.chosen written_biases x.of.t x.earned.now x.steps.now

-- these are its classes; a state is in one, or in one with a changed state
abbrev pub AreClassesOf : Chosen → Classes → Type 0
AreClassesOf x classes = AreClasses (component_in x.component) x.policy.now classes.parts.items classes.left

abbrev pub in_class : Chosen → Classes → ℕ → Bool
in_class x classes = is_in_class (component_in x.component) classes.parts.items classes.left

abbrev pub in_changed_class : Chosen → Classes → List Bool → ℕ → Bool
in_changed_class x classes = is_in_changed_class (component_in x.component) classes.parts.items classes.left

-- the policy that takes choice c of the only state, and its values with this gain
abbrev pub policy_by : Only → ℕ → List ℕ
policy_by x = policy_of (component_in x.component) x.s

abbrev pub values_by : Only → ℚ → Values
values_by x = values_of (component_in x.component)
