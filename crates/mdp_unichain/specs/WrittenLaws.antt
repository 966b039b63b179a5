-- What written arithmetic tells is exact.
use Rattle.std.specs.Prelude.{◌≡◌, ℕ, List, Ok}
use Rattle.mdp_spec.specs.Mdp.{value_at}
use Rattle.mdp_unichain.specs.{Chain.{AllLeadTo}, Component.{Component, is_state, row_by, reward_by, IsPolicy, IsComponent}, Evaluation.{IsEvaluation}}
use Rattle.mdp_unichain.specs.{Improvement.{IsImproved}, Written.{Values, written_values, written_improved}}

abbrev pub EvaluatesExactly : Type 0
EvaluatesExactly =
    (p : Component) (policy : List ℕ) (t : ℕ) (v : Values) → IsComponent p → IsPolicy p policy → AllLeadTo (is_state p) (row_by p policy) t → written_values p policy t ≡ Ok v
    → IsEvaluation (is_state p) (row_by p policy) (reward_by p policy) t v.gain (value_at v.bias)

abbrev pub ImprovesExactly : Type 0
ImprovesExactly =
    (p : Component) (policy improved : List ℕ) (v : Values) → IsPolicy p policy → written_improved p policy v ≡ Ok improved → IsImproved p policy v.gain (value_at v.bias) improved
