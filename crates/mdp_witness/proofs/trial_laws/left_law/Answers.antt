use Rattle.std.proofs.Common.{sym, ◌∙◌}
use Rattle.mdp_spec.specs.Sub.{sub_of}
use Rattle.mdp_rows.specs.declared.dir.Dir.TheVariants.{Min}
use Rattle.mdp_witness.specs.{Evaluation.{Visits, visited_value}, LeastEvaluation.{Evaluates, value_from}}
use Rattle.mdp_witness.proofs.{Left.{left_reaches, left_below}, OneLeft.{one_kept, one_wide, one_last}}
use Rattle.mdp_witness.proofs.trial_laws.left_law.Goals as goal

pub returns-clause-max_reaches : goal.returns-clause-max_reaches
returns-clause-max_reaches c = λ m goals policy start threshold first kept wide last left reaches.
    left_reaches visited_value threshold (Visits m goals policy start) first kept wide last left (λ set r q h k. h ∙ sym k) reaches

pub returns-clause-max_needed : goal.returns-clause-max_needed
returns-clause-max_needed c = λ m goals policy start threshold first kept wide last x left inside stays sure.
    left_below visited_value threshold (Visits m goals policy start) first kept wide last left (λ set r q h k. h ∙ sym k) x inside stays sure

pub returns-clause-min_reaches : goal.returns-clause-min_reaches
returns-clause-min_reaches c = λ m goals start threshold first kept wide last left reaches.
    left_reaches (value_from start) threshold (Evaluates m goals) first kept wide last left (λ set r q h k. c.query_law.ensures.one_end Min (sub_of m goals set) goals q r k h) reaches

pub returns-clause-min_needed : goal.returns-clause-min_needed
returns-clause-min_needed c = λ m goals start threshold first kept wide last x left inside stays sure.
    left_below (value_from start) threshold (Evaluates m goals) first kept wide last left (λ set r q h k. c.query_law.ensures.one_end Min (sub_of m goals set) goals q r k h) x inside stays sure

pub returns-clause-max_one : goal.returns-clause-max_one
returns-clause-max_one c = λ m goals policy start threshold first kept wide last more far final a b. (
  one_kept visited_value threshold (Visits m goals policy start) (λ set r q h k. h ∙ sym k) first kept wide last more far final a b,
  one_wide visited_value threshold (Visits m goals policy start) (λ set r q h k. h ∙ sym k) first kept wide last more far final a b,
  one_last visited_value threshold (Visits m goals policy start) (λ set r q h k. h ∙ sym k) first kept wide last more far final a b,
)

pub returns-clause-min_one : goal.returns-clause-min_one
returns-clause-min_one c = λ m goals start threshold first kept wide last more far final a b. (
  one_kept (value_from start) threshold (Evaluates m goals) (λ set r q h k. c.query_law.ensures.one_end Min (sub_of m goals set) goals q r k h) first kept wide last more far final a b,
  one_wide (value_from start) threshold (Evaluates m goals) (λ set r q h k. c.query_law.ensures.one_end Min (sub_of m goals set) goals q r k h) first kept wide last more far final a b,
  one_last (value_from start) threshold (Evaluates m goals) (λ set r q h k. c.query_law.ensures.one_end Min (sub_of m goals set) goals q r k h) first kept wide last more far final a b,
)
