-- The written sums of a flow: what leaves each state, what comes to each state that is no goal, and what comes to all goals together. They are
-- nothing where a term of one of their operations is past width.
use Rattle.std.specs.Prelude.{◌≡◌, ℕ, length, Bool, List, [], ◌∷◌, Option, Some, pos, replicate, slice_set, unwrap_or, if◌then◌else◌}
use Rattle.mdp_math.specs.{Rational.{ℚ, of_int}, Written.{written_add, written_mul, ◌>>=◌}}
use Rattle.mdp_spec.specs.{Mdp.{Entry, Mdp, value_at}, Tree.{is_marked}}
use Rattle.mdp_claims.specs.declared.subsystem.Flow.{Flow}
use Rattle.mdp_subsystem_rules.specs.Flow.{flow_row, goal_source}

pub record FlowSums : Type 0 where
  pub outflows : List ℚ
  pub inflows : List ℚ
  pub goal : ℚ

-- sums of n states
pub record AreSums (n : ℕ) (sums : FlowSums) : Type 0 where
  pub outflows : length sums.outflows ≡ n
  pub inflows : length sums.inflows ≡ n

-- before any flow: 1 comes to the start, and to the goals where the start is one
abbrev pub first_sums : ℕ → List Bool → ℕ → FlowSums
first_sums n goals start = record {
  outflows = replicate n (of_int (pos 0));
  inflows = slice_set (replicate n (of_int (pos 0))) start (of_int (pos 1));
  goal = goal_source goals start;
}

-- an amount that leaves state s
abbrev pub with_outflow : FlowSums → ℕ → ℚ → Option FlowSums
with_outflow sums s amount = do
  sum ← written_add (value_at sums.outflows s) amount
  Some (record sums { outflows = slice_set sums.outflows s sum })

-- a term that comes to the goals, and one that comes to state t
abbrev pub with_goal : FlowSums → ℚ → Option FlowSums
with_goal sums term = do
  sum ← written_add sums.goal term
  Some (record sums { goal = sum })

abbrev pub with_inflow : FlowSums → ℕ → ℚ → Option FlowSums
with_inflow sums t term = do
  sum ← written_add (value_at sums.inflows t) term
  Some (record sums { inflows = slice_set sums.inflows t sum })

-- an amount times the probability of an entry comes to the entry's target
abbrev pub with_entry : List Bool → ℚ → FlowSums → Entry → Option FlowSums
with_entry goals amount sums x = do
  term ← written_mul amount x.prob
  if is_marked goals x.target then with_goal sums term else with_inflow sums x.target term

-- the same of each entry of a row, in order
abbrev pub with_row : List Bool → ℚ → FlowSums → List Entry → Option FlowSums
with_row goals amount sums [] = Some sums
with_row goals amount sums (x ∷ row) = do
  sums ← with_entry goals amount sums x
  with_row goals amount sums row

-- one flow more: its amount leaves its state, and comes to the targets of its row
abbrev pub with_flow : Mdp → List Bool → FlowSums → Flow → Option FlowSums
with_flow m goals sums f = do
  sums ← with_outflow sums f.state f.amount
  with_row goals f.amount sums (flow_row m f)

-- the sums after one flow, and after each of a list; those before it where a term is past width
abbrev pub after_flow : Mdp → List Bool → FlowSums → Flow → FlowSums
after_flow m goals sums f = unwrap_or (with_flow m goals sums f) sums

abbrev pub after_flows : Mdp → List Bool → FlowSums → List Flow → FlowSums
after_flows m goals sums [] = sums
after_flows m goals sums (f ∷ flows) = after_flows m goals (after_flow m goals sums f) flows
