-- The types of the code, as contracts see them.
use Rattle.std.specs.{Prelude.{◌≡◌, ℕ, ◌<◌, ◌^◌, List, map, length, All, Option, Some, ℤ, unsigned_abs}, List.{range_with_len}}
use Rattle.mdp_spec.specs.Mdp.{Mdp, states_of}
use Rattle.mdp_horizon.specs.{Objective.{Objective}, Scaled.{Scaled}, Columns.{scaled_state}}
use Rattle.mdp_horizon.specs.{declared.choice.ScaledChoice.{ScaledChoice}, declared.choice.ShortChoice.{ShortChoice}, declared.choice.Choices.{Choices}}
use Rattle.mdp_horizon.specs.{declared.leader.ShortLeader.{ShortLeader}, declared.leader.Leader.{Leader}}
use Rattle.mdp_horizon.specs.{declared.choice.Term.{Term}, declared.choice.Terms.{Terms}, declared.column.Column.{Column}, Short.{wide_terms, known}}
use Rattle.mdp_horizon.specs.declared.choice.Terms.TheVariants as terms
use Rattle.mdp_horizon.specs.declared.column.Column.TheVariants as column
use Rattle.mdp_horizon.specs.declared.choice.Choices.TheVariants as choices

abbrev pub plain_terms : Terms → List Term
plain_terms (terms.Short ts) = wide_terms ts.terms.now
plain_terms (terms.Wide ts) = ts.now

abbrev pub values_of : Column → List (Option ℤ)
values_of (column.Short values) = known values.items
values_of (column.Wide values) = values.items

abbrev pub plain_choice : ScaledChoice → Scaled
plain_choice x = record { scale = x.scale; terms = plain_terms x.terms; low = x.rounded.now.low; high = x.rounded.now.high }

abbrev pub plain_short : ShortChoice → Scaled
plain_short x = record {
  scale = record { common = x.common; start = x.start };
  terms = wide_terms x.terms.terms.now;
  low = x.rounded.now.low;
  high = x.rounded.now.high;
}

abbrev pub plain_choices : Choices → List Scaled
plain_choices (choices.Short xs) = map plain_short xs.items
plain_choices (choices.Wide xs) = map plain_choice xs.items

abbrev pub plain_leader : ShortLeader → Leader
plain_leader x = record { value = Some x.value; choice = x.choice }

-- a choice can be summed over a column of n values: it has a target, each is below n, and its start is in width
pub record IsReady (n : ℕ) (x : Scaled) : Type 0 where
  pub some : 0 < length x.terms
  pub targets : All (λ t. t.target < n) x.terms
  pub narrow : unsigned_abs x.scale.start < 2 ^ 127

abbrev pub AreReady : ℕ → List Scaled → Type 0
AreReady n xs = All (IsReady n) xs

-- the choices of each state
abbrev pub AreOf : ℤ → Mdp → Objective → List Choices → Type 0
AreOf one m o rows = map plain_choices rows ≡ map (scaled_state one m o) (range_with_len 0 (states_of m))
