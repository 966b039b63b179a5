-- Flows that are made of expected visits: how often a policy that begins at the start leaves each kept state.
use Rattle.std.specs.{Prelude.{◌≡◌, ℕ, ◌<◌, Bool, true, false, List, map, slice_index, pos}, List.{filter, range_with_len}}
use Rattle.mdp_math.specs.{Rational.{ℚ, of_int, lt_ℚ, ◌+ℚ◌, ◌*ℚ◌, ◌≤ℚ◌}, Sum.{sum_of}}
use Rattle.mdp_spec.specs.{Mdp.{Mdp, states_of, row_at, value_at}, Tree.{is_marked}}
use Rattle.mdp_claims.specs.declared.subsystem.Flow.{Flow}
use Rattle.mdp_subsystem_rules.specs.Flow.{prob_to, source}

-- a kept state is visited once at the start, and after the visits of the states that lead to it; any other state isn't
pub record AreVisitsOn (m : Mdp) (kept : List Bool) (policy : List ℕ) (start : ℕ) (y : List ℚ) : Type 0 where
  pub nonneg : (s : ℕ) → s < states_of m → of_int (pos 0) ≤ℚ value_at y s
  pub inside :
      (s : ℕ)
      → s < states_of m
      → is_marked kept s ≡ true
      → value_at y s ≡ source start s +ℚ sum_of (λ t. prob_to (row_at m t (slice_index policy t)) s *ℚ value_at y t) (range_with_len 0 (states_of m))
  pub outside : (s : ℕ) → s < states_of m → is_marked kept s ≡ false → value_at y s ≡ of_int (pos 0)

-- the flow of a state by its policy's choice
abbrev pub visit_flow : List ℕ → List ℚ → ℕ → Flow
visit_flow policy y s = record { state = s; choice = slice_index policy s; amount = value_at y s }

-- the flows of n states; those of amount 0 are left out
abbrev pub visit_flows : ℕ → List ℕ → List ℚ → List Flow
visit_flows n policy y = filter (λ f. lt_ℚ (of_int (pos 0)) f.amount) (map (visit_flow policy y) (range_with_len 0 n))
