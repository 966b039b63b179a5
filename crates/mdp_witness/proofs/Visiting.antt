-- The expected visits of a chain that leaves its active states are at least 0, and so are flows of the policy.
use Rattle.std.proofs.Common.{◌≡◌, ℕ, ◌<◌, Bool, true, false, eqb, List, [], length, get_or, refl, sym, ◌∙◌, ap, subst, arith, if◌then◌else◌}
use Rattle.std.proofs.lemmas.List.FromFn.{get_or-map-range_with_len, length-map-range_with_len}
use Rattle.std.specs.List.{range_with_len}
use Rattle.mdp_math.specs.{Rational.{ℚ, ◌+ℚ◌, ◌*ℚ◌, ◌≤ℚ◌}, Sum.{sum_of}}
use Rattle.mdp_math.proofs.{Order.{0ℚ, 1ℚ, ≤ℚ_of_lt, ≤ℚ_refl}, Whole.{one-pos}, Sums.{sum_of-same_all}, Solutions.{solution-nonneg}}
use Rattle.mdp_spec.specs.Mdp.{Entry, Mdp, states_of, row_at, value_at}
use Rattle.mdp_elim.specs.{Laws.{LeavingChain}, System.{row_of}, Visits.{one_at, unit_column, step, AreVisits}}
use Rattle.mdp_elim.proofs.{Expected.{unit_column-at}, Leaving.{active-below, chain_shrinks}, OneSolution.{has_one_solution}, RowsInto.{one_term}}
use Rattle.mdp_subsystem_rules.specs.{Flow.{prob_to}, Visits.{AreVisitsOn}}
use Rattle.mdp_subsystem_rules.proofs.Gather.{All-range}
use Rattle.mdp_reach.specs.Query.{policy_rows}
use Rattle.mdp_witness.proofs.Duality.{weighed}

module _ (rows : List (List Entry)) (active : List Bool) (ranks : List ℕ) (start : ℕ) (y : List ℚ) (chain : LeavingChain rows active ranks) (inside : start < length rows)
    (visits : AreVisits rows active start y) where
  one-nonneg : (t s : ℕ) (b : Bool) → 0ℚ ≤ℚ (if b then 1ℚ else 0ℚ)
  one-nonneg t s true = ≤ℚ_of_lt 0ℚ 1ℚ one-pos
  one-nonneg t s false = ≤ℚ_refl 0ℚ

  pub visits-nonneg : (t : ℕ) → t < length rows → 0ℚ ≤ℚ value_at y t
  visits-nonneg t l =
      let one = has_one_solution rows active ranks (unit_column (length rows) t) chain in
      let x = one.0 in
      let solves = one.1 in
      let nonneg = solution-nonneg (chain_shrinks rows active ranks chain.distributions chain.marks chain.leaves) (length rows) (active-below rows active chain.marks) (row_of rows)
      (λ s a. refl) (value_at (unit_column (length rows) t)) (value_at x)
      (λ s a. subst (λ (q : ℚ). 0ℚ ≤ℚ q) (sym (unit_column-at (length rows) t s (active-below rows active chain.marks s a))) (one-nonneg t s (eqb s t)))
      (record { outside = solves.outside; inside = solves.inside }) start in
      let sum : value_at x start ≡ value_at y t =
      sym (weighed rows active start (unit_column (length rows) t) x y chain.distributions inside visits solves)
      ∙ sum_of-same_all (λ s. value_at y s *ℚ value_at (unit_column (length rows) t) s) (λ s. value_at y s *ℚ one_at t s) (range_with_len 0 (length rows))
      (All-range (λ s. value_at y s *ℚ value_at (unit_column (length rows) t) s ≡ value_at y s *ℚ one_at t s) (length rows)
      (λ s i. ap (λ (u : ℚ). value_at y s *ℚ u) (unit_column-at (length rows) t s i)))
      ∙ one_term (value_at y) t (length rows) l in
      subst (λ (q : ℚ). 0ℚ ≤ℚ q) sum nonneg

-- the visits of a policy
pub visits_on_set : (m : Mdp) (policy : List ℕ) (set : List Bool) (ranks : List ℕ) (start : ℕ) (y : List ℚ) → LeavingChain (policy_rows m policy) set ranks → start < states_of m
    → AreVisits (policy_rows m policy) set start y → AreVisitsOn m set policy start y
visits_on_set m policy set ranks start y chain inside visits =
    let n : length (policy_rows m policy) ≡ states_of m = length-map-range_with_len (λ s. row_at m s (get_or policy s 0)) 0 (states_of m) in
    record {
      nonneg = λ s l. visits-nonneg (policy_rows m policy) set ranks start y chain (omega arith) visits s (omega arith);
      inside = λ s l a.
          visits.inside s a
          ∙ ap (λ (k : ℕ). one_at start s +ℚ sum_of (λ t. step (policy_rows m policy) t s *ℚ value_at y t) (range_with_len 0 k)) n
          ∙ ap (λ (u : ℚ). one_at start s +ℚ u)
          (sum_of-same_all (λ t. step (policy_rows m policy) t s *ℚ value_at y t) (λ t. prob_to (row_at m t (get_or policy t 0)) s *ℚ value_at y t) (range_with_len 0 (states_of m))
          (All-range (λ t. step (policy_rows m policy) t s *ℚ value_at y t ≡ prob_to (row_at m t (get_or policy t 0)) s *ℚ value_at y t) (states_of m)
          (λ t i. ap (λ (row : List Entry). prob_to row s *ℚ value_at y t) (get_or-map-range_with_len (λ s. row_at m s (get_or policy s 0)) 0 (states_of m) t t [] i (omega arith)))));
      outside = λ s l a. visits.outside s a;
    }
