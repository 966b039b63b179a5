-- What the trials leave has one entry for each state.
use Rattle.std.proofs.Common.{◌≡◌, ℕ, ◌<◌, ⊎_elim, Bool, true, false, true≢false, List, length, get_or, Result, Ok, refl, sym, ◌∙◌, ap, arith, pos, if◌then◌else◌}
use Rattle.std.proofs.{lemmas.Bool.{cases_lt, cases_Bool}, lemmas.List.{get_or_past, length-replicate}, lemmas.List.FromFn.{length-map-range_with_len}}
use Rattle.std.specs.Prelude.{replicate}
use Rattle.mdp_math.specs.Rational.{ℚ, of_int}
use Rattle.mdp_spec.specs.{Mdp.{Mdp, states_of, row_at}, Row.{IsMdp}, Rules.{MeetsReachMax}, Tree.{is_marked}}
use Rattle.mdp_rows.specs.declared.dir.Dir.TheVariants.{Max}
use Rattle.mdp_elim.specs.{System.{Leaves}, Visits.{written_visits}}
use Rattle.mdp_elim.proofs.OneSolution.{gives_visits}
use Rattle.mdp_reach.specs.Query.{policy_rows}
use Rattle.mdp_witness.specs.{First.{IsFirst}, Evaluation.{Visited, Visits, visited_value}, Trial.{AreLeft}}
use Rattle.mdp_witness.proofs.{FirstMax.{are_rows, first-leaves}, Steps.{leaves_subset}, Values.{visits_by_start}}

-- what is left is within the first set
pub kept_first : {E W : Type 0} (Evaluates : List Bool → Result E W → Type 0) (value : E → ℚ) (threshold : ℚ) (first kept wide : List Bool) (last : E)
    → AreLeft Evaluates value threshold first kept wide last → (s : ℕ) → is_marked kept s ≡ true → is_marked first s ≡ true
kept_first Evaluates value threshold first kept wide last left s k =
    ⊎_elim (λ l. ⊎_elim (λ e. e) (λ e. absurd (true≢false (sym k ∙ (left.outside s l e).0))) (cases_Bool (is_marked first s)))
    (λ past. absurd (true≢false (sym k ∙ get_or_past kept s false (let e = left.one_kept_each in omega (arith, past, e))))) (cases_lt s (length first))

module _ (m : Mdp) (goals : List Bool) (z : List ℚ) (policy ranks : List ℕ) (start : ℕ) (threshold : ℚ) (first kept wide : List Bool) (last : Visited) (known_ : IsMdp m)
    (rules : MeetsReachMax m goals z policy ranks) (is : IsFirst Max m goals z policy start first) (inside : start < states_of m)
    (left : AreLeft (Visits m goals policy start) visited_value threshold first kept wide last) where
  kept_each : length kept ≡ states_of m
  kept_each = left.one_kept_each ∙ is.one_each

  leaves : Leaves (policy_rows m policy) kept ranks
  leaves =
      leaves_subset (policy_rows m policy) first kept ranks (kept_first (Visits m goals policy start) visited_value threshold first kept wide last left)
      (first-leaves m goals z policy ranks start first known_ rules is)

  rows_each : length (policy_rows m policy) ≡ states_of m
  rows_each = length-map-range_with_len (λ s. row_at m s (get_or policy s 0)) 0 (states_of m)

  by_start : (b : Bool) → (if b then written_visits (policy_rows m policy) kept start else Ok (replicate (states_of m) (of_int (pos 0)))) ≡ Ok last.visits → length last.visits ≡ states_of m
  by_start true e =
      (gives_visits (policy_rows m policy) kept ranks start last.visits
      (record { distributions = are_rows m policy known_ rules.choices; marks = kept_each ∙ sym rows_each; leaves = leaves }) e).len ∙ rows_each
  by_start false e = let same : replicate (states_of m) (of_int (pos 0)) ≡ last.visits = cc in ap length (sym same) ∙ length-replicate (states_of m) (of_int (pos 0))

  pub visits_each : length last.visits ≡ states_of m
  visits_each =
      by_start (is_marked kept start)
      (visits_by_start m goals policy ranks start kept known_ rules.choices kept_each leaves inside last (sym left.evaluated) (is_marked kept start) refl)
