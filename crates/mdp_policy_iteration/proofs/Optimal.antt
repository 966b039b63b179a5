-- A policy of which no candidate is better is as good as any that leaves its active nodes.
use Rattle.std.proofs.{Common.{◌≡◌, ℕ, ◌<◌, ◌≤◌, ◌⊎◌, inl, inr, false, List, length, refl, sym, ◌∙◌, ap, subst, arith}, Math.ListN.{get_or-eq_default}}
use Rattle.std.specs.Prelude.{slice_index, slice_index_or}
use Rattle.mdp_math.specs.Rational.{ℚ, ◌≤ℚ◌}
use Rattle.mdp_math.proofs.{Order.{0ℚ, ≤ℚ_trans, ≤ℚ_of_eq}, Numbers.{le_or}, Solutions.{le_of_rows}}
use Rattle.mdp_spec.specs.Mdp.{value_at}
use Rattle.mdp_elim.specs.System.{is_active, row_of}
use Rattle.mdp_policy_iteration.specs.Problem.{Problem, Node, given, decision, no_choice, count, node_at, choices_of, choices_at}
use Rattle.mdp_policy_iteration.specs.Problem.{choice_at, amount, move_by, taken, active_of, rows_of, IsProblem, IsCandidate, IsPolicy, worth}
use Rattle.mdp_policy_iteration.specs.{Values.{IsValue, CanLeave}, Laws.{IsBest, BestOfAll}}
use Rattle.mdp_policy_iteration.proofs.{Turned.{turn, turn_as_good, as_good_turned}, Chain.{active-at, active-below, stops_by, chain-shrinks, sum-at}}

module _ (p : Problem) (policy other : List ℕ) (x y : List ℚ) (known : IsProblem p) (best : IsBest p policy x) (is : IsPolicy p other) (leaves : CanLeave p other) (value : IsValue p other y) where
  abbrev good : ℕ → ℚ
  good s = turn p.dir (value_at x s)

  abbrev any : ℕ → ℚ
  any s = turn p.dir (value_at y s)

  -- what the other policy takes is worth no more
  worth_by : (s c : ℕ) (node : Node) → s < count p → node_at p s ≡ node → IsCandidate node c → turn p.dir (worth x (move_by node c)) ≤ℚ good s
  worth_by s c (given v) l e h = ≤ℚ_of_eq _ _ (ap (turn p.dir) (sym (best.values.at s l ∙ ap (λ (n : Node). worth x (move_by n (slice_index policy s))) e)))
  worth_by s c (decision choices) l e h =
      subst (λ (n : Node). turn p.dir (worth x (slice_index_or (choices_of n) c no_choice).move) ≤ℚ good s) e
      (turn_as_good p.dir (value_at x s) (worth x (choice_at p s c).move)
      (best.none_better s c l (let q : length (choices_at p s) ≡ length choices = ap (λ (n : Node). length (choices_of n)) e in omega (arith, h.0))
      (ap (λ (n : Node). (slice_index_or (choices_of n) c no_choice).candidate) e ∙ h.1)))

  worth_at : (s : ℕ) → s < count p → turn p.dir (worth x (taken p other s)) ≤ℚ good s
  worth_at s l = worth_by s (slice_index other s) (node_at p s) l refl (is.candidate s l)

  stopped : (s : ℕ) → (count p ≤ s) ⊎ (s < count p) → is_active (active_of p other) s ≡ false → any s ≤ℚ good s
  stopped s (inl l) a =
      let n = best.values.len in
      let m = value.len in
      let i : length x ≤ s = omega arith in
      let j : length y ≤ s = omega arith in
      ≤ℚ_of_eq _ _ (ap (turn p.dir) (get_or-eq_default y 0ℚ j ∙ sym (get_or-eq_default x 0ℚ i)))
  stopped s (inr l) a =
      let g = stops_by (taken p other s) (sym (active-at p other s l) ∙ a) in
      ≤ℚ_trans _ _ _ (≤ℚ_of_eq _ _ (ap (turn p.dir) (value.at s l ∙ ap (worth y) g.is ∙ sym (ap (worth x) g.is)))) (worth_at s l)

  as_good : (s : ℕ) → any s ≤ℚ good s
  as_good s =
      le_of_rows (chain-shrinks p other known is leaves) (count p) (active-below p other) (row_of (rows_of p other)) (λ s a. refl) (λ s. turn p.dir (amount (taken p other s))) good any
      (λ s a. stopped s (le_or (count p) s) a)
      (λ s a. ≤ℚ_trans _ _ _ (≤ℚ_of_eq _ _ (sym (sum-at p other x s a))) (worth_at s (active-below p other s a)))
      (λ s a. ≤ℚ_of_eq _ _ (ap (turn p.dir) (value.at s (active-below p other s a)) ∙ sum-at p other y s a))
      s

pub best_of_all : BestOfAll
best_of_all p policy other x y known best is leaves value s = as_good_turned p.dir (value_at x s) (value_at y s) (as_good p policy other x y known best is leaves value s)
