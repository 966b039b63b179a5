-- Written terms that are told.
use Rattle.std.proofs.{Common.{◌≡◌, ℕ, Bool, true, false, if◌then◌else◌, List, Option, Some, Result, Ok, Err, sym, ◌∙◌, ap, subst}, lemmas.Bool.{cond-false}}
use Rattle.std.specs.{Prelude.{slice_index}, Result.{result_ok}}
use Rattle.mdp_math.specs.Rational.{ℚ, ◌+ℚ◌, ◌≤ℚ◌}
use Rattle.mdp_math.proofs.{Order.{0ℚ, 1ℚ, clash_ℚ}, Whole.{one-pos}}
use Rattle.mdp_num.specs.declared.errors.Wide.{Wide}
use Rattle.mdp_wide.specs.declared.too_wide.Kind.TheVariants.{Evaluate}
use Rattle.mdp_spec.specs.{Mdp.{Entry, value_at}, Written.{written_sum}}
use Rattle.mdp_policy_iteration.specs.{Places.{at_place}, Path.{evaluating}, Faults.{placed_at, Answers}}
use Rattle.mdp_policy_iteration.proofs.Compares.{written_sum-is}
use Rattle.mdp_unichain.specs.{Component.{Component, is_state}, Evaluation.{active, mean}, Sums.{written_bias}, Written.{bias_of}}

-- a sum from 1 that is at least 1 isn't 0
pub not_zero : (z : List ℚ) (row : List Entry) (v : ℚ) → 1ℚ ≤ℚ 1ℚ +ℚ mean row (value_at z) → written_sum z 1ℚ row ≡ Some v → v ≡ 0ℚ → ⊥
not_zero z row v h e q = clash_ℚ 0ℚ 1ℚ one-pos (subst (λ (w : ℚ). 1ℚ ≤ℚ w) (sym (written_sum-is z 1ℚ v row e) ∙ q) h)

module _ (p : Component) (policy : List ℕ) (t : ℕ) (g : ℚ) (x y : List ℚ) (s : ℕ) where
  pub bias-zero : active (is_state p) t s ≡ false → bias_of p policy t g x y s ≡ Ok 0ℚ
  bias-zero e = cond-false (active (is_state p) t s) (at_place (evaluating policy s) (written_bias g (value_at x s) (value_at y s))) (Ok 0ℚ) e

  told_by : (b : Bool) → b ≡ true → (step : Result ℚ Wide) (o : Option ℚ) → result_ok step ≡ o
      → Answers (λ (v : ℚ). v) (placed_at Evaluate s (slice_index policy s) step) (if b then at_place (evaluating policy s) o else Ok 0ℚ)
  told_by false e step o h = cc
  told_by true e (Ok v) o h = ap (at_place (evaluating policy s)) (sym h)
  told_by true e (Err w) o h = ap (at_place (evaluating policy s)) (sym h)

  pub bias-told : active (is_state p) t s ≡ true → (step : Result ℚ Wide) → result_ok step ≡ written_bias g (value_at x s) (value_at y s)
      → Answers (λ (v : ℚ). v) (placed_at Evaluate s (slice_index policy s) step) (bias_of p policy t g x y s)
  bias-told e step h = told_by (active (is_state p) t s) e step (written_bias g (value_at x s) (value_at y s)) h
