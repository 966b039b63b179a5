-- What improves a node depends on its value, and on those that its choices read.
use Rattle.std.proofs.Common.{◌≡◌, ℕ, zero, suc, ◌<◌, ◌≤◌, true, false, if◌then◌else◌, List, length}
use Rattle.std.proofs.Common.{Option, Some, None, Result, Ok, Err, refl, sym, ◌∙◌, ap, true≢false, arith}
use Rattle.mdp_math.proofs.Booleans.{false_of_not}
use Rattle.mdp_math.specs.{Rational.{ℚ}, Result.{◌>>=◌}, Written.{◌>>=◌ as ◌then◌}}
use Rattle.mdp_spec.specs.Mdp.{value_at}
use Rattle.mdp_rows.specs.{Preds.{is_among}, declared.preds.Pred.{Pred}}
use Rattle.mdp_policy_iteration.specs.{Problem.{Problem, count, choices_at, choice_at}, Reads.{IsGiven, AgreeAt, Reads}}
use Rattle.mdp_policy_iteration.specs.{Dependents.{depends, AreWithDependents}, DependentsOf.{AreDependents}}
use Rattle.mdp_policy_iteration.specs.{Places.{Place, at_place}, Candidates.{Best, judged}, Path.{comparing, then_compared, best_of, improvement}}
use Rattle.mdp_policy_iteration.proofs.Among.{all-among}

module _ (p : Problem) (x y : List ℚ) (s : ℕ) (same : value_at x s ≡ value_at y s)
    (choices : (c : ℕ) → c < length (choices_at p s) → (choice_at p s c).written x ≡ (choice_at p s c).written y) where
  same_next : (c : ℕ) → c < length (choices_at p s) → (best : Best) → then_compared p x s c best ≡ then_compared p y s c best
  same_next c l best =
      ap (λ (o : Option ℚ). at_place (comparing s c) (if (choice_at p s c).candidate then (o then judged p.dir c best) else Some best)) (choices c l)

  same_best : (c : ℕ) → c ≤ length (choices_at p s) → best_of p x s c ≡ best_of p y s c
  same_best zero l = ap (λ (v : ℚ). let r : Result Best Place = Ok (record { value = v; choice = None }) in r) same
  same_best (suc c) l =
      ap (λ (r : Result Best Place). r >>= then_compared p x s c) (same_best c (omega arith)) ∙ after (best_of p y s c)
    where
      after : (r : Result Best Place) → (r >>= then_compared p x s c) ≡ (r >>= then_compared p y s c)
      after (Ok best) = same_next c (omega arith) best
      after (Err w) = refl

  pub unchanged : improvement p x s ≡ improvement p y s
  unchanged = ap (λ (r : Result Best Place). r >>= (λ best. Ok best.choice)) (same_best (length (choices_at p s)) (omega arith))

-- values that agree outside these nodes, none of which is given: elsewhere than at these and at the nodes with a choice that depends on one of them
module _ (p : Problem) (dependents : List (List Pred)) (are : AreDependents p dependents) (affected found : List ℕ)
    (not_given : (t : ℕ) → is_among t affected ≡ true → IsGiven p t → ⊥) (with_dependents : AreWithDependents dependents affected found)
    (x y : List ℚ) (agree : (t : ℕ) → is_among t affected ≡ false → value_at x t ≡ value_at y t) where
  -- a node that is among these only where s is found
  unless_found : (s t : ℕ) → is_among s found ≡ false → (is_among t affected ≡ true → is_among s found ≡ true) → is_among t affected ≡ false
  unless_found s t out h = false_of_not (is_among t affected) (λ e. true≢false (sym (h e) ∙ out))

  agree_read : (s c : ℕ) → is_among s found ≡ false → (nodes : List ℕ) → ((t : ℕ) → is_among t nodes ≡ true → depends dependents s c t ≡ true) → AgreeAt p nodes x y
  agree_read s c out nodes read = record {
    listed = λ t e. agree t (unless_found s t out (λ k. with_dependents.holds_dependents s c t k (read t e)));
    fixed = λ t given. agree t (false_of_not (is_among t affected) (λ k. not_given t k given));
  }

  pub unchanged-elsewhere : (s : ℕ) → s < count p → is_among s found ≡ false → improvement p x s ≡ improvement p y s
  unchanged-elsewhere s l out =
      unchanged p x y s (agree s (unless_found s s out (all-among (λ t. is_among t found ≡ true) s affected with_dependents.holds_nodes)))
      (λ c m. (let r = are.complete s c l m in Reads.worth r.1 x y (agree_read s c out r.0 r.2)))
