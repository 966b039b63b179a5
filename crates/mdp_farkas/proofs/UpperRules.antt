-- The verdict on an upper bound is yes exactly where the rules hold in exact numbers and no written term is past width.
use Rattle.std.proofs.Common.{◌≡◌, ℕ, ◌<◌, Bool, false, cond, List, [], ◌∷◌, ◌++◌, length, ◌↔◌, sym, ◌∙◌}
use Rattle.std.proofs.lemmas.List.Elements.{All-from_recursion, recursion_from_All}
use Rattle.mdp_math.specs.Rational.{ℚ}
use Rattle.mdp_spec.specs.{Mdp.{Mdp, states_of, choices_at, value_at}, Row.{IsMdp}, Tree.{is_marked}, Rules.{AreProbabilities, MeetsUpper}, Bounds.{Above}}
use Rattle.mdp_spec.proofs.Reach.{above_of_rules}
use Rattle.mdp_farkas.specs.{Verdict.{Check, verdict_of, InWidth, IsYes, IfYes}, Compare.{0ℚ, 1ℚ}, Bellman.{bound_check, bound_checks}}
use Rattle.mdp_farkas.specs.Upper.{probability_checks, goal_check, upper_at, upper_checks, IsUpper}
use Rattle.mdp_rows.specs.declared.dir.Dir.TheVariants.{Max}
use Rattle.mdp_claims.specs.{declared.verdict.Fault.{Fault}, declared.verdict.Verdict.{Verdict}, declared.verdict.Verdict.TheVariants.{No}}
use Rattle.mdp_farkas.proofs.Holds.{Each, Holds, Sound, each_of_yes, yes_of_each, told_of_each, if_yes, holds_of_sound, never_no}
use Rattle.mdp_farkas.proofs.Holds.{each_flat, each_flat_at, each_map, each_map_at, each_if, each_if_true, each_if_false}
use Rattle.mdp_farkas.proofs.Comparing.{le_of_at_least, at_least_of_le, le_of_at_most, at_most_of_le, same_of_equal, equal_of_same}
use Rattle.mdp_farkas.proofs.Inequalities.{stands_at_of, of_stands_at}

-- ---- probabilities that are 1 at a goal, and elsewhere the rest

abbrev pub values_at : List Bool → List ℚ → ℕ → List Check → List Check
values_at goals z s rest = probability_checks z s ++ cond (is_marked goals s) (goal_check z s ∷ []) rest

module _ (m : Mdp) (goals : List Bool) (z : List ℚ) (rest : ℕ → List Check) where
  pub probabilities_of : ((s : ℕ) → s < states_of m → Each Holds (values_at goals z s (rest s))) → AreProbabilities m goals z
  probabilities_of h = record {
    at_least_zero = λ s l. le_of_at_least (value_at z s) 0ℚ (h s l).0;
    at_most_one = λ s l. le_of_at_most (value_at z s) 1ℚ (h s l).1.0;
    at_goal = λ s l g. same_of_equal (value_at z s) 1ℚ (each_if_true Holds (is_marked goals s) (goal_check z s ∷ []) (rest s) g (h s l).1.1).0;
  }

  pub rest_of : (s : ℕ) → is_marked goals s ≡ false → Each Holds (values_at goals z s (rest s)) → Each Holds (rest s)
  rest_of s g h = each_if_false Holds (is_marked goals s) (goal_check z s ∷ []) (rest s) g h.1.1

  pub values_sound : (s : ℕ) → s < states_of m → AreProbabilities m goals z → (is_marked goals s ≡ false → Each Sound (rest s)) → Each Sound (values_at goals z s (rest s))
  values_sound s l p h = (
    λ w. at_least_of_le (value_at z s) 0ℚ (AreProbabilities.at_least_zero p s l) w,
    (
      λ w. at_most_of_le (value_at z s) 1ℚ (AreProbabilities.at_most_one p s l) w,
      each_if Sound (is_marked goals s) (goal_check z s ∷ []) (rest s) (λ g. (λ w. equal_of_same (value_at z s) 1ℚ (AreProbabilities.at_goal p s l g) w, tt)) h,
    ),
  )

-- ---- all checks

module _ (m : Mdp) (goals : List Bool) (z : List ℚ) where
  at : (s : ℕ) → Each Holds (upper_checks m goals z) → s < states_of m → Each Holds (upper_at m goals z s)
  at s h l = each_flat_at Holds (upper_at m goals z) (states_of m) s h l

  pub upper_of_holds : Each Holds (upper_checks m goals z) → MeetsUpper m goals z
  upper_of_holds h = record {
    probabilities = probabilities_of m goals z (bound_checks Max m z) (λ s l. at s h l);
    covers = λ s c l g i.
        stands_at_of m z Max s c
        (each_map_at Holds (bound_check Max m z s) (length (choices_at m s)) c (rest_of m goals z (bound_checks Max m z) s g (at s h l)) i);
  }

  upper_sound : MeetsUpper m goals z → Each Sound (upper_checks m goals z)
  upper_sound r =
      each_flat Sound (upper_at m goals z) (states_of m)
      (λ s l.
      values_sound m goals z (bound_checks Max m z) s l r.probabilities
      (λ g. each_map Sound (bound_check Max m z s) (length (choices_at m s)) (λ c i w. of_stands_at m z Max s c (r.covers s c l g i) w)))

  -- so what meets the rules is never answered no
  pub upper_never_no : MeetsUpper m goals z → (f : Fault) → verdict_of (upper_checks m goals z) ≡ No f → ⊥
  upper_never_no r = never_no (upper_checks m goals z) (upper_sound r)

  pub upper_rules : (v : Verdict) → v ≡ verdict_of (upper_checks m goals z) → IsYes v ↔ IsUpper m goals z
  upper_rules v e = (
    (λ yes_.
        let h = each_of_yes (upper_checks m goals z) (sym e ∙ yes_) in
        record { rules = upper_of_holds h; in_width = All-from_recursion InWidth (upper_checks m goals z) (told_of_each (upper_checks m goals z) h) }),
    (λ is.
        e ∙ yes_of_each (upper_checks m goals z)
        (holds_of_sound (upper_checks m goals z) (upper_sound is.rules) (recursion_from_All InWidth (upper_checks m goals z) is.in_width))),
  )

  pub upper_bound : (v : Verdict) → IsMdp m → v ≡ verdict_of (upper_checks m goals z) → IfYes v (Above m goals z)
  upper_bound v known e =
      if_yes v (Above m goals z) (λ yes_. let r = IsUpper.rules ((upper_rules v e).0 yes_) in above_of_rules m goals z known r.probabilities r.covers)
