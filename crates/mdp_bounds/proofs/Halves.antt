-- One half of the rules of reachability: probabilities that are 1 at a goal, and elsewhere the rest.
use Rattle.std.proofs.Common.{◌≡◌, ℕ, ◌<◌, Bool, false, List, [], ◌∷◌, length, slice_index, Some, ap}
use Rattle.mdp_math.specs.Rational.{ℚ}
use Rattle.mdp_math.proofs.{Options.{Some_same}, Extremes.{le_of_test, test_of_le}}
use Rattle.mdp_num.specs.OrderView.{equal_decides}
use Rattle.mdp_spec.specs.{Mdp.{Mdp, states_of, choices_at, row_at, value_at}, Row.{IsMdp, row_sum}, Tree.{is_marked}, Rules.{AreProbabilities}}
use Rattle.mdp_farkas.specs.{Verdict.{Check, at_choices}, Compare.{0ℚ, 1ℚ}, Reach.{other}}
use Rattle.mdp_rows.specs.declared.dir.Dir.{Dir}
use Rattle.mdp_farkas.proofs.{Holds.{Each, Holds, Sound, each_map, each_map_at, each_if, each_if_true, each_if_false}, Inequalities.{Stands}}
use Rattle.mdp_bounds.specs.Reach.{goal_check, values_at, bound_check, policy_check, cover_at, follow_at}
use Rattle.mdp_bounds.proofs.Values.{AreWithin, stands_at_of, of_stands_at}

module _ (m : Mdp) (goals : List Bool) (z : List ℚ) where
  pub within_of : AreProbabilities m goals z → AreWithin (states_of m) z
  within_of p = λ s l. (AreProbabilities.at_least_zero p s l, AreProbabilities.at_most_one p s l)

module _ (m : Mdp) (goals : List Bool) (z : List ℚ) (rest : ℕ → List Check) where
  pub probabilities_of : ((s : ℕ) → s < states_of m → Each Holds (values_at goals z s (rest s))) → AreProbabilities m goals z
  probabilities_of h = record {
    at_least_zero = λ s l. le_of_test 0ℚ (value_at z s) (Some_same _ _ (h s l).0);
    at_most_one = λ s l. le_of_test (value_at z s) 1ℚ (Some_same _ _ (h s l).1.0);
    at_goal = λ s l g. (equal_decides (value_at z s) 1ℚ).0 (Some_same _ _ (each_if_true Holds (is_marked goals s) (goal_check z s ∷ []) (rest s) g (h s l).1.1).0);
  }

  pub rest_of : (P : Check → Type 0) (s : ℕ) → is_marked goals s ≡ false → Each P (values_at goals z s (rest s)) → Each P (rest s)
  rest_of P s g h = each_if_false P (is_marked goals s) (goal_check z s ∷ []) (rest s) g h.1.1

  pub values_hold : (s : ℕ) → s < states_of m → AreProbabilities m goals z → (is_marked goals s ≡ false → Each Holds (rest s)) → Each Holds (values_at goals z s (rest s))
  values_hold s l p h = (
    ap Some (test_of_le 0ℚ (value_at z s) (AreProbabilities.at_least_zero p s l)),
    (
      ap Some (test_of_le (value_at z s) 1ℚ (AreProbabilities.at_most_one p s l)),
      each_if Holds (is_marked goals s) (goal_check z s ∷ []) (rest s) (λ g. (ap Some ((equal_decides (value_at z s) 1ℚ).1 (AreProbabilities.at_goal p s l g)), tt)) h,
    ),
  )

  pub values_sound : (s : ℕ) → s < states_of m → AreProbabilities m goals z → (is_marked goals s ≡ false → Each Sound (rest s)) → Each Sound (values_at goals z s (rest s))
  values_sound s l p h = (
    λ w. ap Some (test_of_le 0ℚ (value_at z s) (AreProbabilities.at_least_zero p s l)),
    (
      λ w. ap Some (test_of_le (value_at z s) 1ℚ (AreProbabilities.at_most_one p s l)),
      each_if Sound (is_marked goals s) (goal_check z s ∷ []) (rest s) (λ g. (λ w. ap Some ((equal_decides (value_at z s) 1ℚ).1 (AreProbabilities.at_goal p s l g)), tt)) h,
    ),
  )

-- ---- the half on each choice

module _ (dir : Dir) (m : Mdp) (known : IsMdp m) (goals : List Bool) (z : List ℚ) where
  abbrev at_each : ℕ → List Check
  at_each s = at_choices m s (bound_check dir m z s)

  pub cover_probabilities : ((s : ℕ) → s < states_of m → Each Holds (cover_at dir m goals z s)) → AreProbabilities m goals z
  cover_probabilities h = probabilities_of m goals z at_each h

  pub cover_bounds : (s c : ℕ) → s < states_of m → is_marked goals s ≡ false → c < length (choices_at m s) → AreProbabilities m goals z → Each Holds (cover_at dir m goals z s)
      → Stands dir (value_at z s) (row_sum (row_at m s c) z)
  cover_bounds s c l g i p h =
      stands_at_of m known z dir s c l i (within_of m goals z p)
      (each_map_at Holds (bound_check dir m z s) (length (choices_at m s)) c (rest_of m goals z at_each Holds s g h) i)

  pub cover_sound : (s : ℕ) → s < states_of m → AreProbabilities m goals z
      → ((c : ℕ) → is_marked goals s ≡ false → c < length (choices_at m s) → Stands dir (value_at z s) (row_sum (row_at m s c) z)) → Each Sound (cover_at dir m goals z s)
  cover_sound s l p bounds =
      values_sound m goals z at_each s l p
      (λ g. each_map Sound (bound_check dir m z s) (length (choices_at m s)) (λ c i w. of_stands_at m known z dir s c l i (bounds c g i) w))

-- ---- the half on the policy's choice

module _ (dir : Dir) (m : Mdp) (known : IsMdp m) (goals : List Bool) (z : List ℚ) (policy : List ℕ) where
  abbrev at_policy : ℕ → List Check
  at_policy s = policy_check dir m z s (slice_index policy s) ∷ []

  pub follow_probabilities : ((s : ℕ) → s < states_of m → Each Holds (follow_at dir m goals z s (slice_index policy s))) → AreProbabilities m goals z
  follow_probabilities h = probabilities_of m goals z at_policy h

  pub follow_meets : (s : ℕ) → s < states_of m → slice_index policy s < length (choices_at m s) → is_marked goals s ≡ false → AreProbabilities m goals z
      → Each Holds (follow_at dir m goals z s (slice_index policy s)) → Stands (other dir) (value_at z s) (row_sum (row_at m s (slice_index policy s)) z)
  follow_meets s l i g p h = stands_at_of m known z (other dir) s (slice_index policy s) l i (within_of m goals z p) (rest_of m goals z at_policy Holds s g h).0

  pub follow_sound : (s : ℕ) → s < states_of m → slice_index policy s < length (choices_at m s) → AreProbabilities m goals z
      → (is_marked goals s ≡ false → Stands (other dir) (value_at z s) (row_sum (row_at m s (slice_index policy s)) z))
      → Each Sound (follow_at dir m goals z s (slice_index policy s))
  follow_sound s l i p meets = values_sound m goals z at_policy s l p (λ g. (λ w. of_stands_at m known z (other dir) s (slice_index policy s) l i (meets g) w, tt))
