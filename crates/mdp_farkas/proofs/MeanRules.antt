-- The verdict on mean payoffs is yes exactly where the rules hold in exact numbers and no written term is past width.
use Rattle.std.proofs.Common.{◌≡◌, ℕ, ◌<◌, lt-ltb, ltb-true, List, [], ◌∷◌, ◌++◌, length, slice_index, true, Some, ◌↔◌, sym, ap, subst, ◌∙◌}
use Rattle.std.proofs.lemmas.List.Elements.{All-from_recursion, recursion_from_All}
use Rattle.std.specs.Option.{IsSome, option_and_then}
use Rattle.mdp_math.specs.Rational.{ℚ, ◌+ℚ◌}
use Rattle.mdp_math.proofs.{Laws.{zero-+ℚ}, Options.{Some_same}, Written.{written_add-some}}
use Rattle.mdp_spec.specs.{Mdp.{Mdp, states_of, choices_at, choice_at, row_at, value_at}, Row.{IsMdp, row_sum}, Unit.{reward_of}, Tree.{IsPolicy}}
use Rattle.mdp_spec.specs.{Bounds.{MeanMax, MeanMin}, Written.{written_sum}, RewardRules.{backup}, MeanRules.{spread_of, IsEvaluation, HasSpread}}
use Rattle.mdp_spec.proofs.{Mean.{mean_max_of_rules, mean_min_of_rules}, Summed.{written_sum-some}}
use Rattle.mdp_farkas.specs.{Verdict.{Check, verdict_of, InWidth, at_choices, IsYes, IfYes}, Compare.{0ℚ, is_equal}, Bellman.{sum_stands}}
use Rattle.mdp_farkas.specs.Spread.{written_spread}
use Rattle.mdp_farkas.specs.Mean.{gain_check, written_step, bound_stands, relative_check, keeps_gain, policy_gain_check, earns_gain, policy_bias_check, spread_check}
use Rattle.mdp_farkas.specs.Mean.{mean_checks_at, state_checks, mean_checks, MeetsMean, IsMean}
use Rattle.mdp_rows.specs.{declared.dir.Dir.{Dir}, declared.dir.Dir.TheVariants.{Max, Min}}
use Rattle.mdp_claims.specs.{declared.verdict.Fault.{Fault}, declared.verdict.Verdict.{Verdict}, declared.verdict.Verdict.TheVariants.{No}}
use Rattle.mdp_farkas.proofs.Holds.{Each, Holds, Sound, each_of_yes, yes_of_each, told_of_each, if_yes, holds_of_sound, never_no}
use Rattle.mdp_farkas.proofs.Holds.{each_append, each_left, each_right, each_flat, each_flat_at, each_map, each_map_at}
use Rattle.mdp_farkas.proofs.{Comparing.{same_of_equal, equal_of_same}, Asking.{asked_holds, asked_sound}}
use Rattle.mdp_farkas.proofs.{Inequalities.{Stands, stands_at_of, of_stands_at, sum_stands_of, of_sum_stands}, Spreading.{written_spread-some}}

-- ---- what each rule says of the numbers

-- a value that is held against a written sum
sum_equal : (x : ℚ) (z : List ℚ) (acc : ℚ) (m : Mdp) (s c : ℕ) → option_and_then (is_equal x) (written_sum z acc (row_at m s c)) ≡ Some true → x ≡ acc +ℚ row_sum (row_at m s c) z
sum_equal x z acc m s c h =
    same_of_equal x (acc +ℚ row_sum (row_at m s c) z)
    (asked_holds (is_equal x) (acc +ℚ row_sum (row_at m s c) z) (written_sum z acc (row_at m s c)) (λ v e. written_sum-some z acc (row_at m s c) v e) h)

equal_sum : (x : ℚ) (z : List ℚ) (acc : ℚ) (m : Mdp) (s c : ℕ) → x ≡ acc +ℚ row_sum (row_at m s c) z → IsSome (option_and_then (is_equal x) (written_sum z acc (row_at m s c)))
    → option_and_then (is_equal x) (written_sum z acc (row_at m s c)) ≡ Some true
equal_sum x z acc m s c same w =
    asked_sound (is_equal x) (acc +ℚ row_sum (row_at m s c) z) (written_sum z acc (row_at m s c)) (λ v e. written_sum-some z acc (row_at m s c) v e)
    (λ i. equal_of_same x (acc +ℚ row_sum (row_at m s c) z) same i) w

module _ (m : Mdp) (r : ℕ) (g : List ℚ) (s c : ℕ) where
  abbrev reward : ℚ
  reward = reward_of (choice_at m s c) r

  bound_of : (dir : Dir) (a : List ℚ) → bound_stands dir m r g a s c ≡ Some true → Stands dir (value_at g s +ℚ value_at a s) (backup m r s c a)
  bound_of dir a h =
      sum_stands_of dir (value_at g s +ℚ value_at a s) a reward (row_at m s c)
      (asked_holds (λ step. sum_stands dir step a reward (row_at m s c)) (value_at g s +ℚ value_at a s) (written_step g a s) (λ v e. written_add-some (value_at g s) (value_at a s) v e) h)

  pub of_bound : (dir : Dir) (a : List ℚ) → Stands dir (value_at g s +ℚ value_at a s) (backup m r s c a) → IsSome (bound_stands dir m r g a s c) → bound_stands dir m r g a s c ≡ Some true
  of_bound dir a le w =
      asked_sound (λ step. sum_stands dir step a reward (row_at m s c)) (value_at g s +ℚ value_at a s) (written_step g a s) (λ v e. written_add-some (value_at g s) (value_at a s) v e)
      (λ i. of_sum_stands dir (value_at g s +ℚ value_at a s) a reward (row_at m s c) le i) w

  keeps_of : keeps_gain m g s c ≡ Some true → row_sum (row_at m s c) g ≡ value_at g s
  keeps_of h = sym (sum_equal (value_at g s) g 0ℚ m s c h ∙ zero-+ℚ (row_sum (row_at m s c) g))

  pub of_keeps : row_sum (row_at m s c) g ≡ value_at g s → IsSome (keeps_gain m g s c) → keeps_gain m g s c ≡ Some true
  of_keeps e w = equal_sum (value_at g s) g 0ℚ m s c (sym (zero-+ℚ (row_sum (row_at m s c) g) ∙ e)) w

  earns_of : (b : List ℚ) → earns_gain m r g b s c ≡ Some true → backup m r s c b ≡ value_at g s +ℚ value_at b s
  earns_of b h =
      sym (sum_equal (value_at g s +ℚ value_at b s) b reward m s c
      (asked_holds (λ step. option_and_then (is_equal step) (written_sum b reward (row_at m s c))) (value_at g s +ℚ value_at b s) (written_step g b s)
      (λ v e. written_add-some (value_at g s) (value_at b s) v e) h))

  pub of_earns : (b : List ℚ) → backup m r s c b ≡ value_at g s +ℚ value_at b s → IsSome (earns_gain m r g b s c) → earns_gain m r g b s c ≡ Some true
  of_earns b e w =
      asked_sound (λ step. option_and_then (is_equal step) (written_sum b reward (row_at m s c))) (value_at g s +ℚ value_at b s) (written_step g b s)
      (λ v e. written_add-some (value_at g s) (value_at b s) v e) (λ i. equal_sum (value_at g s +ℚ value_at b s) b reward m s c (sym e) i) w

-- ---- the checks at a state, and that of the spread

module _ (dir : Dir) (m : Mdp) (r : ℕ) (g a b : List ℚ) (spread : ℚ) (policy : List ℕ) where
  module _ (P : Check → Type 0) (h : Each P (mean_checks dir m r g a b spread policy)) where
    spread_at : P (spread_check a b spread)
    spread_at = (each_right P (state_checks dir m r g a b policy) (spread_check a b spread ∷ []) h).0

    module _ (s : ℕ) (l : s < states_of m) where
      abbrev last_checks : List Check
      last_checks = policy_gain_check m g s (slice_index policy s) ∷ policy_bias_check m r g b s (slice_index policy s) ∷ []

      at : Each P (mean_checks_at dir m r g a b s (slice_index policy s))
      at =
          each_flat_at P (λ s. mean_checks_at dir m r g a b s (slice_index policy s)) (states_of m) s
          (each_left P (state_checks dir m r g a b policy) (spread_check a b spread ∷ []) h) l

      gain_at : (c : ℕ) → c < length (choices_at m s) → P (gain_check dir m g s c)
      gain_at c i =
          each_map_at P (gain_check dir m g s) (length (choices_at m s)) c
          (each_left P (at_choices m s (gain_check dir m g s)) (at_choices m s (relative_check dir m r g a s) ++ last_checks) at.1) i

      rest_at : Each P (at_choices m s (relative_check dir m r g a s) ++ last_checks)
      rest_at = each_right P (at_choices m s (gain_check dir m g s)) (at_choices m s (relative_check dir m r g a s) ++ last_checks) at.1

      bound_at : (c : ℕ) → c < length (choices_at m s) → P (relative_check dir m r g a s c)
      bound_at c i = each_map_at P (relative_check dir m r g a s) (length (choices_at m s)) c (each_left P (at_choices m s (relative_check dir m r g a s)) last_checks rest_at) i

      last_at : Each P last_checks
      last_at = each_right P (at_choices m s (relative_check dir m r g a s)) last_checks rest_at

  -- ---- what holds, in exact numbers

  module _ (h : Each Holds (mean_checks dir m r g a b spread policy)) where
    choices_hold : length policy ≡ states_of m → IsPolicy m policy
    choices_hold each = record { one_each = each; in_range = λ s l. ltb-true (slice_index policy s) (length (choices_at m s)) (Some_same _ _ (at Holds h s l).0) }

    gain_holds : (s c : ℕ) → s < states_of m → c < length (choices_at m s) → Stands dir (value_at g s) (row_sum (row_at m s c) g)
    gain_holds s c l i = stands_at_of m g dir s c (gain_at Holds h s l c i)

    bound_holds : (s c : ℕ) → s < states_of m → c < length (choices_at m s) → Stands dir (value_at g s +ℚ value_at a s) (backup m r s c a)
    bound_holds s c l i = bound_of m r g s c dir a (bound_at Holds h s l c i)

    evaluation_holds : IsEvaluation m r g b policy
    evaluation_holds = record {
      gain = λ s l. keeps_of m r g s (slice_index policy s) (last_at Holds h s l).0;
      bias = λ s l. earns_of m r g s (slice_index policy s) b (last_at Holds h s l).1.0;
    }

    spread_holds : length a ≡ states_of m → length b ≡ states_of m → HasSpread m a b spread
    spread_holds bounds biases = record {
      bounds = bounds;
      biases = biases;
      widest = same_of_equal spread (spread_of a b) (asked_holds (is_equal spread) (spread_of a b) (written_spread a b) (λ w e. written_spread-some a b w e) (spread_at Holds h));
    }

  -- ---- and the other way round: no check is false

  module _ (takes : IsPolicy m policy) (spreads : HasSpread m a b spread) (evaluation : IsEvaluation m r g b policy)
      (gains : (s c : ℕ) → s < states_of m → c < length (choices_at m s) → Stands dir (value_at g s) (row_sum (row_at m s c) g))
      (bounds : (s c : ℕ) → s < states_of m → c < length (choices_at m s) → Stands dir (value_at g s +ℚ value_at a s) (backup m r s c a)) where
    state_sound : (s : ℕ) → s < states_of m → Each Sound (mean_checks_at dir m r g a b s (slice_index policy s))
    state_sound s l = (
      λ w. ap Some (lt-ltb (slice_index policy s) (length (choices_at m s)) (takes.in_range s l)),
      each_append Sound (at_choices m s (gain_check dir m g s))
          (at_choices m s (relative_check dir m r g a s) ++ (policy_gain_check m g s (slice_index policy s) ∷ policy_bias_check m r g b s (slice_index policy s) ∷ []))
          (each_map Sound (gain_check dir m g s) (length (choices_at m s)) (λ c i w. of_stands_at m g dir s c (gains s c l i) w))
          (each_append Sound (at_choices m s (relative_check dir m r g a s)) (policy_gain_check m g s (slice_index policy s) ∷ policy_bias_check m r g b s (slice_index policy s) ∷ [])
          (each_map Sound (relative_check dir m r g a s) (length (choices_at m s)) (λ c i w. of_bound m r g s c dir a (bounds s c l i) w))
          (λ w. of_keeps m r g s (slice_index policy s) (evaluation.gain s l) w, (λ w. of_earns m r g s (slice_index policy s) b (evaluation.bias s l) w, tt))),
    )

    all_sound : Each Sound (mean_checks dir m r g a b spread policy)
    all_sound =
        each_append Sound (state_checks dir m r g a b policy) (spread_check a b spread ∷ [])
        (each_flat Sound (λ s. mean_checks_at dir m r g a b s (slice_index policy s)) (states_of m) state_sound)
        (λ w. asked_sound (is_equal spread) (spread_of a b) (written_spread a b) (λ x e. written_spread-some a b x e) (λ i. equal_of_same spread (spread_of a b) spreads.widest i) w, tt)

-- ---- each direction

module _ (m : Mdp) (r : ℕ) (g a b : List ℚ) (spread : ℚ) (policy : List ℕ) where
  meets_of_holds : (dir : Dir) → r < length m.names → length a ≡ states_of m → length b ≡ states_of m → length policy ≡ states_of m
      → Each Holds (mean_checks dir m r g a b spread policy) → MeetsMean dir m r g a b spread policy
  meets_of_holds Max named bounds biases each h = record {
    named = named;
    choices = choices_hold Max m r g a b spread policy h each;
    spreads = spread_holds Max m r g a b spread policy h bounds biases;
    gain_covers = gain_holds Max m r g a b spread policy h;
    bound_covers = bound_holds Max m r g a b spread policy h;
    evaluation = evaluation_holds Max m r g a b spread policy h;
  }
  meets_of_holds Min named bounds biases each h = record {
    named = named;
    choices = choices_hold Min m r g a b spread policy h each;
    spreads = spread_holds Min m r g a b spread policy h bounds biases;
    gain_covered = gain_holds Min m r g a b spread policy h;
    bound_covered = bound_holds Min m r g a b spread policy h;
    evaluation = evaluation_holds Min m r g a b spread policy h;
  }

  pub mean_sound : (dir : Dir) → MeetsMean dir m r g a b spread policy → Each Sound (mean_checks dir m r g a b spread policy)
  mean_sound Max rules = all_sound Max m r g a b spread policy rules.choices rules.spreads rules.evaluation rules.gain_covers rules.bound_covers
  mean_sound Min rules = all_sound Min m r g a b spread policy rules.choices rules.spreads rules.evaluation rules.gain_covered rules.bound_covered

  -- so what meets the rules is never answered no
  pub mean_never_no : (dir : Dir) → MeetsMean dir m r g a b spread policy → (f : Fault) → verdict_of (mean_checks dir m r g a b spread policy) ≡ No f → ⊥
  mean_never_no dir rules = never_no (mean_checks dir m r g a b spread policy) (mean_sound dir rules)

  module _ (dir : Dir) (verdict : Verdict) (named : r < length m.names) (bounds : length a ≡ states_of m) (biases : length b ≡ states_of m)
      (each : length policy ≡ states_of m) (e : verdict ≡ verdict_of (mean_checks dir m r g a b spread policy)) where
    is_of_yes : IsYes verdict → IsMean dir m r g a b spread policy
    is_of_yes yes_ =
        let h = each_of_yes (mean_checks dir m r g a b spread policy) (sym e ∙ yes_) in
        record {
          rules = meets_of_holds dir named bounds biases each h;
          in_width = All-from_recursion InWidth (mean_checks dir m r g a b spread policy) (told_of_each (mean_checks dir m r g a b spread policy) h);
        }

    pub mean_rules : IsYes verdict ↔ IsMean dir m r g a b spread policy
    mean_rules = (
      is_of_yes,
      λ is.
          e ∙ yes_of_each (mean_checks dir m r g a b spread policy)
          (holds_of_sound (mean_checks dir m r g a b spread policy) (mean_sound dir is.rules)
          (recursion_from_All InWidth (mean_checks dir m r g a b spread policy) is.in_width)),
    )

    pub mean_max : IsMdp m → dir ≡ Max → IfYes verdict (MeanMax m r g spread policy)
    mean_max known_ is =
        if_yes verdict (MeanMax m r g spread policy)
        (λ yes_. mean_max_of_rules m r g a b spread policy known_ (subst (λ (d : Dir). MeetsMean d m r g a b spread policy) is (IsMean.rules (is_of_yes yes_))))

    pub mean_min : IsMdp m → dir ≡ Min → IfYes verdict (MeanMin m r g spread policy)
    mean_min known_ is =
        if_yes verdict (MeanMin m r g spread policy)
        (λ yes_. mean_min_of_rules m r g a b spread policy known_ (subst (λ (d : Dir). MeetsMean d m r g a b spread policy) is (IsMean.rules (is_of_yes yes_))))
